-- What an accepted choice does, taken apart: the component at its position, that component's own move, and what it leaves there.
-- And two inductions: over the moves inside a transaction, and over the choices of a run.
-- Assumes nothing.
use Prim.Native.Nat.{ℕ, suc, ◌+◌, ◌≤◌}
use native.Mathlib.Omega.{arith}
use mathlib.Core.Path.{◌≡◌, refl, ap, ◌∙◌}
use mathlib.Core.Bool.{Bool, true, false}
use mathlib.Core.Option.{Option, none, some}
use mathlib.Core.List.{List, [], ◌∷◌, ◌++◌}
use lib.ListN.{length, get_elem?}
use lib.Dec.{leb}
use borrow.Author.Tests.{leb-true, le-leb}
use Rattle.calculus.specs.Syntax.{Name, rd, wt, Log, State}
use Rattle.calculus.specs.Reduction.{Rule, ARDOK, ARDF, AWR, AOI, AOF, AOE}
use Rattle.semantics.specs.Definitions.Basics.{replace_at}
use Rattle.semantics.specs.Definitions.Terms.{Expression, end_t, retry_t, rd_t, wt_t, or_else_t}
use Rattle.semantics.specs.Definitions.Shortage.{Shortage}
use Rattle.semantics.specs.Definitions.Logs.{readable}
use Rattle.semantics.specs.Definitions.Configuration.{Tree, leaf, fork, Component, Configuration}
use Rattle.semantics.specs.Definitions.Moves.{Entry, act, inside, ComponentAnswer, moves, blocked, acts, NodeAnswer, evolves, no_rule, out_of_range, at_leaf, at_fork, at_node, move_at, acts_inside, EntryAnswer, does, refuses, apply_at, at_position, entry_answer, Transition, moved, refused, transition_of, transition}
use Rattle.semantics.specs.Definitions.Run.{ScheduleItem, entry, malformed, entries, Counters, counted, RunAnswer, continue_run, run_from, Step, continue_steps, steps}
use Rattle.theorems.proofs.Walk.{in_left, in_right, node_induction}
use Rattle.theorems.proofs.ByteReads.{by_cases}

-- the position that an entry names
unfoldable pub position_of : Entry → ℕ
position_of (act p) = p
position_of (inside p k) = p

-- what an entry asks of the component there
unfoldable pub component_answer : State → Component → Entry → ComponentAnswer
unfolding acts acts_inside
component_answer σ c (act p) = acts σ c
component_answer σ c (inside p k) = acts_inside σ c k

-- an accepted choice, taken apart: the component at its position makes a move of its own, which gives the counts and what is
-- laid down in its place
pub record Accepted (h : Configuration) (e : Entry) (r : Rule) (g : Configuration) : Type 0 where
  pub component : Component
  pub found : get_elem? h.components (position_of e) ≡ some component
  pub laid : List Component
  pub lacks : Shortage
  pub local : component_answer h.counts component e ≡ moves r lacks g.counts laid
  pub placed : g.components ≡ replace_at (position_of e) laid h.components
  pub fits : length g.components ≤ 64

-- a choice as a local move at a position
pub choose_at : (h : Configuration) (e : Entry) →
    entry_answer h e ≡ at_position (get_elem? h.components (position_of e)) (λ c. apply_at (position_of e) (component_answer h.counts c e) h)
unfolding entry_answer position_of component_answer
choose_at h (act p) = refl
choose_at h (inside p k) = refl

-- where a component is there
pub chosen_at : (h : Configuration) (e : Entry) (c : Component) → get_elem? h.components (position_of e) ≡ some c →
    entry_answer h e ≡ apply_at (position_of e) (component_answer h.counts c e) h
unfolding at_position
chosen_at h e c f = choose_at h e ∙ rw f

-- a local move that is accepted at a position
settled_inverts : (p : ℕ) (l : ComponentAnswer) (h : Configuration) (r : Rule) (w : Shortage) (g : Configuration) → apply_at p l h ≡ does r w g →
    (cs : List Component) × (l ≡ moves r w g.counts cs) × (g.components ≡ replace_at p cs h.components) × (length g.components ≤ 64)
unfolding apply_at
settled_inverts p (blocked n) h r w g e = absurd (let z : ◌≡◌ {A = ℕ} 0 1 = cc in omega arith)
settled_inverts p (moves q v σ cs) h r w g e = go (leb (length (replace_at p cs h.components)) 64) refl
  where
    laid_down : Configuration
    laid_down = record { counts = σ; components = replace_at p cs h.components }

    left : q ≡ r → v ≡ w → laid_down ≡ g → length (replace_at p cs h.components) ≤ 64 →
        (ds : List Component) × (moves q v σ cs ≡ moves r w g.counts ds) × (g.components ≡ replace_at p ds h.components) × (length g.components ≤ 64)
    left same lacks is h = rw (same, lacks, ← is) (cs, refl, refl, h)

    go : (b : Bool) → leb (length (replace_at p cs h.components)) 64 ≡ b →
        (ds : List Component) × (moves q v σ cs ≡ moves r w g.counts ds) × (g.components ≡ replace_at p ds h.components) × (length g.components ≤ 64)
    go true t = let f : does q v laid_down ≡ does r w g = rw t at e in left (cc) (cc) (cc) (leb-true _ _ t)
    go false t = let f : refuses 19 ≡ does r w g = rw t at e in absurd (let z : ◌≡◌ {A = ℕ} 0 1 = cc in omega arith)

-- every choice that moves comes apart so, with what it tells short
pub entry_answer_inverts : (h : Configuration) (e : Entry) (r : Rule) (w : Shortage) (g : Configuration) → entry_answer h e ≡ does r w g →
    (a : Accepted h e r g) × (a.lacks ≡ w)
unfolding at_position
entry_answer_inverts h e r w g q = go (get_elem? h.components (position_of e)) refl
  where
    go : (o : Option Component) → get_elem? h.components (position_of e) ≡ o → (a : Accepted h e r g) × (a.lacks ≡ w)
    go none f = let z : refuses 14 ≡ does r w g = rw (choose_at h e, f) at q in absurd (let o : ◌≡◌ {A = ℕ} 0 1 = cc in omega arith)
    go (some c) f =
        let s : apply_at (position_of e) (component_answer h.counts c e) h ≡ does r w g = rw (choose_at h e, f) at q in
        let i = settled_inverts (position_of e) (component_answer h.counts c e) h r w g s in
        (record { component = c; found = f; laid = i.0; lacks = w; local = i.1; placed = i.2; fits = i.3 }, refl)

-- a transition that moves is an answer that does
pub transition_entry_answer : (h : Configuration) (e : Entry) (r : Rule) (g : Configuration) → transition h e ≡ moved r g →
    (w : Shortage) × (entry_answer h e ≡ does r w g)
unfolding transition transition_of
transition_entry_answer h e r g q = go (entry_answer h e) refl q
  where
    go : (x : EntryAnswer) → entry_answer h e ≡ x → transition_of x ≡ moved r g → (w : Shortage) × (entry_answer h e ≡ does r w g)
    go (does s w f) i q = let same : s ≡ r = cc in let is : f ≡ g = cc in (w, i ∙ rw (same, is))
    go (refuses n) i q = absurd (let z : ◌≡◌ {A = ℕ} 0 1 = cc in omega arith)

pub accepted_inverts : (h : Configuration) (e : Entry) (r : Rule) (g : Configuration) → transition h e ≡ moved r g → Accepted h e r g
accepted_inverts h e r g q = let (w, i) = transition_entry_answer h e r g q in (entry_answer_inverts h e r w g i).0

-- and where a component's own move leaves no more than 64 components, the choice is accepted
pub entry_answer_made : (h : Configuration) (e : Entry) (r : Rule) {w : Shortage} (σ : State) (c : Component) (cs : List Component) →
    get_elem? h.components (position_of e) ≡ some c → component_answer h.counts c e ≡ moves r w σ cs →
    length (replace_at (position_of e) cs h.components) ≤ 64 →
    entry_answer h e ≡ does r w (record { counts = σ; components = replace_at (position_of e) cs h.components })
unfolding apply_at
entry_answer_made h e r σ c cs f l k = chosen_at h e c f ∙ rw (l, le-leb _ 64 k)

pub accepted_made : (h : Configuration) (e : Entry) (r : Rule) {w : Shortage} (σ : State) (c : Component) (cs : List Component) →
    get_elem? h.components (position_of e) ≡ some c → component_answer h.counts c e ≡ moves r w σ cs →
    length (replace_at (position_of e) cs h.components) ≤ 64 →
    transition h e ≡ moved r (record { counts = σ; components = replace_at (position_of e) cs h.components })
unfolding transition transition_of
accepted_made h e r σ c cs f l k = ap transition_of (entry_answer_made h e r σ c cs f l k)

-- ---- a move inside a transaction

-- a property of the tree, the rule and the tree afterwards, of an answer that is a move
abbrev pub Moving : (Tree → Rule → Tree → Type 0) → Tree → NodeAnswer → Type 0
Moving Q t (evolves r w u) = Q t r u
Moving Q t no_rule = Unit {0}
Moving Q t out_of_range = Unit {0}

-- it holds of each of the six rules, and of a fork where it holds of the side that moves
pub record EachRule (s : State) (Q : Tree → Rule → Tree → Type 0) : Type 0 where
  pub ardok : (n : ℕ) (a : Name) (M : Expression) (δ : Log) → readable s (δ ++ (rd a ∷ [])) ≡ true → Q (leaf (rd_t n a M) δ) ARDOK (leaf M (δ ++ (rd a ∷ [])))
  pub ardf : (n : ℕ) (a : Name) (M : Expression) (δ : Log) → readable s (δ ++ (rd a ∷ [])) ≡ false → Q (leaf (rd_t n a M) δ) ARDF (leaf (retry_t 255) δ)
  pub awr : (n : ℕ) (a : Name) (M : Expression) (δ : Log) → Q (leaf (wt_t n a M) δ) AWR (leaf M (δ ++ (wt a ∷ [])))
  pub aoi : (n : ℕ) (M N : Expression) (δ : Log) → Q (leaf (or_else_t n M N) δ) AOI (fork (leaf M δ) (leaf N δ))
  pub aof : (n : ℕ) (δ : Log) (r : Tree) → Q (fork (leaf (retry_t n) δ) r) AOF r
  pub aoe : (n : ℕ) (δ : Log) (r : Tree) → Q (fork (leaf (end_t n) δ) r) AOE (leaf (end_t n) δ)
  pub aol : (l r u : Tree) (e : Rule) → Q l e u → Q (fork l r) e (fork u r)
  pub aor : (l r u : Tree) (e : Rule) → Q r e u → Q (fork l r) e (fork l u)

module _ {s : State} {Q : Tree → Rule → Tree → Type 0} (each : EachRule s Q) where
  -- at a leaf
  leaf_moving : (M : Expression) (δ : Log) → Moving Q (leaf M δ) (at_leaf s M δ)
  unfolding at_leaf
  leaf_moving (end_t n) δ = tt
  leaf_moving (retry_t n) δ = tt
  leaf_moving (rd_t n a M) δ = by_cases (Moving Q (leaf (rd_t n a M) δ)) (readable s (δ ++ (rd a ∷ []))) _ _ (each.ardok n a M δ) (each.ardf n a M δ)
  leaf_moving (wt_t n a M) δ = each.awr n a M δ
  leaf_moving (or_else_t n M N) δ = each.aoi n M N δ

  -- at a fork
  fork_moving : (l r : Tree) → Moving Q (fork l r) (at_fork l r)
  unfolding at_fork
  fork_moving (leaf (end_t n) δ) r = each.aoe n δ r
  fork_moving (leaf (retry_t n) δ) r = each.aof n δ r
  fork_moving (leaf (rd_t n a M) δ) r = tt
  fork_moving (leaf (wt_t n a M) δ) r = tt
  fork_moving (leaf (or_else_t n M N) δ) r = tt
  fork_moving (fork l m) r = tt

  -- in a fork's right side
  right_moving : (l r : Tree) (i : NodeAnswer) → Moving Q r i → Moving Q (fork l r) (in_right l i)
  unfolding in_right
  right_moving l r (evolves e w u) h = each.aor l r u e h
  right_moving l r no_rule h = tt
  right_moving l r out_of_range h = tt

  -- in its left side
  left_moving : (l r : Tree) (i : NodeAnswer) → Moving Q l i → Moving Q (fork l r) (in_left r i)
  unfolding in_left
  left_moving l r (evolves e w u) h = each.aol l r u e h
  left_moving l r no_rule h = tt
  left_moving l r out_of_range h = tt

  -- at a node
  node_moving : (t : Tree) → Moving Q t (at_node s t)
  unfolding at_node
  node_moving (leaf M δ) = leaf_moving M δ
  node_moving (fork l r) = fork_moving l r

  -- it holds of every move inside
  pub inner_induction : (t : Tree) (k : ℕ) → Moving Q t (move_at s t k)
  inner_induction =
      node_induction s (λ t k i. Moving Q t i) node_moving (λ l r k h. left_moving l r) (λ l r j. right_moving l r) (λ t k h. tt)

-- ---- a run

-- what holds of a run that stops at once, and of one more accepted choice before a run of which it holds, holds of every run: of
-- its first configuration and counters, the choices done before it, its steps and its answer
pub run_induction : (Q : Configuration → Counters → ℕ → List Step → RunAnswer → Type 0) →
    ((n p d : ℕ) (h : Configuration) (c : Counters) → Q h c d [] (record { number = n; place = p; done = d; configuration = h; counters = c })) →
    ((e : Entry) (r : Rule) (h g : Configuration) (c : Counters) (d : ℕ) (ss : List Step) (a : RunAnswer) → transition h e ≡ moved r g →
    Q g (counted r c) (suc d) ss a → Q h c d (record { chosen = e; rule = r; before = h; result = g } ∷ ss) a) →
    (items : List ScheduleItem) (h : Configuration) (c : Counters) (p d : ℕ) → Q h c d (steps h (entries items)) (run_from h c p d items)
unfolding run_from entries steps
run_induction Q stops goes [] h c p d = stops 0 p d h c
run_induction Q stops goes (malformed n ∷ items) h c p d = stops n p d h c
run_induction Q stops goes (entry e w ∷ items) h c p d = go (transition h e) refl (λ r g. run_induction Q stops goes items g (counted r c) (p + w) (suc d))
  where
    go : (x : Transition) → transition h e ≡ x →
        ((r : Rule) (g : Configuration) → Q g (counted r c) (suc d) (steps g (entries items)) (run_from g (counted r c) (p + w) (suc d) items)) →
        Q h c d
        (continue_steps x (λ r g. record { chosen = e; rule = r; before = h; result = g } ∷ steps g (entries items)))
        (continue_run x (λ n. record { number = n; place = p; done = d; configuration = h; counters = c }) (λ r g. run_from g (counted r c) (p + w) (suc d) items))
    go (moved r g) q rest = goes e r h g c d (steps g (entries items)) (run_from g (counted r c) (p + w) (suc d) items) q (rest r g)
    go (refused n) q rest = stops n p d h c
