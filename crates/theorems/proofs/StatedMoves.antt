-- The definition of a choice accepts exactly the moves as printed: the claims of specs/Checks/StatedMoves.
-- Assumes nothing.
use Prim.Native.Nat.{ℕ, zero, suc, ◌+◌, ◌-◌, ◌≤◌}
use native.Mathlib.Omega.{arith}
use mathlib.Core.Path.{◌≡◌, refl, sym, ap, ap₂, ◌∙◌, subst}
use mathlib.Core.Option.{some}
use mathlib.Core.List.{List, [], ◌∷◌, ◌++◌, map}
use lib.ListN.{length, set, get_elem?}
use lib.Dec.{leb}
use borrow.Author.Tests.{leb-false, lt-leb, eq-eqb, ne_eqb}
use Rattle.calculus.specs.Syntax.{Name, rd, wt, Log, State}
use Rattle.calculus.specs.State.{count, without}
use Rattle.calculus.specs.Log.{RD, WT}
use Rattle.calculus.specs.Reduction.{Rule, OUT, IN, REP, ATST, ATRE, ATFAIL, ATOK, ARDOK, ARDF}
use Rattle.semantics.specs.Definitions.Basics.{replace_at}
use Rattle.semantics.specs.Definitions.Terms.{Expression, end_t, retry_t, rd_t, wt_t, or_else_t, Program, nil_t, put_t, take_t, repeat_t, par_t, atom_t}
use Rattle.semantics.specs.Definitions.Shortage.{Shortage, enough}
use Rattle.semantics.specs.Definitions.Logs.{empty_log, shortage, readable, add_token, take_token}
use Rattle.semantics.specs.Definitions.Configuration.{Idle, taking, repeating, block, output, Tree, leaf, fork, Component, idle, transaction, Configuration, opens, nodes}
use Rattle.semantics.specs.Definitions.Moves.{Entry, act, inside, ComponentAnswer, moves, blocked, takes, puts, commits, ends, acts, NodeAnswer, evolves, no_rule, out_of_range, reads, at_leaf, at_fork, at_node, move_at, inside_answer, acts_inside, does, entry_answer, rule_number}
use Rattle.semantics.specs.Checks.StatedMoves.{OpensInto, nil_opens, put_opens, take_opens, repeat_opens, par_opens, atom_opens, GivesWay, at_first, further, NodeBecomes, at_root, at_left, at_right, NodeMoves, ardok8, ardf9, awr10, aoi11, aof12, aoe13, MoveAsStated, out1, in2, rep3, atst4, atre5, atfail6, atok7, inside8_13, OpensAsStated, MovesAsStated}
use Rattle.theorems.proofs.Walk.{in_left, in_right, left_evolves, right_evolves, node_induction}
use Rattle.theorems.proofs.Lists.{none_found, found_below, length_replace_at}
use Rattle.theorems.proofs.ReadableLogs.{readable_included, included_readable, unreadable_short, short_unreadable}
use Rattle.theorems.proofs.ByteReads.{by_cases}
use Rattle.theorems.proofs.Moves.{position_of, component_answer, entry_answer_inverts, entry_answer_made}

-- ---- what a process opens into

-- from the definition to the relation
opens_into : (P : Program) → OpensInto P (opens P)
unfolding opens
opens_into (nil_t n) = nil_opens
opens_into (put_t n a) = put_opens
opens_into (take_t n a P) = take_opens
opens_into (repeat_t n a P) = repeat_opens
opens_into (par_t n P Q) = par_opens (opens_into P) (opens_into Q)
opens_into (atom_t n M) = atom_opens

-- and back
into_opens : {P : Program} {cs : List Idle} → OpensInto P cs → opens P ≡ cs
unfolding opens
into_opens nil_opens = refl
into_opens put_opens = refl
into_opens take_opens = refl
into_opens repeat_opens = refl
into_opens (par_opens o q) = ap₂ ◌++◌ (into_opens o) (into_opens q)
into_opens atom_opens = refl

pub opens_as_stated : OpensAsStated
unfolding OpensAsStated
opens_as_stated P cs = (λ e. subst (OpensInto P) e (opens_into P), into_opens)

-- ---- at a position

-- a component that is there gives way
gives_way : (cs : List Component) (p : ℕ) (c : Component) (new : List Component) → get_elem? cs p ≡ some c →
    GivesWay p c new cs (replace_at p new cs)
unfolding replace_at
gives_way [] p c new e = absurd (none_found p c e)
gives_way (d ∷ ds) zero c new e = let same : d ≡ c = cc in rw same at_first
gives_way (d ∷ ds) (suc p) c new e = further (gives_way ds p c new e)

-- and one that gives way is there, with the others in its place
pub way_found : {p : ℕ} {c : Component} {new cs ds : List Component} → GivesWay p c new cs ds → get_elem? cs p ≡ some c
way_found at_first = refl
way_found (further w) = way_found w

way_placed : {p : ℕ} {c : Component} {new cs ds : List Component} → GivesWay p c new cs ds → replace_at p new cs ≡ ds
unfolding replace_at
way_placed at_first = refl
way_placed (further {d = d} w) = ap (◌∷◌ d) (way_placed w)

-- ---- at a node

-- from the definition: a node that is found, with its move
abbrev pub NodeAnswerPrinted : State → Tree → ℕ → NodeAnswer → Type 0
NodeAnswerPrinted s t k (evolves r w u) =
    (old : Tree) × (new : Tree) × NodeBecomes k old new t u × NodeMoves s old r (rule_number r) w new
NodeAnswerPrinted s t k no_rule = Unit {0}
NodeAnswerPrinted s t k out_of_range = Unit {0}

-- at a leaf
leaf_printed : (s : State) (M : Expression) (δ : Log) → NodeAnswerPrinted s (leaf M δ) 0 (at_leaf s M δ)
unfolding at_leaf reads rule_number
leaf_printed s (end_t n) δ = tt
leaf_printed s (retry_t n) δ = tt
leaf_printed s (rd_t n a M) δ =
    by_cases (NodeAnswerPrinted s (leaf (rd_t n a M) δ) 0) (readable s (δ ++ (rd a ∷ [])))
    (evolves ARDOK enough (leaf M (δ ++ (rd a ∷ [])))) (evolves ARDF (shortage s (δ ++ (rd a ∷ []))) (leaf (retry_t 255) δ))
    (λ e. (leaf (rd_t n a M) δ, leaf M (δ ++ (rd a ∷ [])), at_root, ardok8 (readable_included s (δ ++ (rd a ∷ [])) e)))
    (λ e. let (b, k, is, f) = unreadable_short s (δ ++ (rd a ∷ [])) e in (leaf (rd_t n a M) δ, leaf (retry_t 255) δ, at_root, rw is (ardf9 f)))
leaf_printed s (wt_t n a M) δ = (leaf (wt_t n a M) δ, leaf M (δ ++ (wt a ∷ [])), at_root, awr10)
leaf_printed s (or_else_t n M N) δ = (leaf (or_else_t n M N) δ, fork (leaf M δ) (leaf N δ), at_root, aoi11)

-- at a fork
fork_printed : (s : State) (l r : Tree) → NodeAnswerPrinted s (fork l r) 0 (at_fork l r)
unfolding at_fork rule_number
fork_printed s (leaf (end_t n) δ) r = (fork (leaf (end_t n) δ) r, leaf (end_t n) δ, at_root, aoe13)
fork_printed s (leaf (retry_t n) δ) r = (fork (leaf (retry_t n) δ) r, r, at_root, aof12)
fork_printed s (leaf (rd_t n a M) δ) r = tt
fork_printed s (leaf (wt_t n a M) δ) r = tt
fork_printed s (leaf (or_else_t n M N) δ) r = tt
fork_printed s (fork l m) r = tt

-- in a fork's right side
right_printed : (s : State) (l r : Tree) (j : ℕ) (i : NodeAnswer) → NodeAnswerPrinted s r j i →
    NodeAnswerPrinted s (fork l r) (suc (nodes l + j)) (in_right l i)
unfolding in_right nodes
right_printed s l r j (evolves e w v) (old, new, b, m) = (old, new, at_right b, m)
right_printed s l r j no_rule h = tt
right_printed s l r j out_of_range h = tt

-- in its left side
left_printed : (s : State) (l r : Tree) (k : ℕ) (i : NodeAnswer) → NodeAnswerPrinted s l k i → NodeAnswerPrinted s (fork l r) (suc k) (in_left r i)
unfolding in_left
left_printed s l r k (evolves e w v) (old, new, b, m) = (old, new, at_left b, m)
left_printed s l r k no_rule h = tt
left_printed s l r k out_of_range h = tt

-- at the root
node_printed : (s : State) (t : Tree) → NodeAnswerPrinted s t 0 (at_node s t)
unfolding at_node
node_printed s (leaf M δ) = leaf_printed s M δ
node_printed s (fork l r) = fork_printed s l r

-- at any node
pub move_at_printed : (s : State) (t : Tree) (k : ℕ) → NodeAnswerPrinted s t k (move_at s t k)
move_at_printed s =
    node_induction s (λ t k i. NodeAnswerPrinted s t k i) (node_printed s) (λ l r k h. left_printed s l r k) (right_printed s) (λ t k h. tt)

-- a node that moves as printed moves by itself
root_moves : {s : State} {old new : Tree} {r : Rule} {n : ℕ} {w : Shortage} → NodeMoves s old r n w new →
    (move_at s old 0 ≡ evolves r w new) × (rule_number r ≡ n)
unfolding move_at at_leaf at_fork reads rule_number
root_moves {s} (ardok8 {a = a} {δ = δ} i) = (rw (included_readable s (δ ++ (rd a ∷ [])) i), refl)
root_moves {s} (ardf9 {a = a} {δ = δ} f) = let (fails, is) = short_unreadable s (δ ++ (rd a ∷ [])) f in (rw (fails, is), refl)
root_moves awr10 = (refl, refl)
root_moves aoi11 = (refl, refl)
root_moves aof12 = (refl, refl)
root_moves aoe13 = (refl, refl)

-- and a node that moves by itself moves in its tree
node_moves : {k : ℕ} {old new t u : Tree} {w : Shortage} (s : State) (r : Rule) → NodeBecomes k old new t u →
    move_at s old 0 ≡ evolves r w new → move_at s t k ≡ evolves r w u
node_moves s e at_root q = q
node_moves s e (at_left {k = k} {l = l} {r = r} b) q = left_evolves s l r k (node_moves s e b q)
node_moves s e (at_right {k = k} {l = l} {r = r} b) q = right_evolves s l r k (node_moves s e b q)

-- ---- taking a token

-- a token that is there is taken
takes_one : (σ : State) (a : Name) (r : Rule) (cs : List Idle) (m : ℕ) → count σ a ≡ suc m →
    takes σ a r cs ≡ moves r enough (set σ a m) (map idle cs)
unfolding takes take_token without
takes_one σ a r cs m e =
    let less : count σ a - 1 ≡ m = omega arith in
    rw (ne_eqb (count σ a) 0 (λ z. let y : suc m ≡ 0 = sym e ∙ z in omega arith), less)

-- where there is none, nothing is
takes_none : (σ : State) (a : Name) (r : Rule) (cs : List Idle) → count σ a ≡ 0 → takes σ a r cs ≡ blocked 18
unfolding takes
takes_none σ a r cs e = rw (eq-eqb (count σ a) 0 e)

-- ---- from the definition to the printed moves

module _ (h : Configuration) (p : ℕ) where
  -- a component's own move is one as printed, where it leaves at most 64 components
  abbrev ComponentAnswerPrinted : Entry → ComponentAnswer → Type 0
  ComponentAnswerPrinted e (moves r w σ cs) = length (replace_at p cs h.components) ≤ 64 →
      MoveAsStated h e r (rule_number r) w (record { counts = σ; components = replace_at p cs h.components })
  ComponentAnswerPrinted e (blocked n) = Unit {0}

  -- IN and REP
  takes_printed : (a : Name) (r : Rule) (cs : List Idle) →
      ((m : ℕ) → count h.counts a ≡ suc m → ComponentAnswerPrinted (act p) (moves r enough (set h.counts a m) (map idle cs))) →
      ComponentAnswerPrinted (act p) (takes h.counts a r cs)
  takes_printed a r cs f = go (count h.counts a) refl
    where
      go : (c : ℕ) → count h.counts a ≡ c → ComponentAnswerPrinted (act p) (takes h.counts a r cs)
      go zero e = rw (takes_none h.counts a r cs e) tt
      go (suc m) e = rw (takes_one h.counts a r cs m e) (f m e)

  -- an attempt with one end or retry leaf
  ends_printed : (n : ℕ) (M : Expression) (s : State) (t : Tree) →
      get_elem? h.components p ≡ some (transaction n M s t) → ComponentAnswerPrinted (act p) (ends h.counts n M t)
  unfolding ends commits rule_number
  ends_printed n M s (leaf (end_t i) δ) e =
      by_cases (ComponentAnswerPrinted (act p)) (readable h.counts δ)
      (moves (ATOK δ) enough (without h.counts (RD δ)) (map (λ a. idle (output a)) (WT δ)))
      (moves ATFAIL (shortage h.counts δ) h.counts (idle (block n M) ∷ []))
      (λ t fits. atok7 (gives_way h.components p _ _ e) (readable_included h.counts δ t) fits)
      (λ t fits. let (a, k, is, f) = unreadable_short h.counts δ t in rw is (atfail6 (gives_way h.components p _ _ e) f))
  ends_printed n M s (leaf (retry_t i) δ) e = λ fits. atre5 (gives_way h.components p _ _ e)
  ends_printed n M s (leaf (rd_t i a N) δ) e = tt
  ends_printed n M s (leaf (wt_t i a N) δ) e = tt
  ends_printed n M s (leaf (or_else_t i N N') δ) e = tt
  ends_printed n M s (fork l r) e = tt

  -- kind 1
  acts_printed : (c : Component) → get_elem? h.components p ≡ some c → ComponentAnswerPrinted (act p) (acts h.counts c)
  unfolding acts empty_log puts add_token rule_number
  acts_printed (idle (taking n a P)) e =
      takes_printed a (IN a) (opens P) (λ m q fits. in2 (gives_way h.components p _ _ e) (opens_into P) q fits)
  acts_printed (idle (repeating n a P)) e =
      takes_printed a (REP a) (opens P ++ (repeating n a P ∷ []))
      (λ m q fits. rep3 (gives_way h.components p _ _ e) (opens_into P) q fits)
  acts_printed (idle (block n M)) e = λ fits. atst4 (gives_way h.components p _ _ e)
  acts_printed (idle (output a)) e =
      by_cases (ComponentAnswerPrinted (act p)) (leb 255 (count h.counts a)) (blocked 20)
      (moves (OUT a) enough (add_token h.counts a) [])
      (λ t. tt) (λ t fits. out1 (gives_way h.components p _ _ e) (leb-false 255 (count h.counts a) t))
  acts_printed (transaction n M s t) e = ends_printed n M s t e

  -- kind 2
  inside_printed : (k : ℕ) (c : Component) → get_elem? h.components p ≡ some c →
      ComponentAnswerPrinted (inside p k) (acts_inside h.counts c k)
  unfolding acts_inside inside_answer
  inside_printed k (idle c) e = tt
  inside_printed k (transaction n M s t) e = go (move_at s t k) (move_at_printed s t k)
    where
      go : (i : NodeAnswer) → NodeAnswerPrinted s t k i → ComponentAnswerPrinted (inside p k) (inside_answer h.counts n M s i)
      go (evolves r w u) q = λ fits. inside8_13 (gives_way h.components p _ _ e) q.2 q.3
      go no_rule q = tt
      go out_of_range q = tt

-- what an entry asks of the component at its position
component_answer_printed : (h : Configuration) (e : Entry) (c : Component) → get_elem? h.components (position_of e) ≡ some c →
    ComponentAnswerPrinted h (position_of e) e (component_answer h.counts c e)
unfolding position_of component_answer
component_answer_printed h (act p) c f = acts_printed h p c f
component_answer_printed h (inside p k) c f = inside_printed h p k c f

-- every accepted choice is a move as printed
pub chosen_printed : (h : Configuration) (e : Entry) (r : Rule) (w : Shortage) (g : Configuration) → entry_answer h e ≡ does r w g →
    MoveAsStated h e r (rule_number r) w g
chosen_printed h e r w g q =
    let (a, told) = entry_answer_inverts h e r w g q in
    let m : ComponentAnswerPrinted h (position_of e) e (moves r w g.counts a.laid) =
    rw (a.local, told) at (component_answer_printed h e a.component a.found) in
    let fits : length (replace_at (position_of e) a.laid h.components) ≤ 64 = rw (← a.placed) a.fits in
    subst (λ cs. MoveAsStated h e r (rule_number r) w (record { counts = g.counts; components = cs })) (sym a.placed)
    (m fits)

-- ---- and back

module _ {c : Component} {new cs : List Component} {w : Shortage} (h : Configuration) (e : Entry) (r : Rule) (σ : State)
    (way : GivesWay (position_of e) c new h.components cs) (local : component_answer h.counts c e ≡ moves r w σ new) where
  -- a component's own move that leaves at most 64 components is accepted at its position
  made : length cs ≤ 64 → entry_answer h e ≡ does r w (record { counts = σ; components = cs })
  made fits =
      entry_answer_made h e r σ c new (way_found way) local (rw (way_placed way) fits) ∙
      ap (λ ds. does r w (record { counts = σ; components = ds })) (way_placed way)

  -- and one that lays down at most one component leaves no more than there were
  kept : length h.components ≤ 64 → length new ≤ 1 → entry_answer h e ≡ does r w (record { counts = σ; components = cs })
  kept few one =
      let below = found_below h.components (position_of e) c (way_found way) in
      let l : suc (length cs) ≡ length new + length h.components =
      rw (← (way_placed way)) (length_replace_at h.components new (position_of e) below) in
      made (omega arith)

-- every move as printed is an accepted choice
printed_chosen : (h : Configuration) → length h.components ≤ 64 →
    {e : Entry} {r : Rule} {n : ℕ} {v : Shortage} {g : Configuration} → MoveAsStated h e r n v g →
    (entry_answer h e ≡ does r v g) × (rule_number r ≡ n)
unfolding component_answer position_of acts puts add_token ends commits acts_inside inside_answer empty_log rule_number
printed_chosen h few (out1 {p} {a} w b) =
    (kept h (act p) (OUT a) _ w (rw (lt-leb 255 (count h.counts a) b)) few (omega arith), refl)
printed_chosen h few (in2 {p} {m = m} {a = a} {ds = ds} w o q fits) =
    (made h (act p) (IN a) _ w (rw (into_opens o) (takes_one h.counts a (IN a) ds m q)) fits, refl)
printed_chosen h few (rep3 {p} {n} {m} {a} {P} {ds} w o q fits) =
    let blocked = repeating n a P ∷ [] in
    (made h (act p) (REP a) _ w (rw (into_opens o) (takes_one h.counts a (REP a) (ds ++ blocked) m q)) fits, refl)
printed_chosen h few (atst4 {p} w) = (kept h (act p) ATST _ w refl few (omega arith), refl)
printed_chosen h few (atre5 {p} w) = (kept h (act p) ATRE _ w refl few (omega arith), refl)
printed_chosen h few (atfail6 {p} {δ = δ} w f) =
    let (fails, is) = short_unreadable h.counts δ f in (kept h (act p) ATFAIL _ w (rw (fails, is)) few (omega arith), refl)
printed_chosen h few (atok7 {p} {δ = δ} w i fits) =
    (made h (act p) (ATOK δ) _ w (rw (included_readable h.counts δ i)) fits, refl)
printed_chosen h few (inside8_13 {p} {k} {s = s} {r = r} w b m) =
    let o = root_moves m in
    (kept h (inside p k) r _ w (rw (node_moves s r b o.0)) few (omega arith), o.1)

pub moves_as_stated : MovesAsStated
unfolding MovesAsStated
moves_as_stated ts h ok e r n w g =
    (λ q. rw q.1 at (chosen_printed h e r w g q.0), printed_chosen h ok.few)
