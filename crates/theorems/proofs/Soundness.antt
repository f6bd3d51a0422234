-- Each accepted choice does one reduction of the calculus, at the place that it names, and a run does as many as it
-- has choices done.
-- Assumes nothing.
use Prim.Native.Nat.{ℕ, zero, suc, ◌+◌, ◌-◌, ◌≤◌, ◌<◌}
use native.Mathlib.Omega.{arith}
use native.Mathlib.Decide.{dec_lt}
use mathlib.Core.Path.{◌≡◌, refl, sym, ap, ◌∙◌}
use mathlib.Core.Logic.{◌≢◌, ◌⊎◌, inl, inr}
use mathlib.Core.Option.{some}
use mathlib.Core.List.{List, [], ◌∷◌, ◌++◌, map, append-nil, map-append}
use lib.ListN.{length, set, take, get_elem?, length-set, get_or-eq_default}
use lib.Seq.{get_or-set_same, set-set, set-get_or}
use lib.Dec.{leb, eqb}
use borrow.Author.Tests.{eqb-false}
use Rattle.calculus.specs.Syntax.{Name, rd, Log, State, Process, nil, rep, par, atom}
use Rattle.calculus.specs.State.{count, Plus}
use Rattle.calculus.specs.Log.{WT}
use Rattle.calculus.specs.Reduction.{Rule, Label, by, ardok, ardf, awr, aoi, aof, aoe, aol, aor, nodes_of, node_of, EvolvesAt, outputs, LogOrder, AnyOrder, Reduces, OUTr, INr, REPr, PARL, PARR, ATSTr, ATPASS, ATREr, ATFAILr, ATOKr}
use Rattle.calculus.proofs.Reductions.{as_stated}
use Rattle.semantics.specs.Definitions.Basics.{replace_at}
use Rattle.semantics.specs.Definitions.Terms.{Expression, end_t, retry_t, rd_t, wt_t, or_else_t, Program, nil_t, put_t, take_t, repeat_t, par_t, atom_t, Term}
use Rattle.semantics.specs.Definitions.Logs.{empty_log, readable, add_token, take_token}
use Rattle.semantics.specs.Definitions.Configuration.{taking, repeating, block, output, Tree, leaf, fork, Component, idle, transaction, Configuration, nodes, opens}
use Rattle.semantics.specs.Definitions.Stored.{ComponentOk, WellFormed}
use Rattle.semantics.specs.Claims.Denotation.{expr, proc, ongoing_of, component_process, Denotes, nothing, alone, beside}
use Rattle.semantics.specs.Definitions.Moves.{Entry, act, inside, ComponentAnswer, moves, blocked, ends, acts, NodeAnswer, evolves, no_rule, out_of_range, at_leaf, at_fork, at_node, move_at, inside_answer, acts_inside, Transition, moved, refused, transition, rule_number}
use Rattle.semantics.specs.Checks.AcceptedTables.{GoodTable}
use Rattle.semantics.specs.Definitions.Run.{ScheduleItem, Counters, run_from, run, Step, continue_steps, steps, schedule, entries}
use Rattle.semantics.specs.Claims.Correspondence.{OpeningDenotes, OneReduction, Soundness, AtChosen, Located, Chain, RunSoundness}
use Rattle.theorems.proofs.Walk.{in_left, in_right, node_induction}
use Rattle.theorems.proofs.Lists.{none_found, found_left, found_right, replace_at_left, replace_at_right, all_at}
use Rattle.theorems.proofs.ReadableLogs.{readable_included, unreadable_not_included}
use Rattle.theorems.proofs.Moves.{position_of, component_answer, accepted_inverts, run_induction}
use Rattle.theorems.proofs.GoodTable.{accepted_is_good}
use Rattle.theorems.proofs.WellFormedKept.{well_formed_step}
use Rattle.theorems.proofs.ByteReads.{by_cases}

-- ---- states

-- a name that occurs is counted
pub occurs_counted : (σ : State) (a : Name) → count σ a ≢ 0 → a < length σ
occurs_counted σ a h = elim (dec_lt a (length σ)) [ yes k ↦ k | no k ↦ absurd (h (get_or-eq_default σ 0 (omega arith))) ]

-- what a channel gains is an occurrence more
pub gained_plus : (σ : State) (a : Name) → a < length σ → Plus σ a (add_token σ a)
unfolding add_token
gained_plus σ a h = record { counted = h; added = refl }

-- a channel that has a token spends an occurrence
pub spent_plus : (σ : State) (a : Name) → count σ a ≢ 0 → Plus (take_token σ a) a σ
unfolding take_token
spent_plus σ a h = record { counted = rw length-set below; added = sym restored }
  where
    below : a < length σ
    below = occurs_counted σ a h

    restored : set (set σ a (count σ a - 1)) a (suc (count (set σ a (count σ a - 1)) a)) ≡ σ
    restored =
        let one : suc (count σ a - 1) ≡ count σ a = omega arith in
        rw (get_or-set_same σ a (count σ a - 1) 0 below, set-set, one) (set-get_or σ a 0)

-- ---- what components stand for

-- a process stands as what it opens into
pub opens_stand : (P : Program) → Denotes (proc P) (map idle (opens P))
unfolding proc opens component_process
opens_stand (nil_t n) = nothing
opens_stand (put_t n a) = alone (idle (output a)) refl
opens_stand (take_t n a P) = alone (idle (taking n a P)) refl
opens_stand (repeat_t n a P) = alone (idle (repeating n a P)) refl
opens_stand (par_t n P Q) = rw (map-append idle (opens P) (opens Q)) (beside (opens_stand P) (opens_stand Q))
opens_stand (atom_t n M) = alone (idle (block n M)) refl

-- outputs in parallel stand as output components, in their order
pub outputs_stand : (bs : List Name) → Denotes (outputs bs) (map (λ a. idle (output a)) bs)
unfolding outputs component_process
outputs_stand [] = nothing
outputs_stand (b ∷ bs) = beside (alone (idle (output b)) refl) (outputs_stand bs)

-- ---- a move inside a transaction

-- its tree and the ongoing expression have as many nodes
nodes_ongoing : (s : State) (t : Tree) → nodes_of (ongoing_of s t) ≡ nodes t
unfolding nodes nodes_of ongoing_of
nodes_ongoing s (leaf M δ) = refl
nodes_ongoing s (fork l r) = let h = nodes_ongoing s l in let g = nodes_ongoing s r in omega arith

-- at node k it is one step of the ongoing expression at that node, or k lies past the tree
abbrev NodeAnswerSound : State → Tree → ℕ → NodeAnswer → Type 0
NodeAnswerSound s t k (evolves r w u) = EvolvesAt k r (ongoing_of s t) (ongoing_of s u)
NodeAnswerSound s t k no_rule = Unit {0}
NodeAnswerSound s t k out_of_range = nodes t ≤ k

-- at a leaf: ARDOK or ARDF, AWR, AOI
at_leaf_sound : (s : State) (M : Expression) (δ : Log) → NodeAnswerSound s (leaf M δ) 0 (at_leaf s M δ)
unfolding at_leaf ongoing_of node_of
at_leaf_sound s (end_t n) δ = tt
at_leaf_sound s (retry_t n) δ = tt
at_leaf_sound s (rd_t n a M) δ =
    by_cases (NodeAnswerSound s (leaf (rd_t n a M) δ) 0) (readable s (δ ++ (rd a ∷ []))) _ _
    (λ q. (ardok (readable_included s (δ ++ (rd a ∷ [])) q), refl))
    (λ q. (ardf (unreadable_not_included s (δ ++ (rd a ∷ [])) q), refl))
at_leaf_sound s (wt_t n a M) δ = (awr, refl)
at_leaf_sound s (or_else_t n M N) δ = (aoi, refl)

-- at a fork: AOF, AOE
at_fork_sound : (s : State) (l r : Tree) → NodeAnswerSound s (fork l r) 0 (at_fork l r)
unfolding at_fork ongoing_of node_of
at_fork_sound s (leaf (end_t n) δ) r = (aoe, refl)
at_fork_sound s (leaf (retry_t n) δ) r = (aof, refl)
at_fork_sound s (leaf (rd_t n a M) δ) r = tt
at_fork_sound s (leaf (wt_t n a M) δ) r = tt
at_fork_sound s (leaf (or_else_t n M N) δ) r = tt
at_fork_sound s (fork l m) r = tt

-- in a fork's right side: AOR, behind the nodes of the left side
in_right_sound : (s : State) (l r : Tree) (k : ℕ) (x : NodeAnswer) → NodeAnswerSound s r k x →
    NodeAnswerSound s (fork l r) (suc (nodes l + k)) (in_right l x)
unfolding in_right ongoing_of nodes node_of
in_right_sound s l r k (evolves e w u) h = (aor h.0, let n = nodes_ongoing s l in let m = h.1 in omega arith)
in_right_sound s l r k no_rule h = tt
in_right_sound s l r k out_of_range h = omega arith

-- in a fork's left side: AOL
in_left_sound : (s : State) (l r : Tree) (k : ℕ) → k < nodes l → (x : NodeAnswer) → NodeAnswerSound s l k x →
    NodeAnswerSound s (fork l r) (suc k) (in_left r x)
unfolding in_left ongoing_of node_of
in_left_sound s l r k b (evolves e w u) h = (aol h.0, ap suc h.1)
in_left_sound s l r k b no_rule h = tt
in_left_sound s l r k b out_of_range h = absurd (omega arith)

-- at the root
at_node_sound : (s : State) (t : Tree) → NodeAnswerSound s t 0 (at_node s t)
unfolding at_node
at_node_sound s (leaf M δ) = at_leaf_sound s M δ
at_node_sound s (fork l r) = at_fork_sound s l r

-- at any node
move_at_sound : (s : State) (t : Tree) (k : ℕ) → NodeAnswerSound s t k (move_at s t k)
move_at_sound s =
    node_induction s (λ t k x. NodeAnswerSound s t k x) (at_node_sound s) (in_left_sound s) (in_right_sound s) (λ t k h. h)

-- ---- a move of one component

-- kind 1: by one of the rules 1 to 7 it is one reduction of the process that the component stands for, to one that
-- stands as what is laid down
abbrev ActSound : State → Component → ComponentAnswer → Type 0
ActSound σ c (moves r w τ cs) =
    (P : Process) × Reduces LogOrder (by r) (component_process c) σ P τ × (rule_number r ≤ 7) × Denotes P cs
ActSound σ c (blocked n) = Unit {0}

-- ATOK, ATFAIL and ATRE
ends_sound : (σ : State) (n : ℕ) (M : Expression) (s : State) (t : Tree) → ActSound σ (transaction n M s t) (ends σ n M t)
unfolding ends component_process rule_number
ends_sound σ n M s (leaf (end_t e) δ) =
    by_cases (ActSound σ (transaction n M s (leaf (end_t e) δ))) (readable σ δ) _ _
    (λ q. (outputs (WT δ), ATOKr (readable_included σ δ q) refl, omega arith, outputs_stand (WT δ)))
    (λ q. (atom (expr M), ATFAILr (unreadable_not_included σ δ q), omega arith, alone (idle (block n M)) refl))
ends_sound σ n M s (leaf (retry_t e) δ) = (atom (expr M), ATREr, omega arith, alone (idle (block n M)) refl)
ends_sound σ n M s (leaf (rd_t e a N) δ) = tt
ends_sound σ n M s (leaf (wt_t e a N) δ) = tt
ends_sound σ n M s (leaf (or_else_t e N N') δ) = tt
ends_sound σ n M s (fork l r) = tt

-- an OUT is on one of the 16 channels that the state counts
acts_sound : (ts : List Term) (σ : State) (c : Component) → length σ ≡ 16 → ComponentOk ts c → ActSound σ c (acts σ c)
unfolding acts component_process ComponentOk rule_number
acts_sound ts σ (idle (taking n a P)) h k =
    by_cases (ActSound σ (idle (taking n a P))) (eqb (count σ a) 0) _ _ (λ q. tt)
    (λ q. (proc P, INr (spent_plus σ a (eqb-false (count σ a) 0 q)), omega arith, opens_stand P))
acts_sound ts σ (idle (repeating n a P)) h k =
    by_cases (ActSound σ (idle (repeating n a P))) (eqb (count σ a) 0) _ _ (λ q. tt)
    (λ q. (
      par (proc P) (rep a (proc P)),
      REPr (spent_plus σ a (eqb-false (count σ a) 0 q)),
      omega arith,
      rw (map-append idle (opens P) (repeating n a P ∷ [])) (beside (opens_stand P) (alone (idle (repeating n a P)) refl)),
    ))
acts_sound ts σ (idle (block n M)) h k = (_, ATSTr, omega arith, alone (transaction n M σ (leaf M empty_log)) refl)
acts_sound ts σ (idle (output a)) h k =
    by_cases (ActSound σ (idle (output a))) (leb 255 (count σ a)) _ _ (λ q. tt)
    (λ q. (nil, OUTr (gained_plus σ a (omega arith)), omega arith, nothing))
acts_sound ts σ (transaction n M s t) h k = ends_sound σ n M s t

-- kind 2: it is one step, at the node, of a transaction's ongoing expression, and leaves the counts
abbrev InsideSound : State → Component → ℕ → ComponentAnswer → Type 0
InsideSound σ c k (moves r w τ cs) =
    (n : ℕ) × (M : Expression) × (s : State) × (t : Tree) × (u : Tree) × (c ≡ transaction n M s t) ×
    EvolvesAt k r (ongoing_of s t) (ongoing_of s u) × (cs ≡ transaction n M s u ∷ []) × (τ ≡ σ)
InsideSound σ c k (blocked n) = Unit {0}

inside_answer_sound : (σ : State) (n : ℕ) (M : Expression) (s : State) (t : Tree) (k : ℕ) (x : NodeAnswer) → NodeAnswerSound s t k x →
    InsideSound σ (transaction n M s t) k (inside_answer σ n M s x)
unfolding inside_answer
inside_answer_sound σ n M s t k (evolves r w u) h = (n, M, s, t, u, refl, h, refl, refl)
inside_answer_sound σ n M s t k no_rule h = tt
inside_answer_sound σ n M s t k out_of_range h = tt

acts_inside_sound : (σ : State) (c : Component) (k : ℕ) → InsideSound σ c k (acts_inside σ c k)
unfolding acts_inside
acts_inside_sound σ (idle c) k = tt
acts_inside_sound σ (transaction n M s t) k = inside_answer_sound σ n M s t k (move_at s t k) (move_at_sound s t k)

-- ---- at a position

-- an element of two lists stands in one of them, and gives way there
pub in_either : (cs ds : List Component) (p : ℕ) (c : Component) (es : List Component) → get_elem? (cs ++ ds) p ≡ some c →
    ((get_elem? cs p ≡ some c) × (replace_at p es (cs ++ ds) ≡ replace_at p es cs ++ ds)) ⊎
    ((q : ℕ) × (get_elem? ds q ≡ some c) × (replace_at p es (cs ++ ds) ≡ cs ++ replace_at q es ds))
in_either cs ds p c es f =
    elim (dec_lt p (length cs)) [
      | yes h ↦ inl (sym (found_left cs ds p h) ∙ f, replace_at_left cs ds es p h)
      | no h ↦ inr (behind (p - length cs) (omega arith))
    ]
  where
    behind : (q : ℕ) → p ≡ length cs + q →
        (j : ℕ) × (get_elem? ds j ≡ some c) × (replace_at p es (cs ++ ds) ≡ cs ++ replace_at j es ds)
    behind q e = (q, sym (found_right cs ds q) ∙ rw (← e) f, rw e (replace_at_right cs ds es q))

-- one component's reduction is one of every process that stands as all of them
pub reduces_at : {Order : List Name → List Name → Type 0} {l : Label} {P : Process} {cs : List Component} {σ τ : State} → Denotes P cs →
    (p : ℕ) (c : Component) (ds : List Component) → get_elem? cs p ≡ some c →
    (Q : Process) → Reduces Order l (component_process c) σ Q τ → Denotes Q ds →
    (P' : Process) × Reduces Order l P σ P' τ × Denotes P' (replace_at p ds cs)
unfolding replace_at
reduces_at nothing p c ds f Q r s = absurd (none_found p c f)
reduces_at (alone d e) zero c ds f Q r s = let same : d ≡ c = cc in (Q, rw (e, same) r, rw append-nil s)
reduces_at (alone d e) (suc p) c ds f Q r s = absurd (none_found p c f)
reduces_at (beside {P = L} {Q = R} {cs = xs} {ds = ys} u v) p c ds f Q r s =
    elim (in_either xs ys p c ds f) [
      | inl k ↦ let i = reduces_at u p c ds k.0 Q r s in (par i.0 R, PARL i.1, rw k.1 (beside i.2 v))
      | inr k ↦ let i = reduces_at v k.0 c ds k.1 Q r s in (par L i.0, PARR i.1, rw k.2 (beside u i.2))
    ]

-- an accepted choice on a well-formed configuration does one reduction, at the place that it names
pub located_step : {ts : List Term} {h : Configuration} (e : Entry) {r : Rule} {g : Configuration} → WellFormed ts h →
    transition h e ≡ moved r g → AtChosen h e r g
unfolding AtChosen position_of component_answer
located_step {ts} {h} (act p) {r} {g} ok q =
    let m = accepted_inverts h (act p) r g q in
    let c : ComponentOk ts m.component = all_at (ComponentOk ts) h.components p m.component ok.each m.found in
    let l : ActSound h.counts m.component (moves r m.lacks g.counts m.laid) =
    rw m.local at (acts_sound ts h.counts m.component ok.channel_counts.0 c) in
    (m.component, l.0, m.laid, m.found, l.1, l.2, l.3, m.placed)
located_step {ts} {h} (inside p k) {r} {g} ok q =
    let m = accepted_inverts h (inside p k) r g q in
    let l : InsideSound h.counts m.component k (moves r m.lacks g.counts m.laid) =
    rw m.local at (acts_inside_sound h.counts m.component k) in
    let (n, M, s, t, u, shape, step, laid, same) = l in
    (n, M, s, t, u, rw (← shape) m.found, step, rw (← laid) m.placed, same)

-- so by a choice of either kind one component reduces, as a process, to one that stands as what is laid down in its
-- place
pub record OneReduces (h : Configuration) (r : Rule) (g : Configuration) : Type 0 where
  pub position : ℕ
  pub component : Component
  pub after : Process
  pub laid : List Component
  pub found : get_elem? h.components position ≡ some component
  pub reduces : Reduces AnyOrder (by r) (component_process component) h.counts after g.counts
  pub stands : Denotes after laid
  pub placed : g.components ≡ replace_at position laid h.components

chosen_reduces : (h : Configuration) (e : Entry) (r : Rule) (g : Configuration) → AtChosen h e r g → OneReduces h r g
unfolding AtChosen component_process
chosen_reduces h (act p) r g x =
    let (c, Q, ds, found, d, first, s, placed) = x in
    record {
      position = p;
      component = c;
      after = Q;
      laid = ds;
      found = found;
      reduces = as_stated d;
      stands = s;
      placed = placed;
    }
chosen_reduces h (inside p k) r g x =
    let (n, M, s, t, u, found, step, placed, same) = x in
    let after = transaction n M s u in
    record {
      position = p;
      component = transaction n M s t;
      after = component_process after;
      laid = after ∷ [];
      found = found;
      reduces = rw same (ATPASS step.0);
      stands = alone after refl;
      placed = placed;
    }

pub one_reduces : {ts : List Term} {h : Configuration} (e : Entry) {r : Rule} {g : Configuration} → WellFormed ts h →
    transition h e ≡ moved r g → OneReduces h r g
one_reduces {h = h} e {r = r} {g = g} ok q = chosen_reduces h e r g (located_step e ok q)

-- which is a reduction of whatever process the configuration stands for
pub reduction_step : {ts : List Term} {h : Configuration} (e : Entry) {r : Rule} {g : Configuration} → WellFormed ts h →
    transition h e ≡ moved r g → OneReduction h r g
unfolding OneReduction
reduction_step e ok q P s =
    let o = one_reduces e ok q in
    rw o.placed (reduces_at s o.position o.component o.laid o.found o.after o.reduces o.stands)

-- the claims, for the bytes of every accepted table
pub located : Located
unfolding Located
located bs t a h ok e r g q = located_step e ok q

pub soundness : Soundness
unfolding Soundness
soundness bs t a h ok e r g q = reduction_step e ok q

-- ---- a run

-- its steps are as many as it has choices done, and lead from its first configuration to its last
run_chain : {ts : List Term} → GoodTable ts → (items : List ScheduleItem) (h : Configuration) (c : Counters) (p d : ℕ) → WellFormed ts h →
    (d + length (steps h (entries items)) ≡ (run_from h c p d items).done) ×
    Chain h (steps h (entries items)) (run_from h c p d items).configuration
run_chain {ts} good = run_induction
    (λ h c d ss a. WellFormed ts h → (d + length ss ≡ a.done) × Chain h ss a.configuration)
    (λ n p d h c ok. (omega arith, refl))
    (λ e r h g c d ss a q rest ok. let i = rest (well_formed_step e good ok q) in
    let n = i.0 in
    (omega arith, (refl, q, reduction_step e ok q, located_step e ok q, i.1)))

-- the steps of a list of entries are of its first ones
steps_chosen : (h : Configuration) (es : List Entry) → map (λ s. s.chosen) (steps h es) ≡ take (length (steps h es)) es
unfolding steps
steps_chosen h [] = refl
steps_chosen h (e ∷ es) = go (transition h e) (λ g. steps_chosen g es)
  where
    next : Rule → Configuration → List Step
    next r g = record { chosen = e; rule = r; before = h; result = g } ∷ steps g es

    go : (x : Transition) → ((g : Configuration) → map (λ s. s.chosen) (steps g es) ≡ take (length (steps g es)) es) →
        map (λ s. s.chosen) (continue_steps x next) ≡ take (length (continue_steps x next)) (e ∷ es)
    go (moved r g) rest = ap (◌∷◌ e) (rest g)
    go (refused n) rest = refl

-- the claim, for a run on a call's bytes
pub run_soundness : RunSoundness
unfolding RunSoundness
run_soundness bs t a h ok c choices =
    let i = run_chain (accepted_is_good bs t a.1) (schedule choices) h c 0 0 ok in
    let n : length (steps h (entries (schedule choices))) ≡ (run h c choices).done = let z = i.0 in omega arith in
    (n, steps_chosen h (entries (schedule choices)) ∙ ap (λ m. take m (entries (schedule choices))) n, i.1)

-- ---- an opening

pub opening_denotes : OpeningDenotes
unfolding OpeningDenotes
opening_denotes t = opens_stand t.start
