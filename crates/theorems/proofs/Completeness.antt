-- Completeness: each reduction of a process that a well-formed configuration stands for, within the limits, has its
-- choices. First one rule: where in the process the rule acts there is a component, and its move is the rule's. Then
-- COM, as two moves.
-- Assumes nothing.
use Prim.Native.Nat.{ℕ, suc, ◌+◌, ◌≤◌, ◌<◌}
use native.Mathlib.Omega.{arith}
use mathlib.Core.Path.{◌≡◌, refl, sym, ap, ◌∙◌, subst}
use mathlib.Core.Bool.{false}
use mathlib.Core.Option.{some}
use mathlib.Core.List.{List, [], ◌∷◌, ◌++◌, map, append-nil, map-append}
use lib.ListN.{length, get_elem?, length-append}
use lib.Dec.{leb}
use borrow.Author.Tests.{lt-leb, ne_eqb}
use Rattle.calculus.specs.Syntax.{Name, rd, wt, Log, State, Expr, end, retry, prefix, or_else, Ongoing, running, or_else', Process, nil, out, inp, rep, par, atom, ongoing}
use Rattle.calculus.specs.State.{count, Plus}
use Rattle.calculus.specs.Log.{WT}
use Rattle.calculus.specs.Reduction.{Rule, OUT, IN, REP, by, COM, Evolves, ardok, ardf, awr, aoi, aof, aoe, aol, aor, outputs, LogOrder, Reduces, OUTr, INr, REPr, PARL, PARR, ATSTr, ATPASS, ATREr, ATFAILr, ATOKr}
use Rattle.calculus.proofs.Reductions.{no_output_inside}
use Rattle.calculus.proofs.States.{grown, without_added}
use Rattle.semantics.specs.Definitions.Run.{InBytes}
use Rattle.semantics.specs.Definitions.Basics.{replace_at, All}
use Rattle.semantics.specs.Definitions.Terms.{Expression, end_t, retry_t, rd_t, wt_t, or_else_t, Program, Term}
use Rattle.semantics.specs.Definitions.Table.{Table}
use Rattle.semantics.specs.Definitions.Shortage.{Shortage, enough}
use Rattle.semantics.specs.Definitions.Logs.{empty_log, shortage, add_token, take_token}
use Rattle.semantics.specs.Definitions.Configuration.{Idle, taking, repeating, block, output, Tree, leaf, fork, Component, idle, transaction, Configuration, branches_of, nodes, opens}
use Rattle.semantics.specs.Definitions.Stored.{ComponentOk, WellFormed}
use Rattle.semantics.specs.Definitions.Moves.{Entry, act, inside, moves, takes, puts, acts, evolves, move_at}
use Rattle.semantics.specs.Claims.Correspondence.{AcceptsTable, HasChoices, Completeness}
use Rattle.semantics.specs.Claims.Denotation.{expr, proc, ongoing_of, component_process, Denotes, nothing, alone, beside, parallel, Bounded, WithinLimits}
use Rattle.theorems.proofs.Walk.{left_evolves, right_evolves}
use Rattle.theorems.proofs.Lists.{found_below, found_left, found_right, replace_at_left, replace_at_right, all_at, all_get_d}
use Rattle.theorems.proofs.ReadableLogs.{included_readable, not_included_unreadable}
use Rattle.theorems.proofs.Moves.{position_of, component_answer, accepted_made}
use Rattle.theorems.proofs.Measures.{branches_positive}
use Rattle.theorems.proofs.GoodTable.{accepted_is_good}
use Rattle.theorems.proofs.WellFormedKept.{well_formed_step}
use Rattle.theorems.proofs.Soundness.{opens_stand, outputs_stand}
use Rattle.semantics.specs.Checks.Handovers.{TwoMoves}
use Rattle.theorems.proofs.Communication.{communication}

-- ---- from the calculus back to the terms

-- what an expression looks like whose image in the calculus is given
abbrev OfExpr : Expr → Expression → Type 0
OfExpr end M = (n : ℕ) × (M ≡ end_t n)
OfExpr retry M = (n : ℕ) × (M ≡ retry_t n)
OfExpr (prefix (rd a) E) M = (n : ℕ) × (N : Expression) × (M ≡ rd_t n a N) × (E ≡ expr N)
OfExpr (prefix (wt a) E) M = (n : ℕ) × (N : Expression) × (M ≡ wt_t n a N) × (E ≡ expr N)
OfExpr (or_else E F) M = (n : ℕ) × (N : Expression) × (N' : Expression) × (M ≡ or_else_t n N N') × (E ≡ expr N) × (F ≡ expr N')

of_expr : (E : Expr) (M : Expression) → E ≡ expr M → OfExpr E M
unfolding expr
of_expr E M e = subst (λ X. OfExpr X M) (sym e) (go M)
  where
    go : (N : Expression) → OfExpr (expr N) N
    go (end_t n) = (n, refl)
    go (retry_t n) = (n, refl)
    go (rd_t n a N) = (n, N, refl, refl)
    go (wt_t n a N) = (n, N, refl, refl)
    go (or_else_t n N N') = (n, N, N', refl, refl, refl)

-- what a transaction's tree looks like whose image is given
abbrev OfOngoing : State → Ongoing → Tree → Type 0
OfOngoing s (running E σ δ) t = (M : Expression) × (t ≡ leaf M δ) × (E ≡ expr M) × (σ ≡ s)
OfOngoing s (or_else' A B) t = (l : Tree) × (r : Tree) × (t ≡ fork l r) × (A ≡ ongoing_of s l) × (B ≡ ongoing_of s r)

of_ongoing : (s : State) (A : Ongoing) (t : Tree) → A ≡ ongoing_of s t → OfOngoing s A t
unfolding ongoing_of
of_ongoing s A t e = subst (λ X. OfOngoing s X t) (sym e) (go t)
  where
    go : (u : Tree) → OfOngoing s (ongoing_of s u) u
    go (leaf M δ) = (M, refl, refl, refl)
    go (fork l r) = (l, r, refl, refl, refl)

-- what a component looks like whose image is given; nil and a parallel composition are no component's
abbrev OfProcess : Process → Component → Type 0
OfProcess nil c = ⊥
OfProcess (out a) c = c ≡ idle (output a)
OfProcess (inp a P) c = (n : ℕ) × (Q : Program) × (c ≡ idle (taking n a Q)) × (P ≡ proc Q)
OfProcess (rep a P) c = (n : ℕ) × (Q : Program) × (c ≡ idle (repeating n a Q)) × (P ≡ proc Q)
OfProcess (par P Q) c = ⊥
OfProcess (atom E) c = (n : ℕ) × (M : Expression) × (c ≡ idle (block n M)) × (E ≡ expr M)
OfProcess (ongoing A E) c = (n : ℕ) × (M : Expression) × (s : State) × (t : Tree) × (c ≡ transaction n M s t) × (A ≡ ongoing_of s t) × (E ≡ expr M)

of_process : (P : Process) (c : Component) → P ≡ component_process c → OfProcess P c
unfolding component_process
of_process P c e = subst (λ X. OfProcess X c) (sym e) (go c)
  where
    go : (d : Component) → OfProcess (component_process d) d
    go (idle (taking n a Q)) = (n, Q, refl, refl)
    go (idle (repeating n a Q)) = (n, Q, refl, refl)
    go (idle (block n M)) = (n, M, refl, refl)
    go (idle (output a)) = refl
    go (transaction n M s t) = (n, M, s, t, refl, refl, refl)

-- what it looks like where its image is an ongoing block of a single leaf
of_leaf : {E M : Expr} {σ : State} {δ : Log} (c : Component) → ongoing (running E σ δ) M ≡ component_process c →
    (n : ℕ) × (N : Expression) × (s : State) × (K : Expression) × (c ≡ transaction n N s (leaf K δ)) × (E ≡ expr K) × (M ≡ expr N)
of_leaf {E} {M} {σ} {δ} c e =
    let (n, N, s, t, shape, tree, body) = of_process (ongoing (running E σ δ) M) c e in
    let (K, single, under, state) = of_ongoing s (running E σ δ) t tree in
    (n, N, s, K, cc, under, body)

-- ---- a move inside a transaction

-- some node of the tree makes this move, to a tree whose image is A
record InnerMove (s : State) (t : Tree) (r : Rule) (A : Ongoing) : Type 0 where
  node : ℕ
  result : Tree
  counted : node < nodes t
  lacks : Shortage
  made : move_at s t node ≡ evolves r lacks result
  image : A ≡ ongoing_of s result

-- each reduction of Table 3 is the move of a node
inner_move : {r : Rule} {A A' : Ongoing} → Evolves r A A' → (s : State) (t : Tree) → A ≡ ongoing_of s t → InnerMove s t r A'
unfolding move_at nodes ongoing_of expr
inner_move (ardok {a} {M} {σ} {δ} i) s t e =
    let (K, shape, under, state) = of_ongoing s (running (prefix (rd a) M) σ δ) t e in
    let (n, N, kind, rest) = of_expr (prefix (rd a) M) K under in
    let z = included_readable s (δ ++ (rd a ∷ [])) (rw state at i) in
    rw (shape, kind) (record { node = 0; result = leaf N (δ ++ (rd a ∷ [])); counted = omega arith; lacks = enough; made = rw z; image = cc })
inner_move (ardf {a} {M} {σ} {δ} i) s t e =
    let (K, shape, under, state) = of_ongoing s (running (prefix (rd a) M) σ δ) t e in
    let (n, N, kind, rest) = of_expr (prefix (rd a) M) K under in
    let z = not_included_unreadable s (δ ++ (rd a ∷ [])) (rw state at i) in
    rw (shape, kind) (record { node = 0; result = leaf (retry_t 255) δ; counted = omega arith; lacks = shortage s (δ ++ (rd a ∷ [])); made = rw z; image = cc })
inner_move (awr {a} {M} {σ} {δ}) s t e =
    let (K, shape, under, state) = of_ongoing s (running (prefix (wt a) M) σ δ) t e in
    let (n, N, kind, rest) = of_expr (prefix (wt a) M) K under in
    rw (shape, kind) (record { node = 0; result = leaf N (δ ++ (wt a ∷ [])); counted = omega arith; lacks = enough; made = refl; image = cc })
inner_move (aoi {M} {N} {σ} {δ}) s t e =
    let (K, shape, under, state) = of_ongoing s (running (or_else M N) σ δ) t e in
    let (n, L, R, kind, left, right) = of_expr (or_else M N) K under in
    rw (shape, kind) (record { node = 0; result = fork (leaf L δ) (leaf R δ); counted = omega arith; lacks = enough; made = refl; image = cc })
inner_move (aof {σ} {δ} {B}) s t e =
    let (l, r, shape, left, right) = of_ongoing s (or_else' (running retry σ δ) B) t e in
    let (K, leaf_shape, under, state) = of_ongoing s (running retry σ δ) l left in
    let (n, kind) = of_expr retry K under in
    rw (shape, leaf_shape, kind) (record { node = 0; result = r; counted = omega arith; lacks = enough; made = refl; image = right })
inner_move (aoe {σ} {δ} {B}) s t e =
    let (l, r, shape, left, right) = of_ongoing s (or_else' (running end σ δ) B) t e in
    let (K, leaf_shape, under, state) = of_ongoing s (running end σ δ) l left in
    let (n, kind) = of_expr end K under in
    rw (shape, leaf_shape, kind) (record { node = 0; result = leaf (end_t n) δ; counted = omega arith; lacks = enough; made = refl; image = cc })
inner_move (aol {A = A} {B = B} d) s t e =
    let (l, r, shape, left, right) = of_ongoing s (or_else' A B) t e in
    let m = inner_move d s l left in
    let k = m.counted in
    let z = m.made in
    rw shape (record { node = suc m.node; result = fork m.result r; counted = omega arith; lacks = m.lacks; made = left_evolves s l r m.node z; image = cc m.image })
inner_move (aor {A = A} {B = B} d) s t e =
    let (l, r, shape, left, right) = of_ongoing s (or_else' A B) t e in
    let m = inner_move d s r right in
    let k = m.counted in
    let z = m.made in
    rw shape (record { node = suc (nodes l + m.node); result = fork l m.result; counted = omega arith; lacks = m.lacks; made = right_evolves s l r m.node z; image = cc m.image })

-- ---- what stands for a process

-- a process stands for as many components as it has in parallel
pub stands_length : {P : Process} {cs : List Component} → Denotes P cs → parallel P ≡ length cs
unfolding parallel component_process
stands_length nothing = refl
stands_length (alone c e) = rw e (single c)
  where
    single : (d : Component) → parallel (component_process d) ≡ 1
    single (idle (taking n a P)) = refl
    single (idle (repeating n a P)) = refl
    single (idle (block n M)) = refl
    single (idle (output a)) = refl
    single (transaction n M s t) = refl
stands_length (beside {cs = cs} {ds = ds} p q) =
    let y = stands_length p in
    let z = stands_length q in
    let w = length-append cs ds in omega arith

-- equal processes stand for the same components
as_well : {P Q : Process} {cs : List Component} → P ≡ Q → Denotes Q cs → Denotes P cs
as_well e s = rw e s

-- ---- where a reduction acts

-- a node that an entry names is one of the component's
abbrev NodeOf : Entry → Component → Type 0
NodeOf (act p) c = Unit {0}
NodeOf (inside p k) (idle c) = ⊥
NodeOf (inside p k) (transaction n M s t) = k < nodes t

-- the entry's component among cs makes this move, and what it gives way to leaves a list that P stands for
record Redex (σ : State) (cs : List Component) (r : Rule) (P : Process) (σ' : State) : Type 0 where
  entry : Entry
  mover : Component
  laid : List Component
  found : get_elem? cs (position_of entry) ≡ some mover
  lacks : Shortage
  made : component_answer σ mover entry ≡ moves r lacks σ' laid
  node : NodeOf entry mover
  stands : Denotes P (replace_at (position_of entry) laid cs)

-- by kind 1, of a component that stands alone and is d
acting : {σ : State} {c d : Component} {r : Rule} {w : Shortage} {P : Process} {σ' : State} {ds : List Component} → c ≡ d → acts σ d ≡ moves r w σ' ds → Denotes P ds →
    Redex σ (c ∷ []) r P σ'
unfolding replace_at position_of component_answer
acting {d = d} {w = w} {ds = ds} e m s = rw e (record { entry = act 0; mover = d; laid = ds; found = refl; lacks = w; made = m; node = tt; stands = rw append-nil s })

-- with more components behind it
on_the_left : {σ : State} {cs ds : List Component} {r : Rule} {P Q : Process} {σ' : State} →
    Redex σ cs r P σ' → Denotes Q ds → Redex σ (cs ++ ds) r (par P Q) σ'
on_the_left {cs = cs} {ds} m q =
    let below = found_below cs (position_of m.entry) m.mover m.found in
    record {
      entry = m.entry;
      mover = m.mover;
      laid = m.laid;
      found = found_left cs ds (position_of m.entry) below ∙ m.found;
      lacks = m.lacks;
      made = m.made;
      node = m.node;
      stands = rw (replace_at_left cs ds m.laid (position_of m.entry) below) (beside m.stands q);
    }

-- with more components before it: the entry's position moves on
more_before : ℕ → Entry → Entry
more_before n (act p) = act (n + p)
more_before n (inside p k) = inside (n + p) k

on_the_right : {σ : State} {cs ds : List Component} {r : Rule} {P Q : Process} {σ' : State} →
    Denotes P cs → Redex σ ds r Q σ' → Redex σ (cs ++ ds) r (par P Q) σ'
unfolding position_of component_answer more_before
on_the_right {σ} {cs} {ds} p m =
    let e = m.entry in
    record {
      entry = more_before (length cs) e;
      mover = m.mover;
      laid = m.laid;
      found = rw (moved_on e) (found_right cs ds (position_of e)) ∙ m.found;
      lacks = m.lacks;
      made = same_move e ∙ m.made;
      node = same_node e m.mover m.node;
      stands = rw (moved_on e, replace_at_right cs ds m.laid (position_of e)) (beside p m.stands);
    }
  where
    moved_on : (e : Entry) → position_of (more_before (length cs) e) ≡ length cs + position_of e
    moved_on (act i) = refl
    moved_on (inside i k) = refl

    same_move : (e : Entry) → component_answer σ m.mover (more_before (length cs) e) ≡ component_answer σ m.mover e
    same_move (act i) = refl
    same_move (inside i k) = refl

    same_node : (e : Entry) (c : Component) → NodeOf e c → NodeOf (more_before (length cs) e) c
    same_node (act i) c h = h
    same_node (inside i k) c h = h

-- ---- the moves of idle components

-- without one token more, a state is what it was
pub spent_back : (σ : State) (a : Name) (σ' : State) → Plus σ' a σ → take_token σ a ≡ σ'
unfolding take_token
spent_back σ a σ' p = without_added σ a σ' p

-- IN and REP take a token that is there
takes_made : (σ : State) (a : Name) (σ' : State) (r : Rule) (cs : List Idle) → Plus σ' a σ → takes σ a r cs ≡ moves r enough σ' (map idle cs)
unfolding takes
takes_made σ a σ' r cs p = rw (ne_eqb (count σ a) 0 (λ e. let z = grown σ' a σ p in omega arith)) (ap (λ x. moves r enough x (map idle cs)) (spent_back σ a σ' p))

-- OUT puts a token where the count stays a byte
puts_made : (σ : State) (a : Name) (σ' : State) → Plus σ a σ' → All (λ c. c ≤ 255) σ' → puts σ a ≡ moves (OUT a) enough σ' []
unfolding puts
puts_made σ a σ' p h =
    let below = all_get_d (λ c. c ≤ 255) σ' a 0 h (omega arith) in
    let test : leb 255 (count σ a) ≡ false = lt-leb 255 (count σ a) (let z = grown σ a σ' p in omega arith) in
    rw test (ap (λ x. moves (OUT a) enough x []) (sym p.added))

-- ---- one rule

-- each reduction by one rule is the move of some component, where the counts that it leaves are bytes
redex : {r : Rule} {P P' : Process} {σ σ' : State} {cs : List Component} → Reduces LogOrder (by r) P σ P' σ' → Denotes P cs → All (λ c. c ≤ 255) σ' →
    Redex σ cs r P' σ'
unfolding acts component_answer position_of replace_at component_process
redex (OUTr {a} {σ} {σ'} p) (alone c e) h = acting (of_process (out a) c e) (puts_made σ a σ' p h) nothing
redex (INr {a} {P} {σ} {σ'} p) (alone c e) h =
    let (n, Q, shape, body) = of_process (inp a P) c e in
    acting shape (takes_made σ a σ' (IN a) (opens Q) p) (as_well body (opens_stand Q))
redex (REPr {a} {P} {σ} {σ'} p) (alone c e) h =
    let (n, Q, shape, body) = of_process (rep a P) c e in
    let again = repeating n a Q ∷ [] in
    let both = beside (as_well body (opens_stand Q)) (alone (idle (repeating n a Q)) (ap (rep a) body)) in
    acting shape (takes_made σ a σ' (REP a) (opens Q ++ again) p) (rw (map-append idle (opens Q) again) both)
redex (PARL {P = P} {Q = Q} d) (alone c e) h = absurd (of_process (par P Q) c e)
redex (PARL d) (beside s t) h = on_the_left (redex d s h) t
redex (PARR {P = P} {Q = Q} d) (alone c e) h = absurd (of_process (par P Q) c e)
redex (PARR d) (beside s t) h = on_the_right s (redex d t h)
redex (ATSTr {M} {σ}) (alone c e) h =
    let (n, N, shape, body) = of_process (atom M) c e in
    acting shape refl (alone (transaction n N σ (leaf N empty_log)) (cc))
redex (ATPASS {r} {A} {A'} {M} {σ} d) (alone c e) h =
    let (n, N, s, t, shape, tree, body) = of_process (ongoing A M) c e in
    let m = inner_move d s t tree in
    let made = m.made in
    let after = transaction n N s m.result in
    let image : ongoing A' M ≡ component_process after = cc m.image in
    rw shape (record {
      entry = inside 0 m.node;
      mover = transaction n N s t;
      laid = after ∷ [];
      found = refl;
      lacks = m.lacks;
      made = rw made;
      node = m.counted;
      stands = alone after image;
    })
redex (ATREr {M} {σ} {σ'} {δ}) (alone c e) h =
    let (n, N, s, K, shape, under, body) = of_leaf c e in
    let (k, kind) = of_expr retry K under in
    let whole : c ≡ transaction n N s (leaf (retry_t k) δ) = cc in
    acting whole refl (alone (idle (block n N)) (ap atom body))
redex (ATFAILr {M} {σ} {σ'} {δ} d) (alone c e) h =
    let (n, N, s, K, shape, under, body) = of_leaf c e in
    let (k, kind) = of_expr end K under in
    let whole : c ≡ transaction n N s (leaf (end_t k) δ) = cc in
    let unread = not_included_unreadable σ δ d in
    acting {w = shortage σ δ} whole (rw unread) (alone (idle (block n N)) (ap atom body))
redex (ATOKr {M} {σ} {σ'} {δ} {bs} d o) (alone c e) h =
    let (n, N, s, K, shape, under, body) = of_leaf c e in
    let (k, kind) = of_expr end K under in
    let whole : c ≡ transaction n N s (leaf (end_t k) δ) = cc in
    let read = included_readable σ δ d in
    acting {w = enough} whole (rw read) (as_well (ap outputs (sym o)) (outputs_stand (WT δ)))

-- ---- one choice

-- each leaf has a branch, so a tree with at most 8 branches has at most 15 nodes
pub few_nodes : (t : Tree) → suc (nodes t) ≤ branches_of t + branches_of t
unfolding nodes branches_of
few_nodes (leaf M δ) = let h = branches_positive M in omega arith
few_nodes (fork l r) = let h = few_nodes l in let g = few_nodes r in omega arith

-- an entry at a component of a well-formed configuration is of bytes
entry_in_bytes : (ts : List Term) (e : Entry) (c : Component) → position_of e < 64 → ComponentOk ts c → NodeOf e c → InBytes e
unfolding InBytes position_of ComponentOk
entry_in_bytes ts (act p) c h k n = omega arith
entry_in_bytes ts (inside p j) (idle c) h k n = absurd n
entry_in_bytes ts (inside p j) (transaction m M s t) h k n =
    let z = few_nodes t in
    let b = k.3 in (omega arith, omega arith)

-- one rule's reduction within the limits has its choice
one_rule : (ts : List Term) (h : Configuration) → WellFormed ts h → (P : Process) → Denotes P h.components → (r : Rule) (P' : Process) (σ' : State) →
    Reduces LogOrder (by r) P h.counts P' σ' → Bounded P' σ' → HasChoices (by r) h P' σ'
unfolding HasChoices Bounded
one_rule ts h ok P s r P' σ' d b =
    let m = redex d s b.0 in
    let p = position_of m.entry in
    let left = replace_at p m.laid h.components in
    let fits : length left ≤ 64 = let z = stands_length m.stands in let y = b.1 in omega arith in
    let below : p < 64 = let z = found_below h.components p m.mover m.found in let few = ok.few in omega arith in
    let sound = all_at (ComponentOk ts) h.components p m.mover ok.each m.found in
    let small = entry_in_bytes ts m.entry m.mover below sound m.node in
    let accepted = accepted_made h m.entry r σ' m.mover m.laid m.found m.made fits in
    (m.entry, record { counts = σ'; components = left }, small, accepted, refl, m.stands)

-- ---- COM

-- an output leaves one component fewer
pub out_leaves_fewer : {Order : List Name → List Name → Type 0} {a : Name} {P P' : Process} {σ σ' : State} →
    Reduces Order (by (OUT a)) P σ P' σ' → suc (parallel P') ≡ parallel P
unfolding parallel
out_leaves_fewer (OUTr p) = refl
out_leaves_fewer (PARL d) = let h = out_leaves_fewer d in omega arith
out_leaves_fewer (PARR d) = let h = out_leaves_fewer d in omega arith
out_leaves_fewer (ATPASS d) = absurd (no_output_inside d)

-- a communication within the limits has its two choices; the configuration between them is well formed
two_moves : (bs : List ℕ) (t : Table) → AcceptsTable bs t → (h : Configuration) → WellFormed t.terms h →
    (P : Process) → Denotes P h.components → (a : Name) (P' : Process) → TwoMoves LogOrder a P h.counts P' → Bounded P' h.counts → All (λ c. c ≤ 255) (add_token h.counts a) →
    HasChoices (COM a) h P' h.counts
unfolding HasChoices Bounded add_token
two_moves bs t acc h ok P s a P' m b g =
    next (one_rule t.terms h ok P s (OUT a) m.between (add_token h.counts a) m.puts (g, few))
  where
    few : parallel m.between ≤ 64
    few = let y = out_leaves_fewer m.puts in let z = stands_length s in let w = ok.few in omega arith

    next : HasChoices (by (OUT a)) h m.between (add_token h.counts a) → HasChoices (COM a) h P' h.counts
    next x =
        let (e, f, small, first, reached, between) = x in
        let kept = well_formed_step e (accepted_is_good bs t acc.1) ok first in
        let two = one_rule t.terms f kept m.between between m.second P' h.counts (rw reached m.takes) b in
        let (d, g', small', then, left, result) = two in
        (e, f, d, m.second, g', small, small', first, then, m.takes_one, left, result)

-- each reduction within the limits has its choices, with ATOK's outputs in log order
pub completeness : Completeness
unfolding Completeness WithinLimits
completeness bs t acc h ok P s (by r) P' σ' d b = one_rule t.terms h ok P s r P' σ' d b
completeness bs t acc h ok P s (COM a) P' σ' d b =
    let (two, same) = communication LogOrder d in
    rw same (two_moves bs t acc h ok P s a P' two (rw same at b.0) b.1)
