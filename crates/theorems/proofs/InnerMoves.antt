-- The moves inside an attempt, in any order, come to an end and to one end only: the claims of specs/Claims/InnerMoves.
-- Assumes nothing.
use Prim.Native.Nat.{ℕ, zero, suc, ◌≤◌, ◌<◌}
use native.Mathlib.Omega.{arith}
use mathlib.Core.Path.{◌≡◌, refl, sym, ap, ◌∙◌}
use mathlib.Core.Bool.{Bool, true, false, cond}
use mathlib.Core.Option.{some}
use mathlib.Core.List.{List, [], ◌∷◌, ◌++◌}
use lib.ListN.{length, get_elem?}
use borrow.Author.Tests.{le-leb}
use Rattle.calculus.specs.Syntax.{Name, rd, wt, Log, State}
use Rattle.calculus.specs.Reduction.{Rule, ARDOK, ARDF, AWR, AOI, AOF, AOE}
use Rattle.semantics.specs.Definitions.Run.{InBytes}
use Rattle.semantics.specs.Definitions.Basics.{replace_at}
use Rattle.semantics.specs.Definitions.Terms.{Expression, end_t, retry_t, rd_t, wt_t, or_else_t}
use Rattle.semantics.specs.Definitions.Shortage.{Shortage, enough}
use Rattle.semantics.specs.Definitions.Logs.{shortage, readable}
use Rattle.semantics.specs.Definitions.Configuration.{Tree, leaf, fork, Component, transaction, Configuration, branches_of}
use Rattle.semantics.specs.Definitions.Stored.{ComponentOk}
use Rattle.semantics.specs.Definitions.Moves.{inside, moved, moves, transition, NodeAnswer, evolves, no_rule, out_of_range, move_at, inside_answer, rule_number}
use Rattle.semantics.specs.Claims.InnerMoves.{weight, Settled, Moves, unmoved, moved_on, MovesLowerWeight, MovesGoOn, SettledHasNoRule, OneOutcome, MovesSettleFirstPath}
use Rattle.theorems.proofs.Walk.{left_evolves}
use Rattle.theorems.proofs.Measures.{tree_branches_positive}
use Rattle.theorems.proofs.Lists.{found_below, length_replace_at, all_at}
use Rattle.theorems.proofs.Moves.{position_of, component_answer, accepted_inverts, Moving, inner_induction}
use Rattle.theorems.proofs.Outcome.{Faithful, StaysFaithful, faithful_start, faithful_move, faithful_end, faithful_retry}

-- ---- the measure

-- every move inside lowers it
pub move_at_lowers : (s : State) (t : Tree) (k : ℕ) → Moving (λ t r u. weight u < weight t) t (move_at s t k)
unfolding weight
move_at_lowers s = inner_induction (record {
  ardok = λ n a M δ e. omega arith;
  ardf = λ n a M δ e. omega arith;
  awr = λ n a M δ. omega arith;
  aoi = λ n M N δ. omega arith;
  aof = λ n δ r. omega arith;
  aoe = λ n δ r. omega arith;
  aol = λ l r u e h. omega arith;
  aor = λ l r u e h. omega arith;
})

-- ---- there is a move unless the tree is a single end or retry leaf

-- a node at which the tree moves, of at most as many as it has branches
abbrev pub Mover : State → Tree → Type 0
Mover s t = (k : ℕ) × (r : Rule) × (w : Shortage) × (u : Tree) × (move_at s t k ≡ evolves r w u) × (k < branches_of t)

-- a read moves, by ARDOK or by ARDF
read_mover : (s : State) (n : ℕ) (a : Name) (M : Expression) (δ : Log) → Mover s (leaf (rd_t n a M) δ)
unfolding move_at
read_mover s n a M δ = go (readable s (δ ++ (rd a ∷ []))) refl
  where
    go : (b : Bool) → readable s (δ ++ (rd a ∷ [])) ≡ b → Mover s (leaf (rd_t n a M) δ)
    go true e = (0, ARDOK, enough, leaf M (δ ++ (rd a ∷ [])), rw e, tree_branches_positive (leaf (rd_t n a M) δ))
    go false e = (0, ARDF, shortage s (δ ++ (rd a ∷ [])), leaf (retry_t 255) δ, rw e, tree_branches_positive (leaf (rd_t n a M) δ))

-- a move in the left side of a fork is a move of the fork
left_mover : (s : State) (l r : Tree) → Mover s l → Mover s (fork l r)
unfolding branches_of
left_mover s l r (k, e, w, u, q, h) = let g = tree_branches_positive r in (suc k, e, w, fork u r, left_evolves s l r k q, omega arith)

-- there is such a node in every tree that is not settled
pub mover : (s : State) (t : Tree) → ¬ Settled t → Mover s t
unfolding move_at
mover s (leaf (end_t n) δ) h = absurd (h tt)
mover s (leaf (retry_t n) δ) h = absurd (h tt)
mover s (leaf (rd_t n a M) δ) h = read_mover s n a M δ
mover s (leaf (wt_t n a M) δ) h = (0, AWR, enough, leaf M (δ ++ (wt a ∷ [])), refl, tree_branches_positive (leaf (wt_t n a M) δ))
mover s (leaf (or_else_t n M N) δ) h = (0, AOI, enough, fork (leaf M δ) (leaf N δ), refl, tree_branches_positive (leaf (or_else_t n M N) δ))
mover s (fork (leaf (end_t n) δ) r) h = (0, AOE, enough, leaf (end_t n) δ, refl, tree_branches_positive (fork (leaf (end_t n) δ) r))
mover s (fork (leaf (retry_t n) δ) r) h = (0, AOF, enough, r, refl, tree_branches_positive (fork (leaf (retry_t n) δ) r))
mover s (fork (leaf (rd_t n a M) δ) r) h = left_mover s (leaf (rd_t n a M) δ) r (mover s (leaf (rd_t n a M) δ) (λ x. x))
mover s (fork (leaf (wt_t n a M) δ) r) h = left_mover s (leaf (wt_t n a M) δ) r (mover s (leaf (wt_t n a M) δ) (λ x. x))
mover s (fork (leaf (or_else_t n M N) δ) r) h = left_mover s (leaf (or_else_t n M N) δ) r (mover s (leaf (or_else_t n M N) δ) (λ x. x))
mover s (fork (fork l m) r) h = left_mover s (fork l m) r (mover s (fork l m) (λ x. x))

-- and a single end or retry leaf has none
pub settled_has_no_rule : SettledHasNoRule
unfolding SettledHasNoRule move_at
settled_has_no_rule s (leaf (end_t n) δ) h zero r w v e = let z : ◌≡◌ {A = ℕ} 0 1 = cc in omega arith
settled_has_no_rule s (leaf (end_t n) δ) h (suc k) r w v e = let z : ◌≡◌ {A = ℕ} 0 1 = cc in omega arith
settled_has_no_rule s (leaf (retry_t n) δ) h zero r w v e = let z : ◌≡◌ {A = ℕ} 0 1 = cc in omega arith
settled_has_no_rule s (leaf (retry_t n) δ) h (suc k) r w v e = let z : ◌≡◌ {A = ℕ} 0 1 = cc in omega arith
settled_has_no_rule s (leaf (rd_t n a M) δ) h k r w v e = h
settled_has_no_rule s (leaf (wt_t n a M) δ) h k r w v e = h
settled_has_no_rule s (leaf (or_else_t n M N) δ) h k r w v e = h
settled_has_no_rule s (fork l m) h k r w v e = h

-- ---- the one end

-- a fork that has come to rest in its left side: an end there remains, a retry gives way to the right side
settled_fork : Tree → Tree → Tree
settled_fork (leaf (end_t n) δ) r = leaf (end_t n) δ
settled_fork (leaf (retry_t n) δ) r = r
settled_fork (leaf (rd_t n a M) δ) r = fork (leaf (rd_t n a M) δ) r
settled_fork (leaf (wt_t n a M) δ) r = fork (leaf (wt_t n a M) δ) r
settled_fork (leaf (or_else_t n M N) δ) r = fork (leaf (or_else_t n M N) δ) r
settled_fork (fork l m) r = fork (fork l m) r

-- the tree in which moves at a snapshot end: of a leaf, and of every tree
final_leaf : State → Expression → Log → Tree
final_leaf s (end_t n) δ = leaf (end_t n) δ
final_leaf s (retry_t n) δ = leaf (retry_t n) δ
final_leaf s (rd_t n a M) δ =
    cond (readable s (δ ++ (rd a ∷ []))) (final_leaf s M (δ ++ (rd a ∷ []))) (leaf (retry_t 255) δ)
final_leaf s (wt_t n a M) δ = final_leaf s M (δ ++ (wt a ∷ []))
final_leaf s (or_else_t n M N) δ = settled_fork (final_leaf s M δ) (final_leaf s N δ)

final : State → Tree → Tree
final s (leaf M δ) = final_leaf s M δ
final s (fork l r) = settled_fork (final s l) (final s r)

-- every move inside keeps it
move_at_keeps_final : (s : State) (t : Tree) (k : ℕ) → Moving (λ t r u. final s u ≡ final s t) t (move_at s t k)
unfolding final final_leaf settled_fork
move_at_keeps_final s = inner_induction (record {
  ardok = λ n a M δ e. rw e;
  ardf = λ n a M δ e. rw e;
  awr = λ n a M δ. refl;
  aoi = λ n M N δ. refl;
  aof = λ n δ r. refl;
  aoe = λ n δ r. refl;
  aol = λ l r u e h. ap (λ x. settled_fork x (final s r)) h;
  aor = λ l r u e h. ap (settled_fork (final s l)) h;
})

-- and so do any number of them
moves_keep_final : {s : State} {t u : Tree} → Moves s t u → final s u ≡ final s t
moves_keep_final unmoved = refl
moves_keep_final {s} (moved_on {t = t} {u = u} k r e m) =
    let one : final s u ≡ final s t = rw e at (move_at_keeps_final s t k) in moves_keep_final m ∙ one

-- a single end or retry leaf is its own final tree
settled_final : (s : State) (t : Tree) → Settled t → final s t ≡ t
unfolding final final_leaf
settled_final s (leaf (end_t n) δ) h = refl
settled_final s (leaf (retry_t n) δ) h = refl
settled_final s (leaf (rd_t n a M) δ) h = absurd h
settled_final s (leaf (wt_t n a M) δ) h = absurd h
settled_final s (leaf (or_else_t n M N) δ) h = absurd h
settled_final s (fork l r) h = absurd h

-- so two of them that were reached from one tree are the same
pub one_outcome : OneOutcome
unfolding OneOutcome
one_outcome s u v w m h n k =
    sym (settled_final s v h) ∙ moves_keep_final m ∙ sym (moves_keep_final n) ∙ settled_final s w k

-- ---- the first readable path

-- some moves inside keep a tree true to its block
pub moves_keep : (s : State) (M : Expression) {t u : Tree} → Moves s t u → Faithful s M t → Faithful s M u
moves_keep s M unmoved f = f
moves_keep s M (moved_on {t = t} {u = u} {w = w} k r e m) f =
    let one : StaysFaithful s M (evolves r w u) = rw e at (faithful_move s M t k f) in moves_keep s M m one

-- one move more, at the end
pub moves_snoc : {s : State} {t u v : Tree} {w : Shortage} (k : ℕ) (r : Rule) → Moves s t u → move_at s u k ≡ evolves r w v → Moves s t v
moves_snoc k r unmoved e = moved_on k r e unmoved
moves_snoc k r (moved_on j x d m) e = moved_on j x d (moves_snoc k r m e)

-- moves in any order settle the first path readable at the snapshot
pub moves_settle_first_path : MovesSettleFirstPath
unfolding MovesSettleFirstPath
moves_settle_first_path s M n δ =
    let start = faithful_start s M in
    (λ m. faithful_end s M n δ (moves_keep s M m start), λ m. faithful_retry s M n δ (moves_keep s M m start))

-- ---- the rules of the moves inside

-- a move inside is by one of the rules 8 to 13
pub move_at_rule : (s : State) (t : Tree) (k : ℕ) → Moving (λ t r u. 8 ≤ rule_number r) t (move_at s t k)
unfolding rule_number
move_at_rule s = inner_induction (record {
  ardok = λ n a M δ e. omega arith;
  ardf = λ n a M δ e. omega arith;
  awr = λ n a M δ. omega arith;
  aoi = λ n M N δ. omega arith;
  aof = λ n δ r. omega arith;
  aoe = λ n δ r. omega arith;
  aol = λ l r u e h. h;
  aor = λ l r u e h. h;
})

-- ---- on a configuration

-- a move inside a transaction is a move of its nodes, which changes its nodes alone
pub inside_moved : (σ : State) (p k n : ℕ) (M : Expression) (s : State) (u : Tree) (r : Rule) (w : Shortage) (σ' : State) (cs : List Component) →
    component_answer σ (transaction n M s u) (inside p k) ≡ moves r w σ' cs →
    (v : Tree) × (move_at s u k ≡ evolves r w v) × (σ ≡ σ') × (transaction n M s v ∷ [] ≡ cs)
unfolding component_answer inside_answer
inside_moved σ p k n M s u r w σ' cs q = go (move_at s u k) refl q
  where
    go : (i : NodeAnswer) → move_at s u k ≡ i → inside_answer σ n M s i ≡ moves r w σ' cs →
        (v : Tree) × (move_at s u k ≡ evolves r w v) × (σ ≡ σ') × (transaction n M s v ∷ [] ≡ cs)
    go (evolves r' w' v) i q = let z : r' ≡ r = cc in let y : w' ≡ w = cc in (v, i ∙ rw (z, y), cc, cc)
    go no_rule i q = let z : ◌≡◌ {A = ℕ} 0 1 = cc in absurd (omega arith)
    go out_of_range i q = let z : ◌≡◌ {A = ℕ} 0 1 = cc in absurd (omega arith)

-- an accepted move inside the attempt at p is a move of its nodes, and changes nothing else
pub inside_alone : (h : Configuration) (p k n : ℕ) (M : Expression) (s : State) (u : Tree) →
    get_elem? h.components p ≡ some (transaction n M s u) → (r : Rule) (g : Configuration) → transition h (inside p k) ≡ moved r g →
    (w : Shortage) × (v : Tree) × (move_at s u k ≡ evolves r w v) × (g.counts ≡ h.counts) × (g.components ≡ replace_at p (transaction n M s v ∷ []) h.components)
unfolding position_of
inside_alone h p k n M s u e r g q =
    let m = accepted_inverts h (inside p k) r g q in
    let same : m.component ≡ transaction n M s u = cc m.found in
    let own : component_answer h.counts (transaction n M s u) (inside p k) ≡ moves r m.lacks g.counts m.laid = rw (← same) m.local in
    let i = inside_moved h.counts p k n M s u r m.lacks g.counts m.laid own in
    (m.lacks, i.0, i.1, sym i.2, rw i.3 m.placed)

-- a move inside the attempt at p lowers its measure
pub moves_lower_weight : MovesLowerWeight
unfolding MovesLowerWeight
moves_lower_weight bs t a h w p k n M s u e r g q =
    let i = inside_alone h p k n M s u e r g q in
    let low : weight i.1 < weight u = rw i.2 at (move_at_lowers s u k) in
    (i.0, i.1, i.2, low, λ j. record { counts = i.3 j; components = i.4 j })

-- an attempt that is not settled yet can move at one of its nodes
pub moves_go_on : MovesGoOn
unfolding MovesGoOn InBytes transition ComponentOk
moves_go_on bs t a h w p n M s u e live = go (mover s u live)
  where
    go : Mover s u → (k : ℕ) × (r : Rule) × (g : Configuration) × InBytes (inside p k) × (transition h (inside p k) ≡ moved r g)
    go (k, r, lacks, v, q, b) =
        let below = found_below h.components p (transaction n M s u) e in
        let few = w.few in
        let ok = all_at (ComponentOk t.terms) h.components p (transaction n M s u) w.each e in
        let long = length_replace_at h.components (transaction n M s v ∷ []) p below in (
          k,
          r,
          record { counts = h.counts; components = replace_at p (transaction n M s v ∷ []) h.components },
          (omega arith, omega arith),
          rw (e, q, le-leb (length (replace_at p (transaction n M s v ∷ []) h.components)) 64 (omega arith)),
        )
