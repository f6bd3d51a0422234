-- Driving an attempt to its end (document 01, "The one-step run", the converse): the moves at the nodes that `nodes_for` gives turn
-- an expression's leaf into a single end leaf whose log is the first readable path, or into a retry leaf where there is none.
-- Each of those moves is at the leaf in hand or at the fork that it became, which stands on the left of every fork around it.
-- Assumes nothing.
use Prim.Native.Nat.{ℕ, suc, ◌+◌, ◌≤◌, ◌<◌}
use native.Mathlib.Omega.{arith}
use mathlib.Core.Path.{◌≡◌, refl}
use mathlib.Core.Bool.{Bool, true, false, cond}
use mathlib.Core.Option.{Option, none, some}
use mathlib.Core.List.{List, [], ◌∷◌, ◌++◌}
use lib.ListN.{length}
use Rattle.calculus.specs.Syntax.{Name, rd, wt, Log, State}
use Rattle.calculus.specs.Reduction.{Rule, ARDOK, ARDF, AWR, AOI, AOF, AOE}
use Rattle.semantics.specs.Definitions.Basics.{All}
use Rattle.semantics.specs.Definitions.Terms.{Expression, end_t, retry_t, rd_t, wt_t, or_else_t, branches}
use Rattle.semantics.specs.Definitions.Shortage.{Shortage, enough}
use Rattle.semantics.specs.Definitions.Logs.{empty_log, shortage, readable, first_readable}
use Rattle.semantics.specs.Definitions.Configuration.{Tree, leaf, fork}
use Rattle.semantics.specs.Definitions.Moves.{evolves, move_at, at_leaf, reads, at_fork}
use Rattle.theorems.proofs.Walk.{left_evolves}
use Rattle.theorems.proofs.Measures.{branches_positive}
use Rattle.theorems.proofs.Lists.{all_append}
use Rattle.theorems.proofs.Outcome.{first_from, readable_empty, readable_write, or_else_of, first_from_empty, first_from_end, first_from_retry, first_from_rd, first_from_wt, first_from_or_else, first_from_unreadable}

-- the nodes to move at, for a leaf at preorder node k until it is a single end or retry leaf: the left side of an orElse
-- first, then the fork, then where the left side failed the right one
unfoldable pub nodes_for : State → Expression → Log → (k : ℕ) → List ℕ
unfolding first_from readable
nodes_for s (end_t n) δ k = []
nodes_for s (retry_t n) δ k = []
nodes_for s (rd_t n a M) δ k = k ∷ cond (readable s (δ ++ (rd a ∷ []))) (nodes_for s M (δ ++ (rd a ∷ [])) k) []
nodes_for s (wt_t n a M) δ k = k ∷ nodes_for s M (δ ++ (wt a ∷ [])) k
nodes_for s (or_else_t n M N) δ k = k ∷ (nodes_for s M δ (suc k) ++ (k ∷ unless_ended (first_from s M δ) (nodes_for s N δ k)))
  where
    unless_ended : Option Log → List ℕ → List ℕ
    unless_ended none ks = ks
    unless_ended (some π) ks = []

-- moves inside at a list of nodes, one after another
pub data Driven (s : State) : Tree → List ℕ → Tree → Type 0 where
  arrived : {t : Tree} → Driven s t [] t
  driven : {t u v : Tree} {w : Shortage} {k : ℕ} {ks : List ℕ} (r : Rule) → move_at s t k ≡ evolves r w u → Driven s u ks v → Driven s t (k ∷ ks) v

-- one list of nodes after another
driven_append : {s : State} {t u v : Tree} {ks js : List ℕ} → Driven s t ks u → Driven s u js v → Driven s t (ks ++ js) v
driven_append arrived e = e
driven_append (driven r m d) e = driven r m (driven_append d e)

-- a tree with these right sides behind it, the nearest first: it stands at the node that is their number
unfoldable pub beside : List Tree → Tree → Tree
beside [] t = t
beside (r ∷ rs) t = beside rs (fork t r)

-- a move in it
beside_moves : {w : Shortage} (s : State) (rs : List Tree) (t u : Tree) (k : ℕ) (r : Rule) → move_at s t k ≡ evolves r w u →
    move_at s (beside rs t) (length rs + k) ≡ evolves r w (beside rs u)
unfolding beside
beside_moves s [] t u k r e = let z : 0 + k ≡ k = omega arith in rw z e
beside_moves s (x ∷ rs) t u k r e =
    let z : suc (length rs) + k ≡ length rs + suc k = omega arith in rw z (beside_moves s rs (fork t x) (fork u x) (suc k) r (left_evolves s t x k e))

-- at its root
beside_root : {w : Shortage} (s : State) (rs : List Tree) (t u : Tree) (r : Rule) → move_at s t 0 ≡ evolves r w u → move_at s (beside rs t) (length rs) ≡ evolves r w (beside rs u)
beside_root s rs t u r e = let z : length rs + 0 ≡ length rs = omega arith in rw z at (beside_moves s rs t u 0 r e)

-- a tree settled with an outcome: an end leaf with this log, or a retry leaf
abbrev pub SettledAt : Option Log → Tree → Type 0
SettledAt (some π) t = (n : ℕ) × (t ≡ leaf (end_t n) π)
SettledAt none t = (n : ℕ) × (δ : Log) × (t ≡ leaf (retry_t n) δ)

-- what the nodes drive an expression's leaf to, among these right sides
pub record Drives (s : State) (M : Expression) (δ : Log) (rs : List Tree) : Type 0 where
  pub result : Tree
  pub made : Driven s (beside rs (leaf M δ)) (nodes_for s M δ (length rs)) (beside rs result)
  pub settled : SettledAt (first_from s M δ) result

-- the nodes, case by case
nodes_end : (s : State) (n : ℕ) (δ : Log) (k : ℕ) → nodes_for s (end_t n) δ k ≡ []
unfolding nodes_for
nodes_end s n δ k = refl

nodes_retry : (s : State) (n : ℕ) (δ : Log) (k : ℕ) → nodes_for s (retry_t n) δ k ≡ []
unfolding nodes_for
nodes_retry s n δ k = refl

nodes_rd : (s : State) (n : ℕ) (a : Name) (M : Expression) (δ : Log) (k : ℕ) →
    nodes_for s (rd_t n a M) δ k ≡ k ∷ cond (readable s (δ ++ (rd a ∷ []))) (nodes_for s M (δ ++ (rd a ∷ [])) k) []
unfolding nodes_for
nodes_rd s n a M δ k = refl

nodes_wt : (s : State) (n : ℕ) (a : Name) (M : Expression) (δ : Log) (k : ℕ) → nodes_for s (wt_t n a M) δ k ≡ k ∷ nodes_for s M (δ ++ (wt a ∷ [])) k
unfolding nodes_for
nodes_wt s n a M δ k = refl

nodes_ended : (s : State) (n : ℕ) (M N : Expression) (δ : Log) (k : ℕ) (π : Log) → first_from s M δ ≡ some π →
    nodes_for s (or_else_t n M N) δ k ≡ k ∷ (nodes_for s M δ (suc k) ++ (k ∷ []))
unfolding nodes_for
nodes_ended s n M N δ k π e = rw e

nodes_retried : (s : State) (n : ℕ) (M N : Expression) (δ : Log) (k : ℕ) → first_from s M δ ≡ none →
    nodes_for s (or_else_t n M N) δ k ≡ k ∷ (nodes_for s M δ (suc k) ++ (k ∷ nodes_for s N δ k))
unfolding nodes_for
nodes_retried s n M N δ k e = rw e

-- an orElse whose left side is driven to its end among one more right side, and whose right side is driven to its end
drives_or_else : (s : State) (n : ℕ) (M N : Expression) (δ : Log) (rs : List Tree) → Drives s M δ (leaf N δ ∷ rs) → Drives s N δ rs →
    Drives s (or_else_t n M N) δ rs
unfolding beside move_at at_leaf at_fork or_else_of
drives_or_else s n M N δ rs first second = go (first_from s M δ) refl first.settled
  where
    begun : move_at s (beside rs (leaf (or_else_t n M N) δ)) (length rs) ≡ evolves AOI enough (beside rs (fork (leaf M δ) (leaf N δ)))
    begun = beside_root s rs (leaf (or_else_t n M N) δ) (fork (leaf M δ) (leaf N δ)) AOI refl

    ended : (m : ℕ) (π : Log) → first.result ≡ leaf (end_t m) π →
        move_at s (beside rs (fork first.result (leaf N δ))) (length rs) ≡ evolves AOE enough (beside rs (leaf (end_t m) π))
    ended m π r = rw r (beside_root s rs (fork (leaf (end_t m) π) (leaf N δ)) (leaf (end_t m) π) AOE refl)

    retried : (m : ℕ) (π : Log) → first.result ≡ leaf (retry_t m) π →
        move_at s (beside rs (fork first.result (leaf N δ))) (length rs) ≡ evolves AOF enough (beside rs (leaf N δ))
    retried m π r = rw r (beside_root s rs (fork (leaf (retry_t m) π) (leaf N δ)) (leaf N δ) AOF refl)

    go : (o : Option Log) → first_from s M δ ≡ o → SettledAt o first.result → Drives s (or_else_t n M N) δ rs
    go (some π) e r =
        record {
          result = leaf (end_t r.0) π;
          made = rw (nodes_ended s n M N δ (length rs) π e) (driven AOI begun (driven_append first.made (driven AOE (ended r.0 π r.1) arrived)));
          settled = rw (first_from_or_else, e) (r.0, refl);
        }
    go none e r =
        record {
          result = second.result;
          made =
              rw (nodes_retried s n M N δ (length rs) e)
              (driven AOI begun (driven_append first.made (driven AOF (retried r.0 r.1 r.2) second.made)));
          settled = rw (first_from_or_else, e) second.settled;
        }

-- Every expression's leaf, its log readable, among any right sides.
pub drives : (s : State) (M : Expression) (δ : Log) → readable s δ ≡ true → (rs : List Tree) → Drives s M δ rs
unfolding move_at at_leaf reads
drives s (end_t n) δ h rs = record { result = leaf (end_t n) δ; made = rw nodes_end arrived; settled = rw (first_from_end s n δ h) (n, refl) }
drives s (retry_t n) δ h rs = record { result = leaf (retry_t n) δ; made = rw nodes_retry arrived; settled = rw first_from_retry (n, δ, refl) }
drives s (rd_t n a M) δ h rs = go (readable s (δ ++ (rd a ∷ []))) refl (λ e. drives s M (δ ++ (rd a ∷ [])) e rs)
  where
    go : (b : Bool) → readable s (δ ++ (rd a ∷ [])) ≡ b → (readable s (δ ++ (rd a ∷ [])) ≡ true → Drives s M (δ ++ (rd a ∷ [])) rs) → Drives s (rd_t n a M) δ rs
    go true e next =
        let d = next e in
        record {
          result = d.result;
          made = rw (nodes_rd, e) (driven {w = enough} ARDOK (beside_root s rs (leaf (rd_t n a M) δ) (leaf M (δ ++ (rd a ∷ []))) ARDOK (rw e)) d.made);
          settled = rw first_from_rd d.settled;
        }
    go false e next =
        record {
          result = leaf (retry_t 255) δ;
          made = rw (nodes_rd, e) (driven {w = shortage s (δ ++ (rd a ∷ []))} ARDF (beside_root s rs (leaf (rd_t n a M) δ) (leaf (retry_t 255) δ) ARDF (rw e)) arrived);
          settled = rw (first_from_rd, first_from_unreadable s M (δ ++ (rd a ∷ [])) e) (255, δ, refl);
        }
drives s (wt_t n a M) δ h rs =
    let d = drives s M (δ ++ (wt a ∷ [])) (readable_write s δ a h) rs in
    record {
      result = d.result;
      made = rw nodes_wt (driven AWR (beside_root s rs (leaf (wt_t n a M) δ) (leaf M (δ ++ (wt a ∷ []))) AWR refl) d.made);
      settled = rw first_from_wt d.settled;
    }
drives s (or_else_t n M N) δ h rs = drives_or_else s n M N δ rs (drives s M δ h (leaf N δ ∷ rs)) (drives s N δ h rs)

-- An attempt just opened, where its block has a readable path: driven to a single end leaf with the first one.
pub drives_commit : (s : State) (M : Expression) (π : Log) → first_readable s M ≡ some π →
    (e : ℕ) × Driven s (leaf M empty_log) (nodes_for s M empty_log 0) (leaf (end_t e) π)
unfolding beside empty_log
drives_commit s M π found =
    let d = drives s M [] (readable_empty s) [] in
    let r : SettledAt (some π) d.result = rw (first_from_empty s M, found) at d.settled in
    (r.0, rw r.1 at d.made)

-- ---- the nodes are few

-- every node that is moved at lies less than the expression's branches behind the first
pub nodes_few : (s : State) (M : Expression) (δ : Log) (k b : ℕ) → k + branches M ≤ b → All (λ j. j < b) (nodes_for s M δ k)
unfolding branches
nodes_few s (end_t n) δ k b h = rw nodes_end tt
nodes_few s (retry_t n) δ k b h = rw nodes_retry tt
nodes_few s (rd_t n a M) δ k b h = rw nodes_rd (let z = branches_positive M in omega arith, go (readable s (δ ++ (rd a ∷ []))) (nodes_few s M (δ ++ (rd a ∷ [])) k b h))
  where
    go : (c : Bool) → All (λ j. j < b) (nodes_for s M (δ ++ (rd a ∷ [])) k) → All (λ j. j < b) (cond c (nodes_for s M (δ ++ (rd a ∷ [])) k) [])
    go true z = z
    go false z = tt
nodes_few s (wt_t n a M) δ k b h = rw nodes_wt (let z = branches_positive M in omega arith, nodes_few s M (δ ++ (wt a ∷ [])) k b h)
nodes_few s (or_else_t n M N) δ k b h =
    go
    (first_from s M δ)
    refl
    (let z = branches_positive N in nodes_few s M δ (suc k) b (omega arith))
    (let z = branches_positive M in nodes_few s N δ k b (omega arith))
  where
    below : k < b
    below = let z = branches_positive M in omega arith

    go : (o : Option Log) → first_from s M δ ≡ o → All (λ j. j < b) (nodes_for s M δ (suc k)) → All (λ j. j < b) (nodes_for s N δ k) →
        All (λ j. j < b) (nodes_for s (or_else_t n M N) δ k)
    go (some π) e left right =
        rw (nodes_ended s n M N δ k π e) (below, all_append (λ j. j < b) (nodes_for s M δ (suc k)) (k ∷ []) left (below, tt))
    go none e left right =
        rw (nodes_retried s n M N δ k e) (below, all_append (λ j. j < b) (nodes_for s M δ (suc k)) (k ∷ nodes_for s N δ k) left (below, right))
