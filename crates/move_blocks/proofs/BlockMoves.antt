-- The moves of the rules 4 to 7, known by their numbers: which component makes each of them, and what it leaves.
-- Assumes nothing.
use Prim.Native.Nat.{ℕ, ◌≤◌}
use native.Mathlib.Omega.{arith}
use mathlib.Core.Path.{◌≡◌, refl}
use mathlib.Core.Bool.{true}
use mathlib.Core.List.{List, [], ◌∷◌, map}
use lib.Dec.{leb, eqb}
use Rattle.calculus.specs.Syntax.{Log, State}
use Rattle.calculus.specs.State.{count, without}
use Rattle.calculus.specs.Log.{RD, WT}
use Rattle.semantics.specs.Definitions.Layout.{max_count}
use Rattle.semantics.specs.Definitions.Terms.{Expression, end_t, retry_t, rd_t, wt_t, or_else_t}
use Rattle.semantics.specs.Definitions.Logs.{empty_log, readable}
use Rattle.semantics.specs.Definitions.Configuration.{taking, repeating, block, output, Tree, leaf, fork, Component, idle, transaction, Configuration}
use Rattle.semantics.specs.Definitions.Moves.{act, ComponentAnswer, moves, blocked, takes, puts, ends, acts, rule_number}
use Rattle.theorems.proofs.ByteReads.{by_cases}
use Rattle.hall_held.specs.Choices.{AcceptedBy}
use Rattle.hall_held.proofs.AcceptedActs.{Acted, acted}

-- what a block or its transaction makes of the counts σ and of itself, by the number of the rule
pub data BlockMove (σ : State) (c : Component) (k : ℕ) (τ : State) (cs : List Component) : Type 0 where
  begins : (n : ℕ) (M : Expression) → c ≡ idle (block n M) → k ≡ 4 → τ ≡ σ →
      cs ≡ transaction n M σ (leaf M empty_log) ∷ [] → BlockMove σ c k τ cs
  retries : (n : ℕ) (M : Expression) (s : State) (e : ℕ) (δ : Log) → c ≡ transaction n M s (leaf (retry_t e) δ) →
      k ≡ 5 → τ ≡ σ → cs ≡ idle (block n M) ∷ [] → BlockMove σ c k τ cs
  fails : (n : ℕ) (M : Expression) (s : State) (e : ℕ) (δ : Log) → c ≡ transaction n M s (leaf (end_t e) δ) →
      k ≡ 6 → τ ≡ σ → cs ≡ idle (block n M) ∷ [] → BlockMove σ c k τ cs
  commits : (n : ℕ) (M : Expression) (s : State) (e : ℕ) (δ : Log) → c ≡ transaction n M s (leaf (end_t e) δ) →
      readable σ δ ≡ true → k ≡ 7 → τ ≡ without σ (RD δ) → cs ≡ map (λ a. idle (output a)) (WT δ) → BlockMove σ c k τ cs

-- of a move with a number from 4 on
abbrev OfBlock : State → Component → ComponentAnswer → Type 0
OfBlock σ c (moves r w τ cs) = 4 ≤ rule_number r → BlockMove σ c (rule_number r) τ cs
OfBlock σ c (blocked n) = Unit {0}

-- where a transaction is
ends_by : (σ : State) (n : ℕ) (M : Expression) (s : State) (t : Tree) → OfBlock σ (transaction n M s t) (ends σ n M t)
unfolding ends rule_number
ends_by σ n M s (leaf (end_t e) δ) =
    by_cases (OfBlock σ (transaction n M s (leaf (end_t e) δ))) (readable σ δ) _ _
    (λ q l. commits n M s e δ refl q refl refl refl) (λ q l. fails n M s e δ refl refl refl refl)
ends_by σ n M s (leaf (retry_t e) δ) = λ l. retries n M s e δ refl refl refl refl
ends_by σ n M s (leaf (rd_t e a N) δ) = tt
ends_by σ n M s (leaf (wt_t e a N) δ) = tt
ends_by σ n M s (leaf (or_else_t e N N') δ) = tt
ends_by σ n M s (fork l r) = tt

-- at any component: tokens are passed by the rules 1 to 3
pub acts_by : (σ : State) (c : Component) → OfBlock σ c (acts σ c)
unfolding acts takes puts rule_number
acts_by σ (idle (taking n a P)) =
    by_cases (OfBlock σ (idle (taking n a P))) (eqb (count σ a) 0) _ _ (λ q. tt) (λ q l. absurd (omega arith))
acts_by σ (idle (repeating n a P)) =
    by_cases (OfBlock σ (idle (repeating n a P))) (eqb (count σ a) 0) _ _ (λ q. tt) (λ q l. absurd (omega arith))
acts_by σ (idle (block n M)) = λ l. begins n M refl refl refl refl
acts_by σ (idle (output a)) =
    by_cases (OfBlock σ (idle (output a))) (leb max_count (count σ a)) _ _ (λ q. tt) (λ q l. absurd (omega arith))
acts_by σ (transaction n M s t) = ends_by σ n M s t

-- an act that is accepted by such a rule, with the move that its component makes
pub record BlockActed (h : Configuration) (p k : ℕ) : Type 0 where
  pub acted : Acted h p k
  pub move : BlockMove h.counts acted.component k acted.result.counts acted.laid

pub block_acted : (h : Configuration) (p k : ℕ) → 4 ≤ k → AcceptedBy h (act p) k → BlockActed h p k
block_acted h p k l q =
    let a = acted h p k q in
    let move = rw a.local at (acts_by h.counts a.component) in
    record { acted = a; move = rw a.number at (move (rw a.number l)) }
