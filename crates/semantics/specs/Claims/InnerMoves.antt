-- What is claimed of the moves inside an attempt (demand 3, on the path that a block takes): in any order they come to
-- an end, and to one outcome only.
-- Assumes nothing.
use Rattle.std.specs.Prelude.{ℕ, ◌+◌, ◌<◌, ◌≡◌, [], ◌∷◌}
use Rattle.std.proofs.Math.Option.{none, some}
use Rattle.std.proofs.Math.ListN.{get_elem?}
use Rattle.calculus.specs.Syntax.{Log, State}
use Rattle.calculus.specs.Reduction.{Rule}
use Rattle.semantics.specs.Definitions.Run.{InBytes}
use Rattle.semantics.specs.Definitions.Basics.{replace_at}
use Rattle.semantics.specs.Definitions.Shortage.{Shortage}
use Rattle.semantics.specs.Definitions.Terms.{Expression, end_t, retry_t, rd_t, wt_t, or_else_t}
use Rattle.semantics.specs.Definitions.Logs.{empty_log, first_readable}
use Rattle.semantics.specs.Definitions.Configuration.{Tree, leaf, fork, transaction, Configuration}
use Rattle.semantics.specs.Definitions.Moves.{inside, moved, transition, evolves, move_at}
use Rattle.semantics.specs.Claims.Correspondence.{EveryHall}

-- the measure: 1 for an action, 2 for an orElse, of which 1 stays with the fork that it becomes
unfoldable pub weight_of : Expression → ℕ
weight_of (end_t n) = 0
weight_of (retry_t n) = 0
weight_of (rd_t n a M) = 1 + weight_of M
weight_of (wt_t n a M) = 1 + weight_of M
weight_of (or_else_t n M N) = 2 + (weight_of M + weight_of N)

unfoldable pub weight : Tree → ℕ
unfolding weight_of
weight (leaf M δ) = weight_of M
weight (fork l r) = 1 + (weight l + weight r)

-- a single end or retry leaf
abbrev pub Settled : Tree → Type 0
Settled (leaf (end_t n) δ) = Unit {0}
Settled (leaf (retry_t n) δ) = Unit {0}
Settled (leaf (rd_t n a M) δ) = ⊥
Settled (leaf (wt_t n a M) δ) = ⊥
Settled (leaf (or_else_t n M N) δ) = ⊥
Settled (fork l r) = ⊥

-- some moves inside, one after another, in any order
pub data Moves (s : State) : Tree → Tree → Type 0 where
  unmoved : {t : Tree} → Moves s t t
  moved_on : {t u v : Tree} {w : Shortage} (k : ℕ) (r : Rule) → move_at s t k ≡ evolves r w u → Moves s u v →
      Moves s t v

-- on every well-formed hall: a move inside the attempt at p is one of its nodes', lowers its measure and changes
-- nothing else
unfoldable pub MovesLowerWeight : Type 0
unfolding weight
MovesLowerWeight = EveryHall (λ t h.
    (p k n : ℕ) (M : Expression) (s : State) (u : Tree) → get_elem? h.components p ≡ some (transaction n M s u) →
    (r : Rule) (g : Configuration) → transition h (inside p k) ≡ moved r g →
    (w : Shortage) × (v : Tree) × (move_at s u k ≡ evolves r w v) × (weight v < weight u) ×
    (g ≡ record { counts = h.counts; components = replace_at p (transaction n M s v ∷ []) h.components }))

-- an attempt that is not settled yet can move at one of its nodes
unfoldable pub MovesGoOn : Type 0
unfolding InBytes
MovesGoOn = EveryHall (λ t h.
    (p n : ℕ) (M : Expression) (s : State) (u : Tree) → get_elem? h.components p ≡ some (transaction n M s u) →
    ¬ Settled u →
    (k : ℕ) × (r : Rule) × (g : Configuration) × InBytes (inside p k) × (transition h (inside p k) ≡ moved r g))

-- and a single end or retry leaf has none
unfoldable pub SettledHasNoRule : Type 0
SettledHasNoRule = (s : State) (u : Tree) → Settled u →
    (k : ℕ) (r : Rule) (w : Shortage) (v : Tree) → move_at s u k ≡ evolves r w v → ⊥

-- whatever the order of the moves, one and the same tree stands at the end, its log and its term number included; from
-- every tree, also one that no run reached
unfoldable pub OneOutcome : Type 0
OneOutcome = (s : State) (u v w : Tree) → Moves s u v → Settled v → Moves s u w → Settled w → v ≡ w

-- an attempt that a run opened, whatever the order of its moves, is settled by its block's first path readable at the
-- snapshot: at end with that path as its log, at retry where there is none
unfoldable pub MovesSettleFirstPath : Type 0
unfolding empty_log
MovesSettleFirstPath =
    (s : State) (M : Expression) (n : ℕ) (δ : Log) →
    (Moves s (leaf M empty_log) (leaf (end_t n) δ) → first_readable s M ≡ some δ) ×
    (Moves s (leaf M empty_log) (leaf (retry_t n) δ) → first_readable s M ≡ none)
