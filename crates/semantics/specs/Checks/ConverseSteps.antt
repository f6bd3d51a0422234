-- The steps of the converse (Claims/ConverseRuns) are those that document 01 means: just what the engine does by choices
-- at one station, undisturbed. So the converse speaks of no fewer runs than it should.
-- Assumes nothing.
use Rattle.std.specs.Prelude.{ℕ, ◌≤◌, ◌≡◌, ◌⊎◌, List, ◌∷◌, ◌++◌, map, length}
use Rattle.std.proofs.Math.Option.{some}
use Rattle.std.proofs.Math.ListN.{get_elem?}
use Rattle.calculus.specs.Syntax.{Log}
use Rattle.calculus.specs.State.{without, Included}
use Rattle.calculus.specs.Log.{RD, WT}
use Rattle.calculus.specs.Reduction.{Rule, ATOK}
use Rattle.semantics.specs.Definitions.Basics.{replace_at, All}
use Rattle.semantics.specs.Definitions.Terms.{Expression}
use Rattle.semantics.specs.Definitions.Table.{Table}
use Rattle.semantics.specs.Definitions.Logs.{paths}
use Rattle.semantics.specs.Definitions.Configuration.{block, output, Configuration, opening}
use Rattle.semantics.specs.Definitions.Moves.{act, inside, moved, transition, rule_number}
use Rattle.semantics.specs.Definitions.Run.{steps, final_configuration}
use Rattle.semantics.specs.Claims.ConverseRuns.{PlainState, plain_start, replacing, ConverseStep, ConverseSteps, idle_configuration}

-- they start from the hall that opening gives
unfoldable pub StartIsOpening : Type 0
unfolding idle_configuration plain_start opening
StartIsOpening = (t : Table) → idle_configuration (plain_start t) ≡ opening t

-- what the engine does by choices at p alone, from a hall without attempts: one OUT, IN or REP (rules 1 to 3); or an
-- attempt is opened, moved inside at some nodes and committed
unfoldable pub DoneAt : PlainState → ℕ → Configuration → Type 0
unfolding idle_configuration
DoneAt s p g =
    ((r : Rule) × (transition (idle_configuration s) (act p) ≡ moved r g) × (rule_number r ≤ 3)) ⊎
    ((δ : Log) × (ks : List ℕ) ×
    (let es = act p ∷ map (inside p) ks in
    let ss = steps (idle_configuration s) es in
    (length ss ≡ length es) × (transition (final_configuration (idle_configuration s) ss) (act p) ≡ moved (ATOK δ) g)))

-- a step is within the limits: choices that do it are all accepted. And none is missing: what such choices do is a step
unfoldable pub ConverseStepsAreMoves : Type 0
ConverseStepsAreMoves =
    (s : PlainState) (p : ℕ) → length s.stations ≤ 64 →
    ((u : PlainState) → ConverseStep s p u → DoneAt s p (idle_configuration u)) ×
    ((g : Configuration) → DoneAt s p g → (u : PlainState) × (idle_configuration u ≡ g) × ConverseStep s p u)

-- every block with a readable path has a step by the first one, where that leaves at most 64 stations
unfoldable pub ReadableBlocksCommit : Type 0
ReadableBlocksCommit =
    (s : PlainState) (p n : ℕ) (M : Expression) → get_elem? s.stations p ≡ some (block n M) →
    (earlier rest : List Log) (δ : Log) → paths M ≡ earlier ++ (δ ∷ rest) →
    All (λ π. ¬ Included (RD π) s.counts) earlier → Included (RD δ) s.counts →
    length (replace_at p (map output (WT δ)) s.stations) ≤ 64 →
    ConverseStep s p (replacing s p (without s.counts (RD δ)) (map output (WT δ)))

-- any number of steps, none included, make a list of steps: behind each list there may come one step more
unfoldable pub ConverseStepsGoOn : Type 0
ConverseStepsGoOn =
    ((s : PlainState) → ConverseSteps s s) ×
    ((s u v : PlainState) (p : ℕ) → ConverseSteps s u → ConverseStep u p v → ConverseSteps s v)
