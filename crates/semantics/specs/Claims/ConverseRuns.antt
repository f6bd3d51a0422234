-- One-step runs without notes and choices, for the converse of demand 3 (document 01, "The one-step run", its last
-- part).
-- Assumes nothing.
use Rattle.std.specs.Prelude.{ℕ, ◌≤◌, ◌<◌, ◌≡◌, List, [], ◌∷◌, ◌++◌, map, length}
use Rattle.std.proofs.Math.Option.{some}
use Rattle.std.proofs.Math.ListN.{get_elem?}
use Rattle.calculus.specs.Syntax.{Name, Log, State}
use Rattle.calculus.specs.State.{count, without}
use Rattle.calculus.specs.Log.{RD, WT}
use Rattle.semantics.specs.Definitions.Basics.{replace_at}
use Rattle.semantics.specs.Definitions.Terms.{Expression, Program}
use Rattle.semantics.specs.Definitions.Table.{Table}
use Rattle.semantics.specs.Definitions.Logs.{first_readable, add_token, take_token}
use Rattle.semantics.specs.Definitions.Configuration.{Idle, taking, repeating, block, output, idle, Configuration, opens}

-- ---- the conditions of the refusals that a step may meet

-- 18: nothing is there to take
abbrev pub EmptyChannel : State → Name → Type 0
EmptyChannel σ a = count σ a ≡ 0

-- 19: too many components afterwards
abbrev pub TooManyComponents : ℕ → Type 0
TooManyComponents n = 64 < n

-- 20: no room for another token
abbrev pub FullChannel : State → Name → Type 0
FullChannel σ a = 255 ≤ count σ a

-- ---- the steps

-- the counts, and the stations in order with nothing begun
pub record PlainState : Type 0 where
  pub counts : State
  pub stations : List Idle

unfoldable pub plain_start : Table → PlainState
unfolding opens
plain_start t = record { counts = t.tokens; stations = opens t.start }

-- the station at p gives way to these
unfoldable pub replacing : PlainState → ℕ → State → List Idle → PlainState
unfolding replace_at
replacing s p σ cs = record { counts = σ; stations = replace_at p cs s.stations }

-- a step at a position: OUT, IN, REP, or a block that commits the first of its paths that is readable now; each within
-- the limits, which for a commit leaves 14 and 19 to ask
pub data ConverseStep (s : PlainState) (p : ℕ) : PlainState → Type 0 where
  step_out : (a : Name) → get_elem? s.stations p ≡ some (output a) → ¬ FullChannel s.counts a →
      ConverseStep s p (replacing s p (add_token s.counts a) [])
  step_in : (n : ℕ) (a : Name) (P : Program) → get_elem? s.stations p ≡ some (taking n a P) →
      ¬ EmptyChannel s.counts a → ¬ TooManyComponents (length (replace_at p (opens P) s.stations)) →
      ConverseStep s p (replacing s p (take_token s.counts a) (opens P))
  step_rep : (n : ℕ) (a : Name) (P : Program) → get_elem? s.stations p ≡ some (repeating n a P) →
      ¬ EmptyChannel s.counts a →
      ¬ TooManyComponents (length (replace_at p (opens P ++ (repeating n a P ∷ [])) s.stations)) →
      ConverseStep s p (replacing s p (take_token s.counts a) (opens P ++ (repeating n a P ∷ [])))
  step_commit : (n : ℕ) (M : Expression) (δ : Log) → get_elem? s.stations p ≡ some (block n M) →
      first_readable s.counts M ≡ some δ →
      ¬ TooManyComponents (length (replace_at p (map output (WT δ)) s.stations)) →
      ConverseStep s p (replacing s p (without s.counts (RD δ)) (map output (WT δ)))

-- a list of steps
pub data ConverseSteps : PlainState → PlainState → Type 0 where
  no_step : {s : PlainState} → ConverseSteps s s
  step_then : {s u v : PlainState} (p : ℕ) → ConverseStep s p u → ConverseSteps u v → ConverseSteps s v

-- the hall with these counts and stations, no attempt open
unfoldable pub idle_configuration : PlainState → Configuration
idle_configuration s = record { counts = s.counts; components = map idle s.stations }
