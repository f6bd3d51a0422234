-- Worked rows for Claims/ConverseRuns: a list of two steps, a commit and the put that it leaves; and a commit that no
-- step makes, since 65 stations would stand afterwards. Proved in proofs/ConverseExamples.
-- Assumes nothing.
use Rattle.std.specs.Prelude.{[], ◌∷◌, replicate}
use Rattle.semantics.specs.Definitions.Terms.{Expression, end_t, rd_t, wt_t}
use Rattle.semantics.specs.Definitions.Configuration.{block, output}
use Rattle.semantics.specs.Claims.ConverseRuns.{PlainState, ConverseStep, ConverseSteps}

-- a block that takes a token from tray 0 and lays one into tray 1, with one token there
abbrev pub handover : PlainState
handover = record { counts = 1 ∷ 0 ∷ []; stations = block 3 (rd_t 2 0 (wt_t 1 1 (end_t 0))) ∷ [] }

-- the token is in tray 1, and no station is left
abbrev pub handed_over : PlainState
handed_over = record { counts = 0 ∷ 1 ∷ []; stations = [] }

-- two tokens laid into tray 0
abbrev pub two_puts : Expression
two_puts = wt_t 2 0 (wt_t 1 0 (end_t 0))

-- its block before 63 stations about to put
abbrev pub crowded : PlainState
crowded = record { counts = 0 ∷ []; stations = block 3 two_puts ∷ replicate 63 (output 0) }

pub record ConverseExamples : Type 0 where
  pub hands_over : ConverseSteps handover handed_over
  pub leaves_65 : (u : PlainState) → ConverseStep crowded 0 u → ⊥
