-- The rows on gains, attempts and the one-step run follow from the definitions, by computation.
-- Assumes nothing.
use mathlib.Core.Path.{refl}
use Rattle.semantics.specs.Checks.GainExamples.{GainRows, RunRows}

pub gain_rows_holds : GainRows
unfolding GainRows
gain_rows_holds = refl

pub run_rows_holds : RunRows
unfolding RunRows
run_rows_holds = refl
