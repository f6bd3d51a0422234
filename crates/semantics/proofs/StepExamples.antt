-- The worked examples of the step call follow from the definitions, by computation.
-- Assumes nothing.
use mathlib.Core.Path.{refl}
use Rattle.semantics.specs.Checks.StepExamples.{StepsTold, Written, StepExamples}

pub step_examples : StepExamples
unfolding StepsTold Written
step_examples = record { told = refl; written = refl }
