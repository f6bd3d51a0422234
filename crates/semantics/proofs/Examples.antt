-- The worked examples follow from the definitions, each row by computation.
-- Assumes nothing.
use mathlib.Core.Path.{refl}
use Rattle.semantics.specs.Checks.Examples.{observed, rehearsals, further_runs, Examples}

pub worked_examples : Examples
unfolding observed rehearsals further_runs
worked_examples = record {
  the_ten =
      (refl, (refl, (refl, (refl, (refl, (refl, (refl, (refl, (refl, (refl, (refl, (refl, (refl, (refl, tt))))))))))))));
  beyond = (refl, (refl, (refl, tt)));
}
