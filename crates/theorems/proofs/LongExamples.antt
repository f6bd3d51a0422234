-- The worked examples that take long follow from the definitions, each row by computation.
-- Assumes nothing.
use mathlib.Core.Path.{refl}
use Rattle.semantics.specs.Definitions.Report.{printed_run}
use Rattle.semantics.specs.Checks.Examples.{observed}
use Rattle.semantics.specs.Checks.LongExamples.{long_runs, long_prints, HallsChecked, Rehearsed, Rejected, Mixed, leaning_table, Leaning, LongExamples}

pub long_examples : LongExamples
unfolding observed long_runs long_prints printed_run HallsChecked Rehearsed Rejected Mixed Leaning leaning_table
long_examples = record {
  runs = (refl, (refl, (refl, (refl, (refl, (refl, (refl, tt)))))));
  printed_runs_holds = (refl, (refl, (refl, tt)));
  halls_checked = refl;
  rehearsed = refl;
  rejected = (refl, refl, refl, refl);
  mixed = refl;
  leaning = (refl, refl);
}
