-- What a run answers, and its lines, in the terms of the definitions.
--
-- s has the bytes of a configuration (hall) that is held, starts the index of its n components (stations); first has
-- the counts before the run.
-- Assumes nothing.
use Rattle.std.specs.Prelude.{ℕ, ◌≡◌, List, take}
use Rattle.semantics.specs.Definitions.Terms.{Term}
use Rattle.semantics.specs.Definitions.Configuration.{Configuration}
use Rattle.semantics.specs.Definitions.Run as run
use Rattle.semantics.specs.Definitions.Report.{lines}
use Rattle.hall_layout.specs.Layout.{channels}
use Rattle.answers.specs.Answers.{outcome_number, counters_of}
use Rattle.answers.specs.declared.runs.RunAnswer.{RunAnswer}
use Rattle.hall_held.specs.Holds.{Holds}
use Rattle.print_decimals.specs.declared.Page.{Page}
use Rattle.print_decimals.specs.Page.{Printed}
use Rattle.print_sections.specs.Limits.{lines_most}

-- what a run answers, with the configuration afterwards
abbrev pub run_answer_of : RunAnswer → Configuration → run.RunAnswer
run_answer_of a h =
    record {
      number = outcome_number a.outcome;
      place = a.place;
      done = a.done;
      configuration = h;
      counters = counters_of a.counters;
    }

-- the lines of a run: behind whichever first configuration has these counts, whichever configuration is held
pub record LinesPrinted (s starts : List ℕ) (n : ℕ) (first : List ℕ) (a : RunAnswer) (p q : Page) : Type 0 where
  pub found : (ts : List Term) (f l : Configuration) → f.counts ≡ take channels first → Holds ts l s starts n →
      Printed lines_most p (lines f (run_answer_of a l)) q
