-- What a run of a held configuration answers, in the terms of the definitions.
--
-- d is a decoded table; s has the bytes of a configuration (hall) that is held, starts the index of its n components
-- (stations).
-- Assumes nothing.
use Rattle.std.specs.Prelude.{ℕ, ◌≡◌, List}
use Rattle.semantics.specs.Definitions.Terms.{Term}
use Rattle.semantics.specs.Definitions.Configuration.{Configuration}
use Rattle.semantics.specs.Definitions.Run.{Counters, run}
use Rattle.semantics.specs.Definitions.Calls.{run_result}
use Rattle.table_terms.specs.Decoded.{Decoded}
use Rattle.answers.specs.declared.runs.RunAnswer.{RunAnswer}
use Rattle.answers.specs.Answers.{run_call_of, RunCaseDecided}
use Rattle.hall_held.specs.Holds.{Holds}

-- r is the answer, and s' are the bytes afterwards, whichever configuration of whichever table is held
pub record Ran (d s starts : List ℕ) (n : ℕ) (choices : List ℕ) (t : Counters) (r : RunAnswer) (s' : List ℕ) :
    Type 0 where
  pub found : (ts : List Term) (h : Configuration) → Decoded ts d → Holds ts h s starts n →
      run_call_of r s' ≡ run_result (run h t choices)
  pub decided : RunCaseDecided r
