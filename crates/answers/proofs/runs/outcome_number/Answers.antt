-- How a run ended, as a number, meets its contract.
-- Assumes nothing.
use mathlib.Core.Path.{refl}
use Rattle.answers.specs.Answers.{outcome_number}
use Rattle.answers.proofs.runs.outcome_number.Goals as goal

pub returns-in-Ok : goal.returns-in-Ok
unfolding outcome_number
returns-in-Ok c = rw c.in-Ok.is refl

pub returns-in-Err : goal.returns-in-Err
unfolding outcome_number
returns-in-Err c = rw c.in-Err.is c.number.ensures
