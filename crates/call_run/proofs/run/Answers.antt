-- `run` meets its contract: what is held is run, or the call is turned down. Assumes nothing.
use Rattle.call_admit.proofs.Admissions.{number_told}
use Rattle.call_run.proofs.Runs.{run_turned_down, run_said}
use Rattle.theorems.proofs.Theorems.{promised, on_runs, demands}
use Rattle.call_run.proofs.run.Goals as goal

pub returns-in-Ok-clause-demands : goal.returns-in-Ok-clause-demands
returns-in-Ok-clause-demands c = promised demands

pub returns-in-Ok-clause-equation : goal.returns-in-Ok-clause-equation
returns-in-Ok-clause-equation c = search (run_said, c.in-Ok.ensures)

pub returns-in-Ok-clause-promised : goal.returns-in-Ok-clause-promised
returns-in-Ok-clause-promised c = promised on_runs

pub returns-in-Err-clause-decided : goal.returns-in-Err-clause-decided
returns-in-Err-clause-decided c = search number_told

pub returns-in-Err-clause-demands : goal.returns-in-Err-clause-demands
returns-in-Err-clause-demands c = promised demands

pub returns-in-Err-clause-equation : goal.returns-in-Err-clause-equation
returns-in-Err-clause-equation c = search (run_turned_down, c.in-Err.ensures)

pub returns-in-Err-clause-promised : goal.returns-in-Err-clause-promised
returns-in-Err-clause-promised c = promised on_runs
