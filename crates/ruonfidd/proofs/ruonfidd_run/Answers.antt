-- `ruonfidd_run` meets its contract: what its call answers is told.
-- Assumes nothing.
use Rattle.theorems.proofs.Theorems.{promised}
use Rattle.answers.proofs.Theorems.{told_runs}
use Rattle.ruonfidd.proofs.Exports.{run_told}
use Rattle.ruonfidd.proofs.ruonfidd_run.Goals as goal

pub returns-clause-promised : goal.returns-clause-promised
returns-clause-promised c = promised told_runs

pub returns-clause-run_answered : goal.returns-clause-run_answered
returns-clause-run_answered c = search run_told
