-- The printed run of an input meets its contract.
-- Assumes nothing.
use Rattle.theorems.proofs.Theorems.{promised, on_printed_runs}
use Rattle.print_report.proofs.report.Goals as goal

pub returns-clause-promised : goal.returns-clause-promised
returns-clause-promised c = promised on_printed_runs
