-- Writing the report on an input meets its contract.
-- Assumes nothing.
use Rattle.print_report.proofs.Inputs.{long_printed, run_printed}
use Rattle.print_report.proofs.write_report.Goals as goal

pub returns-then-input-gt-MAX_INPUT : goal.returns-then-input-gt-MAX_INPUT
returns-then-input-gt-MAX_INPUT c = search long_printed

pub returns : goal.returns
returns c = run_printed _ c.if-input-gt-MAX_INPUT.false c.type_inv.input _ c.table_end-end.ensures _ _ c.print_run.ensures
