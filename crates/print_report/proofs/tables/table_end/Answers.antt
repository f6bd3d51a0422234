-- Finding the end of an input's table meets its contract.
-- Assumes nothing.
use Rattle.print_report.proofs.TableParts.{start_reached, stepped_over, none_found}
use Rattle.print_report.proofs.tables.table_end.Goals as goal

pub returns-then-record-eq-START : goal.returns-then-record-eq-START
returns-then-record-eq-START c = start_reached _ _ c.loop-record.invariant _ c.in-Ok.ensures c.if-record-eq-START.true

pub loop-record-preserved : goal.loop-record-preserved
loop-record-preserved c = stepped_over _ _ c.loop-record.invariant _ c.in-Ok.ensures c.if-record-eq-START.false

pub returns : goal.returns
returns c = none_found _ _ c.loop-record.invariant _ c.in_default.ensures
