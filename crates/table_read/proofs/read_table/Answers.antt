-- `table_read::read_table` meets its contract: the loop's invariant is that reading on from the terms so far gives the
-- table's answer; the measure is what is left of the table.
-- Assumes nothing.
use Rattle.std.proofs.lemmas.Result.{err_from_is_err_and}
use mathlib.Core.Path.{ap, ◌∙◌}
use Rattle.std.specs.Prelude.{Ok}
use Rattle.table_read.proofs.TableRead.{nothing_read, read_on, read_accepted, read_refused}
use Rattle.table_read.proofs.read_table.Goals as goal

pub loop-next-init : goal.loop-next-init
loop-next-init c = search nothing_read

pub loop-next-preserved : goal.loop-next-preserved
loop-next-preserved c =
    read_on _ _ _ _ c.loop-next.invariant _ _ c.read_record.ensures _ _ (c.in_ok-next.was ∙ ap Ok c.in-More.is)

pub returns-in_err-next : goal.returns-in_err-next
returns-in_err-next c =
    let p = err_from_is_err_and c.from_residual.result c.from_residual.ensures.1 in
    rw (p.1, p.2) (read_refused _ _ _ _ c.loop-next.invariant _ _ c.read_record.ensures _ c.in_err-next.was)

pub returns-in-Done : goal.returns-in-Done
returns-in-Done c =
    read_accepted _ _ _ _ c.loop-next.invariant _ _ c.read_record.ensures _ (c.in_ok-next.was ∙ ap Ok c.in-Done.is)
