-- Opening, running and printing meet their contract.
-- Assumes nothing.
use native.Mathlib.Omega.{arith}
use Rattle.print_report.proofs.RunTexts.{opened_printed, refused_printed}
use Rattle.print_report.proofs.printing.print_run.Goals as goal

pub returns-in-Ok : goal.returns-in-Ok
returns-in-Ok c = opened_printed _ _ _ _ _ _ _ c.in-Ok.ensures.hall_after _ c.counts_of-first.ensures _ _
    c.run-answer.ensures.equation (omega (arith, c.requires.0)) c.print_hall.ensures

pub returns-in-Err : goal.returns-in-Err
returns-in-Err c = refused_printed _ _ _ _ _ _ _ c.in-Err.ensures.hall_after _ c.number.ensures c.run_line.ensures
