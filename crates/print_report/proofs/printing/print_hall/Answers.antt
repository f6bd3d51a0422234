-- Printing what a run left behind meets its contract.
-- Assumes nothing.
use Rattle.print_report.proofs.RunTexts.{admitted_printed, never_refused}
use Rattle.print_report.proofs.printing.print_hall.Goals as goal

pub returns-in-Ok : goal.returns-in-Ok
returns-in-Ok c = admitted_printed _ _ _ _ c.in-Ok.ensures _ _ _ _ c.print_lines.ensures

pub returns-in_default : goal.returns-in_default
returns-in_default c = never_refused c.admit.new.decoded _ _ _ c.in_default.ensures _ _ _ _
