-- `hall_open::write_single` meets its contract: at each need the law of its case.
-- Assumes nothing.
use Rattle.hall_open.proofs.Processes.{one_fits, nothing_written, output_written, single_written, inside, number_fits}
use Rattle.hall_open.proofs.components.write_single.Goals as goal

pub kind_at-requires : goal.kind_at-requires
kind_at-requires c = search inside

pub write_idle-requires : goal.write_idle-requires
write_idle-requires c = search one_fits

pub overflow_cast-term : goal.overflow_cast-term
overflow_cast-term c = search number_fits

pub write_idle-requires-in_default : goal.write_idle-requires-in_default
write_idle-requires-in_default c = search one_fits

pub returns-in-1 : goal.returns-in-1
returns-in-1 c = search nothing_written

pub returns-in-2 : goal.returns-in-2
returns-in-2 c = search output_written

pub returns-in_default : goal.returns-in_default
returns-in_default c = search single_written
