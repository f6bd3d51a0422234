-- `Progress::turn` meets its contract: two side by side leave their sides on the stack, any other process is laid down.
-- Assumes nothing.
use Rattle.hall_open.proofs.Stack.{top_inside, fewer_wait, one_more_fits, next_fits, next_inside, room_above, sides_wait, one_laid}
use Rattle.hall_open.proofs.Processes.{is_single}
use Rattle.hall_open.proofs.turns.Progress.turn.Goals as goal

pub kind_at-requires : goal.kind_at-requires
kind_at-requires c = search next_inside

pub overflow_add-more : goal.overflow_add-more
overflow_add-more c = search one_more_fits

pub bounds-stack-below : goal.bounds-stack-below
bounds-stack-below c = search top_inside

pub bounds-stack-waiting : goal.bounds-stack-waiting
bounds-stack-waiting c = search room_above

pub returns-then-kind_at-eq-PAR : goal.returns-then-kind_at-eq-PAR
returns-then-kind_at-eq-PAR c = search sides_wait

pub write_single-end-requires-clause-can_write_components : goal.write_single-end-requires-clause-can_write_components
write_single-end-requires-clause-can_write_components c = search next_fits

pub after_next-requires : goal.after_next-requires
after_next-requires c = search fewer_wait

pub returns : goal.returns
returns c = search (one_laid, is_single)
