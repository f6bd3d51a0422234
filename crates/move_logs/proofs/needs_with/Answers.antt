-- `needs_with` meets its contract. Assumes nothing.
use native.Mathlib.Omega.{arith}
use lib.ListN.{length-take}
use Rattle.move_logs.proofs.Needs.{needs_fit, also_read, also_written}
use Rattle.move_logs.proofs.needs_with.Goals as goal

pub overflow_add-need : goal.overflow_add-need
overflow_add-need c = record {
  fits = needs_fit _ _ _ _ c.needs_of-need.ensures (simp length-take (omega arith)) c.from.ensures (omega arith);
}

pub returns-then-action-lt-WRITE_OFFSET : goal.returns-then-action-lt-WRITE_OFFSET
returns-then-action-lt-WRITE_OFFSET c = search also_read

pub returns-else-action-lt-WRITE_OFFSET : goal.returns-else-action-lt-WRITE_OFFSET
returns-else-action-lt-WRITE_OFFSET c = search also_written
