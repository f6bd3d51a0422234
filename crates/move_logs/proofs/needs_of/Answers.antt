-- `needs_of` meets its contract: before each turn the needs are those of the actions so far. Assumes nothing.
use native.Mathlib.Omega.{arith}
use lib.ListN.{length-take}
use Rattle.move_logs.proofs.Needs.{needs_start, needs_fit, needs_read, needs_write}
use Rattle.move_logs.proofs.needs_of.Goals as goal
use Rattle.move_logs.proofs.needs_of.Goals.{then-action-lt-WRITE_OFFSET, else-action-lt-WRITE_OFFSET}

pub loop-action-init : goal.loop-action-init
loop-action-init c = needs_start

pub overflow_add-need : goal.overflow_add-need
overflow_add-need c = record {
  fits = needs_fit _ _ _ _ c.loop-action.invariant (simp length-take (omega arith)) c.from.ensures (omega arith);
}

pub loop-action-preserved : goal.loop-action-preserved
loop-action-preserved c = elim c.if-action-lt-WRITE_OFFSET.branch [
  | then-action-lt-WRITE_OFFSET w ↦ rw w.need-is (search needs_read)
  | else-action-lt-WRITE_OFFSET w ↦ rw w.need-is (search needs_write)
]
