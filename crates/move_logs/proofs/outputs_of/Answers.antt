-- `outputs_of` meets its contract: before each turn the outputs are those of the actions so far. Assumes nothing.
use native.Mathlib.Omega.{arith}
use mathlib.Core.Path.{refl}
use lib.ListN.{length-take}
use Rattle.move_logs.proofs.Writes.{outputs_start, outputs_read, outputs_written}
use Rattle.move_logs.proofs.outputs_of.Goals as goal
use Rattle.move_logs.proofs.outputs_of.Goals.{then-action-ge-WRITE_OFFSET, else-action-ge-WRITE_OFFSET}

pub loop-action-init : goal.loop-action-init
loop-action-init c = (omega arith, outputs_start)

pub loop-action-preserved : goal.loop-action-preserved
loop-action-preserved c = elim c.if-action-ge-WRITE_OFFSET.branch [
  | then-action-ge-WRITE_OFFSET w ↦ rw (w.bytes-is, w.count-is) (
    omega arith,
    outputs_written _ _ _ _ _ c.loop-action.invariant.1 refl (omega arith)
        (omega arith) (simp length-take (omega arith)) c.loop-action.invariant.0,
  )
  | else-action-ge-WRITE_OFFSET w ↦ rw (w.bytes-is, w.count-is) (omega arith, search outputs_read)
]
