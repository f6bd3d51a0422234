-- `take_needs` meets its contract: before each turn the counts before this channel are lowered. Assumes nothing.
use native.Mathlib.Omega.{arith}
use Rattle.move_logs.proofs.NeedsAndCounts.{lowered_start, lowered_room, lowered_turn}
use Rattle.move_logs.proofs.take_needs.Goals as goal

pub loop-channel-init : goal.loop-channel-init
loop-channel-init c = lowered_start _

pub overflow_sub-s : goal.overflow_sub-s
overflow_sub-s c = lowered_room _ _ _ _ c.loop-channel.invariant c.requires.1 (omega arith)

pub loop-channel-preserved : goal.loop-channel-preserved
loop-channel-preserved c = search lowered_turn
