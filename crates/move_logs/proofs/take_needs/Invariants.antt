-- `take_needs` meets its contract: before each turn the counts before this channel are lowered. Assumes nothing.
use mathlib.Core.Path.{◌≡◌}
use lib.ListN.{take}
use Rattle.move_logs.specs.Needs.{lowered}
use Rattle.move_logs.proofs.take_needs.Given as goal

abbrev pub invariant-loop-channel : goal.invariant-loop-channel
invariant-loop-channel l = l.s ≡ lowered (take l.channel l.needed-items) l.initial.s
