-- `suffice` meets its contract: before each turn the reads among the actions so far were taken. Assumes nothing.
use mathlib.Core.Path.{◌≡◌}
use lib.ListN.{length, take}
use Rattle.semantics.specs.Definitions.Layout.{channels}
use Rattle.move_logs.proofs.CountsLeft.{Leaves}
use Rattle.move_logs.proofs.suffice.Given as goal

abbrev pub invariant-loop-byte : goal.invariant-loop-byte
invariant-loop-byte l = (length l.left ≡ channels) × Leaves l.left l.s l.counts (take l.byte-index l.log)
