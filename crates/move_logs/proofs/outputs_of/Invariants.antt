-- `outputs_of` meets its contract: before each turn the outputs are those of the actions so far. Assumes nothing.
use Prim.Native.Nat.{◌≤◌}
use lib.ListN.{take}
use Rattle.move_logs.specs.Writes.{writes_of}
use Rattle.move_logs.proofs.Writes.{OutputsSoFar}
use Rattle.move_logs.proofs.outputs_of.Given as goal

abbrev pub invariant-loop-action : goal.invariant-loop-action
invariant-loop-action l = (l.count ≤ l.action-index) × OutputsSoFar l.bytes l.count (writes_of (take l.action-index l.log))
