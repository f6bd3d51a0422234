-- `well_formed` meets its contract: the components so far lead to what the bytes store. Assumes nothing.
use Prim.Native.Nat.{◌-◌}
use lib.ListN.{length}
use Rattle.hall_check.proofs.HallScans.{HallSoFar}
use Rattle.hall_check.proofs.well_formed.Given as goal

abbrev pub invariant-loop-at : goal.invariant-loop-at
invariant-loop-at l = HallSoFar l.decoded l.n l.s l.index.starts l.index.components l.at

abbrev pub decreases-loop-at : goal.decreases-loop-at
decreases-loop-at l = length l.s - l.at
