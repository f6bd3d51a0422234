-- `tree_scan` meets its contract: the scan so far leads to what is read at the start. Assumes nothing.
use Prim.Native.Nat.{◌+◌, ◌-◌, ◌≤◌}
use mathlib.Core.Path.{◌≡◌}
use lib.ListN.{length}
use Rattle.hall_check.proofs.TreeScans.{TreeSoFar}
use Rattle.hall_check.proofs.tree_scan.Given as goal

abbrev pub invariant-loop-sum : goal.invariant-loop-sum
invariant-loop-sum l = TreeSoFar l.decoded l.n l.s l.tree l.pending l.sum l.at × (l.pending ≡ 0 → ⊥) × (l.sum + l.pending ≤ 264)

abbrev pub decreases-loop-sum : goal.decreases-loop-sum
decreases-loop-sum l = length l.s - l.at
