-- `zeros_from` meets its contract: the bytes so far are zeros where the largest of them is. Assumes nothing.
use Prim.Native.Nat.{◌+◌, ◌*◌, ◌≤◌}
use lib.ListN.{length}
use Rattle.hall_check.proofs.Zeros.{Quarters, Rest}
use Rattle.hall_check.proofs.zeros_from.Given as goal

abbrev pub invariant-loop-i : goal.invariant-loop-i
invariant-loop-i l = (l.from + 4 * l.quarter ≤ length l.s) × Quarters l.s l.from l.quarter l.top l.i

abbrev pub invariant-loop-i-2 : goal.invariant-loop-i-2
invariant-loop-i-2 l = Rest l.s l.from l.top l.i
