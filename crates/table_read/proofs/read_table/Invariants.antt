-- `table_read::read_table` meets its contract: the loop's invariant is that reading on from the terms so far gives the
-- table's answer; the measure is what is left of the table.
-- Assumes nothing.
use Prim.Native.Nat.{◌-◌}
use lib.ListN.{length}
use Rattle.table_read.proofs.TableRead.{ReadSoFar}
use Rattle.table_read.proofs.read_table.Given as goal

abbrev pub invariant-loop-next : goal.invariant-loop-next
invariant-loop-next l = ReadSoFar l.table l.at l.terms l.decoded

abbrev pub decreases-loop-next : goal.decreases-loop-next
decreases-loop-next l = length l.table - l.at
