-- Finding the end of an input's table meets its contract.
-- Assumes nothing.
use lib.ListN.{length}
use Prim.Native.Nat.{◌-◌}
use Rattle.print_report.proofs.TableParts.{SteppedTo}
use Rattle.print_report.proofs.tables.table_end.Given as goal

abbrev pub invariant-loop-record : goal.invariant-loop-record
invariant-loop-record l = SteppedTo l.input l.at

abbrev pub decreases-loop-record : goal.decreases-loop-record
decreases-loop-record l = length l.input - l.at
