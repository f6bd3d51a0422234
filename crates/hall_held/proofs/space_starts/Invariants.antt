-- `space_starts` meets its contract: before each turn the entries before number i stand. Assumes nothing.
use lib.ListN.{get_or}
use Rattle.hall_held.specs.Starts.{StartsSet, spaced}
use Rattle.hall_held.proofs.space_starts.Given as goal

abbrev pub invariant-loop-i : goal.invariant-loop-i
invariant-loop-i l = StartsSet l.initial.starts l.first 1 l.i (spaced (get_or l.initial.starts l.first 0)) l.starts
