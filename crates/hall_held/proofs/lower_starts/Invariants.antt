-- `lower_starts` meets its contract: before each turn the first i entries are moved. Assumes nothing.
use Rattle.hall_held.specs.Starts.{StartsSet, moved}
use Rattle.hall_held.proofs.lower_starts.Given as goal

abbrev pub invariant-loop-i : goal.invariant-loop-i
invariant-loop-i l = StartsSet l.initial.starts l.to 0 l.i (moved l.initial.starts l.from l.less l.more) l.starts
