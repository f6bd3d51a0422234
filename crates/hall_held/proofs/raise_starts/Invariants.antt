-- `raise_starts` meets its contract: before each turn all but the first `left` entries are moved. Assumes nothing.
use Rattle.hall_held.specs.Starts.{StartsSet, moved}
use Rattle.hall_held.proofs.raise_starts.Given as goal

abbrev pub invariant-loop-left : goal.invariant-loop-left
invariant-loop-left l = StartsSet l.initial.starts l.to l.left l.n (moved l.initial.starts l.from l.less l.more) l.starts
