-- `write_components` meets its contract: after each turn some are made, and fewer are to go.
-- Assumes nothing.
use Rattle.hall_open.proofs.Stack.{SomeMade, to_go}
use Rattle.hall_open.proofs.turns.write_components.Given as goal

abbrev pub invariant-loop-progress : goal.invariant-loop-progress
invariant-loop-progress l = SomeMade l.decoded l.term l.initial.hall l.at l.stack l.progress.waiting l.progress.next l.progress.after l.hall l.progress.end

abbrev pub decreases-loop-progress : goal.decreases-loop-progress
decreases-loop-progress l = to_go l.decoded l.stack l.progress.waiting
