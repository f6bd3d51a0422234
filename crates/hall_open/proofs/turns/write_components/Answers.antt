-- `write_components` meets its contract: after each turn some are made, and fewer are to go.
-- Assumes nothing.
use Rattle.hall_open.proofs.Processes.{inside}
use Rattle.hall_open.proofs.Stack.{none_made, some_can, some_made, some_falls, some_written}
use borrow.Author.Rules.{rules}
use Rattle.hall_open.proofs.turns.write_components.Goals as goal

pub begin-progress-requires : goal.begin-progress-requires
begin-progress-requires c = (search inside, search rules)

pub loop-progress-init : goal.loop-progress-init
loop-progress-init c = search none_made

pub turn-progress-requires : goal.turn-progress-requires
turn-progress-requires c = search some_can

pub loop-progress-smaller : goal.loop-progress-smaller
loop-progress-smaller c = search some_falls

pub loop-progress-preserved : goal.loop-progress-preserved
loop-progress-preserved c = search some_made

pub returns : goal.returns
returns c = search some_written
