-- `make_turns` meets its contract: after each turn of the loop the stack and the hall are those of so many turns.
-- Assumes nothing.
use Rattle.hall_open.proofs.Processes.{inside}
use Rattle.hall_open.proofs.Stack.{begun_made, can_turn, one_made, none_waits, all_made}
use borrow.Author.Rules.{rules}
use Rattle.hall_open.proofs.turns.make_turns.Goals as goal

pub begin-progress-requires : goal.begin-progress-requires
begin-progress-requires c = (search inside, search rules)

pub loop-init : goal.loop-init
loop-init c = search begun_made

pub returns-then-progress-eq0 : goal.returns-then-progress-eq0
returns-then-progress-eq0 c = search none_waits

pub turn-progress-requires : goal.turn-progress-requires
turn-progress-requires c = search can_turn

pub loop-preserved : goal.loop-preserved
loop-preserved c = search one_made

pub returns : goal.returns
returns c = search all_made
