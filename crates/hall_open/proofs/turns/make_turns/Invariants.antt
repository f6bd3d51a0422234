-- `make_turns` meets its contract: after each turn of the loop the stack and the hall are those of so many turns.
-- Assumes nothing.
use Rattle.hall_open.specs.Turns.{TurnsMade}
use Rattle.hall_open.proofs.turns.make_turns.Given as goal

abbrev pub invariant-loop : goal.invariant-loop
invariant-loop l = TurnsMade l.decoded l.term l.counter l.initial.hall l.at l.stack l.progress.waiting l.progress.next l.progress.after l.hall l.progress.end
