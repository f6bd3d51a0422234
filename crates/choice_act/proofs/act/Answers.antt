-- `act` meets its contract. Assumes nothing.
use Rattle.std.proofs.lemmas.Result.{err_from_is_err_and}
use Rattle.hall_held.proofs.Choices.{entry_made_refused}
use Rattle.choice_act.proofs.ActReplies.{occupant_is, output_looked, take_looked}
use Rattle.choice_act.proofs.ActMoves.{act_nothing, can_put, act_put, can_begin, act_begin, can_take, act_take}
use Rattle.choice_act.proofs.act.Goals as goal

pub returns-in_default : goal.returns-in_default
returns-in_default c = let f = rw c.in_default.is at c.occupant_at.ensures in search act_nothing

pub returns-in_err-by-in-Output : goal.returns-in_err-by-in-Output
returns-in_err-by-in-Output c = let p = err_from_is_err_and c.from_residual.result c.from_residual.ensures.1 in
    rw (p.1, p.2) (search (entry_made_refused, occupant_is, output_looked, c.in_err-by-in-Output.was))

pub put-requires : goal.put-requires
put-requires c = search (occupant_is, can_put, c.in_ok-by-in-Output.was)

pub begin-requires : goal.begin-requires
begin-requires c = search (occupant_is, can_begin)

pub returns-in_ok-by-in-Output : goal.returns-in_ok-by-in-Output
returns-in_ok-by-in-Output c = search (occupant_is, act_put, c.in_ok-by-in-Output.was)

pub returns-in-Block : goal.returns-in-Block
returns-in-Block c = search (occupant_is, act_begin)

pub returns-in_err-by-in-Take : goal.returns-in_err-by-in-Take
returns-in_err-by-in-Take c =
    let residual = c.from_residual-in_err-by-in-Take in
    let p = err_from_is_err_and residual.result residual.ensures.1 in
    rw (p.1, p.2) (search (entry_made_refused, occupant_is, take_looked, c.in_err-by-in-Take.was))

pub take-requires : goal.take-requires
take-requires c = search (occupant_is, can_take, c.in_ok-by-in-Take.was)

pub returns-in_ok-by-in-Take : goal.returns-in_ok-by-in-Take
returns-in_ok-by-in-Take c = search (occupant_is, act_take, c.in_ok-by-in-Take.was)
