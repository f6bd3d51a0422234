-- `act_end` meets its contract. Assumes nothing.
use Rattle.std.proofs.lemmas.Result.{err_from_is_err_and}
use borrow.Author.Rules.{rules}
use Rattle.hall_held.proofs.Choices.{entry_made_refused}
use Rattle.choice_act.proofs.ActReplies.{transaction_position, end_held, end_looked}
use Rattle.choice_act.proofs.ActMoves.{can_commit, act_commit, can_restart, act_restart}
use Rattle.choice_act.proofs.act_end.Goals as goal

pub offset_bounds-index-position : goal.offset_bounds-index-position
offset_bounds-index-position c = let l = transaction_position c.requires.occupant_read c.requires.running in search rules

pub bounds-index-position : goal.bounds-index-position
bounds-index-position c = search transaction_position

pub look_end-requires : goal.look_end-requires
look_end-requires c = search end_held

pub returns-in_err-by : goal.returns-in_err-by
returns-in_err-by c = let p = err_from_is_err_and c.from_residual.result c.from_residual.ensures.1 in
    rw (p.1, p.2) (search (entry_made_refused, end_looked, c.in_err-by.was))

pub commit-requires : goal.commit-requires
commit-requires c = search (can_commit, c.in_ok-by.was)

pub restart-requires : goal.restart-requires
restart-requires c = search (can_restart, c.in_ok-by.was)

pub returns-in-Atok : goal.returns-in-Atok
returns-in-Atok c = search (act_commit, c.in_ok-by.was)

pub returns-in_default : goal.returns-in_default
returns-in_default c = search (act_restart, c.in_ok-by.was)
