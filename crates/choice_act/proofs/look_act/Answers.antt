-- `look_act` meets its contract. Assumes nothing.
use Rattle.choice_act.proofs.ActReplies.{occupant_is, nothing_looked, transaction_position, end_held, end_looked, output_looked, block_looked, take_looked}
use Rattle.choice_act.proofs.look_act.Goals as goal

pub returns-in_default : goal.returns-in_default
returns-in_default c = let f = rw c.in_default.is at c.occupant_at.ensures in search nothing_looked

pub bounds-index-p : goal.bounds-index-p
bounds-index-p c = search (occupant_is, transaction_position)

pub look_end-requires : goal.look_end-requires
look_end-requires c = search (occupant_is, end_held)

pub returns-in-Transaction : goal.returns-in-Transaction
returns-in-Transaction c = search (occupant_is, end_looked)

pub returns-in-Output : goal.returns-in-Output
returns-in-Output c = search (occupant_is, output_looked)

pub returns-in-Block : goal.returns-in-Block
returns-in-Block c = search (occupant_is, block_looked)

pub returns-in-Take : goal.returns-in-Take
returns-in-Take c = search (occupant_is, take_looked)
