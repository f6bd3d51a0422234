-- `log_action` meets its contract. Assumes nothing.
use Rattle.move_inside.proofs.LeafBytes.{next_is, logged_is}
use borrow.Author.Rules.{rules}
use Rattle.move_inside.proofs.actions.log_action.Goals as goal

pub returns : goal.returns
returns c = logged_is _ _ _ _ _ _ (search next_is) (search rules)
