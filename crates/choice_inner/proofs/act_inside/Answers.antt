-- `act_inside` meets its contract. Assumes nothing.
use Rattle.std.proofs.lemmas.Result.{err_from_is_err_and}
use Rattle.choice_inner.proofs.InsideReplies.{can_move_node}
use Rattle.choice_inner.proofs.InsideMoves.{node_refused, node_entry_made}
use Rattle.choice_inner.proofs.act_inside.Goals as goal

pub returns-in_err-at : goal.returns-in_err-at
returns-in_err-at c = let p = err_from_is_err_and c.from_residual.result c.from_residual.ensures.1 in
    rw (p.1, p.2) (search (node_refused, c.in_err-at.was))

pub move_at-requires : goal.move_at-requires
move_at-requires c = search (can_move_node, c.in_ok-at.was)

pub returns : goal.returns
returns c = rw c.move_at.ensures.components (search (node_entry_made, c.in_ok-at.was))
