-- `leaf_at` meets its contract. Assumes nothing.
use Rattle.hall_nodes.proofs.Leaves.{leaf_of_no_term, leaf_too_long, leaf_by_log}
use Rattle.hall_nodes.proofs.leaf_at.Goals as goal

pub returns-in_err-remaining : goal.returns-in_err-remaining
returns-in_err-remaining c = rw c.from_residual.ensures (leaf_of_no_term _ _ _ _ c.in_err-remaining.ensures)

pub returns-then-size-from-gt-LOG_SIZE : goal.returns-then-size-from-gt-LOG_SIZE
returns-then-size-from-gt-LOG_SIZE c = let remaining = c.in_ok-remaining in
    leaf_too_long _ _ _ _ remaining.remaining remaining.ensures _ c.from-size.ensures _ c.from.ensures c.if-size-from-gt-LOG_SIZE.true

pub returns : goal.returns
returns c = let remaining = c.in_ok-remaining in
    leaf_by_log _ _ _ _ remaining.remaining remaining.ensures _ c.from-size.ensures _ c.from.ensures _ c.is_log.ensures
    c.if-size-from-gt-LOG_SIZE.false _ c.then_some.ensures
