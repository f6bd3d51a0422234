-- `node_at` meets its contract. Assumes nothing.
use Rattle.hall_nodes.proofs.Nodes.{node_short, node_fork, node_other, node_leaf}
use Rattle.hall_nodes.proofs.node_at.Goals as goal

pub returns-then-s-at : goal.returns-then-s-at
returns-then-s-at c = search node_short

pub returns-in-22 : goal.returns-in-22
returns-in-22 c = search node_fork

pub returns-in-23 : goal.returns-in-23
returns-in-23 c = search node_leaf

pub returns-in_default : goal.returns-in_default
returns-in_default c = search node_other
