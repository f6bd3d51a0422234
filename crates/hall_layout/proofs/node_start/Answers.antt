-- `node_start` meets its contract. Assumes nothing.
use Rattle.hall_layout.proofs.Nodes.{no_node, node_found}
use Rattle.hall_layout.proofs.node_start.Goals as goal

pub returns-then-walk-eq0 : goal.returns-then-walk-eq0
returns-then-walk-eq0 c = search no_node

pub returns-else-walk-eq0 : goal.returns-else-walk-eq0
returns-else-walk-eq0 c = search node_found
