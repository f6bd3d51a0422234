-- `find_node` meets its contract. Assumes nothing.
use Rattle.choice_inner.proofs.InsideReplies.{found_past, found_idle, begin_inside, nodes_inside, found_there}
use Rattle.choice_inner.proofs.find_node.Goals as goal

pub returns-then-index-position : goal.returns-then-index-position
returns-then-index-position c = search found_past

pub bounds-hall-transaction : goal.bounds-hall-transaction
bounds-hall-transaction c = search begin_inside

pub returns-then-hall-transaction-ne-KIND_TRANSACTION : goal.returns-then-hall-transaction-ne-KIND_TRANSACTION
returns-then-hall-transaction-ne-KIND_TRANSACTION c = search found_idle

pub node_start-requires : goal.node_start-requires
node_start-requires c = search nodes_inside

pub returns : goal.returns
returns c = search found_there
