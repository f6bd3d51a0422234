-- `first_inside` meets its contract. Assumes nothing.
use Rattle.choice_suggest.proofs.Suggestions.{no_node_yet, inside_suggested, next_node, nodes_quiet}
use Rattle.choice_suggest.proofs.first_inside.Goals as goal

pub loop-node-init : goal.loop-node-init
loop-node-init c = search no_node_yet

pub returns-then-is_ok : goal.returns-then-is_ok
returns-then-is_ok c = search inside_suggested

pub loop-node-preserved : goal.loop-node-preserved
loop-node-preserved c = search next_node

pub returns : goal.returns
returns c = search nodes_quiet
