-- Writing a choice meets its contract.
-- Assumes nothing.
use Rattle.semantics.specs.Definitions.Sentence.{ascii, named}
use Rattle.print_sentence.proofs.SentenceParts.{kind_fits, station_fits, without_node, node_fits, with_node}
use Rattle.print_sentence.proofs.write_choice.Goals as goal

pub write_named-requires : goal.write_named-requires
unfolding named ascii
write_named-requires c = search kind_fits

pub write_named-requires-2 : goal.write_named-requires-2
unfolding named ascii
write_named-requires-2 c = search station_fits

pub write_named-requires-then-kind-ne-KIND_ACT : goal.write_named-requires-then-kind-ne-KIND_ACT
unfolding named ascii
write_named-requires-then-kind-ne-KIND_ACT c = search node_fits

pub returns-then-kind-ne-KIND_ACT : goal.returns-then-kind-ne-KIND_ACT
unfolding named ascii
returns-then-kind-ne-KIND_ACT c = search with_node

pub returns-else-kind-ne-KIND_ACT : goal.returns-else-kind-ne-KIND_ACT
unfolding named ascii
returns-else-kind-ne-KIND_ACT c = search without_node
