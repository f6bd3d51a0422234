-- `node_size` meets its contract. Assumes nothing.
use Rattle.hall_layout.proofs.Nodes.{fork_size_holds, leaf_size_holds}
use Rattle.hall_layout.proofs.node_size.Goals as goal

pub returns-then-kind-eq-KIND_FORK : goal.returns-then-kind-eq-KIND_FORK
returns-then-kind-eq-KIND_FORK c = search fork_size_holds

pub returns-else-kind-eq-KIND_FORK : goal.returns-else-kind-eq-KIND_FORK
returns-else-kind-eq-KIND_FORK c = search leaf_size_holds
