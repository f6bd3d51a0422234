-- `pending_behind` meets its contract. Assumes nothing.
use Rattle.hall_layout.proofs.Nodes.{fork_pending, leaf_pending}
use Rattle.hall_layout.proofs.pending_behind.Goals as goal

pub returns-then-kind-eq-KIND_FORK : goal.returns-then-kind-eq-KIND_FORK
returns-then-kind-eq-KIND_FORK c = search fork_pending

pub returns-else-kind-eq-KIND_FORK : goal.returns-else-kind-eq-KIND_FORK
returns-else-kind-eq-KIND_FORK c = search leaf_pending
