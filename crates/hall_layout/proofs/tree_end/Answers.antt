-- `tree_end` meets its contract. Assumes nothing.
use Rattle.hall_layout.proofs.Nodes.{end_found}
use Rattle.hall_layout.proofs.tree_end.Goals as goal

pub returns : goal.returns
returns c = search end_found
