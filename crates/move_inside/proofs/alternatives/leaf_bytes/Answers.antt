-- `leaf_bytes` meets its contract. Assumes nothing.
use Rattle.move_inside.proofs.LeafBytes.{leaf_copied}
use Rattle.move_inside.proofs.alternatives.leaf_bytes.Goals as goal

pub returns : goal.returns
returns c = search leaf_copied
