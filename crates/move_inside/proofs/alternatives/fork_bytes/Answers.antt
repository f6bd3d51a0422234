-- `fork_bytes` meets its contract. Assumes nothing.
use Rattle.move_inside.proofs.LeafBytes.{split_made}
use Rattle.move_inside.proofs.alternatives.fork_bytes.Goals as goal

pub returns : goal.returns
returns c = search split_made
