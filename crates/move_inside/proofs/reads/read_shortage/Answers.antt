-- `read_shortage` meets its contract. Assumes nothing.
use Rattle.move_inside.proofs.RedexRules.{read_shortage_found}
use Rattle.move_inside.proofs.reads.read_shortage.Goals as goal

pub returns : goal.returns
returns c = search read_shortage_found
