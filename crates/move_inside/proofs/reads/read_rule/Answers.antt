-- `read_rule` meets its contract. Assumes nothing.
use Rattle.move_inside.proofs.RedexRules.{read_told}
use Rattle.move_inside.proofs.reads.read_rule.Goals as goal

pub returns : goal.returns
returns c = search read_told
