-- `first_leaf` meets its contract. Assumes nothing.
use Rattle.move_blocks.proofs.TransactionBegin.{leaf_laid}
use Rattle.move_blocks.proofs.begins.first_leaf.Goals as goal

pub returns : goal.returns
returns c = search leaf_laid
