-- `begun` meets its contract. Assumes nothing.
use Rattle.move_blocks.proofs.TransactionBegin.{transaction_laid}
use Rattle.move_blocks.proofs.begins.begun.Goals as goal

pub returns : goal.returns
returns c = search transaction_laid
