-- The net of a channel meets its contract.
-- Assumes nothing.
use Rattle.print_decimals.proofs.SignedNumbers.{difference_net}
use Rattle.print_decimals.proofs.net.Goals as goal

pub returns : goal.returns
returns c = search difference_net
