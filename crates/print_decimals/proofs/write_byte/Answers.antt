-- Writing a byte meets its contract.
-- Assumes nothing.
use Rattle.print_decimals.proofs.Pages.{wrote_byte}
use Rattle.print_decimals.proofs.write_byte.Goals as goal

pub returns : goal.returns
returns c = search wrote_byte
