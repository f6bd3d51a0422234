-- Writing a byte meets its contract.
-- Assumes nothing.
use Rattle.std.proofs.Common.{refl, arith}
use Rattle.print_decimals.proofs.Pages.{wrote_byte}
use Rattle.print_decimals.proofs.Page.byte.Goals as goal

pub returns : goal.returns
returns c = record { same = refl; wrote = wrote_byte _ _ _ (omega (arith, c.requires.fits)) }
