-- Writing a number's digits on a page meets its contract.
-- Assumes nothing.
use Rattle.std.proofs.Common.{refl}
use Rattle.print_decimals.proofs.Page.decimal.Goals as goal

pub write_decimal-self-requires : goal.write_decimal-self-requires
write_decimal-self-requires c = c.requires.fits

pub returns : goal.returns
returns c = record { same = refl; wrote = search }
