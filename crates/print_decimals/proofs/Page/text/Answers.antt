-- Writing a text meets its contract.
-- Assumes nothing.
use Rattle.std.proofs.Common.{refl}
use Rattle.print_decimals.proofs.Pages.{wrote_text}
use Rattle.print_decimals.proofs.Page.text.Goals as goal

pub returns : goal.returns
returns c = record { same = refl; wrote = wrote_text _ _ _ _ (search) }
