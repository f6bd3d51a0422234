-- Printing the line of a run meets its contract.
-- Assumes nothing.
use Rattle.print_sections.proofs.RunLines.{run_fits, run_printed}
use Rattle.print_sections.proofs.totals.run_line.Goals as goal

pub write_line-requires : goal.write_line-requires
write_line-requires c = search run_fits

pub returns : goal.returns
returns c = search run_printed
