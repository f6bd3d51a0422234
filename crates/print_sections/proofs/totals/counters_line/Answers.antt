-- Printing the line of the counters meets its contract.
-- Assumes nothing.
use Rattle.print_sections.proofs.RunLines.{counters_fit, counters_printed}
use Rattle.print_sections.proofs.totals.counters_line.Goals as goal

pub write_line-requires : goal.write_line-requires
write_line-requires c = search counters_fit

pub returns : goal.returns
returns c = search counters_printed
