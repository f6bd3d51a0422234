-- Printing the lines of a run meets its contract.
-- Assumes nothing.
use Rattle.print_sections.proofs.AllLines.{hall_long, counters_fit, channels_fit, components_fit, lines_printed}
use Rattle.print_sections.proofs.print_lines.Goals as goal

pub counters_line-requires : goal.counters_line-requires
counters_line-requires c = counters_fit c.args.hall.now c.args.index.now.starts c.args.index.now.components c.args.first.now c.args.answer
    _ c.requires.2 _ c.outcome_number.ensures _ c.run_line.ensures

pub channel_lines-requires : goal.channel_lines-requires
channel_lines-requires c = (
  c.requires.1,
  search hall_long,
  channels_fit c.args.hall.now c.args.index.now.starts c.args.index.now.components c.args.first.now c.args.answer
      _ c.requires.2 _ c.outcome_number.ensures _ c.run_line.ensures _ c.counters_line.ensures,
)

pub component_lines-requires : goal.component_lines-requires
component_lines-requires c = (
  c.requires.0,
  components_fit c.args.hall.now c.args.index.now.starts c.args.index.now.components c.args.first.now c.args.answer
      _ c.requires.2 _ c.outcome_number.ensures _ c.run_line.ensures _ c.counters_line.ensures _ c.channel_lines.ensures,
)

pub returns : goal.returns
returns c = search lines_printed
