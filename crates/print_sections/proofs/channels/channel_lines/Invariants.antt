-- Printing the lines of all channels meets its contract.
-- Assumes nothing.
use Rattle.print_sections.proofs.ChannelLines.{ChannelsSoFar}
use Rattle.print_sections.proofs.channels.channel_lines.Given as goal

abbrev pub invariant-loop-i : goal.invariant-loop-i
invariant-loop-i l = ChannelsSoFar l.initial.page l.first l.last l.page l.i
