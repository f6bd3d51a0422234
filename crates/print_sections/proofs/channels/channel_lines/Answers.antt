-- Printing the lines of all channels meets its contract.
-- Assumes nothing.
use Rattle.std.proofs.Common.{rules}
use Rattle.print_sections.proofs.ChannelLines.{no_channel, next_room, channel_more}
use Rattle.print_sections.proofs.channels.channel_lines.Goals as goal

pub loop-i-init : goal.loop-i-init
loop-i-init c = search no_channel

pub channel_line-requires : goal.channel_line-requires
channel_line-requires c = search (next_room, rules)

pub loop-i-preserved : goal.loop-i-preserved
loop-i-preserved c = search (channel_more, rules)
