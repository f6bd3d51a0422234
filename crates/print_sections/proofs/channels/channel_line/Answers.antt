-- Printing the line of a channel meets its contract.
-- Assumes nothing.
use Rattle.print_sections.proofs.ChannelLines.{empty_channel, channel_fits, channel_printed}
use Rattle.print_sections.proofs.channels.channel_line.Goals as goal

pub returns-then-last-eq0 : goal.returns-then-last-eq0
returns-then-last-eq0 c = search empty_channel

pub write_channel-requires : goal.write_channel-requires
write_channel-requires c = search channel_fits

pub returns : goal.returns
returns c = search channel_printed
