-- Writing the line of a channel meets its contract.
-- Assumes nothing.
use Rattle.print_lines.proofs.LinePieces.{channel_letter_fits, head_fits, net_word_fits, last_fits, channel_end_fits, channel_written}
use Rattle.print_lines.proofs.write_channel.Goals as goal

pub byte-requires : goal.byte-requires
byte-requires c = search channel_letter_fits

pub write_words-requires : goal.write_words-requires
write_words-requires c = search head_fits

pub write_net-requires : goal.write_net-requires
write_net-requires c = search net_word_fits

pub write_words-requires-2 : goal.write_words-requires-2
write_words-requires-2 c = search last_fits

pub byte-requires-2 : goal.byte-requires-2
byte-requires-2 c = search channel_end_fits

pub returns : goal.returns
returns c = search channel_written
