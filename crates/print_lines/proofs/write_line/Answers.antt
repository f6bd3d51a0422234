-- Writing a line of numbers meets its contract.
-- Assumes nothing.
use Rattle.print_lines.proofs.LinePieces.{letter_fits, words_fit, newline_fits, line_written}
use Rattle.print_lines.proofs.write_line.Goals as goal

pub byte-requires : goal.byte-requires
byte-requires c = search letter_fits

pub write_words-requires : goal.write_words-requires
write_words-requires c = search words_fit

pub byte-requires-2 : goal.byte-requires-2
byte-requires-2 c = search newline_fits

pub returns : goal.returns
returns c = search line_written
