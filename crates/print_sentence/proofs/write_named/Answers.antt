-- Writing a text and a number meets its contract.
-- Assumes nothing.
use Rattle.print_sentence.proofs.SentenceParts.{number_fits, named_written}
use Rattle.print_sentence.proofs.write_named.Goals as goal

pub decimal-requires : goal.decimal-requires
decimal-requires c = search number_fits

pub returns : goal.returns
returns c = search named_written
