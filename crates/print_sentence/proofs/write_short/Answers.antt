-- Writing what was short meets its contract.
-- Assumes nothing.
use Rattle.semantics.specs.Definitions.Sentence.{ascii, named}
use Rattle.print_sentence.proofs.SentenceParts.{tray_fits, by_fits, short_written, none_written}
use Rattle.print_sentence.proofs.write_short.Goals as goal

pub write_named-requires : goal.write_named-requires
unfolding named ascii
write_named-requires c = search tray_fits

pub write_named-requires-in-Some : goal.write_named-requires-in-Some
unfolding named ascii
write_named-requires-in-Some c = search by_fits

pub returns-in-Some : goal.returns-in-Some
unfolding named ascii
returns-in-Some c = search short_written

pub returns-in_default : goal.returns-in_default
returns-in_default c = search none_written
