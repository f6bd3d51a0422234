-- Writing what a choice was answered meets its contract.
-- Assumes nothing.
use Rattle.semantics.specs.Definitions.Sentence.{ascii, named}
use Rattle.print_sentence.proofs.SentenceParts.{rule_fits, rule_words_fit, short_fits, moved_written, refusal_fits, refusal_words_fit, refused_written}
use Rattle.print_sentence.proofs.write_reply.Goals as goal

pub write_named-requires : goal.write_named-requires
unfolding named ascii
write_named-requires c = search rule_fits

pub text-requires : goal.text-requires
unfolding named ascii
text-requires c = search rule_words_fit

pub write_short-requires : goal.write_short-requires
unfolding named ascii
write_short-requires c = search short_fits

pub write_named-requires-in-Err : goal.write_named-requires-in-Err
unfolding named ascii
write_named-requires-in-Err c = search refusal_fits

pub text-requires-in-Err : goal.text-requires-in-Err
unfolding named ascii
text-requires-in-Err c = search refusal_words_fit

pub returns-in-Ok : goal.returns-in-Ok
unfolding named ascii
returns-in-Ok c = search moved_written

pub returns-in-Err : goal.returns-in-Err
unfolding named ascii
returns-in-Err c = search refused_written
