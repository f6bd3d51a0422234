-- The call that writes a sentence meets its contract.
-- Assumes nothing.
use Rattle.std.proofs.Common.{rules}
use Rattle.theorems.proofs.Theorems.{promised, on_sentences}
use Rattle.print_sentence.proofs.SentenceCalls.{short_refused, reply_fits, end_fits, sentence_told}
use Rattle.print_sentence.proofs.sentence.Goals as goal

pub returns-then-buffer-lt-SENTENCE_BYTES-clause-buffer_after : goal.returns-then-buffer-lt-SENTENCE_BYTES-clause-buffer_after
returns-then-buffer-lt-SENTENCE_BYTES-clause-buffer_after c = search (short_refused, rules)

pub returns-then-buffer-lt-SENTENCE_BYTES-clause-promised : goal.returns-then-buffer-lt-SENTENCE_BYTES-clause-promised
returns-then-buffer-lt-SENTENCE_BYTES-clause-promised c = promised on_sentences

pub write_reply-requires : goal.write_reply-requires
write_reply-requires c = reply_fits _ _ _ _ _ _ c.new-page.ensures (search rules) _ c.write_choice.ensures

pub byte-requires : goal.byte-requires
byte-requires c = search (end_fits, rules)

pub returns-clause-buffer_after : goal.returns-clause-buffer_after
returns-clause-buffer_after c =
    sentence_told _ _ _ _ _ _ c.new-page.ensures (search rules) _ c.write_choice.ensures _ _ c.write_reply.ensures
    (search rules) _ c.byte.ensures _ (search rules) _ c.len.ensures

pub returns-clause-promised : goal.returns-clause-promised
returns-clause-promised c = promised on_sentences
