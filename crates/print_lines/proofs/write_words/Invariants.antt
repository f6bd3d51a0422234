-- Writing words meets its contract.
-- Assumes nothing.
use Rattle.print_lines.proofs.NumberWords.{WordsWritten}
use Rattle.print_lines.proofs.write_words.Given as goal

abbrev pub invariant-loop-word : goal.invariant-loop-word
invariant-loop-word l = WordsWritten l.initial.page l.words l.page l.word-index
