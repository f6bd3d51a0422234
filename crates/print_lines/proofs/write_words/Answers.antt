-- Writing words meets its contract.
-- Assumes nothing.
use Rattle.std.proofs.Common.{rules}
use Rattle.print_lines.proofs.NumberWords.{none_yet, space_fits, number_fits, one_more}
use Rattle.print_lines.proofs.write_words.Goals as goal

pub loop-word-init : goal.loop-word-init
loop-word-init c = search none_yet

pub byte-requires : goal.byte-requires
byte-requires c = search (space_fits, rules)

pub decimal-requires : goal.decimal-requires
decimal-requires c = search (number_fits, rules)

pub loop-word-preserved : goal.loop-word-preserved
loop-word-preserved c = search (one_more, rules)
