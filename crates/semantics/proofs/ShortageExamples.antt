-- The worked examples of what is told short follow from the definitions, by computation.
-- Assumes nothing.
use mathlib.Core.Path.{refl}
use Rattle.semantics.specs.Definitions.Basics.{count_up}
use Rattle.semantics.specs.Definitions.Shortage.{shortage_against}
use Rattle.semantics.specs.Checks.Examples.{numbers, trays}
use Rattle.semantics.specs.Checks.ShortageExamples.{told_on, read_five, ReadsShort, ChoicesShort, ShortageExamples}

reads_short : ReadsShort
unfolding count_up shortage_against numbers trays
reads_short = record {
  nothing_read = refl;
  all_there = refl;
  one_lacks = refl;
  two_lack = refl;
  lower_has_enough = refl;
  every_tray = refl;
  every_shortage = refl;
}

choices_short : ChoicesShort
unfolding told_on read_five trays
choices_short = record {
  commit_fails = refl;
  commit_passes = refl;
  commit_lowest = refl;
  commit_by_sixteen = refl;
  read_fails = refl;
  read_passes = refl;
  read_again = refl;
  read_of_another = refl;
  read_is_lower = refl;
  read_by_sixteen = refl;
  commit_behind_a_write = refl;
  read_behind_a_write = refl;
  read_at_a_node = refl;
  retry = refl;
  write = refl;
  left_ends = refl;
  refused = refl;
}

pub shortage_examples : ShortageExamples
shortage_examples = record { reads = reads_short; choices = choices_short }
