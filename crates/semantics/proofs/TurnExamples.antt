-- The worked examples of an opening turn by turn follow from the definitions, by computation.
-- Assumes nothing.
use mathlib.Core.Path.{refl}
use Rattle.semantics.specs.Definitions.Turns.{turn_call}
use Rattle.semantics.specs.Checks.Examples.{numbers}
use Rattle.semantics.specs.Checks.TurnExamples.{first_turns, all_kinds, behind, TurnExamples}

pub turn_examples : TurnExamples
unfolding turn_call numbers first_turns all_kinds behind
turn_examples = record {
  nil_alone = refl;
  put_alone = refl;
  two_puts_holds = refl;
  nils_between = refl;
  to_the_left = refl;
  to_the_right = refl;
  all_kinds_holds = refl;
  far_past = refl;
  refused = refl;
  nothing_read = refl;
}
