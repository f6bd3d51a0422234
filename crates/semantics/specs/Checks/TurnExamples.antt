-- Worked examples of an opening turn by turn (document 02, Q-4), from a table's bytes on.
-- Assumes nothing.
use Rattle.std.specs.Prelude.{ℕ, ◌≡◌, List, [], ◌∷◌, map}
use Rattle.std.proofs.Math.Option.{none, some}
use Rattle.semantics.specs.Definitions.Basics.{count_up}
use Rattle.semantics.specs.Definitions.Terms.{end_t, Program, nil_t, put_t, par_t}
use Rattle.semantics.specs.Definitions.Configuration.{taking, repeating, block, output}
use Rattle.semantics.specs.Definitions.Turns.{TurnAnswer, lays, past_end, not_turned, turn_call}
use Rattle.semantics.specs.Checks.Examples.{numbers}

-- the answers to the first calls
unfoldable pub first_turns : ℕ → List ℕ → List TurnAnswer
unfolding turn_call count_up
first_turns n table = map (turn_call table) (count_up 0 n)

-- nothing is laid down; and a putting station of this tray is
abbrev pub none_laid : (left : ℕ) → TurnAnswer
none_laid n = lays none n

abbrev pub put_laid : (tray left : ℕ) → TurnAnswer
put_laid a n = lays (some (output a)) n

-- end; its block; nil; put 5; these two side by side; take 3, then that; repeated take 4, then that; the take beside the
-- repeated take; these beside the block
unfoldable pub all_kinds : List ℕ
all_kinds = numbers "7 6 0 1 2 5 5 2 3 3 3 4 4 4 4 5 5 6 5 7 1 13 8"

unfoldable pub behind : Program
behind = par_t 4 (nil_t 2) (put_t 3 5)

pub record TurnExamples : Type 0 where
  -- nil; put 7
  pub nil_alone : first_turns 2 (numbers "1 13 0") ≡ none_laid 0 ∷ past_end ∷ []
  pub put_alone : first_turns 2 (numbers "2 7 13 0") ≡ put_laid 7 0 ∷ past_end ∷ []
  -- put 0 beside put 1: the sides wait, the left one is next
  pub two_puts_holds : first_turns 4 (numbers "2 0 2 1 5 0 1 13 2") ≡ none_laid 2 ∷ put_laid 0 1 ∷ put_laid 1 0 ∷ past_end ∷ []
  -- (nil beside put 5) beside nil: a nil takes a turn, and lays down nothing
  pub nils_between :
      first_turns 6 (numbers "1 2 5 5 0 1 5 2 0 13 3") ≡
      none_laid 2 ∷ none_laid 3 ∷ none_laid 2 ∷ put_laid 5 1 ∷ none_laid 0 ∷ past_end ∷ []
  -- puts 0, 1 and 2, leaning to the left and to the right
  pub to_the_left :
      first_turns 6 (numbers "2 0 2 1 2 2 5 0 1 5 3 2 13 4") ≡
      none_laid 2 ∷ none_laid 3 ∷ put_laid 0 2 ∷ put_laid 1 1 ∷ put_laid 2 0 ∷ past_end ∷ []
  pub to_the_right :
      first_turns 6 (numbers "2 0 2 1 2 2 5 1 2 5 0 3 13 4") ≡
      none_laid 2 ∷ put_laid 0 1 ∷ none_laid 2 ∷ put_laid 1 1 ∷ put_laid 2 0 ∷ past_end ∷ []
  -- what stands behind a take does not open
  pub all_kinds_holds :
      first_turns 6 all_kinds ≡
      none_laid 2 ∷ none_laid 3 ∷ lays (some (taking 5 3 behind)) 2 ∷ lays (some (repeating 6 4 behind)) 1
      ∷ lays (some (block 1 (end_t 0))) 0 ∷ past_end ∷ []
  -- past the end at any number, and refused at any
  pub far_past : turn_call (numbers "2 7 13 0") 1000 ≡ past_end
  pub refused : first_turns 2 (numbers "1 2 16 13 0") ≡ not_turned 4 1 ∷ not_turned 4 1 ∷ []
  pub nothing_read : turn_call [] 1000 ≡ not_turned 9 0
