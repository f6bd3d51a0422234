-- Worked examples of the step call: steps one after another, each on the hall and tally that the last one left, with
-- every byte afterwards. Longer ones stand in specs/Checks/LongExamples. Proved in proofs/StepExamples, by computation.
-- Assumes nothing.
use Rattle.std.specs.Prelude.{ℕ, ◌≡◌, List, [], ◌∷◌, ◌++◌, map}
use Prim.Native.String.{String}
use Rattle.semantics.specs.Definitions.Shortage.{Shortage, enough, short}
use Rattle.semantics.specs.Definitions.Run.{Counters}
use Rattle.semantics.specs.Definitions.Calls.{Buffers, StepCall, step_call, step_choice, call_bytes}
use Rattle.semantics.specs.Checks.Examples.{numbers, trays, hall_of, attempt, leaf_of, tally}

-- steps in turn, each a kind, a position and a node
unfoldable pub steps_in_turn : List ℕ → Buffers → List (ℕ × ℕ × ℕ) → List StepCall
unfolding step_call
steps_in_turn table l [] = []
steps_in_turn table l (c ∷ cs) =
    let a = step_call table l c.0 c.1 c.2 in a ∷ steps_in_turn table a.buffers cs

-- an answer, and the counts, stations and tally that it leaves
unfoldable pub told_row : Shortage → (number place rule : ℕ) (counts : String) (stations : List ℕ) → Counters → StepCall
unfolding trays hall_of
told_row w n p r counts stations c =
    record {
      number = n;
      place = p;
      rule = r;
      shortage = w;
      buffers = record { hall = hall_of (trays counts) stations; counters = c };
    }

-- one that tells no shortage
unfoldable pub step_row : (number place rule : ℕ) (counts : String) (stations : List ℕ) → Counters → StepCall
unfolding told_row
step_row = told_row enough

-- an attempt at rd 0.end whose snapshot has no token, and one that has read 5, 3 and 3 and come to its end; no tray has a
-- token. The read fails and tells its tray; a further step at that leaf, which is refused, and one of an unknown kind tell
-- none; the commit, with a node that counts for nothing, fails and tells the lower of its trays
unfoldable pub StepsTold : Type 0
unfolding numbers trays hall_of attempt leaf_of steps_in_turn told_row step_row tally
StepsTold =
    steps_in_turn (numbers "7 9 0 0 6 1 13 2")
    (record { hall = hall_of (trays "") (attempt 2 "" (leaf_of 1 0 "") ++ ended); counters = tally 3 4 5 })
    ((2, 0, 0) ∷ (2, 0, 0) ∷ (3, 1, 0) ∷ (1, 1, 9) ∷ [])
    ≡
    told_row (short 0 1) 0 3 9 "" (attempt 2 "" (leaf_of 255 0 "") ++ ended) (tally 3 4 5) ∷
    step_row 17 0 0 "" (attempt 2 "" (leaf_of 255 0 "") ++ ended) (tally 3 4 5) ∷
    step_row 12 0 0 "" (attempt 2 "" (leaf_of 255 0 "") ++ ended) (tally 3 4 5) ∷
    told_row (short 3 2) 0 2 6 "" (attempt 2 "" (leaf_of 255 0 "") ++ numbers "20 2") (tally 3 5 5) ∷ []
  where
    ended : List ℕ
    ended = attempt 2 "9 9 9 9 9 9" (leaf_of 0 3 "5 3 3")

-- in a list of calls a step stands for the bytes of its choice: those of kind 1 or 2, and of any other kind that kind alone
unfoldable pub Written : Type 0
unfolding numbers call_bytes
Written =
    map call_bytes (step_choice 0 4 5 ∷ step_choice 1 4 5 ∷ step_choice 2 4 5 ∷ step_choice 7 4 5 ∷ [])
    ≡ numbers "0" ∷ numbers "1 4" ∷ numbers "2 4 5" ∷ numbers "7" ∷ []

pub record StepExamples : Type 0 where
  pub told : StepsTold
  pub written : Written
