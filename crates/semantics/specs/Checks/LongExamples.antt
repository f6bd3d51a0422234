-- Worked examples that take long to compute: runs through every call beside those of specs/Checks/Examples, printed runs
-- of many choices, a hall that is full, steps one after another, a list of calls that mixes runs and steps, and the turns
-- of an opening 64 wide. They are proved in the crate theorems, proofs/LongExamples, where they are computed once, and not
-- with each edit of a definition.
-- Assumes nothing.
use Rattle.std.specs.Prelude.{ℕ, ◌≡◌, replicate}
use Rattle.std.proofs.Math.Option.{none, some}
use mathlib.Core.List.{List, [], ◌∷◌, ◌++◌, map, flatten}
use Rattle.calculus.specs.Syntax.{rd, wt}
use Rattle.calculus.specs.Reduction.{IN, REP, ATST, ATRE, ATFAIL, ATOK, ARDOK, ARDF, AWR, AOI, AOE}
use Rattle.semantics.specs.Definitions.Basics.{All, count_up}
use Rattle.semantics.specs.Definitions.Shortage.{enough}
use Rattle.semantics.specs.Definitions.Configuration.{output}
use Rattle.semantics.specs.Definitions.Turns.{lays, past_end, not_turned, turn_call}
use Rattle.semantics.specs.Definitions.Run.{Counters}
use Rattle.semantics.specs.Definitions.Calls.{check_hall, open_hall, Buffers, StepCall, step_call, run_choices, step_choice}
use Rattle.semantics.specs.Definitions.Sentence.{ascii}
use Rattle.semantics.specs.Checks.Examples.{Example, noise, numbers, times, trays, hall_of, attempt, leaf_of, attempt_note_bytes}
use Rattle.semantics.specs.Checks.Examples.{tally, verdict, hall_left, hall_left_open, ran_to, ran, row, row_from, RowHolds}
use Rattle.semantics.specs.Checks.EdgeExamples.{PrintedRow, prints, RunHolds, stored_table, forks, calls_seen}
use Rattle.semantics.specs.Checks.StepExamples.{steps_in_turn, told_row, step_row}

-- ---- runs through every call

unfoldable pub long_runs : List Example
unfolding ascii numbers attempt leaf_of attempt_note_bytes tally hall_left hall_left_open ran_to ran row row_from
long_runs =
    -- for the kinds and rules that the ten do not meet: take 1.nil, repeated take 2 of nil, atom retry,
    -- atom (end orElse rd 3.end) and atom (rd 3.end) side by side. ARDF writes 255 although the table has a retry; the
    -- run ends with 18
    row "1 3 1 0 4 2 0 8 6 3 7 9 3 5 11 5 6 6 7 6 6 5 1 2 5 4 8 5 10 11 5 12 9 12 1 1 12 2 1 13 13"
    "1 0 1 0 1 1 1 1 1 2 2 2 0 2 2 0 1 2 1 2 2 2 0 1 0"
    (ran (IN 1 ∷ REP 2 ∷ ATST ∷ ATRE ∷ ATST ∷ AOI ∷ AOE ∷ ATOK [] ∷ ATST ∷ ARDF ∷ []) 18 23 10 (tally 1 0 1)
    (hall_left_open "" (numbers "20 2 20 4" ++ attempt 9 "" (leaf_of 255 0 "")) (numbers "20 2 20 4" ++ attempt_note_bytes 9 "") "1 1 1 2")
    "R 18 23 10\nC 1 0 1\nT 1 1 -1 0\nT 2 1 -1 0\nW 2\nW 4\nA 9 1\n") ∷
    -- for the order in which stations are laid down: rep 0.(put 1 | put 2) and take 0.(put 1 | put 2) beside a block
    -- rd 0.wt 1.rd 0.wt 2.end
    row "2 1 2 2 5 0 1 4 0 2 3 0 2 7 10 2 5 9 0 6 10 1 7 9 0 8 6 9 5 3 4 5 11 10 12 0 4 13 12"
    "1 0 1 3 1 5 2 5 0 2 5 0 2 5 0 2 5 0 1 5"
    (ran (REP 0 ∷ IN 0 ∷ ATST ∷ ARDOK ∷ AWR ∷ ARDOK ∷ AWR ∷ ATOK (rd 0 ∷ wt 1 ∷ rd 0 ∷ wt 2 ∷ []) ∷ []) 0 20 8
    (tally 1 0 0)
    (hall_left "" "24 1 24 2 20 3 24 1 24 2 24 1 24 2" "1 0 1 1 1 3 1 4 1 5 1 6")
    "R 0 20 8\nC 1 0 0\nT 0 4 -4 0\nP 1\nP 2\nW 3\nP 1\nP 2\nP 1\nP 2\n") ∷
    -- for nodes in preorder, and both sides of an orElse with the log so far:
    -- wt 3.((rd 0.end orElse wt 1.end) orElse wt 2.end), both orElse taken apart, the leaves at nodes 2, 3 and 4
    row "7 9 0 0 10 1 0 11 1 2 10 2 0 11 3 4 10 3 5 6 6 13 7" "1 0 2 0 0 2 0 0 2 0 1 2 0 4"
    (ran (ATST ∷ AWR ∷ AOI ∷ AOI ∷ AWR ∷ []) 0 14 5 (tally 0 0 0)
    (hall_left_open ""
    (attempt 7 "" (22 ∷ 22 ∷ (leaf_of 1 1 "19" ++ (leaf_of 2 1 "19" ++ leaf_of 0 2 "19 18")))) (attempt_note_bytes 7 "") "2 0 2 2 0 3")
    "R 0 14 5\nC 0 0 0\nA 7 5\n") ∷
    -- against counters that pass 4,294,967,295 or stop before it: one commit, one failure and one retry, each counter
    -- once at its top, once one below
    tallied (tally 4294967295 4294967294 7) (tally 4294967295 4294967295 8) ∷
    tallied (tally 4294967294 7 4294967295) (tally 4294967295 8 4294967295) ∷
    tallied (tally 7 4294967295 4294967294) (tally 8 4294967295 4294967295) ∷
    -- against a read that looks at its own tray alone: a stored hall that no run reached, with stations of every kind
    -- and a log that does not fit its snapshot, so that rd 1 fails although tray 1 has its token
    record {
      table = numbers "7 8 10 0 0 9 1 2 6 3 1 3 2 5 4 2 5 13 4";
      stored = some (hall_of (trays "0 0 1") (attempted (leaf_of 3 1 "0")));
      first = tally 7 8 9;
      choices = numbers "2 4 1";
      expected =
          ran_to (ARDF ∷ []) 0 3 1 (tally 7 8 9)
          (hall_left_open "0 0 1" (attempted (leaf_of 255 1 "0")) [] "1 0 1 1 1 2 1 3 2 4 0 2 4 2 2 4 4") none
          (ascii "R 14 0 0\nC 0 0 0\nW 4\n");
    } ∷
    []
  where
    tallied : (first last : Counters) → Example
    tallied first last =
        row_from first "7 9 0 0 6 1 8 6 3 5 2 2 5 5 4 12 0 1 13 6" "1 0 1 1 2 0 0 2 1 0 1 0 1 0 1 1 1 1"
        (ran (ATST ∷ ATST ∷ ARDOK ∷ ARDOK ∷ ATOK (rd 0 ∷ []) ∷ ATFAIL ∷ ATST ∷ ATRE ∷ []) 0 18 8 last
        (hall_left "" "20 2 20 4" "1 0 1 1")
        "R 0 18 8\nC 1 1 1\nT 0 1 -1 0\nW 2\nW 4\n")

    -- take, repeated take, block and output, and an attempt: a fork with this left side, and on its right another fork
    attempted : List ℕ → List ℕ
    attempted l =
        numbers "20 6 20 7 20 4 24 15" ++ attempt 4 "0 1" (22 ∷ (l ++ (22 ∷ (leaf_of 255 2 "16 1" ++ leaf_of 2 0 ""))))

-- ---- printed runs

unfoldable pub long_prints : List PrintedRow
unfolding numbers times prints
long_prints =
    -- the net at both ends: rep 1.put 0 with 255 tokens in tray 1, all of them moved to tray 0
    prints (numbers "2 0 4 1 0 12 1 255 13 1" ++ times 255 (numbers "1 0 1 0"))
    "R 0 1020 510\nC 0 0 0\nT 0 0 255 255\nT 1 255 -255 0\nW 1\n" ∷
    -- 16,384 bytes are read, here with 8,189 choices and the last cut short; one byte more is too long
    prints (numbers "8 6 0 13 1" ++ (times 8189 (numbers "1 0") ++ numbers "1"))
    "R 13 16378 8189\nC 0 0 4094\nA 1 1\n" ∷
    prints (numbers "8 6 0 13 1" ++ times 8190 (numbers "1 0")) "long\n" ∷
    []

-- ---- stored halls

-- a hall that is full to its last byte, with 64 attempts of 8 leaves; halls of another size; noise
unfoldable pub HallsChecked : Type 0
unfolding stored_table times leaf_of attempt forks verdict noise check_hall
HallsChecked =
    map (check_hall stored_table)
    ((replicate 16 255 ++ times 64 (attempt 5 "255" (forks 7 (leaf_of 0 0 "") (leaf_of 0 0 "")))) ∷ replicate 11343 0 ∷
    replicate 11345 0 ∷ noise ∷ [])
    ≡ verdict 0 0 ∷ verdict 10 0 ∷ verdict 10 0 ∷ verdict 11 0 ∷ []

-- ---- steps

-- a block that reads tray 0 and writes tray 1, one token in tray 0
unfoldable pub block_table : List ℕ
unfolding numbers
block_table = numbers "7 10 1 0 9 0 1 6 2 12 0 1 13 3"

-- rehearsal 1, with its block as term 3, step by step, with steps that are refused in between
unfoldable pub Rehearsed : Type 0
unfolding block_table noise open_hall steps_in_turn told_row step_row attempt leaf_of numbers tally
Rehearsed =
    steps_in_turn block_table (record { hall = (open_hall block_table noise).hall; counters = tally 3 4 5 })
    ((1, 0, 9) ∷ (2, 0, 0) ∷ (2, 0, 1) ∷ (1, 0, 0) ∷ (0, 0, 0) ∷ (3, 0, 0) ∷ (2, 0, 0) ∷ (2, 0, 0) ∷ (1, 0, 255) ∷
    (1, 0, 0) ∷ (1, 0, 0) ∷ (2, 0, 0) ∷ [])
    ≡
    -- ATST, with a node that counts for nothing; ARDOK
    step_row 0 2 4 "1" (attempt 3 "1" (leaf_of 2 0 "")) (tally 3 4 5) ∷
    step_row 0 3 8 "1" (attempt 3 "1" (leaf_of 1 1 "0")) (tally 3 4 5) ∷
    -- no such node, an attempt that has more to do, and kinds that are neither 1 nor 2: nothing changes
    step_row 16 0 0 "1" (attempt 3 "1" (leaf_of 1 1 "0")) (tally 3 4 5) ∷
    step_row 15 0 0 "1" (attempt 3 "1" (leaf_of 1 1 "0")) (tally 3 4 5) ∷
    step_row 12 0 0 "1" (attempt 3 "1" (leaf_of 1 1 "0")) (tally 3 4 5) ∷
    step_row 12 0 0 "1" (attempt 3 "1" (leaf_of 1 1 "0")) (tally 3 4 5) ∷
    -- AWR; a leaf at its end; ATOK, which counts; OUT
    step_row 0 3 10 "1" (attempt 3 "1" (leaf_of 0 2 "0 17")) (tally 3 4 5) ∷
    step_row 17 0 0 "1" (attempt 3 "1" (leaf_of 0 2 "0 17")) (tally 3 4 5) ∷
    step_row 0 2 7 "0" (numbers "24 1") (tally 4 4 5) ∷
    step_row 0 2 1 "0 1" [] (tally 4 4 5) ∷
    -- no station is left
    step_row 14 0 0 "0 1" [] (tally 4 4 5) ∷
    step_row 14 0 0 "0 1" [] (tally 4 4 5) ∷ []

-- a table that is refused, a hall of another size, and bytes that are no hall: their number and place come first, also
-- before that of an unknown kind, and what was lent stays
unfoldable pub Rejected : Type 0
unfolding block_table noise numbers tally step_call
Rejected =
    (step_call (numbers "7 0") (buffers_with noise) 1 0 0 ≡ rejected_with 1 1 noise) ×
    (step_call block_table (buffers_with (replicate 3 171)) 2 0 0 ≡ rejected_with 10 0 (replicate 3 171)) ×
    (step_call block_table (buffers_with noise) 1 0 0 ≡ rejected_with 11 0 noise) ×
    (step_call block_table (buffers_with noise) 3 0 0 ≡ rejected_with 11 0 noise)
  where
    buffers_with : List ℕ → Buffers
    buffers_with h = record { hall = h; counters = tally 3 4 5 }

    rejected_with : (number place : ℕ) → List ℕ → StepCall
    rejected_with n p h = record { number = n; place = p; rule = 0; shortage = enough; buffers = buffers_with h }

-- rehearsal 1 by runs and steps: a run ended by 16 and a step of an unknown kind are among them
unfoldable pub Mixed : Type 0
unfolding block_table numbers tally trays hall_of calls_seen
Mixed =
    calls_seen block_table (tally 3 4 5)
    (step_choice 1 0 9 ∷ run_choices (numbers "2 0 0 2 0 5 1 0") ∷ step_choice 2 0 0 ∷ step_choice 3 0 0 ∷
    run_choices (numbers "1 0 1 0") ∷ [])
    ≡ record {
      replies = numbers "0 2 1" ∷ numbers "16 3 1" ∷ numbers "0 3 1" ∷ numbers "12 0 0" ∷ numbers "0 4 2" ∷ [];
      done = numbers "1 0 2 0 0 2 0 0 1 0 1 0";
      counters = tally 4 4 5;
      hall = hall_of (trays "0 1") [];
      one_step = some (record { counts = trays "0 1"; stations = []; counters = tally 4 4 5 });
    }

-- ---- an opening turn by turn, at the limit of the width (document 02, Q-4)

-- put 0, and so many times more, each to the right of all before it
unfoldable pub leaning_table : ℕ → List ℕ
unfolding count_up flatten
leaning_table n = 2 ∷ 0 ∷ (flatten (map (λ k. 5 ∷ k ∷ 0 ∷ []) (count_up 0 n)) ++ (13 ∷ n ∷ []))

-- 64 wide: all 64 terms wait at once; 65 wide: refused, at the record that is too wide
unfoldable pub Leaning : Type 0
unfolding leaning_table turn_call
Leaning =
    (map (turn_call (leaning_table 63)) (62 ∷ 63 ∷ 126 ∷ 127 ∷ []) ≡
    lays none 64 ∷ lays (some (output 0)) 63 ∷ lays (some (output 0)) 0 ∷ past_end ∷ []) ×
    (turn_call (leaning_table 64) 0 ≡ not_turned 7 191)

-- ---- the claim

pub record LongExamples : Type 0 where
  pub runs : All RowHolds long_runs
  pub printed_runs_holds : All RunHolds long_prints
  pub halls_checked : HallsChecked
  pub rehearsed : Rehearsed
  pub rejected : Rejected
  pub mixed : Mixed
  pub leaning : Leaning
