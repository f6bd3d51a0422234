-- The worked examples (document 01, "Rehearsals to prove") as one table, from the bytes of a rule table and of choices
-- to every answer, and the claim that the definitions give just these. Proved in proofs/Examples.
--
-- Each row goes through the public calls on bytes: the table is checked, a hall full of noise is lent and opened, the
-- hall is checked, the choices are run on it, the hall that they leave is checked and every choice tried on it, and the
-- program prints table and choices. Beside them go the rules done and the one-step run that is fed what was done.
-- The ten rehearsals come first. Each row below them is there for a wrong definition that the ten let through, and its
-- comment says which; further such rows stand in specs/Checks/LongExamples. The edges at which a row need not go through
-- all calls stand in specs/Checks/EdgeExamples.
-- Assumes nothing.
use Rattle.std.specs.Prelude.{ℕ, zero, suc, ◌+◌, ◌-◌, ◌*◌, ◌≡◌, cond, List, [], ◌∷◌, ◌++◌, map, length, take, replicate, eqb}
use Prim.Native.Char.{code}
use Prim.Native.String as Text
use Prim.Native.String.{String}
use Rattle.std.proofs.Math.Option.{Option, none, some}
use Rattle.calculus.specs.Syntax.{rd, wt, State}
use Rattle.calculus.specs.Reduction.{Rule, OUT, ATST, ATFAIL, ATOK, ARDOK, ARDF, AWR, AOI, AOF, AOE}
use Rattle.semantics.specs.Definitions.Basics.{All, count_up}
use mathlib.Core.List.{flatten}
use Rattle.semantics.specs.Definitions.Table.{TableAnswer, accepted, refused_at, read_table}
use Rattle.semantics.specs.Definitions.Configuration.{Idle, taking, repeating, block, output}
use Rattle.semantics.specs.Definitions.Moves.{Entry, act, inside, Transition, moved, refused, transition}
use Rattle.semantics.specs.Definitions.Run.{Counters, schedule, entries, entry_bytes, steps}
use Rattle.semantics.specs.Definitions.AtomicRun.{atomic_start, atomic_run}
use Rattle.semantics.specs.Definitions.Calls.{Verdict, ok, rejected, check_table, Admission, admitted, not_admitted, admission, admission_verdict}
use Rattle.semantics.specs.Definitions.Calls.{OpenAnswer, opened, not_opened, open_hall, Buffers, run_call}
use Rattle.semantics.specs.Definitions.Report.{printed_run}
use Rattle.semantics.specs.Definitions.Sentence.{ascii}

-- ---- what is looked at

-- the state of a one-step run; a station's bytes are as in a stored hall, with the 16 counts of its note behind them
pub record OneStep : Type 0 where
  pub counts : List ℕ
  pub stations : List ℕ
  pub counters : Counters

pub record Observed : Type 0 where
  -- of the table, of opening a hall from it, and of the hall that is lent to the run
  pub checked : Verdict
  pub opens : OpenAnswer
  pub before : Verdict
  -- the rules done in order, each with what it acts on: a commit shows its log
  pub rules : List Rule
  -- the answer of the run
  pub number : ℕ
  pub place : ℕ
  pub done : ℕ
  -- the tally and all bytes of the hall behind the run, and of that hall
  pub counters : Counters
  pub hall : List ℕ
  pub behind : Verdict
  -- the bytes of the choices that are accepted on it, one after another: of all choices at its positions and the one
  -- behind them, with the nodes 0 to 15
  pub accepts : List ℕ
  -- the one-step run that is fed what was done, where the hall was opened
  pub one_step : Option OneStep
  -- what the program prints
  pub text : List ℕ

pub record Example : Type 0 where
  pub table : List ℕ
  -- the hall that is lent, where it is not the one just opened
  pub stored : Option (List ℕ)
  -- the tally that is lent
  pub first : Counters
  pub choices : List ℕ
  pub expected : Observed

-- what stands in the hall before it is opened
unfoldable pub noise : List ℕ
noise = replicate 11344 171

unfoldable pub hall_for : Option (List ℕ) → List ℕ → List ℕ
hall_for none hall = hall
hall_for (some bs) hall = bs

unfoldable pub rules_done : Admission → List Entry → List Rule
unfolding steps
rules_done (not_admitted n p) es = []
rules_done (admitted t h) es = map (λ s. s.rule) (steps h es)

-- every choice on a hall of n stations, and some past them; kept apart from the list that suggestions go by
unfoldable pub every_choice : ℕ → List Entry
unfolding count_up flatten
every_choice n = flatten (map (λ p. act p ∷ map (inside p) (count_up 0 16)) (count_up 0 (suc n)))

unfoldable pub where_moved : Transition → Entry → List ℕ
unfolding entry_bytes
where_moved (moved r h) e = entry_bytes e
where_moved (refused n) e = []

unfoldable pub accepted_on : Admission → List ℕ
unfolding every_choice where_moved transition flatten
accepted_on (not_admitted n p) = []
accepted_on (admitted t h) = flatten (map (λ e. where_moved (transition h e) e) (every_choice (length h.components)))

unfoldable pub station_bytes : Idle → List ℕ
station_bytes (taking n a P) = 20 ∷ n ∷ []
station_bytes (repeating n a P) = 20 ∷ n ∷ []
station_bytes (block n M) = 20 ∷ n ∷ []
station_bytes (output a) = 24 ∷ a ∷ []

unfoldable pub note_bytes : Option State → List ℕ
note_bytes none = []
note_bytes (some σ) = σ

unfoldable pub one_step_run : TableAnswer → Option (List ℕ) → Counters → List Entry → Option OneStep
unfolding station_bytes note_bytes flatten atomic_start atomic_run
one_step_run (refused_at n p) stored c es = none
one_step_run (accepted t) none c es =
    let s = atomic_run (atomic_start t c) es in
    some
    (record {
      counts = s.counts;
      stations = flatten (map (λ x. station_bytes x.station ++ note_bytes x.note) s.stations);
      counters = s.counters;
    })
one_step_run (accepted t) (some hall) c es = none

-- a run as a call on a lent hall and tally, and all that is looked at beside it
unfoldable pub ran_out : Example → Buffers → OpenAnswer → Observed
unfolding rules_done accepted_on one_step_run read_table check_table admission_verdict admission run_call entries schedule printed_run
ran_out e l o =
    let r = run_call e.table l e.choices in
    let done = take r.done (entries (schedule e.choices)) in
    let before = admission e.table l.hall in
    let behind = admission e.table r.buffers.hall in
    record {
      checked = check_table e.table;
      opens = o;
      before = admission_verdict before;
      rules = rules_done before done;
      number = r.number;
      place = r.place;
      done = r.done;
      counters = r.buffers.counters;
      hall = r.buffers.hall;
      behind = admission_verdict behind;
      accepts = accepted_on behind;
      one_step = one_step_run (read_table e.table) e.stored e.first done;
      text = printed_run (e.table ++ e.choices);
    }

unfoldable pub observed : Example → Observed
unfolding noise hall_for open_hall ran_out
observed e =
    let o = open_hall e.table noise in
    ran_out e (record { hall = hall_for e.stored o.hall; counters = e.first }) o.answer

-- ---- how a row is written: with nothing of the definitions but their types and the bytes of a text

-- the numbers that a text has in decimal, with one space between them
unfoldable pub numbers : String → List ℕ
numbers Text.[] = []
numbers (Text.◌∷◌ c s) = from (code c - 48) s
  where
    from : ℕ → String → List ℕ
    from n Text.[] = n ∷ []
    from n (Text.◌∷◌ d r) = cond (eqb (code d) 32) (n ∷ from 0 r) (from (10 * n + (code d - 48)) r)

unfoldable pub times : ℕ → List ℕ → List ℕ
times zero xs = []
times (suc n) xs = xs ++ times n xs

-- n bytes: these, then zeros
unfoldable pub zero_filled : ℕ → List ℕ → List ℕ
zero_filled n xs = take n (xs ++ replicate n 0)

-- counts from tray 0 on, 0 for trays not written
unfoldable pub trays : String → List ℕ
unfolding zero_filled numbers
trays counts = zero_filled 16 (numbers counts)

-- a hall's bytes: counts, then stations, then zeros
unfoldable pub hall_of : (counts stations : List ℕ) → List ℕ
hall_of counts stations = let used = counts ++ stations in used ++ replicate (11344 - length used) 0

-- an attempt's bytes: a term, the snapshot, and the nodes
unfoldable pub attempt : (term : ℕ) (snapshot : String) (nodes : List ℕ) → List ℕ
unfolding trays
attempt n snapshot nodes = 21 ∷ n ∷ (trays snapshot ++ nodes)

-- a leaf's bytes: a term or 255, the length of its log, and the log
unfoldable pub leaf_of : (term size : ℕ) (log : String) → List ℕ
unfolding zero_filled numbers
leaf_of n size log = 23 ∷ n ∷ size ∷ zero_filled 16 (numbers log)

-- a block's bytes in the one-step run, with its note
unfoldable pub attempt_note_bytes : (term : ℕ) (note : String) → List ℕ
unfolding trays
attempt_note_bytes n note = 20 ∷ n ∷ trays note

-- n records of kind 9 or 10 on tray 0, the first on term i, which is the last so far, each other on the one before it
unfoldable pub chain : (kind n i : ℕ) → List ℕ
chain k zero i = []
chain k (suc n) i = k ∷ 0 ∷ i ∷ chain k n (suc i)

-- n records of kind 5 or 11, the first on term i twice, which is the last so far, each other twice on the one before it
unfoldable pub doublings : (kind n i : ℕ) → List ℕ
doublings k zero i = []
doublings k (suc n) i = k ∷ i ∷ i ∷ doublings k n (suc i)

-- the choices that act at the positions below n
unfoldable pub act_choices : ℕ → List ℕ
act_choices zero = []
act_choices (suc n) = act_choices n ++ (1 ∷ n ∷ [])

unfoldable pub tally : (commits failed retries : ℕ) → Counters
tally c f r = record { commits = c; failed = f; retries = r }

-- number 0 where nothing is refused
unfoldable pub verdict : (number place : ℕ) → Verdict
verdict zero p = ok
verdict (suc n) p = rejected (suc n) p

-- what stands behind a run: counts, stations, the stations of the one-step run, and the choices accepted on the hall
pub record HallLeft : Type 0 where
  pub counts : List ℕ
  pub stations : List ℕ
  pub one_step : List ℕ
  pub accepts : List ℕ

-- no attempt is open, so that the one-step run has the same stations
unfoldable pub hall_left : (counts stations accepts : String) → HallLeft
unfolding trays numbers
hall_left counts stations es =
    record { counts = trays counts; stations = numbers stations; one_step = numbers stations; accepts = numbers es }

unfoldable pub hall_left_open : (counts : String) (stations one_step : List ℕ) (accepts : String) → HallLeft
unfolding trays numbers
hall_left_open counts stations blocks es =
    record { counts = trays counts; stations = stations; one_step = blocks; accepts = numbers es }

-- the table is accepted and a hall opened from it; this is the run, whose one-step run ends so
unfoldable pub ran_to : List Rule → (number place done : ℕ) → Counters → HallLeft → Option OneStep → List ℕ → Observed
unfolding verdict tally hall_of
ran_to rs n p d t l s x =
    record {
      checked = verdict 0 0;
      opens = opened (tally 0 0 0);
      before = verdict 0 0;
      rules = rs;
      number = n;
      place = p;
      done = d;
      counters = t;
      hall = hall_of l.counts l.stations;
      behind = verdict 0 0;
      accepts = l.accepts;
      one_step = s;
      text = x;
    }

-- on the hall opened: the one-step run has the same counts and the same tally
unfoldable pub ran : (rules : List Rule) (number place done : ℕ) → Counters → HallLeft → (text : String) → Observed
unfolding ran_to ascii
ran rs n p d t l x =
    ran_to rs n p d t l (some (record { counts = l.counts; stations = l.one_step; counters = t })) (ascii x)

-- a run on the hall opened, lent a first tally, and one lent the fresh tally
unfoldable pub row_from : Counters → (table choices : String) → Observed → Example
unfolding numbers
row_from c table choices e =
    record { table = numbers table; stored = none; first = c; choices = numbers choices; expected = e }

unfoldable pub row : (table choices : String) → Observed → Example
unfolding row_from tally
row table choices e = row_from (tally 0 0 0) table choices e

-- a table that is accepted, with no choice run: the stations that stand, the choices accepted, and their lines
unfoldable pub accepted_table : (table stations accepts lines : List ℕ) → Example
unfolding ran_to tally trays ascii
accepted_table table stations es lines =
    let l : HallLeft = record { counts = trays ""; stations = stations; one_step = stations; accepts = es } in
    let s : OneStep = record { counts = trays ""; stations = stations; counters = tally 0 0 0 } in
    record {
      table = table;
      stored = none;
      first = tally 0 0 0;
      choices = [];
      expected = ran_to [] 0 0 0 (tally 0 0 0) l (some s) (ascii "R 0 0 0\nC 0 0 0\n" ++ lines);
    }

-- a table that is refused: every call says so, and hall and tally stay as they were lent
unfoldable pub refused_table : (table : List ℕ) (number place : ℕ) (text : String) → Example
unfolding verdict tally noise ascii
refused_table table n p x =
    record {
      table = table;
      stored = none;
      first = tally 3 4 5;
      choices = [];
      expected =
          record {
            checked = verdict n p;
            opens = not_opened n p;
            before = verdict n p;
            rules = [];
            number = n;
            place = p;
            done = 0;
            counters = tally 3 4 5;
            hall = noise;
            behind = verdict n p;
            accepts = [];
            one_step = none;
            text = ascii x;
          };
    }

-- ---- the ten rehearsals

unfoldable pub rehearsals : List Example
unfolding ascii numbers times attempt leaf_of attempt_note_bytes chain doublings act_choices tally hall_left hall_left_open ran row accepted_table
    refused_table
rehearsals =
    -- 1. the run that document 01 prints, to the byte
    row "7 10 1 0 9 0 1 6 2 12 0 1 13 3" "1 0 2 0 0 2 0 0 1 0 1 0"
    (ran (ATST ∷ ARDOK ∷ AWR ∷ ATOK (rd 0 ∷ wt 1 ∷ []) ∷ OUT 1 ∷ []) 0 12 5 (tally 1 0 0)
    (hall_left "0 1" "" "")
    "R 0 12 5\nC 1 0 0\nT 0 1 -1 0\nT 1 0 1 1\n") ∷
    -- 2. tray 1 lacks what the way rd 0.rd 1.wt 2.end wants: nothing of it is committed, only wt 3 of the other way
    row "7 10 2 0 9 1 1 9 0 2 10 3 0 11 3 4 6 5 12 0 1 13 6" "1 0 2 0 0 2 0 1 2 0 1 2 0 0 2 0 0 1 0"
    (ran (ATST ∷ AOI ∷ ARDOK ∷ ARDF ∷ AOF ∷ AWR ∷ ATOK (wt 3 ∷ []) ∷ []) 0 19 7 (tally 1 0 0)
    (hall_left "1" "24 3" "1 0")
    "R 0 19 7\nC 1 0 0\nT 0 1 0 1\nP 3\n") ∷
    -- 3. the block rd 0.rd 0.end where a single token lies: its first read passes, its second is ARDF
    row "7 9 0 0 9 0 1 6 2 12 0 1 13 3" "1 0 2 0 0 2 0 0"
    (ran (ATST ∷ ARDOK ∷ ARDF ∷ []) 0 8 3 (tally 0 0 0)
    (hall_left_open "1" (attempt 3 "1" (leaf_of 255 1 "0")) (attempt_note_bytes 3 "1") "1 0")
    "R 0 8 3\nC 0 0 0\nT 0 1 0 1\nA 3 1\n") ∷
    -- 4. two attempts have read the only token: the first that acts commits it (ATOK), the other fails (ATFAIL)
    row "7 9 0 0 6 1 5 2 2 12 0 1 13 3" "1 0 1 1 2 0 0 2 1 0 1 0 1 0"
    (ran (ATST ∷ ATST ∷ ARDOK ∷ ARDOK ∷ ATOK (rd 0 ∷ []) ∷ ATFAIL ∷ []) 0 14 6 (tally 1 1 0)
    (hall_left "" "20 2" "1 0")
    "R 0 14 6\nC 1 1 0\nT 0 1 -1 0\nW 2\n") ∷
    -- 5. what the way rd 0.wt 1.end wants comes after the attempt has begun: the other way, wt 2.end, is committed
    row "7 10 1 0 9 0 1 10 2 0 11 2 3 6 4 2 0 5 5 6 13 7" "1 0 1 1 2 0 0 2 0 1 2 0 0 2 0 0 1 0"
    (ran (ATST ∷ OUT 0 ∷ AOI ∷ ARDF ∷ AOF ∷ AWR ∷ ATOK (wt 2 ∷ []) ∷ []) 0 18 7 (tally 1 0 0)
    (hall_left "1" "24 2" "1 0")
    "R 0 18 7\nC 1 0 0\nT 0 0 1 1\nP 2\n") ∷
    -- 6. a block writes into an empty tray and then reads from it: ARDF, as its own write is not there yet
    row "7 9 0 0 10 0 1 6 2 13 3" "1 0 2 0 0 2 0 0"
    (ran (ATST ∷ AWR ∷ ARDF ∷ []) 0 8 3 (tally 0 0 0)
    (hall_left_open "" (attempt 3 "" (leaf_of 255 1 "16")) (attempt_note_bytes 3 "") "1 0")
    "R 0 8 3\nC 0 0 0\nA 3 1\n") ∷
    -- 7. the empty table: 9, place 0
    refused_table [] 9 0 "R 9 0 0\n" ∷
    -- 8. width 64 is accepted, and all 64 stations stand
    accepted_table (numbers "2 0" ++ (doublings 5 6 0 ++ numbers "13 6"))
    (times 64 (numbers "24 0")) (act_choices 64) (times 64 (ascii "P 0\n")) ∷
    -- 8. width 65 is refused 7, at the record that makes it
    refused_table (numbers "2 0" ++ (doublings 5 6 0 ++ numbers "5 6 0 13 7")) 7 20 "R 7 20 0\n" ∷
    -- 9. branches 8 are accepted
    accepted_table (7 ∷ (doublings 11 3 0 ++ numbers "6 3 13 4")) (numbers "20 4") (numbers "1 0") (ascii "W 4\n") ∷
    -- 9. branches 9 are refused 7
    refused_table (7 ∷ (doublings 11 3 0 ++ numbers "11 3 0 6 4 13 5")) 7 10 "R 7 10 0\n" ∷
    -- 9. length 16 is accepted
    accepted_table (7 ∷ (chain 10 16 0 ++ numbers "6 16 13 17")) (numbers "20 17") (numbers "1 0") (ascii "W 17\n") ∷
    -- 9. length 17 is refused 7
    refused_table (7 ∷ (chain 10 17 0 ++ numbers "6 17 13 18")) 7 49 "R 7 49 0\n" ∷
    -- 10. a put fills a tray of 254; the next put finds it full and is refused 20
    row "2 0 5 0 0 12 0 254 13 1" "1 0 1 0"
    (ran (OUT 0 ∷ []) 20 2 1 (tally 0 0 0)
    (hall_left "255" "24 0" "")
    "R 20 2 1\nC 0 0 0\nT 0 254 1 255\nP 0\n") ∷
    []

-- ---- further runs

unfoldable pub further_runs : List Example
unfolding ascii numbers attempt leaf_of attempt_note_bytes tally hall_left hall_left_open ran row
further_runs =
    -- for the order of nodes and of outputs: two writes, wt 0.wt 1.end, or else wt 2.end; the right side moved first
    row "7 10 1 0 10 0 1 10 2 0 11 2 3 6 4 13 5" "1 0 2 0 0 2 0 2 2 0 1 2 0 1 2 0 0 1 0"
    (ran (ATST ∷ AOI ∷ AWR ∷ AWR ∷ AWR ∷ AOE ∷ ATOK (wt 0 ∷ wt 1 ∷ []) ∷ []) 0 19 7 (tally 1 0 0)
    (hall_left "" "24 0 24 1" "1 0 1 1") "R 0 19 7\nC 1 0 0\nP 0\nP 1\n") ∷
    -- against AOF by a right side that is a retry: wt 0.end orElse retry, and 17 at the fork
    row "7 10 0 0 8 11 1 2 6 3 13 4" "1 0 2 0 0 2 0 0"
    (ran (ATST ∷ AOI ∷ []) 17 5 2 (tally 0 0 0)
    (hall_left_open "" (attempt 4 "" (22 ∷ (leaf_of 1 0 "" ++ leaf_of 2 0 ""))) (attempt_note_bytes 4 "") "2 0 1")
    "R 17 5 2\nC 0 0 0\nA 4 3\n") ∷
    -- against the last readable path for the first: the block of rehearsal 5 with a token in tray 0, so that both of
    -- its paths are readable
    row "7 10 1 0 9 0 1 10 2 0 11 2 3 6 4 12 0 1 13 5" "1 0 2 0 0 2 0 1 2 0 1 2 0 0 1 0"
    (ran (ATST ∷ AOI ∷ ARDOK ∷ AWR ∷ AOE ∷ ATOK (rd 0 ∷ wt 1 ∷ []) ∷ []) 0 16 6 (tally 1 0 0)
    (hall_left "" "24 1" "1 0")
    "R 0 16 6\nC 1 0 0\nT 0 1 -1 0\nP 1\n") ∷
    []

-- ---- the claim

-- in a row the definitions give what is expected
abbrev pub RowHolds : Example → Type 0
RowHolds e = observed e ≡ e.expected

-- the ten, and the rows beyond them
pub record Examples : Type 0 where
  pub the_ten : All RowHolds rehearsals
  pub beyond : All RowHolds further_runs
