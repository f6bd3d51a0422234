-- Worked examples beside the table of specs/Checks/Examples, for the edges at which a definition could be off by one or miss a
-- case while everything else is still proved: answers to single choices, tables, printed runs, stored halls, several
-- calls, and the rules. Each row goes through the calls that it is about. Longer ones stand in specs/Checks/LongExamples.
-- Proved in proofs/EdgeExamples.
-- Assumes nothing.
use Rattle.std.specs.Prelude.{ℕ, zero, suc, ◌+◌, ◌≡◌, List, [], ◌∷◌, ◌++◌, map, replicate}
use Prim.Native.String.{String}
use Rattle.std.proofs.Math.Option.{Option, none, some}
use Rattle.calculus.specs.Syntax.{rd, wt, nil}
use Rattle.calculus.specs.Reduction.{OUT, IN, REP, ATST, ATRE, ATFAIL, ATOK, ARDOK, ARDF, AWR, AOI, AOF, AOE, COM}
use Rattle.semantics.specs.Definitions.Basics.{All}
use Rattle.semantics.specs.Definitions.Table.{TableAnswer, accepted, refused_at, read_table}
use Rattle.semantics.specs.Definitions.Configuration.{opening}
use Rattle.semantics.specs.Definitions.Stored.{configuration_of}
use Rattle.semantics.specs.Definitions.Shortage.{enough, short}
use Rattle.semantics.specs.Definitions.Moves.{entry_answer, Effect, effect_of, Reply, moved_by, refused_by, as_reply}
use Rattle.semantics.specs.Definitions.Run.{Counters, schedule, entries, schedule_bytes, run}
use Rattle.semantics.specs.Definitions.Calls.{Verdict, check_table, admission_verdict, Admission, not_admitted}
use Rattle.semantics.specs.Definitions.Calls.{form_tested, opened, not_opened, open_hall, open_verdict}
use Rattle.semantics.specs.Definitions.Calls.{Buffers, run_call, Call, run_choices, after_calls, entries_done}
use Rattle.semantics.specs.Definitions.Report.{printed_run}
use Rattle.semantics.specs.Definitions.Sentence.{ascii}
use Rattle.semantics.specs.Claims.Denotation.{WithinLimits}
use Rattle.semantics.specs.Claims.Atomicity.{answers}
use Rattle.semantics.specs.Checks.Examples.{noise, accepted_on, OneStep, one_step_run, numbers, times, trays, hall_of}
use Rattle.semantics.specs.Checks.Examples.{attempt, leaf_of, chain, doublings, tally, verdict}

-- ---- answers to single choices

-- a table, choices done from the opening on, choices each tried alone on the hall that they lead to, and the answers
pub record Trial : Type 0 where
  pub table : List ℕ
  pub done : List ℕ
  pub tried : List ℕ
  pub expected : List Reply

unfoldable pub replies_on : TableAnswer → (done tried : List ℕ) → List Reply
unfolding as_reply entry_answer run opening entries schedule tally
replies_on (refused_at n p) done tried = []
replies_on (accepted t) done tried =
    let h = (run (opening t) (tally 0 0 0) done).configuration in
    map (λ e. as_reply (entry_answer h e)) (entries (schedule tried))

unfoldable pub trials : List Trial
unfolding numbers doublings
trials =
    -- 14 to 17 and numbers of rules: (rd 0.end or_else wt 1.end) or_else wt 2.end as opened
    nested "" "1 0 2 0 0 1 1 2 1 0" (moved 4 ∷ refused_by 15 ∷ refused_by 14 ∷ refused_by 14 ∷ []) ∷
    -- both or_else taken apart, and the last leaf at its end
    nested "1 0 2 0 0 2 0 1 2 0 4" "1 0 2 0 0 2 0 1 2 0 2 2 0 3 2 0 4 2 0 5 2 0 255"
    (refused_by 15 ∷ refused_by 17 ∷ refused_by 17 ∷ moved_by 9 (short 0 1) ∷ moved 10 ∷ refused_by 17 ∷ refused_by 16 ∷
    refused_by 16 ∷ []) ∷
    -- then rd 0 failed
    nested "1 0 2 0 0 2 0 1 2 0 4 2 0 2" "2 0 0 2 0 1 2 0 2 2 0 3"
    (refused_by 17 ∷ moved 12 ∷ refused_by 17 ∷ moved 10 ∷ []) ∷
    -- then that side dropped and the other at its end
    nested "1 0 2 0 0 2 0 1 2 0 4 2 0 2 2 0 1 2 0 1" "1 0 2 0 0 2 0 1 2 0 2 2 0 3"
    (refused_by 15 ∷ moved 13 ∷ refused_by 17 ∷ refused_by 17 ∷ refused_by 16 ∷ []) ∷
    -- then the right side dropped
    nested "1 0 2 0 0 2 0 1 2 0 4 2 0 2 2 0 1 2 0 1 2 0 0" "1 0 2 0 0 2 0 1"
    (moved 7 ∷ refused_by 17 ∷ refused_by 16 ∷ []) ∷
    -- 18 and 19 in a full hall: 60 times put 0, rep 1.nil, take 1 and take 2 of two puts, and a block
    -- rd 1.wt 3.wt 3.end; two tokens in tray 1. 18 comes before 19, and a repeated take of nil goes on
    full "" "1 0 1 60 1 61 1 62 1 63 1 64"
    (moved 1 ∷ moved 3 ∷ refused_by 19 ∷ refused_by 18 ∷ moved 4 ∷ refused_by 14 ∷ []) ∷
    -- the block at its end: two outputs are one too many; with one station gone they are not; and a commit that fails
    -- is 6 and never 19
    full "1 63 2 63 0 2 63 0 2 63 0" "1 63" (refused_by 19 ∷ []) ∷
    full "1 63 2 63 0 2 63 0 2 63 0 1 0" "1 62" (moved 7 ∷ []) ∷
    full "1 63 2 63 0 2 63 0 2 63 0 1 60 1 60" "1 63 1 60" (moved_by 6 (short 1 1) ∷ refused_by 18 ∷ []) ∷
    []
  where
    -- nothing is short
    moved : ℕ → Reply
    moved n = moved_by n enough

    trial : List ℕ → (done tried : String) → List Reply → Trial
    trial table done tried ts = record { table = table; done = numbers done; tried = numbers tried; expected = ts }

    nested : (done tried : String) → List Reply → Trial
    nested done tried ts = trial (numbers "7 9 0 0 10 1 0 11 1 2 10 2 0 11 3 4 6 5 13 6") done tried ts

    full : (done tried : String) → List Reply → Trial
    full done tried ts =
        trial
        (numbers "2 0" ++ (doublings 5 5 0 ++ (numbers "5 5 4 5 6 3 5 7 2 1 4 1 9 3 1 1 3 2 1 7 10 3 13 10 3 14" ++
        numbers "9 1 15 6 16 5 8 10 5 18 11 5 19 12 5 20 17 12 1 2 13 21")))
        done tried ts

-- ---- tables

-- what checking a table gives, and what the program prints for it alone
pub record TableSeen : Type 0 where
  pub checked : Verdict
  pub text : List ℕ

pub record TableRow : Type 0 where
  pub table : List ℕ
  pub expected : TableSeen

unfoldable pub table_seen : List ℕ → TableSeen
unfolding check_table printed_run
table_seen table = record { checked = check_table table; text = printed_run table }

-- accepted, with these lines behind the first two
unfoldable pub fits : (table lines : List ℕ) → TableRow
unfolding verdict ascii
fits table lines =
    record { table = table; expected = record { checked = verdict 0 0; text = ascii "R 0 0 0\nC 0 0 0\n" ++ lines } }

unfoldable pub refused_row : (table : List ℕ) (number place : ℕ) (text : String) → TableRow
unfolding verdict ascii
refused_row table n p text = record { table = table; expected = record { checked = verdict n p; text = ascii text } }

-- an end and a nil as terms 0 and 1, and a last record that is refused
unfoldable pub spoilt : (last : String) (number : ℕ) → TableRow
unfolding verdict ascii numbers
spoilt last n =
    record {
      table = 7 ∷ 1 ∷ numbers last;
      expected = record { checked = verdict n 2; text = ascii "R " ++ ((48 + n) ∷ ascii " 2 0\n") };
    }

-- an end and 8 writes, an or_else of terms 0 to 8, n writes more, and the rest
unfoldable pub sides : (or_else : String) (n : ℕ) (rest : String) → List ℕ
unfolding chain numbers
sides or_else n rest = 7 ∷ (chain 10 8 0 ++ (numbers or_else ++ (chain 10 n 9 ++ numbers rest)))

unfoldable pub widths : List TableRow
unfolding ascii numbers times doublings fits refused_row
widths =
    -- width of nil: 64 of them are accepted although none opens, 65 are refused
    fits (1 ∷ (doublings 5 6 0 ++ numbers "13 6")) [] ∷
    refused_row (1 ∷ (doublings 5 6 0 ++ numbers "5 6 0 13 7")) 7 19 "R 7 19 0\n" ∷
    -- width of a take and of a repeated take: 1, although two puts follow
    fits (numbers "2 0 5 0 0 3 0 1" ++ (doublings 5 6 2 ++ numbers "13 8")) (times 64 (ascii "W 2\n")) ∷
    refused_row (numbers "2 0 5 0 0 3 0 1" ++ (doublings 5 6 2 ++ numbers "5 8 2 13 9")) 7 26 "R 7 26 0\n" ∷
    fits (numbers "2 0 5 0 0 4 0 1" ++ (doublings 5 6 2 ++ numbers "13 8")) (times 64 (ascii "W 2\n")) ∷
    refused_row (numbers "2 0 5 0 0 4 0 1" ++ (doublings 5 6 2 ++ numbers "5 8 2 13 9")) 7 26 "R 7 26 0\n" ∷
    -- width of an atom: 1, although its expression has two branches and length 1
    fits (numbers "7 10 0 0 11 0 1 6 2" ++ (doublings 5 6 3 ++ numbers "13 9")) (times 64 (ascii "W 3\n")) ∷
    refused_row (numbers "7 10 0 0 11 0 1 6 2" ++ (doublings 5 6 3 ++ numbers "5 9 3 13 10")) 7 27 "R 7 27 0\n" ∷
    []

unfoldable pub branchings : List TableRow
unfolding ascii numbers doublings fits refused_row
branchings =
    -- branches of retry, and of rd and wt in between
    fits (8 ∷ (doublings 11 3 0 ++ numbers "6 3 13 4")) (ascii "W 4\n") ∷
    refused_row (8 ∷ (doublings 11 3 0 ++ numbers "11 3 0 6 4 13 5")) 7 10 "R 7 10 0\n" ∷
    fits (7 ∷ (doublings 11 2 0 ++ numbers "9 0 2 10 0 2 11 3 4 6 5 13 6")) (ascii "W 6\n") ∷
    refused_row (7 ∷ (doublings 11 2 0 ++ numbers "9 0 2 10 0 2 11 3 4 11 5 0 6 6 13 7")) 7 16 "R 7 16 0\n" ∷
    []

unfoldable pub lengths : List TableRow
unfolding ascii numbers chain fits refused_row sides
lengths =
    -- length through rd, and of retry
    fits (8 ∷ (chain 9 16 0 ++ numbers "6 16 13 17")) (ascii "W 17\n") ∷
    refused_row (8 ∷ (chain 9 17 0 ++ numbers "6 17 13 18")) 7 49 "R 7 49 0\n" ∷
    -- length of an or_else: of sides 8 and 0, of sides 0 and 8, of sides 8 and 8, each under 8 and under 9 actions more
    fits (sides "11 8 0" 8 "6 17 13 18") (ascii "W 18\n") ∷
    refused_row (sides "11 8 0" 9 "6 18 13 19") 7 52 "R 7 52 0\n" ∷
    fits (sides "11 0 8" 8 "6 17 13 18") (ascii "W 18\n") ∷
    refused_row (sides "11 0 8" 9 "6 18 13 19") 7 52 "R 7 52 0\n" ∷
    fits (sides "11 8 8" 8 "6 17 13 18") (ascii "W 18\n") ∷
    refused_row (sides "11 8 8" 9 "6 18 13 19") 7 52 "R 7 52 0\n" ∷
    []

unfoldable pub bodies : List TableRow
unfolding spoilt
bodies =
    -- 1: kinds 0 and 14
    spoilt "0" 1 ∷
    spoilt "14" 1 ∷
    -- 2, of each kind with a body, before 4
    spoilt "2" 2 ∷
    spoilt "3 16" 2 ∷
    spoilt "4 16" 2 ∷
    spoilt "5 1" 2 ∷
    spoilt "6" 2 ∷
    spoilt "9 16" 2 ∷
    spoilt "10 16" 2 ∷
    spoilt "11 0" 2 ∷
    spoilt "12 16" 2 ∷
    spoilt "13" 2 ∷
    []

unfoldable pub terms_and_trays : List TableRow
unfolding ascii numbers times fits refused_row spoilt
terms_and_trays =
    -- 3: 200 terms are accepted, with tokens and a start behind them; one more is refused, before its reference is
    -- looked at
    fits (times 199 (numbers "7") ++ numbers "1 12 0 1 13 199") (ascii "T 0 1 0 1\n") ∷
    refused_row (times 200 (numbers "7") ++ numbers "6 250 13 0") 3 200 "R 3 200 0\n" ∷
    -- 4: tray 15 is accepted; tray 16 is not, of each kind with a tray, before its reference and its count
    fits (numbers "2 15 13 0") (ascii "P 15\n") ∷
    spoilt "2 16" 4 ∷
    spoilt "3 16 9" 4 ∷
    spoilt "4 16 9" 4 ∷
    spoilt "9 16 9" 4 ∷
    spoilt "10 16 9" 4 ∷
    spoilt "12 16 0" 4 ∷
    []

unfoldable pub references : List TableRow
unfolding spoilt
references =
    -- 5: of each kind with a reference, its own number; the second reference comes before the class of the first
    spoilt "3 0 2" 5 ∷
    spoilt "4 0 2" 5 ∷
    spoilt "5 2 0" 5 ∷
    spoilt "5 0 2" 5 ∷
    spoilt "6 2" 5 ∷
    spoilt "9 0 2" 5 ∷
    spoilt "10 0 2" 5 ∷
    spoilt "11 2 1" 5 ∷
    spoilt "11 1 2" 5 ∷
    spoilt "13 2" 5 ∷
    []

unfoldable pub classes : List TableRow
unfolding spoilt
classes =
    -- 6: of each kind with a reference, a term of the other class
    spoilt "3 0 0" 6 ∷
    spoilt "4 0 0" 6 ∷
    spoilt "5 0 1" 6 ∷
    spoilt "5 1 0" 6 ∷
    spoilt "6 1" 6 ∷
    spoilt "9 0 1" 6 ∷
    spoilt "10 0 1" 6 ∷
    spoilt "11 1 0" 6 ∷
    spoilt "11 0 1" 6 ∷
    spoilt "13 0" 6 ∷
    []

unfoldable pub tokens_and_starts : List TableRow
unfolding ascii numbers fits refused_row
tokens_and_starts =
    -- 8: no tokens, tokens for a tray twice; 255 for each of two trays
    refused_row (numbers "1 12 3 0 13 0") 8 1 "R 8 1 0\n" ∷
    refused_row (numbers "1 12 3 1 12 3 1 13 0") 8 4 "R 8 4 0\n" ∷
    fits (numbers "1 12 3 255 12 15 255 13 0") (ascii "T 3 255 0 255\nT 15 255 0 255\n") ∷
    -- 9: a byte behind the start record, which the program takes for a choice; no start record
    refused_row (numbers "1 13 0 7") 9 3 "R 12 0 0\nC 0 0 0\n" ∷
    refused_row (numbers "1 12 13 1") 9 4 "R 9 4 0\n" ∷
    []

-- ---- printed runs

-- an input of table and choices, and what the program prints
pub record PrintedRow : Type 0 where
  pub input : List ℕ
  pub text : List ℕ

unfoldable pub prints : (input : List ℕ) (text : String) → PrintedRow
unfolding ascii
prints input text = record { input = input; text = ascii text }

unfoldable pub printed_runs : List PrintedRow
unfolding numbers times prints
printed_runs =
    -- under 1 to 9 nothing is done, whatever choices follow the start record
    prints (numbers "2 16 13 0 1 0 1 0") "R 4 0 0\n" ∷
    -- where the steps come to a kind that is unknown, all of the input is the table
    prints (numbers "7 99 13 0 1 0") "R 1 1 0\n" ∷
    -- a start record is found by stepping over records, so not in the body of one; it may be cut short
    prints (numbers "2 13 13 0 1 0") "R 0 2 1\nC 0 0 0\nT 13 0 1 1\n" ∷
    prints (numbers "7 13") "R 2 1 0\n" ∷
    -- only the first start record ends the table
    prints (numbers "2 1 13 0 13 0") "R 12 0 0\nC 0 0 0\nP 1\n" ∷
    -- behind one choice that was done: a kind that is neither 1 nor 2, and a choice cut short
    prints (numbers "8 6 0 13 1 1 0 0 0") "R 12 2 1\nC 0 0 0\nA 1 1\n" ∷
    prints (numbers "8 6 0 13 1 1 0 3 0 0") "R 12 2 1\nC 0 0 0\nA 1 1\n" ∷
    prints (numbers "8 6 0 13 1 1 0 1") "R 13 2 1\nC 0 0 0\nA 1 1\n" ∷
    prints (numbers "8 6 0 13 1 1 0 2") "R 13 2 1\nC 0 0 0\nA 1 1\n" ∷
    prints (numbers "8 6 0 13 1 1 0 2 0") "R 13 2 1\nC 0 0 0\nA 1 1\n" ∷
    -- a net below 0 where tokens are left: take 0.nil, three of them
    prints (numbers "1 3 0 0 12 0 3 13 1 1 0") "R 0 2 1\nC 0 0 0\nT 0 3 -1 2\n" ∷
    []

-- ---- stored halls

-- a table with end, retry, wt 0.end, rd 1.wt 0.end and end or_else retry as terms 0 to 4, a block of term 3 as term 5,
-- then nil, take 2.nil, repeated take 2 of nil, put 3, and two of these side by side; it starts with the block
unfoldable pub stored_table : List ℕ
unfolding numbers
stored_table = numbers "7 8 10 0 0 9 1 2 11 0 1 6 3 1 3 2 6 4 2 6 2 3 5 9 9 13 5"

-- what checking the form of a hall gives, and the choices accepted on it
pub record FormRead : Type 0 where
  pub checked : Verdict
  pub accepts : List ℕ

pub record FormRow : Type 0 where
  pub bytes : List ℕ
  pub expected : FormRead

unfoldable pub form_read : Admission → FormRead
unfolding admission_verdict accepted_on
form_read a = record { checked = admission_verdict a; accepts = accepted_on a }

-- the size is tested apart, so that bytes of any length will do
unfoldable pub form_in : TableAnswer → List ℕ → FormRead
unfolding form_read form_tested configuration_of
form_in (refused_at n p) bs = form_read (not_admitted n p)
form_in (accepted t) bs = form_read (form_tested t (configuration_of t.terms bs))

-- behind empty trays these bytes, well formed and not
unfoldable pub sound : (bytes : List ℕ) (accepts : String) → FormRow
unfolding verdict trays numbers
sound bs es = record { bytes = trays "" ++ bs; expected = record { checked = verdict 0 0; accepts = numbers es } }

unfoldable pub damaged : (bytes : List ℕ) → FormRow
unfolding verdict trays
damaged bs = record { bytes = trays "" ++ bs; expected = record { checked = verdict 11 0; accepts = [] } }

-- an attempt of the block with these nodes, and some zeros behind it
unfoldable pub tree : List ℕ → List ℕ
unfolding attempt
tree nodes = attempt 5 "" nodes ++ replicate 3 0

-- n forks, each but the last the right side of the one before it, with this left side; the last has this right side
unfoldable pub forks : ℕ → (l r : List ℕ) → List ℕ
forks zero l r = r
forks (suc n) l r = 22 ∷ (l ++ forks n l r)

unfoldable pub station_forms : List FormRow
unfolding numbers times sound damaged
station_forms =
    -- every kind of station, trays at their ends, zeros behind them and none
    sound (numbers "20 7 20 8 20 5 24 0 24 15 0 0") "1 2 1 3 1 4" ∷
    sound (numbers "20 7 20 8 20 5 24 0 24 15") "1 2 1 3 1 4" ∷
    -- 64 stations, and 65
    sound (times 64 (numbers "20 7")) "" ∷
    damaged (times 65 (numbers "20 7")) ∷
    -- stations of no kind; waiting stations whose term is nil, a put, side by side, an expression, none; a tray that is
    -- none
    damaged (numbers "19 7 0") ∷
    damaged (numbers "22 7 0") ∷
    damaged (numbers "20 6 0") ∷
    damaged (numbers "20 9 0") ∷
    damaged (numbers "20 10 0") ∷
    damaged (numbers "20 3 0") ∷
    damaged (numbers "20 11 0") ∷
    damaged (numbers "24 16 0") ∷
    []

unfoldable pub cut_forms : List FormRow
unfolding numbers attempt leaf_of damaged
cut_forms =
    -- a byte behind the zero that ends the stations; stations cut by the end
    damaged (numbers "24 0 0 24 0") ∷
    damaged (numbers "24 0 24") ∷
    damaged (attempt 5 "" (numbers "23 0 0 0")) ∷
    damaged (numbers "21 5 0 0 0") ∷
    -- attempts of what is no block
    damaged (attempt 7 "" (leaf_of 0 0 "")) ∷
    damaged (attempt 3 "" (leaf_of 0 0 "")) ∷
    []

unfoldable pub leaf_forms : List FormRow
unfolding leaf_of sound damaged tree
leaf_forms =
    -- a leaf that needs no record, with a full log of trays at their ends, which is not its block's and does not fit
    -- its snapshot
    sound (tree (leaf_of 255 16 "0 15 16 31")) "1 0" ∷
    -- log length plus length of the term 16, and 17: of end, of wt 0.end, of rd 1.wt 0.end
    sound (tree (leaf_of 0 16 "")) "1 0" ∷
    damaged (tree (leaf_of 0 17 "")) ∷
    sound (tree (leaf_of 2 15 "")) "2 0 0" ∷
    damaged (tree (leaf_of 2 16 "")) ∷
    sound (tree (leaf_of 3 14 "")) "2 0 0" ∷
    damaged (tree (leaf_of 3 15 "")) ∷
    -- leaves of a process and of no term; a log byte that is no action; a byte behind the log
    damaged (tree (leaf_of 5 0 "")) ∷
    damaged (tree (leaf_of 11 0 "")) ∷
    damaged (tree (leaf_of 0 1 "32")) ∷
    damaged (tree (leaf_of 0 1 "31 1")) ∷
    []

unfoldable pub tree_forms : List FormRow
unfolding leaf_of sound damaged tree forks
tree_forms =
    -- 8 branches in all, and 9
    sound (tree (forks 3 (leaf_of 4 0 "") (leaf_of 4 0 ""))) "2 0 1 2 0 3 2 0 5 2 0 6" ∷
    damaged (tree (forks 4 (leaf_of 4 0 "") (leaf_of 0 0 ""))) ∷
    -- a fork without its right side; a node behind a whole tree
    damaged (tree (22 ∷ leaf_of 0 0 "")) ∷
    damaged (tree (leaf_of 0 0 "" ++ leaf_of 0 0 "")) ∷
    []

-- turned down, opening and a run leave what they are lent: under 10, under 11, and where the table comes first
unfoldable pub LeftAlone : Type 0
unfolding stored_table numbers tally verdict open_hall open_verdict run_call
LeftAlone =
    All (λ h. open_hall stored_table h ≡ record { answer = not_opened 10 0; hall = h }) (others ∷ shorter ∷ longer ∷ []) ×
    (run_call stored_table (buffers_with shorter) (numbers "1 0")
    ≡ record { number = 10; place = 0; done = 0; buffers = buffers_with shorter }) ×
    (run_call stored_table (buffers_with noise) (numbers "1 0")
    ≡ record { number = 11; place = 0; done = 0; buffers = buffers_with noise }) ×
    (open_hall (numbers "7 0") others ≡ record { answer = not_opened 1 1; hall = others }) ×
    (map open_verdict (opened (tally 1 2 3) ∷ not_opened 10 0 ∷ not_opened 4 5 ∷ [])
    ≡ verdict 0 0 ∷ verdict 10 0 ∷ verdict 4 5 ∷ [])
  where
    others : List ℕ
    others = replicate 3 171

    shorter : List ℕ
    shorter = replicate 11343 171

    longer : List ℕ
    longer = replicate 11345 171

    buffers_with : List ℕ → Buffers
    buffers_with h = record { hall = h; counters = tally 3 4 5 }

-- ---- several calls

-- number, place and done of each call, the choices done over all of them, hall and tally behind them, and the one-step
-- run
pub record CallsSeen : Type 0 where
  pub replies : List (List ℕ)
  pub done : List ℕ
  pub counters : Counters
  pub hall : List ℕ
  pub one_step : Option OneStep

unfoldable pub calls_seen : (table : List ℕ) → Counters → List Call → CallsSeen
unfolding noise open_hall answers after_calls entries_done schedule_bytes one_step_run read_table
calls_seen table c cs =
    let l : Buffers = record { hall = (open_hall table noise).hall; counters = c } in
    let done = entries_done table l cs in
    let after = after_calls table l cs in
    record {
      replies = map (λ a. a.number ∷ a.place ∷ a.done ∷ []) (answers table l cs);
      done = schedule_bytes done;
      counters = after.counters;
      hall = after.hall;
      one_step = one_step_run (read_table table) none c done;
    }

-- rehearsal 1 in three calls, the first ended by 16, the last by 13: hall and tally go on from one to the
-- next, and the one-step run is fed neither the refused choices nor the bytes behind them in the same call
unfoldable pub SeveralCalls : Type 0
unfolding numbers tally trays hall_of calls_seen
SeveralCalls =
    calls_seen (numbers "7 10 1 0 9 0 1 6 2 12 0 1 13 3") (tally 3 4 5)
    (map run_choices (numbers "1 0 2 0 0 2 0 5 1 0" ∷ numbers "2 0 0 1 0 1 0" ∷ numbers "1" ∷ []))
    ≡ record {
      replies = numbers "16 5 2" ∷ numbers "0 7 3" ∷ numbers "13 0 0" ∷ [];
      done = numbers "1 0 2 0 0 2 0 0 1 0 1 0";
      counters = tally 4 4 5;
      hall = hall_of (trays "0 1") [];
      one_step = some (record { counts = trays "0 1"; stations = []; counters = tally 4 4 5 });
    }

-- ---- a direct handover

-- through a tray of 254 it is within the limits; through one of 255 it is not, although it would end at 255 again
unfoldable pub HandoverLimits : Type 0
HandoverLimits =
    WithinLimits (COM 0) (254 ∷ []) nil (254 ∷ []) × (WithinLimits (COM 0) (255 ∷ []) nil (255 ∷ []) → ⊥)

-- ---- the rules

-- their numbers as document 01 lists them, 1 to 13, with the tokens that each adds and takes
unfoldable pub RulesNumbered : Type 0
unfolding effect_of
RulesNumbered =
    (a b c : ℕ) →
    map effect_of
    (OUT a ∷ IN a ∷ REP a ∷ ATST ∷ ATRE ∷ ATFAIL ∷ ATOK (rd a ∷ wt b ∷ rd c ∷ rd a ∷ []) ∷ ARDOK ∷ ARDF ∷ AWR ∷ AOI ∷
    AOF ∷ AOE ∷ [])
    ≡ does 1 (a ∷ []) [] ∷ does 2 [] (a ∷ []) ∷ does 3 [] (a ∷ []) ∷ does 4 [] [] ∷ does 5 [] [] ∷ does 6 [] [] ∷
    does 7 [] (a ∷ c ∷ a ∷ []) ∷ does 8 [] [] ∷ does 9 [] [] ∷ does 10 [] [] ∷ does 11 [] [] ∷ does 12 [] [] ∷
    does 13 [] [] ∷ []
  where
    does : ℕ → (added taken : List ℕ) → Effect
    does n added taken = record { number = n; added = added; taken = taken }

-- ---- the claim

-- in a row the definitions give what is expected
abbrev pub ChoiceHolds : Trial → Type 0
ChoiceHolds r = replies_on (read_table r.table) r.done r.tried ≡ r.expected

abbrev pub TableHolds : TableRow → Type 0
TableHolds r = table_seen r.table ≡ r.expected

abbrev pub RunHolds : PrintedRow → Type 0
RunHolds r = printed_run r.input ≡ r.text

abbrev pub FormHolds : FormRow → Type 0
FormHolds r = form_in (read_table stored_table) r.bytes ≡ r.expected

pub record EdgeExamples : Type 0 where
  pub single_choices : All ChoiceHolds trials
  pub widths : All TableHolds widths
  pub branchings : All TableHolds branchings
  pub lengths : All TableHolds lengths
  pub bodies : All TableHolds bodies
  pub terms_and_trays_holds : All TableHolds terms_and_trays
  pub references : All TableHolds references
  pub classes : All TableHolds classes
  pub tokens_and_starts_holds : All TableHolds tokens_and_starts
  pub printed_runs_holds : All RunHolds printed_runs
  pub station_forms_holds : All FormHolds station_forms
  pub cut_forms_holds : All FormHolds cut_forms
  pub leaf_forms_holds : All FormHolds leaf_forms
  pub tree_forms_holds : All FormHolds tree_forms
  pub left_alone : LeftAlone
  pub several_calls : SeveralCalls
  pub handover_limits : HandoverLimits
  pub rules_numbered : RulesNumbered
