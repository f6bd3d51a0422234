-- What the public calls on tables and halls give, on bytes (document 01, "Reasons to turn a request down" and "What the contracts
-- settle").
-- Assumes nothing.
use Rattle.std.specs.Prelude.{ℕ, zero, suc, Bool, true, false, List, [], ◌∷◌, ◌++◌, length, take, eqb}
use Rattle.std.proofs.Math.Option.{Option, none, some}
use Rattle.semantics.specs.Definitions.Table.{Table, TableAnswer, accepted, refused_at, read_table}
use Rattle.semantics.specs.Definitions.Shortage.{Shortage, enough}
use Rattle.semantics.specs.Definitions.Configuration.{Configuration, opening}
use Rattle.semantics.specs.Definitions.Stored.{hall_bytes, bytes_of, configuration_of}
use Rattle.semantics.specs.Definitions.Moves.{Entry, act, inside, EntryAnswer, does, refuses, entry_answer, rule_number}
use Rattle.semantics.specs.Definitions.Run.{Counters, fresh_counters, counted, RunAnswer, run, schedule, entries}

-- accepted, or refused with a number and a place
pub data Verdict : Type 0 where
  ok : Verdict
  rejected : (number place : ℕ) → Verdict

-- a verdict as two numbers, for callers that get no more: both are 0 where nothing is refused
abbrev pub verdict_number : Verdict → ℕ
verdict_number ok = 0
verdict_number (rejected n p) = n

abbrev pub verdict_place : Verdict → ℕ
verdict_place ok = 0
verdict_place (rejected n p) = p

-- ---- check a table

unfoldable pub table_verdict : TableAnswer → Verdict
table_verdict (accepted t) = ok
table_verdict (refused_at n p) = rejected n p

unfoldable pub check_table : List ℕ → Verdict
unfolding table_verdict read_table
check_table bs = table_verdict (read_table bs)

-- ---- what every call on a hall tests first: table, then hall

pub data Admission : Type 0 where
  admitted : Table → Configuration → Admission
  not_admitted : (number place : ℕ) → Admission

-- refusal 11: the bytes store no well-formed hall
unfoldable pub form_tested : Table → Option Configuration → Admission
form_tested t none = not_admitted 11 0
form_tested t (some h) = admitted t h

-- refusal 10: the length is wrong
unfoldable pub size_tested : Table → List ℕ → Bool → Admission
unfolding form_tested configuration_of
size_tested t hall false = not_admitted 10 0
size_tested t hall true = form_tested t (configuration_of t.terms hall)

unfoldable pub table_tested : List ℕ → TableAnswer → Admission
unfolding size_tested
table_tested hall (refused_at n p) = not_admitted n p
table_tested hall (accepted t) = size_tested t hall (eqb (length hall) hall_bytes)

unfoldable pub admission : (table hall : List ℕ) → Admission
unfolding table_tested read_table
admission table hall = table_tested hall (read_table table)

-- ---- check a stored hall

unfoldable pub admission_verdict : Admission → Verdict
admission_verdict (admitted t h) = ok
admission_verdict (not_admitted n p) = rejected n p

unfoldable pub check_hall : (table hall : List ℕ) → Verdict
unfolding admission_verdict admission
check_hall table hall = admission_verdict (admission table hall)

-- ---- open a hall

-- an opened hall comes with the fresh counters
pub data OpenAnswer : Type 0 where
  opened : Counters → OpenAnswer
  not_opened : (number place : ℕ) → OpenAnswer

-- the answer and the lent bytes afterwards
pub record Opening : Type 0 where
  pub answer : OpenAnswer
  pub hall : List ℕ

unfoldable pub open_sized : Table → List ℕ → Bool → Opening
unfolding opening bytes_of fresh_counters
open_sized t hall false = record { answer = not_opened 10 0; hall = hall }
open_sized t hall true = record { answer = opened fresh_counters; hall = bytes_of (opening t) }

unfoldable pub open_tested : List ℕ → TableAnswer → Opening
unfolding open_sized
open_tested hall (refused_at n p) = record { answer = not_opened n p; hall = hall }
open_tested hall (accepted t) = open_sized t hall (eqb (length hall) hall_bytes)

-- opening does not test what stood in the hall
unfoldable pub open_hall : (table hall : List ℕ) → Opening
unfolding open_tested read_table
open_hall table hall = open_tested hall (read_table table)

unfoldable pub open_verdict : OpenAnswer → Verdict
open_verdict (opened c) = ok
open_verdict (not_opened n p) = rejected n p

-- ---- run a schedule

-- what is lent to a run
pub record Buffers : Type 0 where
  pub hall : List ℕ
  pub counters : Counters

-- the answer, and what was lent afterwards
pub record RunCall : Type 0 where
  pub number : ℕ
  pub place : ℕ
  pub done : ℕ
  pub buffers : Buffers

unfoldable pub run_result : RunAnswer → RunCall
unfolding bytes_of
run_result a =
    record {
      number = a.number;
      place = a.place;
      done = a.done;
      buffers = record { hall = bytes_of a.configuration; counters = a.counters };
    }

-- turned down, nothing of what was lent changes
unfoldable pub run_admitted : Buffers → List ℕ → Admission → RunCall
unfolding run_result run
run_admitted l choices (not_admitted n p) = record { number = n; place = p; done = 0; buffers = l }
run_admitted l choices (admitted t h) = run_result (run h l.counters choices)

unfoldable pub run_call : (table : List ℕ) → Buffers → (choices : List ℕ) → RunCall
unfolding run_admitted admission
run_call table l choices = run_admitted l choices (admission table l.hall)

-- ---- step: one choice, given as three numbers

-- the answer, with the number of the rule that moved (0 where refused) and the shortage told, and what was lent
-- afterwards
pub record StepCall : Type 0 where
  pub number : ℕ
  pub place : ℕ
  pub rule : ℕ
  pub shortage : Shortage
  pub buffers : Buffers

-- turned down, nothing of what was lent changes
unfoldable pub step_refused : Buffers → (number place : ℕ) → StepCall
step_refused l n p = record { number = n; place = p; rule = 0; shortage = enough; buffers = l }

-- by the answer to a choice of so many bytes. Refused: at its first byte. Moved: the place is behind it; its rule, the
-- shortage told (document 02, Q-3), the hall after it, and the tally with that rule counted
unfoldable pub step_entry : Buffers → (size : ℕ) → EntryAnswer → StepCall
unfolding step_refused rule_number bytes_of counted
step_entry l size (refuses n) = step_refused l n 0
step_entry l size (does r w h) =
    let after : Buffers = record { hall = bytes_of h; counters = counted r l.counters } in
    record { number = 0; place = size; rule = rule_number r; shortage = w; buffers = after }

-- kind 1 has a position, and kind 2 a position and a node; refusal 12 for every other kind
unfoldable pub step_kind : Buffers → Configuration → (kind position node : ℕ) → StepCall
unfolding step_refused step_entry entry_answer
step_kind l h zero p k = step_refused l 12 0
step_kind l h (suc zero) p k = step_entry l 2 (entry_answer h (act p))
step_kind l h (suc (suc zero)) p k = step_entry l 3 (entry_answer h (inside p k))
step_kind l h (suc (suc (suc n))) p k = step_refused l 12 0

-- table or hall is not admitted: their number and place
unfoldable pub step_admitted : Buffers → Admission → (kind position node : ℕ) → StepCall
unfolding step_refused step_kind
step_admitted l (not_admitted n q) kind p k = step_refused l n q
step_admitted l (admitted t h) kind p k = step_kind l h kind p k

unfoldable pub step_call : (table : List ℕ) → Buffers → (kind position node : ℕ) → StepCall
unfolding step_admitted admission
step_call table l kind p k = step_admitted l (admission table l.hall) kind p k

-- ---- a list of calls, with one table, one hall and one tally

pub data Call : Type 0 where
  run_choices : List ℕ → Call
  step_choice : (kind position node : ℕ) → Call

-- the bytes of a step's choice in a schedule; a kind that is neither 1 nor 2 stands alone, and a run refuses it with 12
unfoldable pub step_bytes : (kind position node : ℕ) → List ℕ
step_bytes zero p k = 0 ∷ []
step_bytes (suc zero) p k = 1 ∷ p ∷ []
step_bytes (suc (suc zero)) p k = 2 ∷ p ∷ k ∷ []
step_bytes (suc (suc (suc n))) p k = suc (suc (suc n)) ∷ []

unfoldable pub call_bytes : Call → List ℕ
unfolding step_bytes
call_bytes (run_choices choices) = choices
call_bytes (step_choice kind position node) = step_bytes kind position node

unfoldable pub call_answer : List ℕ → Buffers → Call → RunCall
unfolding run_call call_bytes
call_answer table l c = run_call table l (call_bytes c)

-- each call gets hall and counters as the last one left them
unfoldable pub after_calls : List ℕ → Buffers → List Call → Buffers
unfolding call_answer
after_calls table l [] = l
after_calls table l (c ∷ cs) = after_calls table (call_answer table l c).buffers cs

-- the entries of a call's schedule
unfoldable pub call_entries : Call → List Entry
unfolding entries schedule call_bytes
call_entries c = entries (schedule (call_bytes c))

-- the entries done, over all calls as one list: of each call as many as its answer says
unfoldable pub entries_done : List ℕ → Buffers → List Call → List Entry
unfolding call_answer call_entries
entries_done table l [] = []
entries_done table l (c ∷ cs) =
    let a = call_answer table l c in take a.done (call_entries c) ++ entries_done table a.buffers cs
