-- What reading a record of the bytes s at an offset answers: the turn of the definition, with the decoded table as it
-- is left.
-- Assumes nothing.
use Rattle.std.specs.Prelude.{ℕ, ◌+◌, ◌≤◌, ◌<◌, ◌≡◌, Bool, cond, List, length, drop, set, ltb, Result, Ok, Err}
use Rattle.semantics.specs.Definitions.Layout.{max_terms}
use Rattle.semantics.specs.Definitions.Terms.{Term}
use Rattle.semantics.specs.Definitions.Table.{tokens_record, bad_tokens, TableSoFar, RecordAnswer, stop, more, read_record}
use Rattle.table_records.specs.declared.Record.{Record}
use Rattle.table_terms.specs.Decoded.{decoded_bytes, tokens_in, with_record, with_measures, Decoded}
use Rattle.table_terms.specs.TermMeasures.{CanMeasure, MeasuresOf, LimitTested}
use Rattle.answers.specs.declared.refusals.Reason.{Reason}
use Rattle.answers.specs.declared.refusals.Reason.TheVariants.{OverLimit, BadTokens, WrongEnd}
use Rattle.answers.specs.declared.refusals.Refusal.{Refusal}
use Rattle.table_read.specs.declared.AfterRecord.{AfterRecord}
use Rattle.table_read.specs.declared.AfterRecord.TheVariants.{More, Done}
use Rattle.table_read.specs.ReadAnswers.{ReadAnswerIs}

-- the reading goes on w bytes behind the record, with n terms
pub record Advanced (s : List ℕ) (at next n : ℕ) (y : TableSoFar) (w : ℕ) (d : List ℕ) : Type 0 where
  pub behind : next ≡ at + w
  pub some_bytes : 1 ≤ w
  pub inside : next ≤ length s
  pub decoded : Decoded y.terms d
  pub counted : length y.terms ≡ n
  pub tokens : y.tokens ≡ tokens_in d

abbrev pub AfterRecordIs : (s : List ℕ) (at : ℕ) → Result AfterRecord Refusal → RecordAnswer → List ℕ → Type 0
AfterRecordIs s at (Ok (More next n)) (stop a) d = ⊥
AfterRecordIs s at (Ok (More next n)) (more y w) d = Advanced s at next n y w d
AfterRecordIs s at (Ok (Done a)) (stop b) d = ReadAnswerIs (Ok a) b d
AfterRecordIs s at (Ok (Done a)) (more y w) d = ⊥
AfterRecordIs s at (Err e) (stop b) d = ReadAnswerIs (Err e) b d
AfterRecordIs s at (Err e) (more y w) d = ⊥

-- what has been read, where d is the decoded table of the terms ts
abbrev pub reading_of : List Term → List ℕ → TableSoFar
reading_of ts d = record { terms = ts; tokens = tokens_in d }

-- d is the decoded table of n terms before the record, and d' afterwards
pub record RecordRead (s : List ℕ) (at n : ℕ) (d : List ℕ) (x : Result AfterRecord Refusal) (d' : List ℕ) : Type 0 where
  pub found : (ts : List Term) → Decoded ts d → length ts ≡ n →
      AfterRecordIs s at x (read_record (reading_of ts d) at (drop at s)) d'

-- ---- a record whose fields passed, by its content

-- refused at a place
abbrev pub refused : Reason → ℕ → Result AfterRecord Refusal
refused q p = Err (record { reason = q; place = p })

-- the start: 9 where a byte follows it, else the table's answer
abbrev pub start_applied : List ℕ → ℕ → Record → Result AfterRecord Refusal
start_applied s n x = cond (ltb x.next (length s)) (refused WrongEnd x.next) (Ok (Done (record { terms = n; start = x.first })))

-- tokens: 8, or given
pub record TokensApplied (d : List ℕ) (at n : ℕ) (x : Record) (r : Result AfterRecord Refusal) (d' : List ℕ) : Type 0 where
  pub fails : Bool
  pub tested : fails ≡ bad_tokens (tokens_in d) (tokens_record x.first x.second)
  pub answer : r ≡ cond fails (refused BadTokens at) (Ok (More x.next n))
  pub stored : d' ≡ cond fails d (set d x.first x.second)

-- a term that may follow n terms: with its record stored, its measures can be found
pub record CanApplyTerm (d : List ℕ) (n : ℕ) (x : Record) : Type 0 where
  pub inside : n < max_terms
  pub sized : length d ≡ decoded_bytes
  pub measurable : CanMeasure (with_record d n x.kind x.first x.second) n n

-- 7, or stored with its measures
pub record TermApplied (d : List ℕ) (at n : ℕ) (x : Record) (r : Result AfterRecord Refusal) (d' : List ℕ) : Type 0 where
  pub with_record_holds : List ℕ
  pub recorded : with_record_holds ≡ with_record d n x.kind x.first x.second
  pub breadth : ℕ
  pub length : ℕ
  pub measured : MeasuresOf with_record_holds n n breadth length
  pub fails : Bool
  pub tested : LimitTested x.kind breadth length fails
  pub answer : r ≡ cond fails (refused OverLimit at) (Ok (More x.next (n + 1)))
  pub stored : d' ≡ cond fails with_record_holds (with_measures with_record_holds n breadth length)
