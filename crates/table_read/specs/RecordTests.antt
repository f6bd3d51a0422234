-- What the tests on a record ask and answer, over a decoded table d.
-- Assumes nothing.
use Rattle.std.specs.Prelude.{ℕ, ◌≡◌, Bool, false, List, length, Option, Result, Ok, Err}
use Rattle.semantics.specs.Definitions.Terms.{Term}
use Rattle.answers.specs.declared.refusals.Reason.{Reason}
use Rattle.answers.specs.Answers.{reason_number}
use Rattle.semantics.specs.Definitions.Table.{Kind, adds, too_many_terms, forward_reference, class_mismatch}
use Rattle.table_records.specs.declared.Class.{Class}
use Rattle.table_records.specs.declared.Field.{Field}
use Rattle.table_records.specs.declared.Record.{Record}
use Rattle.table_records.specs.Shapes.{fails_at, class_from}
use Rattle.table_terms.specs.Decoded.{Decoded}
use Rattle.table_laws.specs.Refusals.{KindAt, field_refusal}

-- d is the decoded table of some n terms
pub record DecodedSoFar (d : List ℕ) (n : ℕ) : Type 0 where
  pub terms : List Term
  pub decoded : Decoded terms d
  pub counted : length terms ≡ n

-- 3, of a record of class c after n terms
pub record TermLimitTested (c : Option Class) (n : ℕ) (b : Bool) : Type 0 where
  pub found : (ts : List Term) (K : Kind) → length ts ≡ n → c ≡ class_from (adds K) → b ≡ too_many_terms ts (adds K)

-- a field that is no reference, or one to an earlier term
pub record CanTestClass (d : List ℕ) (f : Option Field) (byte : ℕ) : Type 0 where
  pub terms : List Term
  pub decoded : Decoded terms d
  pub earlier : fails_at (forward_reference terms) f byte ≡ false

-- 6, on such a field
pub record ClassTested (d : List ℕ) (f : Option Field) (byte : ℕ) (b : Bool) : Type 0 where
  pub found : (ts : List Term) → Decoded ts d → fails_at (forward_reference ts) f byte ≡ false →
      b ≡ fails_at (class_mismatch ts) f byte

-- the number of a test's refusal, 0 for none
abbrev pub test_number : {T : Type 0} → Result T Reason → ℕ
test_number (Ok x) = 0
test_number (Err e) = reason_number e

-- q is the number of the first of the tests 3 to 6 that fails on a record after n terms, 0 for none
pub record FieldsTested (d : List ℕ) (n : ℕ) (x : Record) (q : ℕ) : Type 0 where
  pub found : (ts : List Term) (K : KindAt x.kind) → Decoded ts d → length ts ≡ n →
      q ≡ field_refusal ts K.kind x.first x.second 0
