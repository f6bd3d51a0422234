-- What the admission of a table and a stored hall says, in the terms of the definitions.
--
-- d is the decoded table, hall the stored bytes.
-- Assumes nothing.
use Rattle.std.specs.Prelude.{ℕ, ◌≡◌, ⊤, List, length, eqb, Result, Ok, Err}
use Rattle.semantics.specs.Definitions.Table.{Table}
use Rattle.semantics.specs.Definitions.Configuration.{Configuration}
use Rattle.semantics.specs.Definitions.Stored.{hall_bytes}
use Rattle.semantics.specs.Definitions.Calls.{Admission, admitted, not_admitted, size_tested}
use Rattle.answers.specs.declared.refusals.Refusal.{Refusal}
use Rattle.answers.specs.Answers.{reason_number}
use Rattle.table_terms.specs.Decoded.{Decoded}
use Rattle.hall_layout.specs.declared.Index.{Index}
use Rattle.hall_held.specs.Holds.{Holds}

-- the table is decoded, and the configuration is held with its index
pub record TableAndHallHeld (t : Table) (h : Configuration) (d hall : List ℕ) (x : Index) : Type 0 where
  pub decoded : Decoded t.terms d
  pub holds : Holds t.terms h hall x.starts x.components

-- the index that was lent, where table and hall are admitted; or the refusal
abbrev pub held_by : Result ⊤ Refusal → Index → Result Index Refusal
held_by (Ok x) index = Ok index
held_by (Err e) index = Err e

-- an admitted table and configuration are held; a refusal has its number and its place
abbrev pub AdmissionIs : Result Index Refusal → (d hall : List ℕ) → Admission → Type 0
AdmissionIs (Ok x) d hall (admitted t h) = TableAndHallHeld t h d hall x
AdmissionIs (Ok x) d hall (not_admitted m q) = ⊥
AdmissionIs (Err e) d hall (admitted t h) = ⊥
AdmissionIs (Err e) d hall (not_admitted m q) = (reason_number e.reason ≡ m) × (e.place ≡ q)

-- the tests on a hall behind any table whose n terms d decodes
pub record HallAdmitted (d : List ℕ) (n : ℕ) (hall : List ℕ) (r : Result Index Refusal) : Type 0 where
  pub found : (t : Table) → Decoded t.terms d → length t.terms ≡ n →
      AdmissionIs r d hall (size_tested t hall (eqb (length hall) hall_bytes))
