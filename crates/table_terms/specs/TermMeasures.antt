-- What the walk over a term asks and answers, and what the test of its measures does.
-- Assumes nothing.
use Rattle.std.specs.Prelude.{ℕ, ◌/◌, ◌%◌, ◌<◌, ◌≡◌, Bool, List}
use Rattle.std.proofs.Math.Option.{some}
use Rattle.std.proofs.Math.ListN.{get_elem?}
use Rattle.semantics.specs.Definitions.Terms.{Term}
use Rattle.semantics.specs.Checks.AcceptedTables.{SubtermsIn, GoodTable}
use Rattle.semantics.specs.Definitions.Table.{term_record, over_limit}
use Rattle.table_terms.specs.Decoded.{max_terms, RecordOf, RecordAt, MeasuresAt, breadth, term_length}

-- both measures in one number: the breadth in the low byte, the length in the high one
abbrev pub breadth_in : ℕ → ℕ
breadth_in p = p % 256

abbrev pub length_in : ℕ → ℕ
length_in p = p / 256

-- number i of d is the record of term t, over terms ts whose records d holds, the first `measured` of them with their
-- measures. t is one of ts, or one that is to follow them
pub record TermAt (d : List ℕ) (measured i : ℕ) (ts : List Term) (t : Term) : Type 0 where
  pub good : GoodTable ts
  pub records : (j : ℕ) (u : Term) → get_elem? ts j ≡ some u → RecordAt d j u
  pub measures : (j : ℕ) (u : Term) → get_elem? ts j ≡ some u → j < measured → MeasuresAt d j u
  pub inside : i < max_terms
  pub own : RecordAt d i t
  pub subterms : SubtermsIn ts t
  pub listed : i < measured → get_elem? ts i ≡ some t

-- what the walk asks: there is such a term
pub record CanMeasure (d : List ℕ) (measured i : ℕ) : Type 0 where
  pub terms : List Term
  pub tree : Term
  pub there : TermAt d measured i terms tree

-- what it answers: the measures of any such term
pub record MeasuresOf (d : List ℕ) (measured i b l : ℕ) : Type 0 where
  pub found : (ts : List Term) (t : Term) → TermAt d measured i ts t → (b ≡ breadth t) × (l ≡ term_length t)

-- r tells whether a term of kind k, with these measures, is past a limit
pub record LimitTested (k b l : ℕ) (r : Bool) : Type 0 where
  pub found : (i x y : ℕ) (t : Term) → RecordOf i k x y t → b ≡ breadth t → l ≡ term_length t → r ≡ over_limit (term_record t)
