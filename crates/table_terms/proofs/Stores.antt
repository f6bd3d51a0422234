-- Stores into the decoded table: tokens leave the terms alone, and what is stored at the number behind the last term
-- leaves the terms before it alone, so that the decoded table grows by a term.
-- Assumes nothing.
use Prim.Native.Nat.{ℕ, ◌+◌, ◌*◌, ◌≤◌, ◌<◌}
use native.Mathlib.Omega.{arith}
use mathlib.Core.Path.{◌≡◌, ◌∙◌}
use mathlib.Core.Option.{some}
use mathlib.Core.List.{List, [], ◌∷◌, ◌++◌}
use lib.ListN.{length, get_or, set, get_elem?, length-set}
use lib.Seq.{get_or-set_same, get_or-set_other, take-set-le, take-set-lt}
use Rattle.semantics.specs.Definitions.Terms.{Term}
use Rattle.semantics.specs.Checks.AcceptedTables.{SubtermsIn, GoodTable}
use Rattle.table_terms.specs.Decoded.{tokens_in, place_of, kind_at, first_at, second_at, with_record, with_measures, RecordOf, RecordAt, breadth, term_length, MeasuresAt, Decoded, decoded_bytes, term_bytes, kind_place, first_place, second_place, breadth_place, length_place}
use Rattle.table_terms.specs.TermMeasures.{TermAt}
use Rattle.theorems.proofs.Lists.{none_found, found_below}
use Rattle.theorems.proofs.GoodTable.{each_snoc, empty_good}
use Rattle.semantics.specs.Definitions.Layout.{channels, max_terms}

-- ---- no term yet

pub none_decoded : (d : List ℕ) → length d ≡ decoded_bytes → Decoded [] d
none_decoded d z = record {
  sized = z;
  good = empty_good;
  records = λ i t e. absurd (none_found i t e);
  measures = λ i t e. absurd (none_found i t e);
}

-- ---- the bytes of the first n terms

abbrev Agree : (d d' : List ℕ) → ℕ → Type 0
Agree d d' n = (p : ℕ) → channels ≤ p → p < channels + term_bytes * n → get_or d' p 0 ≡ get_or d p 0

module _ (d d' : List ℕ) (n : ℕ) (same : Agree d d' n) (i : ℕ) (h : i < n) (t : Term) where
  at : (j : ℕ) → j < term_bytes → get_or d' (place_of i j) 0 ≡ get_or d (place_of i j) 0
  at j g = same (place_of i j) (omega arith) (omega arith)

  record_stays : RecordAt d i t → RecordAt d' i t
  record_stays x = rw (at kind_place (omega arith), at first_place (omega arith), at second_place (omega arith)) x

  measures_stay : MeasuresAt d i t → MeasuresAt d' i t
  measures_stay x = rw (at breadth_place (omega arith), at length_place (omega arith)) x

-- a store behind them
agree_set : (d : List ℕ) (n p v : ℕ) → channels + term_bytes * n ≤ p → Agree d (set d p v) n
agree_set d n p v h q g l = get_or-set_other d p q v 0 (λ e. omega arith)

-- ---- tokens

module _ (d : List ℕ) (a v : ℕ) (inside : a < channels) where
  pub tokens_set : tokens_in (set d a v) ≡ set (tokens_in d) a v
  tokens_set = take-set-lt channels d a v inside

  pub tokens_decoded : (ts : List Term) → Decoded ts d → Decoded ts (set d a v)
  tokens_decoded ts x = record {
    sized = length-set d a v ∙ x.sized;
    good = x.good;
    records = λ i t e. record_stays d (set d a v) (length ts) same i (found_below ts i t e) t (x.records i t e);
    measures = λ i t e. measures_stay d (set d a v) (length ts) same i (found_below ts i t e) t (x.measures i t e);
  }
    where
      same : Agree d (set d a v) (length ts)
      same p h g = get_or-set_other d a p v 0 (λ e. omega arith)

-- ---- one term more, at number n

module _ (d : List ℕ) (n k l r : ℕ) where
  abbrev one : List ℕ
  one = set d (place_of n kind_place) k

  abbrev two : List ℕ
  two = set one (place_of n first_place) l

  abbrev three : List ℕ
  three = with_record d n k l r

  pub record_length : length three ≡ length d
  record_length = simp length-set

  record_tokens : tokens_in three ≡ tokens_in d
  record_tokens =
      take-set-le channels two (place_of n second_place) r (omega arith)
      ∙ take-set-le channels one (place_of n first_place) l (omega arith)
      ∙ take-set-le channels d (place_of n kind_place) k (omega arith)

  record_agrees : Agree d three n
  record_agrees p h g =
      agree_set two n (place_of n second_place) r (omega arith) p h g
      ∙ agree_set one n (place_of n first_place) l (omega arith) p h g
      ∙ agree_set d n (place_of n kind_place) k (omega arith) p h g

  module _ (sized : length d ≡ decoded_bytes) (room : n < max_terms) where
    kind_stored : kind_at three n ≡ k
    kind_stored =
        get_or-set_other two (place_of n second_place) (place_of n kind_place) r 0 (λ e. omega arith)
        ∙ get_or-set_other one (place_of n first_place) (place_of n kind_place) l 0 (λ e. omega arith)
        ∙ get_or-set_same d (place_of n kind_place) k 0 (omega arith)

    first_stored : first_at three n ≡ l
    first_stored =
        get_or-set_other two (place_of n second_place) (place_of n first_place) r 0 (λ e. omega arith)
        ∙ get_or-set_same one (place_of n first_place) l 0 (rw length-set (omega arith))

    second_stored : second_at three n ≡ r
    second_stored = get_or-set_same two (place_of n second_place) r 0 (simp length-set (omega arith))

    record_stored : (u : Term) → RecordOf n k l r u → RecordAt three n u
    record_stored u x = rw (kind_stored, first_stored, second_stored) x

    -- its measures can be found
    pub record_measurable : (ts : List Term) (u : Term) → Decoded ts d → length ts ≡ n → RecordOf n k l r u → SubtermsIn ts u → TermAt three n n ts u
    record_measurable ts u x count e s = record {
      good = x.good;
      records = λ i t h. record_stays d three n record_agrees i (rw (← count) (found_below ts i t h)) t (x.records i t h);
      measures = λ i t h g. measures_stay d three n record_agrees i g t (x.measures i t h);
      inside = room;
      own = record_stored u e;
      subterms = s;
      listed = λ h. absurd (omega arith);
    }

    module _ (b m : ℕ) where
      abbrev four : List ℕ
      four = set three (place_of n breadth_place) b

      abbrev five : List ℕ
      five = with_measures three n b m

      term_length_holds : length five ≡ decoded_bytes
      term_length_holds = simp length-set sized

      pub term_tokens : tokens_in five ≡ tokens_in d
      term_tokens = take-set-le channels four (place_of n length_place) m (omega arith) ∙ take-set-le channels three (place_of n breadth_place) b (omega arith) ∙ record_tokens

      measures_agree : Agree three five n
      measures_agree p h g = agree_set four n (place_of n length_place) m (omega arith) p h g ∙ agree_set three n (place_of n breadth_place) b (omega arith) p h g

      -- and kept, they make the term one of the table's
      pub term_decoded : (ts : List Term) (u : Term) → Decoded ts d → length ts ≡ n → RecordOf n k l r u → GoodTable (ts ++ (u ∷ [])) →
          b ≡ breadth u → m ≡ term_length u → Decoded (ts ++ (u ∷ [])) five
      term_decoded ts u x count e good p q = record {
        sized = term_length_holds;
        good = good;
        records = λ i t h. each_snoc ts u (RecordAt five) old_record (rw count new_record) i t h;
        measures = λ i t h. each_snoc ts u (MeasuresAt five) old_measures (rw count new_measures) i t h;
      }
        where
          same : Agree d five n
          same i h g = measures_agree i h g ∙ record_agrees i h g

          old_record : (i : ℕ) (t : Term) → get_elem? ts i ≡ some t → RecordAt five i t
          old_record i t h = record_stays d five n same i (rw (← count) (found_below ts i t h)) t (x.records i t h)

          old_measures : (i : ℕ) (t : Term) → get_elem? ts i ≡ some t → MeasuresAt five i t
          old_measures i t h = measures_stay d five n same i (rw (← count) (found_below ts i t h)) t (x.measures i t h)

          other : (j : ℕ) → j ≤ 2 → get_or five (place_of n j) 0 ≡ get_or three (place_of n j) 0
          other j h =
              get_or-set_other four (place_of n length_place) (place_of n j) m 0 (λ e. omega arith)
              ∙ get_or-set_other three (place_of n breadth_place) (place_of n j) b 0 (λ e. omega arith)

          new_record : RecordAt five n u
          new_record = rw (other 0 (omega arith), other 1 (omega arith), other 2 (omega arith)) (record_stored u e)

          new_measures : MeasuresAt five n u
          new_measures = (
            get_or-set_other four (place_of n length_place) (place_of n breadth_place) m 0 (λ e. omega arith) ∙ get_or-set_same three (place_of n breadth_place) b 0 (simp length-set (omega arith)) ∙ p,
            get_or-set_same four (place_of n length_place) m 0 (simp length-set (omega arith)) ∙ q,
          )
