-- What the tests of an admission answer: those on the hall, one law for each return, and that on the table before them.
-- Assumes nothing.
use Prim.Native.Nat.{ℕ, ◌≤◌}
use native.Mathlib.Omega.{arith}
use mathlib.Core.Path.{◌≡◌, refl}
use mathlib.Core.Bool.{Bool, true, false}
use mathlib.Core.Option as math
use mathlib.Core.Option.{none, some}
use mathlib.Core.List.{List}
use Rattle.std.specs.Prelude.{Option, None, Some, IfSome, Result, Ok, Err, ok_or}
use Rattle.std.specs.Bool.{then_some}
use lib.ListN.{length, get_or}
use mir.Syntax.{w8}
use mir.Val.{Fits}
use borrow.Author.Tests.{eq-eqb, ne_eqb}
use Rattle.semantics.specs.Definitions.Table.{Table, read_table}
use Rattle.semantics.specs.Definitions.Configuration.{Configuration}
use Rattle.semantics.specs.Definitions.Stored.{hall_bytes, configuration_of}
use Rattle.semantics.specs.Definitions.Calls.{form_tested, size_tested, table_tested, admission}
use Rattle.table_terms.specs.Decoded.{Decoded}
use Rattle.answers.specs.declared.refusals.Refusal.{Refusal}
use Rattle.answers.specs.declared.refusals.Reason.TheVariants.{WrongLength, Malformed}
use Rattle.answers.specs.Answers.{reason_number}
use Rattle.table_read.specs.declared.Accepted.{Accepted}
use Rattle.table_read.specs.ReadAnswers.{ReadAnswerIs}
use Rattle.hall_layout.specs.Layout.{hall_bytes, index_size}
use Rattle.hall_layout.specs.declared.Index.{Index}
use Rattle.hall_check.specs.Scans.{HallIs, HallRead}
use Rattle.hall_held.proofs.Holds.{slice_bytes, read_holds}
use Rattle.call_admit.specs.Admissions.{AdmissionIs, HallAdmitted}
use Rattle.call_admit.proofs.AcceptedTables.{accepted_table_holds, refused_table_holds}

-- ---- the hall

module _ (d : List ℕ) (n : ℕ) (hall : List ℕ) where
  -- 10
  pub wrong_length : (length hall ≡ hall_bytes → ⊥) → (e : Refusal) → e ≡ record { reason = WrongLength; place = 0 } →
      HallAdmitted d n hall (Err e)
  unfolding size_tested reason_number
  wrong_length other e p = record { found = λ t x c. rw (ne_eqb (length hall) 11344 other, p) (refl, refl) }

  module _ (right : length hall ≡ hall_bytes) (b : (i : ℕ) → Fits w8 (get_or hall i 0)) (e : Refusal) (p : e ≡ record { reason = Malformed; place = 0 }) where
    -- by the form that is found and the configuration that is read; 11
    by_form : (t : Table) → Decoded t.terms d → (f : Option Index) → IfSome f (λ x. length x.starts ≡ index_size) → (o : math.Option Configuration) →
        configuration_of t.terms hall ≡ o → HallIs f o → AdmissionIs (ok_or f e) d hall (form_tested t o)
    unfolding form_tested reason_number
    by_form t x None sized none q y = rw p (refl, refl)
    by_form t x None sized (some h) q y = absurd y
    by_form t x (Some c) sized none q y = absurd y
    by_form t x (Some c) sized (some h) q y = record {
      decoded = x;
      holds = read_holds t.terms hall c h x.good (slice_bytes hall b) right sized q y;
    }

    form_admitted : (f : Option Index) → HallRead d n hall f → HallAdmitted d n hall (ok_or f e)
    unfolding size_tested
    form_admitted f w = record {
      found = λ t x c. rw (eq-eqb (length hall) 11344 right)
          (by_form t x f w.sized (configuration_of t.terms hall) refl (w.found t.terms x c));
    }

  -- by what the check of the form answered, and the index that it was lent
  module _ (right : length hall ≡ hall_bytes) (b : (i : ℕ) → Fits w8 (get_or hall i 0)) (o : Bool) (index : Index) (w : HallRead d n hall (then_some o index)) where
    pub malformed : o ≡ false → (e : Refusal) → e ≡ record { reason = Malformed; place = 0 } → HallAdmitted d n hall (Err e)
    malformed g e p = form_admitted right b e p None (rw g at w)

    pub well_formed : o ≡ true → HallAdmitted d n hall (Ok index)
    well_formed g = form_admitted right b (record { reason = Malformed; place = 0 }) refl (Some index) (rw g at w)

-- ---- the table

module _ (s d hall : List ℕ) where
  -- 1 to 9
  pub by_the_table : (e : Refusal) → ReadAnswerIs (Err e) (read_table s) d → AdmissionIs (Err e) d hall (admission s hall)
  unfolding admission table_tested
  by_the_table e h = rw (refused_table_holds s d e h) (refl, refl)

  module _ (a : Accepted) (h : ReadAnswerIs (Ok a) (read_table s) d) where
    pub few_terms : a.terms ≤ 200
    few_terms =
        accepted_table_holds s d a h (λ t q x. let c = x.counted in let f = x.decoded.good.few in omega arith)

    pub by_the_hall : (r : Result Index Refusal) → HallAdmitted d a.terms hall r → AdmissionIs r d hall (admission s hall)
    unfolding admission table_tested
    by_the_hall r w = accepted_table_holds s d a h (λ t q x. rw q (w.found t x.decoded x.counted))
