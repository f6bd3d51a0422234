-- Which number a call on a hall is turned down with: its table's, else 10 by its size, else 11 by its form; what a
-- check says; and what opening gives, which looks at the table and the size alone.
-- Assumes nothing.
use Prim.Native.Nat.{ℕ, ◌≤◌}
use native.Mathlib.Omega.{arith}
use mathlib.Core.Path.{◌≡◌, refl, sym, ap, ◌∙◌, subst}
use mathlib.Core.Logic.{◌↔◌, ◌≢◌}
use mathlib.Core.Bool.{Bool, true, false}
use mathlib.Core.Option.{Option, none, some}
use mathlib.Core.List.{List}
use lib.ListN.{length, drop}
use lib.Dec.{eqb}
use borrow.Author.Tests.{eq-eqb, eqb-true, eqb-false, ne_eqb}
use Rattle.semantics.specs.Definitions.Basics.{Bytes}
use Rattle.semantics.specs.Definitions.Table.{Table, TableAnswer, accepted, refused_at, read_table}
use Rattle.semantics.specs.Definitions.Configuration.{Configuration}
use Rattle.semantics.specs.Definitions.Stored.{hall_bytes, WellFormed, bytes_of, configuration_of}
use Rattle.semantics.specs.Definitions.Run.{fresh_counters}
use Rattle.semantics.specs.Definitions.Calls.{Verdict, ok, rejected, table_verdict, check_table, Admission, admitted, not_admitted, form_tested, size_tested, table_tested, admission, admission_verdict, check_hall, not_opened, Opening, open_sized, open_tested, open_hall}
use Rattle.semantics.specs.Checks.Conditions.{TableRefused, TableAccepted, TableNumbers, OpenCondition, by_table, size_mismatch, HallCondition, as_opening, not_well_formed, HallAccepted, HallNumbers, TableChecked, HallChecked, CheckNumbers, OpenAnswered, not_opened_holds, is_opened, OpenNumbers, RefusalNumbers}
use Rattle.theorems.proofs.GoodTable.{accepted_is_good}
use Rattle.theorems.proofs.RoundTrip.{read_back, read_is_well_formed, stored_fits}
use Rattle.theorems.proofs.TableConditions.{condition_number, table_numbers}

-- ---- the answer on a table

module _ (table : List ℕ) where
  read_refused : (n p : ℕ) → read_table table ≡ refused_at n p → TableRefused table n p
  unfolding TableNumbers
  read_refused n p = ((table_numbers table).0 n p).0

  refused_read : (n p : ℕ) → TableRefused table n p → read_table table ≡ refused_at n p
  unfolding TableNumbers
  refused_read n p = ((table_numbers table).0 n p).1

  read_accepted : (t : Table) → read_table table ≡ accepted t → TableAccepted table t
  unfolding TableNumbers
  read_accepted t = ((table_numbers table).1 t).0

  pub accepted_read : (t : Table) → TableAccepted table t → read_table table ≡ accepted t
  unfolding TableNumbers
  accepted_read t = ((table_numbers table).1 t).1

-- ---- a call on a hall

module _ (table hall : List ℕ) where
  -- an answer with its reason
  abbrev AdmissionReason : Admission → Type 0
  AdmissionReason (admitted t h) = HallAccepted table hall t h
  AdmissionReason (not_admitted n p) = HallCondition table hall n p

  module _ (bytes : Bytes hall) where
    form_reason : (t : Table) → read_table table ≡ accepted t → length hall ≡ 11344 → (o : Option Configuration) →
        configuration_of t.terms hall ≡ o →
        AdmissionReason (form_tested t o)
    unfolding form_tested
    form_reason t e l none f = not_well_formed t (read_accepted table t e) l (λ w. lost w.0 w.1 w.2)
      where
        lost : (h : Configuration) → WellFormed t.terms h → bytes_of h ≡ hall → ⊥
        lost h w q = let r = rw q at (read_back t.terms h (accepted_is_good table t e) w) in
            let z : ◌≡◌ {A = ℕ} 0 1 = cc in omega arith
    form_reason t e l (some h) f =
        let w = read_is_well_formed t.terms hall h (accepted_is_good table t e) bytes l f in
        (read_accepted table t e, w.0, w.1)

    size_reason : (t : Table) → read_table table ≡ accepted t → (b : Bool) → eqb (length hall) hall_bytes ≡ b →
        AdmissionReason (size_tested t hall b)
    unfolding size_tested
    size_reason t e true f = form_reason t e (eqb-true (length hall) 11344 f) (configuration_of t.terms hall) refl
    size_reason t e false f = as_opening (size_mismatch t (read_accepted table t e) (eqb-false (length hall) 11344 f))

    table_reason : (o : TableAnswer) → read_table table ≡ o → AdmissionReason (table_tested hall o)
    unfolding table_tested
    table_reason (refused_at n p) e = as_opening (by_table (read_refused table n p e))
    table_reason (accepted t) e = size_reason t e (eqb (length hall) hall_bytes) refl

    admission_reason : AdmissionReason (admission table hall)
    unfolding admission
    admission_reason = table_reason (read_table table) refl

    -- each condition decides the answer
    size_refuses : (t : Table) → read_table table ≡ accepted t → length hall ≢ 11344 →
        admission table hall ≡ not_admitted 10 0
    unfolding admission table_tested size_tested
    size_refuses t e l = rw (e, ne_eqb (length hall) 11344 l)

    size_passes : (t : Table) → read_table table ≡ accepted t → length hall ≡ 11344 →
        admission table hall ≡ form_tested t (configuration_of t.terms hall)
    unfolding admission table_tested size_tested
    size_passes t e l = rw (e, eq-eqb (length hall) 11344 l)

    form_refuses : (t : Table) → read_table table ≡ accepted t → length hall ≡ 11344 →
        (((h : Configuration) × WellFormed t.terms h × (bytes_of h ≡ hall)) → ⊥) → (o : Option Configuration) →
        configuration_of t.terms hall ≡ o →
        form_tested t o ≡ not_admitted 11 0
    unfolding form_tested
    form_refuses t e l w none f = refl
    form_refuses t e l w (some h) f = let q =
        read_is_well_formed t.terms hall h (accepted_is_good table t e) bytes l f in absurd (w (h, q.0, q.1))

    turned_down : (n p : ℕ) → HallCondition table hall n p → admission table hall ≡ not_admitted n p
    unfolding admission table_tested
    turned_down n p (as_opening (by_table c)) = rw (refused_read table n p c)
    turned_down n p (as_opening (size_mismatch t c l)) = size_refuses t (accepted_read table t c) l
    turned_down n p (not_well_formed t c l w) =
        let e =
        accepted_read table t c in size_passes t e l ∙ form_refuses t e l w (configuration_of t.terms hall) refl

    admits : (t : Table) (h : Configuration) → HallAccepted table hall t h → admission table hall ≡ admitted t h
    unfolding form_tested
    admits t h (c, w, same) =
        let e = accepted_read table t c in
        let good = accepted_is_good table t e in
        let read : configuration_of t.terms hall ≡ some h = rw same at (read_back t.terms h good w) in
        size_passes t e (ap length (sym same) ∙ (stored_fits t.terms h good w).1) ∙ ap (form_tested t) read

-- what is admitted is what was stored
pub admitted_stored : (table hall : List ℕ) → Bytes hall → (t : Table) (h : Configuration) → admission table hall ≡ admitted t h →
    bytes_of h ≡ hall
admitted_stored table hall bytes t h e = (subst (AdmissionReason table hall) e (admission_reason table hall bytes)).2

pub hall_numbers : HallNumbers
unfolding HallNumbers
hall_numbers table hall _ bytes =
    let reason = admission_reason table hall bytes in (
      λ n p. (λ e. subst (AdmissionReason table hall) e reason, turned_down table hall bytes n p),
      λ t h. (λ e. subst (AdmissionReason table hall) e reason, admits table hall bytes t h),
    )

-- ---- the checks

table_checked : (bs : List ℕ) (v : Verdict) → (check_table bs ≡ v) ↔ TableChecked bs v
unfolding check_table table_verdict
table_checked bs v = (λ e. subst (TableChecked bs) e (says (read_table bs) refl), decides v)
  where
    says : (o : TableAnswer) → read_table bs ≡ o → TableChecked bs (table_verdict o)
    says (accepted t) e = (t, read_accepted bs t e)
    says (refused_at n p) e = read_refused bs n p e

    decides : (v : Verdict) → TableChecked bs v → table_verdict (read_table bs) ≡ v
    decides ok (t, c) = rw (accepted_read bs t c)
    decides (rejected n p) c = rw (refused_read bs n p c)

hall_checked : (table hall : List ℕ) → Bytes hall → (v : Verdict) →
    (check_hall table hall ≡ v) ↔ HallChecked table hall v
unfolding check_hall admission_verdict
hall_checked table hall bytes v =
    (λ e. subst (HallChecked table hall) e (says (admission table hall) (admission_reason table hall bytes)), decides v)
  where
    says : (a : Admission) → AdmissionReason table hall a → HallChecked table hall (admission_verdict a)
    says (admitted t h) c = (t, h, c)
    says (not_admitted n p) c = c

    decides : (v : Verdict) → HallChecked table hall v → admission_verdict (admission table hall) ≡ v
    decides ok (t, h, c) = rw (admits table hall bytes t h c)
    decides (rejected n p) c = rw (turned_down table hall bytes n p c)

pub check_numbers : CheckNumbers
unfolding CheckNumbers
check_numbers = (table_checked, hall_checked)

-- ---- opening

module _ (table hall : List ℕ) where
  sized_opens : (t : Table) → TableAccepted table t → (b : Bool) → eqb (length hall) 11344 ≡ b →
      OpenAnswered table hall (open_sized t hall b)
  unfolding open_sized fresh_counters
  sized_opens t c true f = is_opened t c (eqb-true (length hall) 11344 f)
  sized_opens t c false f = not_opened_holds (size_mismatch t c (eqb-false (length hall) 11344 f))

  answer_opens : (o : TableAnswer) → read_table table ≡ o → OpenAnswered table hall (open_tested hall o)
  unfolding open_tested
  answer_opens (refused_at n p) e = not_opened_holds (by_table (read_refused table n p e))
  answer_opens (accepted t) e = sized_opens t (read_accepted table t e) (eqb (length hall) 11344) refl

  opens_as : OpenAnswered table hall (open_hall table hall)
  unfolding open_hall
  opens_as = answer_opens (read_table table) refl

  opens_so : (o : Opening) → OpenAnswered table hall o → open_hall table hall ≡ o
  unfolding open_hall open_tested open_sized fresh_counters
  opens_so o (not_opened_holds {n} {p} (by_table c)) = rw (refused_read table n p c)
  opens_so o (not_opened_holds (size_mismatch t c l)) = rw (accepted_read table t c, ne_eqb (length hall) 11344 l)
  opens_so o (is_opened t c l) = rw (accepted_read table t c, eq-eqb (length hall) 11344 l)

pub open_numbers : OpenNumbers
unfolding OpenNumbers
open_numbers table hall o = (λ e. subst (OpenAnswered table hall) e (opens_as table hall), opens_so table hall o)

-- ---- the numbers of refusals

-- a number from 1 to m
abbrev UpTo : ℕ → ℕ → Type 0
UpTo m n = (1 ≤ n) × (n ≤ m)

refused_range : (table : List ℕ) (n p : ℕ) → TableRefused table n p → UpTo 9 n
unfolding TableRefused
refused_range table n p (at, r, o, reached, c, _, _) = condition_number r n o (drop at table) c

open_range : (table hall : List ℕ) (n p : ℕ) → OpenCondition table hall n p → UpTo 10 n
open_range table hall n p (by_table c) = let z = refused_range table n p c in omega arith
open_range table hall n p (size_mismatch t c l) = omega arith

opened_range : (table hall : List ℕ) (n p : ℕ) → (open_hall table hall).answer ≡ not_opened n p → UpTo 10 n
opened_range table hall n p = go (open_hall table hall) (opens_as table hall)
  where
    go : (o : Opening) → OpenAnswered table hall o → o.answer ≡ not_opened n p → UpTo 10 n
    go o (not_opened_holds {n = m} {p = q} c) e = let z : m ≡ n = cc in subst (UpTo 10) z (open_range table hall m q c)
    go o (is_opened t c l) e = absurd (let z : ◌≡◌ {A = ℕ} 0 1 = cc in omega arith)

admission_range : (table hall : List ℕ) (n p : ℕ) → admission table hall ≡ not_admitted n p → UpTo 11 n
unfolding admission table_tested size_tested form_tested
admission_range table hall n p e = by_answer (read_table table) refl e
  where
    by_form : (t : Table) (o : Option Configuration) → form_tested t o ≡ not_admitted n p → UpTo 11 n
    by_form t none f = let z : 11 ≡ n = cc in omega arith
    by_form t (some h) f = absurd (let z : ◌≡◌ {A = ℕ} 0 1 = cc in omega arith)

    by_size : (t : Table) (b : Bool) → size_tested t hall b ≡ not_admitted n p → UpTo 11 n
    by_size t false f = let z : 10 ≡ n = cc in omega arith
    by_size t true f = by_form t (configuration_of t.terms hall) f

    by_answer : (o : TableAnswer) → read_table table ≡ o → table_tested hall o ≡ not_admitted n p → UpTo 11 n
    by_answer (refused_at m q) f g = let z = refused_range table n p (read_refused table n p (cc)) in omega arith
    by_answer (accepted t) f g = by_size t (eqb (length hall) hall_bytes) g

hall_range : (table hall : List ℕ) (n p : ℕ) → check_hall table hall ≡ rejected n p → UpTo 11 n
unfolding check_hall admission_verdict
hall_range table hall n p e = go (admission table hall) refl e
  where
    go : (a : Admission) → admission table hall ≡ a → admission_verdict a ≡ rejected n p → UpTo 11 n
    go (admitted t h) f g = absurd (let z : ◌≡◌ {A = ℕ} 0 1 = cc in omega arith)
    go (not_admitted m q) f g = admission_range table hall n p (cc)

pub refusal_numbers : RefusalNumbers
unfolding RefusalNumbers
refusal_numbers table hall n p = (
  λ e. refused_range table n p ((table_checked table (rejected n p)).0 e),
  opened_range table hall n p,
  hall_range table hall n p,
  admission_range table hall n p,
)
