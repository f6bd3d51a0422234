-- The verdict on a checked hall, by the answer of its admission.
-- Assumes nothing.
use Prim.Native.Nat.{ℕ}
use mathlib.Core.Path.{◌≡◌}
use mathlib.Core.List.{List}
use Rattle.std.specs.Prelude.{Ok, Err, ⊤}
use Rattle.semantics.specs.Definitions.Calls.{admission, admission_verdict, check_hall}
use Rattle.answers.specs.declared.refusals.Refusal.{Refusal}
use Rattle.answers.specs.Answers.{verdict_of}
use Rattle.hall_layout.specs.declared.Index.{Index}
use Rattle.call_admit.specs.Admissions.{AdmissionIs}
use Rattle.call_admit.proofs.Admissions.{admitted_hall, refused_hall}

module _ (d table hall : List ℕ) where
  pub passed : (x : Index) → AdmissionIs (Ok x) d hall (admission table hall) → {u : ⊤} → verdict_of (Ok u) ≡ check_hall table hall
  unfolding check_hall admission_verdict verdict_of
  passed x w = admitted_hall d table hall x w (λ t h q y. rw q)

  pub turned_down : (e : Refusal) → AdmissionIs (Err e) d hall (admission table hall) → verdict_of {T = ⊤} (Err e) ≡ check_hall table hall
  unfolding check_hall admission_verdict verdict_of
  turned_down e w = rw (refused_hall d table hall e w)
