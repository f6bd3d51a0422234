-- What the answer of an admission says of the definitions' admission: for every call on a table and a hall.
-- Assumes nothing.
use Prim.Native.Nat.{ℕ, ◌<◌}
use native.Mathlib.Omega.{arith}
use mathlib.Core.Path.{◌≡◌, refl}
use mathlib.Core.List.{List}
use Rattle.std.specs.Prelude.{Ok, Err}
use Rattle.semantics.specs.Definitions.Table.{Table}
use Rattle.semantics.specs.Definitions.Configuration.{Configuration}
use Rattle.semantics.specs.Definitions.Calls.{Admission, admitted, not_admitted, admission}
use Rattle.answers.specs.declared.refusals.Reason.{Reason}
use Rattle.answers.specs.declared.refusals.Refusal.{Refusal}
use Rattle.answers.specs.Answers.{reason_number}
use Rattle.answers.proofs.Numbers.{reason_tag}
use Rattle.hall_layout.specs.declared.Index.{Index}
use Rattle.hall_held.specs.Holds.{Running}
use Rattle.call_admit.specs.Admissions.{TableAndHallHeld, AdmissionIs}

-- no refusal has number 0
pub number_told : (r : Reason) → 0 < reason_number r
number_told r = let z = reason_tag r in omega arith

module _ (d table hall : List ℕ) where
  module _ (index : Index) (w : AdmissionIs (Ok index) d hall (admission table hall)) where
    -- the table and the configuration that are held
    pub admitted_hall : {C : Type 0} →
        ((t : Table) (h : Configuration) → admission table hall ≡ admitted t h → TableAndHallHeld t h d hall index → C) → C
    admitted_hall {C} k = go (admission table hall) refl w
      where
        go : (b : Admission) → admission table hall ≡ b → AdmissionIs (Ok index) d hall b → C
        go (admitted t h) q x = k t h q x
        go (not_admitted m p) q x = absurd x

    pub held_running : Running d hall index.starts index.components
    held_running = admitted_hall
        (λ t h q x. record { terms = t.terms; configuration = h; decoded = x.decoded; holds = x.holds })

  -- 1 to 11
  pub refused_hall : (e : Refusal) → AdmissionIs (Err e) d hall (admission table hall) →
      admission table hall ≡ not_admitted (reason_number e.reason) e.place
  refused_hall e = go (admission table hall)
    where
      go : (b : Admission) → AdmissionIs (Err e) d hall b → b ≡ not_admitted (reason_number e.reason) e.place
      go (admitted t h) x = absurd x
      go (not_admitted m q) x = rw (x.0, x.1)
