-- What a run gives, by the answer of the admission before it and by what was made of the configuration that it holds.
-- Assumes nothing.
use Rattle.std.specs.Prelude.{Ok, Err}
use Prim.Native.Nat.{ℕ}
use mathlib.Core.Path.{◌≡◌, ◌∙◌}
use mathlib.Core.List.{List}
use Rattle.semantics.specs.Definitions.Calls.{admission, run_admitted, run_call}
use Rattle.answers.specs.declared.tallies.Counters.{Counters}
use Rattle.answers.specs.declared.runs.RunAnswer.{RunAnswer}
use Rattle.answers.specs.declared.refusals.Refusal.{Refusal}
use Rattle.answers.specs.Answers.{counters_of, buffers_of, outcome_number, run_call_of}
use Rattle.hall_layout.specs.declared.Index.{Index}
use Rattle.call_admit.specs.Admissions.{AdmissionIs}
use Rattle.call_admit.proofs.Admissions.{admitted_hall, refused_hall}
use Rattle.choice_run.specs.Answers.{Ran}

module _ (d table hall : List ℕ) where
  -- 1 to 11
  pub run_turned_down : (e : Refusal) → AdmissionIs (Err e) d hall (admission table hall) → (choices : List ℕ) (c : Counters) →
      run_call_of (record { outcome = Err e.reason; place = e.place; done = 0; counters = c }) hall
      ≡ run_call table (buffers_of hall c) choices
  unfolding outcome_number run_call run_admitted
  run_turned_down e w choices c = rw (refused_hall d table hall e w)

  pub run_said : (index : Index) → AdmissionIs (Ok index) d hall (admission table hall) →
      {choices : List ℕ} {c : Counters} {r : RunAnswer} {s' : List ℕ} →
      Ran d hall index.starts index.components choices (counters_of c) r s' → run_call_of r s' ≡ run_call table (buffers_of hall c) choices
  unfolding run_call run_admitted
  run_said index w f = admitted_hall d table hall index w
      (λ t h q x. f.found t.terms h x.decoded x.holds ∙ rw q)
