-- What a suggestion gives, by the answer of the admission before it and by what was found in the configuration that it holds.
-- Assumes nothing.
use Rattle.std.specs.Prelude.{Option, Some, None, Ok, Err}
use Prim.Native.Nat.{ℕ}
use mathlib.Core.Path.{◌≡◌, sym, ap, ◌∙◌}
use mathlib.Core.List.{List}
use Rattle.semantics.specs.Definitions.Calls.{admission}
use Rattle.semantics.specs.Definitions.Suggestion.{suggest_found, suggest_call}
use Rattle.theorems.proofs.Suggestions.{admitted_suggests, refused_suggests}
use Rattle.answers.specs.declared.choices.Entry.{Entry}
use Rattle.answers.specs.declared.refusals.Refusal.{Refusal}
use Rattle.answers.specs.Answers.{reason_number, suggest_answer_of}
use Rattle.hall_layout.specs.declared.Index.{Index}
use Rattle.call_admit.specs.Admissions.{AdmissionIs}
use Rattle.call_admit.proofs.Admissions.{admitted_hall, refused_hall}
use Rattle.choice_suggest.specs.Suggestions.{found_of, FirstFound}

module _ (d table hall : List ℕ) where
  -- 1 to 11
  pub suggestion_turned_down : (e : Refusal) → AdmissionIs (Err e) d hall (admission table hall) →
      suggest_answer_of (Err e) ≡ suggest_call table hall
  unfolding suggest_answer_of
  suggestion_turned_down e w =
      sym (refused_suggests table hall (reason_number e.reason) e.place (refused_hall d table hall e w))

  pub suggestion_told : (index : Index) → AdmissionIs (Ok index) d hall (admission table hall) → {r : Option Entry} →
      FirstFound d hall index.starts index.components r → suggest_answer_of (Ok r) ≡ suggest_call table hall
  unfolding suggest_answer_of suggest_found
  suggestion_told index w {r} f = go r (admitted_hall d table hall index w
      (λ t h q x. admitted_suggests table hall t h q ∙ ap suggest_found (f.found t.terms h x.decoded x.holds)))
    where
      go : (o : Option Entry) → suggest_call table hall ≡ suggest_found (found_of o) →
          suggest_answer_of (Ok o) ≡ suggest_call table hall
      go (Some e) q = sym q
      go None q = sym q
