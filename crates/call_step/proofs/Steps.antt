-- What a step gives, by the answer of the admission before it and by what was made of the configuration that it holds.
-- Assumes nothing.
use Rattle.std.specs.Prelude.{Result, Ok, Err}
use Prim.Native.Nat.{ℕ}
use mathlib.Core.Path.{◌≡◌, refl, sym, ◌∙◌}
use mathlib.Core.List.{List, [], ◌∷◌}
use lib.ListN.{length, take}
use Rattle.semantics.specs.Definitions.Moves.{Entry}
use Rattle.semantics.specs.Definitions.Run.{schedule}
use Rattle.semantics.specs.Definitions.Calls.{admission, step_refused, step_call}
use Rattle.semantics.specs.Checks.Steps.{Names, names_act, names_inside}
use Rattle.theorems.proofs.Steps.{answered, step_turned_down, step_unknown, step_answered}
use Rattle.answers.specs.declared.tallies.Counters as code
use Rattle.answers.specs.declared.refusals.Reason.TheVariants.{UnknownKind}
use Rattle.answers.specs.declared.refusals.Refusal.{Refusal}
use Rattle.answers.specs.declared.steps.Step.{Step}
use Rattle.answers.specs.Answers.{reason_number, counters_of, buffers_of, step_call_of}
use Rattle.hall_layout.specs.declared.Index.{Index}
use Rattle.call_admit.specs.Admissions.{AdmissionIs}
use Rattle.call_admit.proofs.Admissions.{admitted_hall, refused_hall}
use Rattle.call_step.specs.Steps.{OneEntry, HeldStepped}

-- ---- the bytes of a choice

pub named_written : {kind position node size : ℕ} {o : Entry} → Names kind position node o size →
    OneEntry (take size (kind ∷ position ∷ node ∷ [])) o
unfolding schedule
named_written names_act = record { says = refl }
named_written names_inside = record { says = refl }

named_length : {kind position node size : ℕ} {o : Entry} → Names kind position node o size →
    length (take size (kind ∷ position ∷ node ∷ [])) ≡ size
named_length names_act = refl
named_length names_inside = refl

-- ---- behind the admission

module _ (d table hall : List ℕ) where
  -- 1 to 11
  pub stepped_turned_down : (e : Refusal) → AdmissionIs (Err e) d hall (admission table hall) → (kind position node : ℕ)
      (c : code.Counters) →
      step_call_of (Err e) (buffers_of hall c) ≡ step_call table (buffers_of hall c) kind position node
  unfolding step_refused
  stepped_turned_down e w kind position node c =
      sym (step_turned_down table (buffers_of hall c) (reason_number e.reason) e.place kind position node (refused_hall d table hall e w))

  module _ (index : Index) (w : AdmissionIs (Ok index) d hall (admission table hall)) where
    -- 12
    pub stepped_unknown : {kind : ℕ} → (kind ≡ 1 → ⊥) → (kind ≡ 2 → ⊥) → (position node : ℕ) (c : code.Counters) →
        step_call_of (Err (record { reason = UnknownKind; place = 0 })) (buffers_of hall c) ≡ step_call table (buffers_of hall c) kind position node
    unfolding reason_number step_refused
    stepped_unknown {kind} one two position node c = admitted_hall d table hall index w
        (λ t h q x. sym (step_unknown table (buffers_of hall c) t h q kind position node one two))

    pub stepped_named : {kind position node size : ℕ} {o : Entry} → Names kind position node o size →
        {c : code.Counters} {r : Result Step Refusal} {s' : List ℕ} →
        HeldStepped d hall index.starts index.components o (length (take size (kind ∷ position ∷ node ∷ []))) (counters_of c) r s' →
        step_call_of r (buffers_of s' c) ≡ step_call table (buffers_of hall c) kind position node
    unfolding answered
    stepped_named named {c} f = admitted_hall d table hall index w
        (λ t h q x. (rw (named_length named) at f).found t.terms h x.decoded x.holds ∙ sym (step_answered table (buffers_of hall c) t h q x.holds.bytes named))
