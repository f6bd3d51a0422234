-- The step call: what it gives by the answer to its choice, and the claims of specs/Checks/Steps.
-- Assumes nothing.
use Prim.Native.Nat.{ℕ, zero, suc, ◌≤◌, ◌<◌}
use native.Mathlib.Omega.{arith}
use mathlib.Core.Path.{◌≡◌, refl, sym, ap, ◌∙◌, subst}
use mathlib.Core.Bool.{cond}
use mathlib.Core.Logic.{◌⊎◌, inl, inr, ◌↔◌, ◌≢◌}
use mathlib.Core.List.{List, [], ◌∷◌, map}
use lib.Dec.{eqb}
use borrow.Author.Tests.{ne_eqb}
use Rattle.calculus.specs.Reduction.{Rule, OUT, IN, REP, ATST, ATRE, ATFAIL, ATOK, ARDOK, ARDF, AWR, AOI, AOF, AOE}
use Rattle.semantics.specs.Definitions.Basics.{Bytes}
use Rattle.semantics.specs.Definitions.Table.{Table}
use Rattle.semantics.specs.Definitions.Shortage.{enough, short}
use Rattle.semantics.specs.Definitions.Configuration.{Configuration}
use Rattle.semantics.specs.Definitions.Stored.{bytes_of}
use Rattle.semantics.specs.Definitions.Moves.{Entry, act, inside, EntryAnswer, does, refuses, entry_answer, transition_of, transition, rule_number, as_reply}
use Rattle.semantics.specs.Definitions.Run.{entry, schedule, entries, run_from, run, steps}
use Rattle.semantics.specs.Definitions.Calls.{Admission, admitted, not_admitted, admission, Buffers, RunCall, run_result, run_admitted, run_call, StepCall, step_refused, step_entry, step_kind, step_admitted, step_call, step_bytes, call_answer, call_entries}
use Rattle.semantics.specs.Claims.Shortages.{FailuresAloneName}
use Rattle.semantics.specs.Checks.Conditions.{TableNumbers, HallNumbers, ChoiceNumbers, RefusalNumbers}
use Rattle.semantics.specs.Checks.Steps.{Names, names_act, names_inside, StepCallAsStated, not_admitted_holds, kind_unknown, is_refused, has_moved, StepCallsAsStated, StepCallNumbers, step_reply, StepReplies, NodeOfKind1, StepIsCall}
use Rattle.theorems.proofs.GoodTable.{accepted_is_good}
use Rattle.theorems.proofs.TableConditions.{table_numbers}
use Rattle.theorems.proofs.HallConditions.{hall_numbers, admitted_stored, refusal_numbers}
use Rattle.theorems.proofs.ChoiceConditions.{choice_numbers}
use Rattle.theorems.proofs.ShortageClaims.{failures_alone_name, shortage_small}
use Rattle.theorems.proofs.CallConditions.{choice_range}
use Rattle.theorems.proofs.CallsAsOne.{AnswerHigh, choose_high}

-- ---- what a step gives

-- to a choice of so many bytes with this answer, where the bytes of a configuration are lent
unfoldable pub answered : Configuration → Buffers → (size : ℕ) → EntryAnswer → StepCall
unfolding step_entry
answered h l w a = step_entry (record { hall = bytes_of h; counters = l.counters }) w a

module _ (table : List ℕ) (l : Buffers) where
  -- table or hall is turned down
  pub step_turned_down : (n q kind p k : ℕ) → admission table l.hall ≡ not_admitted n q → step_call table l kind p k ≡ step_refused l n q
  unfolding step_call step_admitted
  step_turned_down n q kind p k e = rw e

  module _ (t : Table) (h : Configuration) (admits : admission table l.hall ≡ admitted t h) where
    -- the kind is not 1 or 2
    pub step_unknown : (kind p k : ℕ) → kind ≢ 1 → kind ≢ 2 → step_call table l kind p k ≡ step_refused l 12 0
    unfolding step_call step_admitted step_kind
    step_unknown zero p k one two = rw admits
    step_unknown (suc zero) p k one two = absurd (one refl)
    step_unknown (suc (suc zero)) p k one two = absurd (two refl)
    step_unknown (suc (suc (suc kind))) p k one two = rw admits

    -- else it is by the answer to the choice
    step_named : {kind p k w : ℕ} {e : Entry} → Names kind p k e w → step_call table l kind p k ≡ step_entry l w (entry_answer h e)
    unfolding step_call step_admitted step_kind
    step_named (names_act {p} {k}) = rw admits
    step_named (names_inside {p} {k}) = rw admits

    pub step_answered : l.hall ≡ bytes_of h → {kind p k w : ℕ} {e : Entry} → Names kind p k e w →
        step_call table l kind p k ≡ answered h l w (entry_answer h e)
    unfolding answered
    step_answered same {w = w} {e = e} named =
        step_named named ∙ λ i. step_entry (record { hall = same i; counters = l.counters }) w (entry_answer h e)

-- ---- as printed

module _ (table : List ℕ) (l : Buffers) where
  printed_so : (kind p k : ℕ) (a : StepCall) → StepCallAsStated table l kind p k a → step_call table l kind p k ≡ a
  unfolding step_entry step_refused
  printed_so kind p k a (not_admitted_holds {n} {p = q} e) = step_turned_down table l n q kind p k e
  printed_so kind p k a (kind_unknown {t} {h} e one two) = step_unknown table l t h e kind p k one two
  printed_so kind p k a (is_refused {t} {h} {size = w} e named q) = step_named table l t h e named ∙ ap (step_entry l w) q
  printed_so kind p k a (has_moved {t} {h} {size = w} e named q) = step_named table l t h e named ∙ ap (step_entry l w) q

  -- every step has one of the printed answers
  module _ (t : Table) (h : Configuration) (e : admission table l.hall ≡ admitted t h) where
    named_printed : {kind p k w : ℕ} (d : Entry) → Names kind p k d w → StepCallAsStated table l kind p k (step_call table l kind p k)
    unfolding step_entry step_refused
    named_printed {kind} {p} {k} {w} d named = rw (step_named table l t h e named) (go (entry_answer h d) refl)
      where
        go : (a : EntryAnswer) → entry_answer h d ≡ a → StepCallAsStated table l kind p k (step_entry l w a)
        go (does r lacks g) q = has_moved e named q
        go (refuses n) q = is_refused e named q

    unknown_printed : (kind p k : ℕ) → kind ≢ 1 → kind ≢ 2 → StepCallAsStated table l kind p k (step_call table l kind p k)
    unfolding step_refused
    unknown_printed kind p k one two = rw (step_unknown table l t h e kind p k one two) (kind_unknown e one two)

  printed : (kind p k : ℕ) → StepCallAsStated table l kind p k (step_call table l kind p k)
  unfolding step_refused
  printed kind p k = go (admission table l.hall) refl kind
    where
      go : (a : Admission) → admission table l.hall ≡ a → (kind : ℕ) → StepCallAsStated table l kind p k (step_call table l kind p k)
      go (not_admitted n q) e kind = rw (step_turned_down table l n q kind p k e) (not_admitted_holds e)
      go (admitted t h) e zero = unknown_printed t h e 0 p k (λ x. omega arith) (λ x. omega arith)
      go (admitted t h) e (suc zero) = named_printed t h e (act p) names_act
      go (admitted t h) e (suc (suc zero)) = named_printed t h e (inside p k) names_inside
      go (admitted t h) e (suc (suc (suc n))) = unknown_printed t h e (suc (suc (suc n))) p k (λ x. omega arith) (λ x. omega arith)

pub step_calls_as_stated : StepCallsAsStated
unfolding StepCallsAsStated
step_calls_as_stated table l kind p k a =
    (λ e. subst (StepCallAsStated table l kind p k) e (printed table l kind p k), printed_so table l kind p k a)

-- ---- its numbers

-- the rules are numbered 1 to 13
rule_range : (r : Rule) → (1 ≤ rule_number r) × (rule_number r ≤ 13)
unfolding rule_number
rule_range (OUT a) = (omega arith, omega arith)
rule_range (IN a) = (omega arith, omega arith)
rule_range (REP a) = (omega arith, omega arith)
rule_range ATST = (omega arith, omega arith)
rule_range ATRE = (omega arith, omega arith)
rule_range ATFAIL = (omega arith, omega arith)
rule_range (ATOK δ) = (omega arith, omega arith)
rule_range ARDOK = (omega arith, omega arith)
rule_range ARDF = (omega arith, omega arith)
rule_range AWR = (omega arith, omega arith)
rule_range AOI = (omega arith, omega arith)
rule_range AOF = (omega arith, omega arith)
rule_range AOE = (omega arith, omega arith)

-- the place of a choice that moved
place_of : {kind p k w : ℕ} {e : Entry} → Names kind p k e w → ((kind ≡ 1) × (w ≡ 2)) ⊎ ((kind ≡ 2) × (w ≡ 3))
place_of names_act = inl (refl, refl)
place_of names_inside = inr (refl, refl)

-- what is claimed of an answer's numbers
abbrev Numbered : Buffers → ℕ → StepCall → Type 0
Numbered l kind a =
    ((a.number ≢ 0 → (a.rule ≡ 0) × (a.shortage ≡ enough) × (a.buffers ≡ l)) ×
    (12 ≤ a.number → (a.place ≡ 0) × (a.number ≤ 20) × (a.number ≢ 13))) ×
    (a.number ≡ 0 →
    (1 ≤ a.rule) × (a.rule ≤ 13) × (((kind ≡ 1) × (a.place ≡ 2)) ⊎ ((kind ≡ 2) × (a.place ≡ 3))) ×
    ((a.shortage ≡ enough) ↔ ((a.rule ≢ 6) × (a.rule ≢ 9))) ×
    ((tray by : ℕ) → a.shortage ≡ short tray by → (tray < 16) × (1 ≤ by) × (by ≤ 16)))

printed_numbered : (table : List ℕ) (l : Buffers) → Bytes table → Bytes l.hall → (kind p k : ℕ) (a : StepCall) →
    StepCallAsStated table l kind p k a → Numbered l kind a
unfolding RefusalNumbers HallNumbers TableNumbers ChoiceNumbers FailuresAloneName transition transition_of
printed_numbered table l tb hb kind p k a (not_admitted_holds {n} {p = q} e) =
    let range = (refusal_numbers table l.hall n q).3 e in
    ((λ ne. (refl, refl, refl), λ late. absurd (omega arith)), λ z. absurd (omega arith))
printed_numbered table l tb hb kind p k a (kind_unknown e one two) =
    ((λ ne. (refl, refl, refl), λ late. (refl, omega arith, λ z. omega arith)), λ z. absurd (omega arith))
printed_numbered table l tb hb kind p k a (is_refused {t} {h} {e = d} {n = n} e named q) =
    let well = (((hall_numbers table l.hall tb hb).1 t h).0 e).1 in
    let range = choice_range h n d (((choice_numbers t.terms h well d).0 n).0 (ap transition_of q)).0 in
    ((λ ne. (refl, refl, refl), λ late. (refl, range.1, λ z. omega arith)), λ z. absurd (omega arith))
printed_numbered table l tb hb kind p k a (has_moved {t} {h} {g} {e = d} {r = r} {w = w} e named q) =
    let there = ((hall_numbers table l.hall tb hb).1 t h).0 e in (
      (λ ne. absurd (ne refl), λ late. absurd (omega arith)),
      λ z. (
        (rule_range r).0,
        (rule_range r).1,
        place_of named,
        failures_alone_name h g d r w q,
        λ a k is. shortage_small h g d r (accepted_is_good table t (((table_numbers table).1 t).1 there.0)) there.1 (q ∙ rw is),
      ),
    )

-- what a step tells is the reply to its choice
pub step_replies : StepReplies
unfolding StepReplies step_entry step_refused as_reply transition transition_of
step_replies table l t h admits kind p k size e named =
    rw (step_named table l t h admits named) (go (entry_answer h e) (choose_high h e))
  where
    go : (x : EntryAnswer) → AnswerHigh (transition_of x) → step_reply (step_entry l size x) ≡ as_reply x
    go (does r lacks g) high = refl
    go (refuses n) high = rw (ne_eqb n 0 (λ z. omega arith))

pub step_call_numbers : StepCallNumbers
unfolding StepCallNumbers
step_call_numbers table l tb hb kind p k =
    printed_numbered table l tb hb kind p k (step_call table l kind p k) (printed table l kind p k)

pub node_of_kind_1 : NodeOfKind1
unfolding NodeOfKind1 step_call step_admitted step_kind
node_of_kind_1 table l p k m = go (admission table l.hall)
  where
    go : (a : Admission) → step_admitted l a 1 p k ≡ step_admitted l a 1 p m
    go (not_admitted n q) = refl
    go (admitted t h) = refl

-- ---- a run of that one choice

-- what is claimed of a step's answer, of a run's, and of the rules done, where the two leave the same if `Same` holds
abbrev RunsOne : (Same : Type 0) → StepCall → RunCall → List ℕ → Type 0
RunsOne Same a b rules =
    (b.number ≡ a.number) × (b.place ≡ a.place) × (Same → b.buffers ≡ a.buffers) ×
    ((b.number ≡ 0) ↔ (b.done ≡ 1)) × ((b.number ≢ 0) ↔ (b.done ≡ 0)) ×
    (rules ≡ cond (eqb a.number 0) (a.rule ∷ []) [])

unfoldable rules_done : Configuration → List Entry → List ℕ
rules_done h es = map (λ s. rule_number s.rule) (steps h es)

module _ (l : Buffers) (h : Configuration) where
  -- the bytes of the configuration are those lent
  abbrev Lent : Type 0
  Lent = record { hall = bytes_of h; counters = l.counters } ≡ l

  none : (n : ℕ) → 1 ≤ n →
      RunsOne Lent (step_refused l n 0)
      (record { number = n; place = 0; done = 0; buffers = record { hall = bytes_of h; counters = l.counters } }) []
  unfolding step_refused
  none n high = (
    refl,
    refl,
    λ same. same,
    (λ x. absurd (omega arith), λ x. absurd (omega arith)),
    (λ x. refl, λ x y. omega arith),
    rw (ne_eqb n 0 (λ z. omega arith)),
  )

  -- one entry
  one : (e : Entry) (w : ℕ) →
      RunsOne Lent (step_entry l w (entry_answer h e)) (run_result (run_from h l.counters 0 0 (entry e w ∷ []))) (rules_done h (e ∷ []))
  unfolding step_entry run_from run_result steps transition transition_of rules_done
  one e w = go (entry_answer h e) refl (choose_high h e)
    where
      go : (a : EntryAnswer) → entry_answer h e ≡ a → AnswerHigh (transition_of a) →
          RunsOne Lent (step_entry l w a) (run_result (run_from h l.counters 0 0 (entry e w ∷ []))) (rules_done h (e ∷ []))
      go (does r lacks g) q high = rw q (
        refl,
        omega arith,
        λ same. refl,
        (λ x. refl, λ x. refl),
        (λ x. absurd (x refl), λ x. absurd (omega arith)),
        refl,
      )
      go (refuses n) q high = rw q (none n (omega arith))

  -- a step
  step_runs : (kind p k : ℕ) →
      RunsOne Lent (step_kind l h kind p k) (run_result (run h l.counters (step_bytes kind p k))) (rules_done h (entries (schedule (step_bytes kind p k))))
  unfolding step_kind run run_from run_result step_bytes schedule entries rules_done steps
  step_runs zero p k = none 12 (omega arith)
  step_runs (suc zero) p k = one (act p) 2
  step_runs (suc (suc zero)) p k = one (inside p k) 3
  step_runs (suc (suc (suc n))) p k = none 12 (omega arith)

module _ (table : List ℕ) (l : Buffers) (kind p k : ℕ) where
  -- the stored bytes of what was admitted are those that were lent
  same_buffers : Bytes l.hall → (t : Table) (h : Configuration) → admission table l.hall ≡ admitted t h → Lent l h
  same_buffers bytes t h e =
      let same = admitted_stored table l.hall bytes t h e in λ i. record { hall = same i; counters = l.counters }

  -- the claim, of a step's answer and a run's
  abbrev Called : StepCall → RunCall → Type 0
  Called a b =
      (b.number ≡ a.number) × (b.place ≡ a.place) × (Bytes l.hall → b.buffers ≡ a.buffers) ×
      ((b.number ≡ 0) ↔ (b.done ≡ 1)) × ((b.number ≢ 0) ↔ (b.done ≡ 0)) ×
      ((t : Table) (h : Configuration) → admission table l.hall ≡ admitted t h →
      rules_done h (entries (schedule (step_bytes kind p k))) ≡ cond (eqb a.number 0) (a.rule ∷ []) [])

  called : (a : Admission) → admission table l.hall ≡ a → Called (step_admitted l a kind p k) (run_admitted l (step_bytes kind p k) a)
  unfolding step_admitted step_refused run_admitted RefusalNumbers
  called (not_admitted n q) e =
      let high = ((refusal_numbers table l.hall n q).3 e).0 in (
        refl,
        refl,
        λ bytes. refl,
        (λ x. absurd (omega arith), λ x. absurd (omega arith)),
        (λ x. refl, λ x y. omega arith),
        λ t h f. let both = sym e ∙ f in absurd (let z : ◌≡◌ {A = ℕ} 0 1 = cc in omega arith),
      )
  called (admitted t h) e =
      let r = step_runs l h kind p k in (
        r.0,
        r.1,
        λ bytes. r.2 (same_buffers bytes t h e),
        r.3,
        r.4,
        λ t' h' f. let both = sym e ∙ f in let there : h ≡ h' = cc in
            ap (λ c. rules_done c (entries (schedule (step_bytes kind p k)))) (sym there) ∙ r.5,
      )

pub step_is_call : StepIsCall
unfolding StepIsCall step_call call_answer call_entries run_call rules_done
step_is_call table l kind p k = called table l kind p k (admission table l.hall) refl
