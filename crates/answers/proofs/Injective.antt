-- The cases of the answers are kept apart: two that say the same are the same, and so are the halls they leave.
-- Assumes nothing.
use Prim.Native.Nat.{ℕ}
use native.Mathlib.Omega.{arith}
use mathlib.Core.Path.{◌≡◌, refl, ap}
use mathlib.Core.List.{List}
use Rattle.std.specs.Prelude.{◌<◌, Some, None, Result, Ok, Err, IfErr, ⊤}
use Rattle.answers.specs.declared.choices.Entry.{Entry}
use Rattle.answers.specs.declared.choices.Entry.TheVariants as entry
use Rattle.answers.specs.declared.refusals.Reason.{Reason}
use Rattle.answers.specs.declared.refusals.Refusal.{Refusal}
use Rattle.answers.specs.declared.replies.Move.{Move}
use Rattle.answers.specs.declared.tallies.Counters.{Counters}
use Rattle.answers.specs.declared.steps.Step.{Step}
use Rattle.answers.specs.Answers.{reason_number, number_of_rule, shortage_of, reply_of, verdict_of, open_answer_of, buffers_of, outcome_number, step_call_of, StepCaseDecided, entry_of, suggest_answer_of, sentence_answer_of}
use Rattle.answers.specs.Claims.{ShortagesDiffer, RepliesDiffer, VerdictInjective, HallVerdictInjective, OpeningInjective, RunAnswerInjective, StepInjective, SuggestionInjective, SentenceCallInjective}
use Rattle.answers.proofs.Numbers.{reasons_differ, rules_differ}
use Rattle.answers.proofs.CounterLaws.{counters_injective}

-- ---- a refusal

refusals_differ : (e f : Refusal) → reason_number e.reason ≡ reason_number f.reason → e.place ≡ f.place → e ≡ f
refusals_differ e f n p = let r = reasons_differ e.reason f.reason n in λ i. record { reason = r i; place = p i }

-- ---- the reply to a choice

pub shortages_differ : ShortagesDiffer
unfolding shortage_of
shortages_differ None None e = refl
shortages_differ None (Some t) e = absurd (let z : ◌≡◌ {A = ℕ} 0 1 = cc in omega arith)
shortages_differ (Some s) None e = absurd (let z : ◌≡◌ {A = ℕ} 0 1 = cc in omega arith)
shortages_differ (Some s) (Some t) e =
    let tray : s.channel ≡ t.channel = cc in
    let number : s.by ≡ t.by = cc in
    λ i. Some (record { channel = tray i; by = number i })

moves_differ : (m o : Move) → number_of_rule m.rule ≡ number_of_rule o.rule → shortage_of m.short ≡ shortage_of o.short → m ≡ o
moves_differ m o r w =
    let rule = rules_differ m.rule o.rule r in
    let same = shortages_differ m.short o.short w in
    λ i. record { rule = rule i; short = same i }

pub replies_differ : RepliesDiffer
unfolding reply_of
replies_differ (Ok m) (Ok o) e = ap Ok (moves_differ m o (cc) (cc))
replies_differ (Ok m) (Err f) e = absurd (let z : ◌≡◌ {A = ℕ} 0 1 = cc in omega arith)
replies_differ (Err f) (Ok m) e = absurd (let z : ◌≡◌ {A = ℕ} 0 1 = cc in omega arith)
replies_differ (Err f) (Err g) e = ap Err (reasons_differ f g (cc))

-- ---- a table, a hall, an opening

pub verdict_injective : VerdictInjective
unfolding verdict_of
verdict_injective (Ok x) (Ok y) e = refl
verdict_injective (Ok x) (Err f) e = absurd (let z : ◌≡◌ {A = ℕ} 0 1 = cc in omega arith)
verdict_injective (Err f) (Ok x) e = absurd (let z : ◌≡◌ {A = ℕ} 0 1 = cc in omega arith)
verdict_injective (Err f) (Err g) e = ap Err (refusals_differ f g (cc) (cc))

pub hall_verdict_injective : HallVerdictInjective
hall_verdict_injective = verdict_injective

open_answer_injective : (a b : Result Counters Refusal) → open_answer_of a ≡ open_answer_of b → a ≡ b
unfolding open_answer_of
open_answer_injective (Ok c) (Ok d) e = ap Ok (counters_injective c d (cc))
open_answer_injective (Ok c) (Err f) e = absurd (let z : ◌≡◌ {A = ℕ} 0 1 = cc in omega arith)
open_answer_injective (Err f) (Ok c) e = absurd (let z : ◌≡◌ {A = ℕ} 0 1 = cc in omega arith)
open_answer_injective (Err f) (Err g) e = ap Err (refusals_differ f g (cc) (cc))

pub opening_injective : OpeningInjective
opening_injective a b x y e = (open_answer_injective a b (ap (λ o. o.answer) e), ap (λ o. o.hall) e)

-- ---- a run

outcomes_differ : (a b : Result ⊤ Reason) → IfErr a (λ e. 0 < reason_number e) → IfErr b (λ e. 0 < reason_number e) →
    outcome_number a ≡ outcome_number b → a ≡ b
unfolding outcome_number
outcomes_differ (Ok x) (Ok y) l m e = refl
outcomes_differ (Ok x) (Err g) l m e = absurd (omega arith)
outcomes_differ (Err f) (Ok y) l m e = absurd (omega arith)
outcomes_differ (Err f) (Err g) l m e = ap Err (reasons_differ f g e)

pub run_answer_injective : RunAnswerInjective
run_answer_injective a b x y l m e =
    let outcome = outcomes_differ a.outcome b.outcome l m (ap (λ r. r.number) e) in
    let place : a.place ≡ b.place = ap (λ r. r.place) e in
    let done : a.done ≡ b.done = ap (λ r. r.done) e in
    let counters = counters_injective a.counters b.counters (ap (λ r. r.buffers.counters) e) in
    (λ i. record { outcome = outcome i; place = place i; done = done i; counters = counters i }, ap (λ r. r.buffers.hall) e)

-- ---- a step

step_cases : (t : Counters) (x y : List ℕ) (a b : Result Step Refusal) → StepCaseDecided a → StepCaseDecided b →
    step_call_of a (buffers_of x t) ≡ step_call_of b (buffers_of y t) → a ≡ b
step_cases t x y (Ok s) (Ok u) l m e =
    let made = moves_differ s.made u.made (ap (λ c. c.rule) e) (ap (λ c. c.shortage) e) in
    let place : s.place ≡ u.place = ap (λ c. c.place) e in
    let counters = counters_injective s.counters u.counters (ap (λ c. c.buffers.counters) e) in
    λ i. Ok (record { made = made i; place = place i; counters = counters i })
step_cases t x y (Ok s) (Err g) l m e = absurd (let z : 0 ≡ reason_number g.reason = ap (λ c. c.number) e in omega arith)
step_cases t x y (Err f) (Ok u) l m e = absurd (let z : reason_number f.reason ≡ 0 = ap (λ c. c.number) e in omega arith)
step_cases t x y (Err f) (Err g) l m e = ap Err (refusals_differ f g (ap (λ c. c.number) e) (ap (λ c. c.place) e))

step_hall : (t : Counters) (x y : List ℕ) (a b : Result Step Refusal) →
    step_call_of a (buffers_of x t) ≡ step_call_of b (buffers_of y t) → x ≡ y
step_hall t x y (Ok s) (Ok u) e = ap (λ c. c.buffers.hall) e
step_hall t x y (Ok s) (Err g) e = ap (λ c. c.buffers.hall) e
step_hall t x y (Err f) (Ok u) e = ap (λ c. c.buffers.hall) e
step_hall t x y (Err f) (Err g) e = ap (λ c. c.buffers.hall) e

pub step_injective : StepInjective
step_injective t x y a b l m e = (step_cases t x y a b l m e, step_hall t x y a b e)

-- ---- a suggestion

entry_injective : (a b : Entry) → entry_of a ≡ entry_of b → a ≡ b
entry_injective (entry.Act p) (entry.Act q) e = cc
entry_injective (entry.Act p) (entry.Inside q k) e = absurd (let z : ◌≡◌ {A = ℕ} 0 1 = cc in omega arith)
entry_injective (entry.Inside p j) (entry.Act q) e = absurd (let z : ◌≡◌ {A = ℕ} 0 1 = cc in omega arith)
entry_injective (entry.Inside p j) (entry.Inside q k) e = cc

pub suggestion_injective : SuggestionInjective
unfolding suggest_answer_of
suggestion_injective (Ok (Some o)) (Ok (Some u)) e = ap (λ x. Ok (Some x)) (entry_injective o u (cc))
suggestion_injective (Ok (Some o)) (Ok None) e = absurd (let z : ◌≡◌ {A = ℕ} 0 1 = cc in omega arith)
suggestion_injective (Ok (Some o)) (Err f) e = absurd (let z : ◌≡◌ {A = ℕ} 0 1 = cc in omega arith)
suggestion_injective (Ok None) (Ok (Some u)) e = absurd (let z : ◌≡◌ {A = ℕ} 0 1 = cc in omega arith)
suggestion_injective (Ok None) (Ok None) e = refl
suggestion_injective (Ok None) (Err f) e = absurd (let z : ◌≡◌ {A = ℕ} 0 1 = cc in omega arith)
suggestion_injective (Err f) (Ok (Some u)) e = absurd (let z : ◌≡◌ {A = ℕ} 0 1 = cc in omega arith)
suggestion_injective (Err f) (Ok None) e = absurd (let z : ◌≡◌ {A = ℕ} 0 1 = cc in omega arith)
suggestion_injective (Err f) (Err g) e = ap Err (refusals_differ f g (cc) (cc))

-- ---- a sentence

sentence_answer_injective : (a b : Result ℕ Refusal) → sentence_answer_of a ≡ sentence_answer_of b → a ≡ b
sentence_answer_injective (Ok n) (Ok m) e = cc
sentence_answer_injective (Ok n) (Err f) e = absurd (let z : ◌≡◌ {A = ℕ} 0 1 = cc in omega arith)
sentence_answer_injective (Err f) (Ok m) e = absurd (let z : ◌≡◌ {A = ℕ} 0 1 = cc in omega arith)
sentence_answer_injective (Err f) (Err g) e = ap Err (refusals_differ f g (cc) (cc))

pub sentence_call_injective : SentenceCallInjective
sentence_call_injective a b x y e = (sentence_answer_injective a b (ap (λ c. c.answer) e), ap (λ c. c.buffer) e)
