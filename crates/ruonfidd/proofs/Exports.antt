-- What each export tells: its call answers what the definitions say, and what is told is that answer's.
-- Assumes nothing.
use Prim.Native.Nat.{ℕ}
use mathlib.Core.Path.{◌≡◌, refl}
use mathlib.Core.List.{List}
use mathlib.Core.Bool.{Bool, true, false}
use borrow.Author.Tests.{ne_eqb}
use Rattle.std.specs.Prelude.{Option, Some, None, Result, ⊤}
use Rattle.semantics.specs.Definitions.Moves.{Reply, moved_by, refused_by}
use Rattle.semantics.specs.Definitions.Calls.{Verdict, Opening, run_call, step_call}
use Rattle.semantics.specs.Definitions.Turns.{TurnAnswer}
use Rattle.semantics.specs.Definitions.Suggestion.{SuggestAnswer}
use Rattle.semantics.specs.Definitions.Sentence.{sentence_call}
use Rattle.answers.specs.declared.tallies.Counters.{Counters}
use Rattle.answers.specs.declared.choices.Entry.{Entry}
use Rattle.answers.specs.declared.refusals.Refusal.{Refusal}
use Rattle.answers.specs.declared.turns.Turn.{Turn}
use Rattle.answers.specs.declared.runs.RunAnswer.{RunAnswer}
use Rattle.answers.specs.declared.steps.Step.{Step}
use Rattle.answers.specs.Answers.{shortage_of, counters_of, buffers_of, verdict_of, open_answer_of, opening_of, TurnIs, run_call_of, step_call_of, suggest_answer_of, sentence_call_of}
use Rattle.answers.proofs.Cases.{opening_verdict}
use Rattle.answers.specs.Answered.{VerdictAnswered, OpeningAnswered, TurnAnswered, TurnTold, counters_in, buffers_in, RunAnswered, RunTold, StepAnswered, StepTold, SuggestionAnswered, tells_short, reply_from, SentenceAnswered, SentenceTold}

-- a table, or a hall
pub verdict_told : (v : Verdict) (r p : ℕ) (a : Result ⊤ Refusal) → verdict_of a ≡ v → VerdictAnswered (verdict_of a) r p →
    VerdictAnswered v r p
verdict_told v r p a e t = rw (← e) t

pub opening_told : (o : Opening) (a : Result Counters Refusal) (hall' : List ℕ) → opening_of a hall' ≡ o → (r p : ℕ) →
    VerdictAnswered (verdict_of a) r p → OpeningAnswered o r p hall'
opening_told o a hall' e r p t = rw (← e) (record { verdict = rw (opening_verdict a) at t; bytes = refl })

pub turn_told : (v : TurnAnswer) (a : Result (Option Turn) Refusal) → TurnIs v a → (r p laid : ℕ) (station : List ℕ) (left : ℕ) →
    TurnTold a r p laid station left → TurnAnswered v r p laid station left
turn_told v a e r p laid station left t = t.told v e

-- the counters that are lent are those that the tally holds
module _ (table hall tally : List ℕ) (c : Counters) (l : counters_of c ≡ counters_in tally) (hall' : List ℕ) where
  pub run_told : (choices : List ℕ) (a : RunAnswer) → run_call_of a hall' ≡ run_call table (buffers_of hall c) choices →
      (r p d : ℕ) (w : List ℕ) → RunTold a r p d w → RunAnswered (run_call table (buffers_in hall tally) choices) r p d hall' w
  run_told choices a e r p d w t = rw (← l, ← e) (t.told hall')

  pub step_told : (kind position node : ℕ) (a : Result Step Refusal) →
      step_call_of a (buffers_of hall' c) ≡ step_call table (buffers_of hall c) kind position node →
      (r p rule : ℕ) (b w : List ℕ) → StepTold a c r p rule b w →
      StepAnswered (step_call table (buffers_in hall tally) kind position node) r p rule b hall' w
  step_told kind position node a e r p rule b w t = rw (← l, ← e) (t.told hall')

pub suggestion_told : (v : SuggestAnswer) (a : Result (Option Entry) Refusal) → suggest_answer_of a ≡ v → (r p : ℕ) (w : List ℕ) →
    SuggestionAnswered (suggest_answer_of a) r p w → SuggestionAnswered v r p w
suggestion_told v a e r p w t = rw (← e) t

pub sentence_told : (k p n : ℕ) (reply asked : Reply) → reply ≡ asked → (buffer buffer' : List ℕ) (a : Result ℕ Refusal) →
    sentence_call_of a buffer' ≡ sentence_call k p n reply buffer → (r before after : ℕ) → SentenceTold a r before after →
    SentenceAnswered (sentence_call k p n asked buffer) r before after buffer'
sentence_told k p n reply asked same buffer buffer' a e r before after t = rw (← same, ← e) (t.told buffer')

-- ---- the reply that C gives

module _ (moved number tray by : ℕ) where
  pub reply_refused : moved ≡ 0 → refused_by number ≡ reply_from moved number tray by
  reply_refused e = rw e refl

  module _ (some : moved ≡ 0 → ⊥) (b : Bool) (tells : b ≡ tells_short tray by) where
    pub reply_short : b ≡ true →
        moved_by number (shortage_of (Some (record { channel = tray; by = by }))) ≡ reply_from moved number tray by
    unfolding shortage_of
    reply_short e = rw (ne_eqb moved 0 some, ← tells, e) refl

    pub reply_enough : b ≡ false → moved_by number (shortage_of None) ≡ reply_from moved number tray by
    unfolding shortage_of
    reply_enough e = rw (ne_eqb moved 0 some, ← tells, e) refl
