-- The cases of each answer, as the numbers that C is told.
-- Assumes nothing.
use Prim.Native.Nat.{ℕ}
use mathlib.Core.Path.{◌≡◌, refl}
use mathlib.Core.List.{List, [], ◌∷◌}
use Rattle.std.specs.Prelude.{Option, Some, None, Result, Ok, Err}
use Rattle.semantics.specs.Definitions.Calls.{open_verdict}
use Rattle.answers.specs.declared.choices.Entry.{Entry}
use Rattle.answers.specs.declared.choices.Entry.TheVariants as entry
use Rattle.answers.specs.declared.refusals.Refusal.{Refusal}
use Rattle.answers.specs.declared.replies.Short.{Short}
use Rattle.answers.specs.declared.tallies.Counters.{Counters}
use Rattle.answers.specs.declared.runs.RunAnswer.{RunAnswer}
use Rattle.answers.specs.declared.steps.Step.{Step}
use Rattle.answers.specs.Answers.{reason_number, number_of_rule, entry_of, shortage_of, counters_of, verdict_of, open_answer_of, outcome_number, suggest_answer_of}
use Rattle.answers.specs.Answered.{VerdictAnswered, tally_words, RunTold, shortage_words, StepTold, choice_words, SuggestionAnswered, SentenceTold}

-- ---- a choice

pub act_words : (e : Entry) (p : ℕ) → e ≡ entry.Act p → 1 ∷ p ∷ 0 ∷ [] ≡ choice_words (entry_of e)
act_words e p h = rw h refl

pub inside_words : (e : Entry) (p k : ℕ) → e ≡ entry.Inside p k → 2 ∷ p ∷ k ∷ [] ≡ choice_words (entry_of e)
inside_words e p k h = rw h refl

-- ---- a shortage

pub enough_words : (s : Option Short) → s ≡ None → 0 ∷ 0 ∷ [] ≡ shortage_words (shortage_of s)
unfolding shortage_of
enough_words s h = rw h refl

pub short_words : (s : Option Short) (t : Short) → s ≡ Some t → t.channel ∷ t.by ∷ [] ≡ shortage_words (shortage_of s)
unfolding shortage_of
short_words s t h = rw h refl

-- ---- a verdict

module _ {T : Type 0} (a : Result T Refusal) where
  pub accepted_answered : (x : T) → a ≡ Ok x → VerdictAnswered (verdict_of a) 0 0
  unfolding verdict_of
  accepted_answered x h = rw h (record { number = refl; place = refl })

  pub refused_answered : (e : Refusal) → a ≡ Err e → (n : ℕ) → n ≡ reason_number e.reason →
      VerdictAnswered (verdict_of a) n e.place
  unfolding verdict_of
  refused_answered e h n q = rw h (record { number = q; place = refl })

-- what an opening is told, as its verdict
pub opening_verdict : (a : Result Counters Refusal) → verdict_of a ≡ open_verdict (open_answer_of a)
unfolding verdict_of open_answer_of open_verdict
opening_verdict (Ok c) = refl
opening_verdict (Err e) = refl

-- ---- a run

pub run_told : (a : RunAnswer) (w : List ℕ) → w ≡ tally_words (counters_of a.counters) →
    (n : ℕ) → n ≡ outcome_number a.outcome → RunTold a n a.place a.done w
run_told a w q n by = record {
  told = λ hall.
      record { numbers = record { number = by; place = refl; done = refl; tally = q }; bytes = refl };
}

-- ---- a step

module _ (a : Result Step Refusal) (lent : Counters) (w : List ℕ) where
  pub step_moved : (s : Step) → a ≡ Ok s → (r : ℕ) → r ≡ number_of_rule s.made.rule → (b : List ℕ) →
      b ≡ shortage_words (shortage_of s.made.short) → w ≡ tally_words (counters_of s.counters) →
      StepTold a lent 0 s.place r b w
  step_moved s h r by b lacks q = record {
    told = λ hall.
        rw h
        (record { numbers = record { number = refl; place = refl; rule = by; shortage = lacks; tally = q }; bytes = refl });
  }

  pub step_refused_holds : (e : Refusal) → a ≡ Err e → (n : ℕ) → n ≡ reason_number e.reason →
      w ≡ tally_words (counters_of lent) → StepTold a lent n e.place 0 (0 ∷ 0 ∷ []) w
  step_refused_holds e h n by q = record {
    told = λ hall.
        rw h
        (record { numbers = record { number = by; place = refl; rule = refl; shortage = refl; tally = q }; bytes = refl });
  }

-- ---- a suggestion

module _ (a : Result (Option Entry) Refusal) where
  pub suggestion_made : (o : Option Entry) → a ≡ Ok o → (x : Entry) → o ≡ Some x → (w : List ℕ) →
      w ≡ choice_words (entry_of x) → SuggestionAnswered (suggest_answer_of a) 0 0 w
  unfolding suggest_answer_of
  suggestion_made o h x e w q = rw (h, e) (record { number = refl; place = refl; choice = q })

  pub suggestion_still : (o : Option Entry) → a ≡ Ok o → o ≡ None → SuggestionAnswered (suggest_answer_of a) 0 0 (0 ∷ 0 ∷ 0 ∷ [])
  unfolding suggest_answer_of
  suggestion_still o h e = rw (h, e) (record { number = refl; place = refl; choice = refl })

  pub suggestion_refused : (e : Refusal) → a ≡ Err e → (n : ℕ) → n ≡ reason_number e.reason →
      SuggestionAnswered (suggest_answer_of a) n e.place (0 ∷ 0 ∷ 0 ∷ [])
  unfolding suggest_answer_of
  suggestion_refused e h n q = rw h (record { number = q; place = refl; choice = refl })

-- ---- a sentence

module _ (a : Result ℕ Refusal) (before : ℕ) where
  pub sentence_told : (l : ℕ) → a ≡ Ok l → SentenceTold a 0 before l
  sentence_told l h = record { told = λ buffer. rw h (record { number = refl; length = refl; bytes = refl }) }

  pub sentence_refused : (e : Refusal) → a ≡ Err e → (n : ℕ) → n ≡ reason_number e.reason → SentenceTold a n before before
  sentence_refused e h n q = record { told = λ buffer. rw h (record { number = q; length = refl; bytes = refl }) }
