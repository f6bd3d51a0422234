-- What a caller is told (document 01, "What the contracts settle"): each case of an answer with its number and values,
-- written out; and that a told number 0 says that nothing is refused.
-- Assumes nothing.
use Rattle.std.specs.Prelude.{ℕ, ◌≡◌, ◌↔◌, List, [], ◌∷◌}
use Rattle.calculus.specs.Reduction.{Rule}
use Rattle.semantics.specs.Definitions.Shortage.{Shortage}
use Rattle.semantics.specs.Definitions.Configuration.{Configuration}
use Rattle.semantics.specs.Definitions.Moves.{act, inside, does, refuses, rule_number, moved_by, refused_by, as_reply}
use Rattle.semantics.specs.Definitions.Run.{Counters, entry_bytes}
use Rattle.semantics.specs.Definitions.Calls.{ok, rejected, verdict_number, verdict_place, check_table, check_hall, opened, not_opened, open_hall, open_verdict}
use Rattle.semantics.specs.Definitions.Suggestion.{SuggestAnswer, suggested, still, not_suggested}

-- a check: number and place, both 0 where nothing is refused
unfoldable pub VerdictReported : Type 0
VerdictReported =
    (n p : ℕ) → (verdict_number ok ≡ 0) × (verdict_place ok ≡ 0) ×
    (verdict_number (rejected n p) ≡ n) × (verdict_place (rejected n p) ≡ p)

-- an opening is told as a check is
unfoldable pub OpeningReported : Type 0
unfolding open_verdict
OpeningReported = (c : Counters) (n p : ℕ) → (open_verdict (opened c) ≡ ok) × (open_verdict (not_opened n p) ≡ rejected n p)

-- what each case of a suggestion says: the bytes of a choice, nothing, or a number with its place
pub data SuggestValues : Type 0 where
  choice_value : (bytes : List ℕ) → SuggestValues
  still_value : SuggestValues
  refusal_value : (number place : ℕ) → SuggestValues

unfoldable pub suggest_values : SuggestAnswer → SuggestValues
unfolding entry_bytes
suggest_values (suggested e) = choice_value (entry_bytes e)
suggest_values still = still_value
suggest_values (not_suggested n p) = refusal_value n p

-- written out: the bytes of a choice are those of kind 1 or 2
unfoldable pub SuggestionReported : Type 0
unfolding suggest_values
SuggestionReported =
    (n p k : ℕ) → (suggest_values (suggested (act p)) ≡ choice_value (1 ∷ p ∷ [])) ×
    (suggest_values (suggested (inside p k)) ≡ choice_value (2 ∷ p ∷ k ∷ [])) ×
    (suggest_values still ≡ still_value) × (suggest_values (not_suggested n p) ≡ refusal_value n p)

-- different answers have different values
unfoldable pub AnswersDiffer : Type 0
unfolding suggest_values
AnswersDiffer = (a b : SuggestAnswer) → suggest_values a ≡ suggest_values b → a ≡ b

-- a choice: the number of the rule done and what was short, or the number of the refusal
unfoldable pub ChoiceReported : Type 0
unfolding as_reply rule_number
ChoiceReported =
    (r : Rule) (w : Shortage) (h : Configuration) (n : ℕ) →
    (as_reply (does r w h) ≡ moved_by (rule_number r) w) × (as_reply (refuses n) ≡ refused_by n)

unfoldable pub AnswersReported : Type 0
unfolding VerdictReported OpeningReported SuggestionReported ChoiceReported
AnswersReported = VerdictReported × OpeningReported × SuggestionReported × ChoiceReported

-- whatever is handed in, the number 0 is told exactly where the answer is no refusal
unfoldable pub ZeroIsAccepted : Type 0
ZeroIsAccepted =
    (table hall : List ℕ) →
    ((verdict_number (check_table table) ≡ 0) ↔ (check_table table ≡ ok)) ×
    ((verdict_number (check_hall table hall) ≡ 0) ↔ (check_hall table hall ≡ ok)) ×
    ((verdict_number (open_verdict (open_hall table hall).answer) ≡ 0) ↔
    ((open_hall table hall).answer ≡ opened (record { commits = 0; failed = 0; retries = 0 })))
