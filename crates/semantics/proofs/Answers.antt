-- What a caller is told, case by case, by computation; and that different suggestions are told by different values.
-- Assumes nothing.
use mathlib.Core.Path.{◌≡◌, refl, sym, ap, ◌∙◌}
use mathlib.Core.List.{List, [], ◌∷◌}
use Rattle.semantics.specs.Definitions.Moves.{Entry, act, inside}
use Rattle.semantics.specs.Definitions.Run.{schedule, entries, entry_bytes}
use Rattle.semantics.specs.Definitions.Suggestion.{SuggestAnswer, suggested, still, not_suggested}
use Rattle.semantics.specs.Checks.Answers.{VerdictReported, OpeningReported, SuggestionReported, ChoiceReported, AnswersReported, SuggestValues, choice_value, still_value, refusal_value, suggest_values, AnswersDiffer}

verdict_reported : VerdictReported
unfolding VerdictReported
verdict_reported n p = (refl, refl, refl, refl)

opening_reported : OpeningReported
unfolding OpeningReported
opening_reported c n p = (refl, refl)

suggestion_reported : SuggestionReported
unfolding SuggestionReported
suggestion_reported n p k = (refl, refl, refl, refl)

choice_reported : ChoiceReported
unfolding ChoiceReported
choice_reported r w h n = (refl, refl)

pub answers_reported : AnswersReported
unfolding AnswersReported
answers_reported = (verdict_reported, opening_reported, suggestion_reported, choice_reported)

-- ---- the values of an answer

-- the answer is read back from its values: a choice is the one that its bytes make as a schedule
first_of_all : List Entry → SuggestAnswer
first_of_all [] = still
first_of_all (e ∷ es) = suggested e

answer_with : SuggestValues → SuggestAnswer
unfolding first_of_all entries schedule
answer_with (choice_value bs) = first_of_all (entries (schedule bs))
answer_with still_value = still
answer_with (refusal_value n p) = not_suggested n p

answer_back : (a : SuggestAnswer) → answer_with (suggest_values a) ≡ a
unfolding answer_with suggest_values first_of_all entries schedule entry_bytes
answer_back (suggested (act p)) = refl
answer_back (suggested (inside p k)) = refl
answer_back still = refl
answer_back (not_suggested n p) = refl

-- so different answers have different values
pub answers_differ : AnswersDiffer
unfolding AnswersDiffer
answers_differ a b e = sym (answer_back a) ∙ ap answer_with e ∙ answer_back b
