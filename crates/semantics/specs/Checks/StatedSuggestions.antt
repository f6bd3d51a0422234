-- How a request for a suggestion is answered, said apart from the definition, over `admission` and `transition` (document 02,
-- Q-2, and demand 2, its last sentence). At one position nothing is said of the order of the kinds; that both sides agree
-- shows that there is nothing to say.
-- Assumes nothing.
use Rattle.std.specs.Prelude.{ℕ, ◌≤◌, ◌<◌, ◌≡◌, ◌↔◌, List}
use Rattle.calculus.specs.Reduction.{Rule}
use Rattle.semantics.specs.Definitions.Table.{Table}
use Rattle.semantics.specs.Definitions.Configuration.{Configuration}
use Rattle.semantics.specs.Definitions.Moves.{Entry, act, inside, moved, transition}
use Rattle.semantics.specs.Definitions.Calls.{admitted, not_admitted, admission}
use Rattle.semantics.specs.Definitions.Suggestion.{SuggestAnswer, suggested, still, not_suggested, suggest_call}

-- this choice is not accepted
abbrev pub NotAccepted : Configuration → Entry → Type 0
NotAccepted h e = (r : Rule) (g : Configuration) → transition h e ≡ moved r g → ⊥

-- at a position, none of kind 1 is accepted and none of kind 2
pub record NoneAt (h : Configuration) (p : ℕ) : Type 0 where
  pub no_act : NotAccepted h (act p)
  pub no_inside : (k : ℕ) → k ≤ 255 → NotAccepted h (inside p k)

-- the answer to a table and a hall
pub data AnswerAsStated (table hall : List ℕ) : SuggestAnswer → Type 0 where
  -- a choice of kind 1, in bytes, that is accepted; none is at a lower position
  act_first : {t : Table} {h g : Configuration} {p : ℕ} {r : Rule} → admission table hall ≡ admitted t h →
      p ≤ 255 → transition h (act p) ≡ moved r g → ((q : ℕ) → q < p → NoneAt h q) →
      AnswerAsStated table hall (suggested (act p))
  -- one of kind 2; none is at a lower position, nor at a lower node there
  inside_first : {t : Table} {h g : Configuration} {p k : ℕ} {r : Rule} → admission table hall ≡ admitted t h →
      p ≤ 255 → k ≤ 255 → transition h (inside p k) ≡ moved r g → ((q : ℕ) → q < p → NoneAt h q) →
      ((j : ℕ) → j < k → NotAccepted h (inside p j)) → AnswerAsStated table hall (suggested (inside p k))
  -- none is accepted at any position
  none_accepted : {t : Table} {h : Configuration} → admission table hall ≡ admitted t h →
      ((p : ℕ) → p ≤ 255 → NoneAt h p) → AnswerAsStated table hall still
  -- the table or the hall is turned down, with this number and place
  not_admitted_holds : {n p : ℕ} → admission table hall ≡ not_admitted n p → AnswerAsStated table hall (not_suggested n p)

-- the definition gives exactly this
unfoldable pub SuggestionAsStated : Type 0
unfolding suggest_call
SuggestionAsStated =
    (table hall : List ℕ) (a : SuggestAnswer) → (suggest_call table hall ≡ a) ↔ AnswerAsStated table hall a
