-- How a call answers C: the returned number, and all else that was set. A tally is three numbers, a suggestion three
-- bytes, a shortage and a station just laid down two.
-- Assumes nothing.
use Rattle.std.specs.Prelude.{ℕ, ◌≡◌, Bool, cond, not, ◌&&◌, List, [], ◌∷◌, get_or, eqb, Option, Result}
use Rattle.std.proofs.Math.Option.{none, some}
use Rattle.semantics.specs.Definitions.Shortage.{Shortage, enough, short}
use Rattle.semantics.specs.Definitions.Moves.{Entry, act, inside, Reply, moved_by, refused_by}
use Rattle.semantics.specs.Definitions.Run.{Counters}
use Rattle.semantics.specs.Definitions.Calls.{Verdict, verdict_number, verdict_place, Opening, open_verdict, Buffers, RunCall, StepCall}
use Rattle.semantics.specs.Definitions.Configuration.{idle}
use Rattle.semantics.specs.Definitions.Stored.{component_bytes}
use Rattle.semantics.specs.Definitions.Turns.{TurnAnswer, lays, past_end, not_turned}
use Rattle.semantics.specs.Claims.Turns.{left_by}
use Rattle.semantics.specs.Definitions.Suggestion.{SuggestAnswer, suggested, still, not_suggested}
use Rattle.semantics.specs.Definitions.Sentence.{SentenceAnswer, told, not_told, SentenceCall}
use Rattle.answers.specs.declared.refusals.Refusal.{Refusal}
use Rattle.answers.specs.declared.tallies.Counters as tallies
use Rattle.answers.specs.declared.turns.Turn.{Turn}
use Rattle.answers.specs.declared.runs.RunAnswer.{RunAnswer}
use Rattle.answers.specs.declared.steps.Step.{Step}
use Rattle.answers.specs.Answers.{buffers_of, TurnIs, run_call_of, step_call_of, sentence_call_of}

-- these two numbers as they are
pub record VerdictSet (n at : ℕ) (returned p : ℕ) : Type 0 where
  pub number : returned ≡ n
  pub place : p ≡ at

abbrev pub VerdictAnswered : Verdict → (returned p : ℕ) → Type 0
VerdictAnswered v returned p = VerdictSet (verdict_number v) (verdict_place v) returned p

-- an opening: its verdict, and every byte of the lent hall afterwards
pub record OpeningAnswered (o : Opening) (returned set : ℕ) (hall : List ℕ) : Type 0 where
  pub verdict : VerdictAnswered (open_verdict o.answer) returned set
  pub bytes : hall ≡ o.hall

-- ---- a turn of an opening

-- whether it lays down nothing, a station, or is past the end
abbrev pub turn_laid : TurnAnswer → ℕ
turn_laid (lays none n) = 0
turn_laid (lays (some c) n) = 1
turn_laid past_end = 2
turn_laid (not_turned n p) = 0

-- the station's bytes in a hall, kind and body; 0 0 where there is none
abbrev pub turn_station : TurnAnswer → List ℕ
turn_station (lays none n) = 0 ∷ 0 ∷ []
turn_station (lays (some c) n) = component_bytes (idle c)
turn_station past_end = 0 ∷ 0 ∷ []
turn_station (not_turned n p) = 0 ∷ 0 ∷ []

-- no number and no place but those of a refusal
abbrev pub turn_number : TurnAnswer → ℕ
turn_number (lays c n) = 0
turn_number past_end = 0
turn_number (not_turned n p) = n

abbrev pub turn_place : TurnAnswer → ℕ
turn_place (lays c n) = 0
turn_place past_end = 0
turn_place (not_turned n p) = p

pub record TurnAnswered (a : TurnAnswer) (returned p laid : ℕ) (station : List ℕ) (left : ℕ) : Type 0 where
  pub number : returned ≡ turn_number a
  pub place : p ≡ turn_place a
  pub laid_down_holds : laid ≡ turn_laid a
  pub bytes : station ≡ turn_station a
  pub left_open : left ≡ left_by a

-- of an answer of the code: what is told of the answer that it stands for
pub record TurnTold (a : Result (Option Turn) Refusal) (n p laid : ℕ) (station : List ℕ) (left : ℕ) : Type 0 where
  pub told : (v : TurnAnswer) → TurnIs v a → TurnAnswered v n p laid station left

-- ---- a tally

-- commits, failed, retries, in this order
abbrev pub tally_words : Counters → List ℕ
tally_words t = t.commits ∷ t.failed ∷ t.retries ∷ []

-- the counters that such a tally holds
abbrev pub counters_in : List ℕ → Counters
counters_in w = record { commits = get_or w 0 0; failed = get_or w 1 0; retries = get_or w 2 0 }

-- a hall and a tally, lent
abbrev pub buffers_in : (hall tally : List ℕ) → Buffers
buffers_in hall tally = record { hall = hall; counters = counters_in tally }

-- ---- a run

-- these numbers and counters as they are
pub record RunSet (n at count : ℕ) (t : Counters) (returned p d : ℕ) (w : List ℕ) : Type 0 where
  pub number : returned ≡ n
  pub place : p ≡ at
  pub done : d ≡ count
  pub tally : w ≡ tally_words t

-- a run's call: its numbers, and every byte of the lent hall and every counter of the lent tally afterwards
pub record RunAnswered (c : RunCall) (returned p d : ℕ) (hall w : List ℕ) : Type 0 where
  pub numbers : RunSet c.number c.place c.done c.buffers.counters returned p d w
  pub bytes : hall ≡ c.buffers.hall

-- of an answer of the code, whatever the hall holds afterwards
pub record RunTold (a : RunAnswer) (returned p d : ℕ) (w : List ℕ) : Type 0 where
  pub told : (hall : List ℕ) → RunAnswered (run_call_of a hall) returned p d hall w

-- ---- a step

-- what was short as two bytes, a tray and by how many; 0 0 where nothing was
abbrev pub shortage_words : Shortage → List ℕ
shortage_words enough = 0 ∷ 0 ∷ []
shortage_words (short a k) = a ∷ k ∷ []

pub record StepSet (n at moved_by : ℕ) (lacks : Shortage) (t : Counters) (returned p r : ℕ) (b w : List ℕ) :
    Type 0 where
  pub number : returned ≡ n
  pub place : p ≡ at
  pub rule : r ≡ moved_by
  pub shortage : b ≡ shortage_words lacks
  pub tally : w ≡ tally_words t

pub record StepAnswered (c : StepCall) (returned p r : ℕ) (b hall w : List ℕ) : Type 0 where
  pub numbers : StepSet c.number c.place c.rule c.shortage c.buffers.counters returned p r b w
  pub bytes : hall ≡ c.buffers.hall

-- of an answer of the code to the counters that were lent, whatever the hall holds afterwards
pub record StepTold (a : Result Step Refusal) (lent : tallies.Counters) (returned p r : ℕ) (b w : List ℕ) : Type 0 where
  pub told : (hall : List ℕ) → StepAnswered (step_call_of a (buffers_of hall lent)) returned p r b hall w

-- ---- a suggestion

-- a choice as kind, position and node
abbrev pub choice_words : Entry → List ℕ
choice_words (act p) = 1 ∷ p ∷ 0 ∷ []
choice_words (inside p k) = 2 ∷ p ∷ k ∷ []

-- what each answer says: the choice, or kind 0; no number and no place but those of a refusal
abbrev pub suggestion_words : SuggestAnswer → List ℕ
suggestion_words (suggested e) = choice_words e
suggestion_words still = 0 ∷ 0 ∷ 0 ∷ []
suggestion_words (not_suggested n p) = 0 ∷ 0 ∷ 0 ∷ []

abbrev pub suggestion_number : SuggestAnswer → ℕ
suggestion_number (suggested e) = 0
suggestion_number still = 0
suggestion_number (not_suggested n p) = n

abbrev pub suggestion_place : SuggestAnswer → ℕ
suggestion_place (suggested e) = 0
suggestion_place still = 0
suggestion_place (not_suggested n p) = p

pub record SuggestionAnswered (a : SuggestAnswer) (returned p : ℕ) (w : List ℕ) : Type 0 where
  pub number : returned ≡ suggestion_number a
  pub place : p ≡ suggestion_place a
  pub choice : w ≡ suggestion_words a

-- ---- a sentence

-- whether the two bytes of a shortage tell one: 0 0 tell none, and all others are taken as they are
abbrev pub tells_short : (tray by : ℕ) → Bool
tells_short a k = not (eqb a 0 && eqb k 0)

-- a byte that tells whether the choice moved, 0 that it did not, the number of the rule or of the refusal, and the two
-- bytes of a shortage
abbrev pub reply_from : (moved number tray by : ℕ) → Reply
reply_from m n a k = cond (eqb m 0) (refused_by n) (moved_by n (cond (tells_short a k) (short a k) enough))

-- what is returned, and the lent length afterwards: as it was where nothing is told
abbrev pub sentence_number : SentenceAnswer → ℕ
sentence_number (told l) = 0
sentence_number (not_told n p) = n

abbrev pub length_after : (before : ℕ) → SentenceAnswer → ℕ
length_after before (told l) = l
length_after before (not_told n p) = before

pub record SentenceAnswered (c : SentenceCall) (returned before after : ℕ) (buffer : List ℕ) : Type 0 where
  pub number : returned ≡ sentence_number c.answer
  pub length : after ≡ length_after before c.answer
  pub bytes : buffer ≡ c.buffer

-- of an answer of the code, whatever the buffer holds afterwards
pub record SentenceTold (a : Result ℕ Refusal) (returned before after : ℕ) : Type 0 where
  pub told : (buffer : List ℕ) → SentenceAnswered (sentence_call_of a buffer) returned before after buffer
