-- What is claimed of the answers. No two of the code say the same; 0 is told of nothing that is refused; what C is told of a
-- turn, case by case; and that what a step tells may be handed on for a sentence.
-- Assumes nothing.
use Rattle.std.specs.Prelude.{ℕ, ◌+◌, ◌≤◌, ◌<◌, ◌≡◌, cond, ◌⊎◌, List, [], ◌∷◌, length, get_or, eqb, Option, Result, ⊤}
use Rattle.std.proofs.Math.Option.{none, some}
use Rattle.semantics.specs.Definitions.Basics.{Bytes}
use Rattle.semantics.specs.Definitions.Shortage.{enough, short}
use Rattle.semantics.specs.Definitions.Configuration.{Idle, output, idle}
use Rattle.semantics.specs.Definitions.Stored.{component_bytes}
use Rattle.semantics.specs.Definitions.Moves as moves
use Rattle.semantics.specs.Definitions.Moves.{moved_by, refused_by}
use Rattle.semantics.specs.Definitions.Calls.{ok, check_table, check_hall, open_hall, open_verdict, Buffers, step_call}
use Rattle.semantics.specs.Definitions.Turns.{lays, past_end, not_turned, turn_call}
use Rattle.semantics.specs.Definitions.Suggestion.{suggested, still, suggest_call}
use Rattle.semantics.specs.Definitions.Sentence.{sentence, sentence_call}
use Rattle.semantics.specs.Claims.Sentences.{AllBytes}
use Rattle.semantics.specs.Checks.Steps.{step_reply}
use Rattle.answers.specs.declared.choices.Entry.{Entry}
use Rattle.answers.specs.declared.refusals.Reason.{Reason}
use Rattle.answers.specs.declared.refusals.Refusal.{Refusal}
use Rattle.answers.specs.declared.replies.Short.{Short}
use Rattle.answers.specs.declared.replies.Move.{Move}
use Rattle.answers.specs.declared.tallies.Counters.{Counters}
use Rattle.answers.specs.declared.runs.RunAnswer.{RunAnswer}
use Rattle.answers.specs.declared.steps.Step.{Step}
use Rattle.answers.specs.Answers.{shortage_of, reply_of, buffers_of, verdict_of, opening_of, run_call_of, RunCaseDecided, step_call_of, StepCaseDecided, suggest_answer_of, sentence_call_of}
use Rattle.answers.specs.Answered.{VerdictAnswered, OpeningAnswered, TurnAnswered, shortage_words, choice_words, SuggestionAnswered, reply_from, SentenceAnswered}

-- ---- no two answers of the code say the same

abbrev pub ShortagesDiffer : Type 0
ShortagesDiffer = (v w : Option Short) → shortage_of v ≡ shortage_of w → v ≡ w

abbrev pub RepliesDiffer : Type 0
RepliesDiffer = (a b : Result Move Reason) → reply_of a ≡ reply_of b → a ≡ b

abbrev pub VerdictInjective : Type 0
VerdictInjective = (a b : Result ⊤ Refusal) → verdict_of a ≡ verdict_of b → a ≡ b

abbrev pub HallVerdictInjective : Type 0
HallVerdictInjective = VerdictInjective

-- and the halls, and the buffers, that they leave are the same
abbrev pub OpeningInjective : Type 0
OpeningInjective = (a b : Result Counters Refusal) (x y : List ℕ) → opening_of a x ≡ opening_of b y → (a ≡ b) × (x ≡ y)

abbrev pub RunAnswerInjective : Type 0
RunAnswerInjective = (a b : RunAnswer) (x y : List ℕ) → RunCaseDecided a → RunCaseDecided b →
    run_call_of a x ≡ run_call_of b y → (a ≡ b) × (x ≡ y)

abbrev pub StepInjective : Type 0
StepInjective = (t : Counters) (x y : List ℕ) (a b : Result Step Refusal) → StepCaseDecided a → StepCaseDecided b →
    step_call_of a (buffers_of x t) ≡ step_call_of b (buffers_of y t) → (a ≡ b) × (x ≡ y)

abbrev pub SuggestionInjective : Type 0
SuggestionInjective = (a b : Result (Option Entry) Refusal) → suggest_answer_of a ≡ suggest_answer_of b → a ≡ b

abbrev pub SentenceCallInjective : Type 0
SentenceCallInjective = (a b : Result ℕ Refusal) (x y : List ℕ) → sentence_call_of a x ≡ sentence_call_of b y →
    (a ≡ b) × (x ≡ y)

-- ---- a returned 0 means that nothing is refused

abbrev pub ZeroTable : Type 0
ZeroTable = (table : List ℕ) (set : ℕ) → VerdictAnswered (check_table table) 0 set → check_table table ≡ ok

abbrev pub ZeroHall : Type 0
ZeroHall = (table hall : List ℕ) (set : ℕ) → VerdictAnswered (check_hall table hall) 0 set → check_hall table hall ≡ ok

abbrev pub ZeroOpened : Type 0
ZeroOpened = (table hall : List ℕ) (set : ℕ) (bytes : List ℕ) → OpeningAnswered (open_hall table hall) 0 set bytes →
    open_verdict (open_hall table hall).answer ≡ ok

-- a turn is shown, and the byte tells which case it is
abbrev pub ZeroTurn : Type 0
ZeroTurn = (table : List ℕ) (n place laid : ℕ) (station : List ℕ) (left : ℕ) →
    TurnAnswered (turn_call table n) 0 place laid station left →
    ((laid ≡ 0) × (turn_call table n ≡ lays none left)) ⊎
    (((c : Idle) × (laid ≡ 1) × (station ≡ component_bytes (idle c)) × (turn_call table n ≡ lays (some c) left)) ⊎
    ((laid ≡ 2) × (turn_call table n ≡ past_end)))

-- a choice is suggested, or the hall is still: its three bytes tell which
abbrev pub ZeroSuggested : Type 0
ZeroSuggested = (table hall : List ℕ) (p : ℕ) (w : List ℕ) → SuggestionAnswered (suggest_call table hall) 0 p w →
    ((e : moves.Entry) × (w ≡ choice_words e) × (suggest_call table hall ≡ suggested e)) ⊎
    ((w ≡ 0 ∷ 0 ∷ 0 ∷ []) × (suggest_call table hall ≡ still))

-- a sentence had room
abbrev pub ZeroSentence : Type 0
ZeroSentence = (k p n : ℕ) (a : moves.Reply) (buffer : List ℕ) (before after : ℕ) (buffer' : List ℕ) →
    SentenceAnswered (sentence_call k p n a buffer) 0 before after buffer' → 96 ≤ length buffer

-- ---- what C is told of a turn, case by case

abbrev pub RefusedTold : Type 0
RefusedTold = (returned place laid : ℕ) (station : List ℕ) (left n p : ℕ) →
    TurnAnswered (not_turned n p) returned place laid station left →
    (returned ≡ n) × (place ≡ p) × (laid ≡ 0) × (station ≡ 0 ∷ 0 ∷ []) × (left ≡ 0)

abbrev pub PastTold : Type 0
PastTold = (returned place laid : ℕ) (station : List ℕ) (left : ℕ) →
    TurnAnswered past_end returned place laid station left →
    (returned ≡ 0) × (place ≡ 0) × (laid ≡ 2) × (station ≡ 0 ∷ 0 ∷ []) × (left ≡ 0)

abbrev pub NothingTold : Type 0
NothingTold = (returned place laid : ℕ) (station : List ℕ) (left n : ℕ) →
    TurnAnswered (lays none n) returned place laid station left →
    (returned ≡ 0) × (place ≡ 0) × (laid ≡ 0) × (station ≡ 0 ∷ 0 ∷ []) × (left ≡ n)

-- a putting station, as an example of one
abbrev pub PutTold : Type 0
PutTold = (returned place laid : ℕ) (station : List ℕ) (left a n : ℕ) →
    TurnAnswered (lays (some (output a)) n) returned place laid station left →
    (returned ≡ 0) × (place ≡ 0) × (laid ≡ 1) × (station ≡ 24 ∷ a ∷ []) × (left ≡ n)

-- ---- what a sentence is asked for by

-- byte 0: the choice was refused
abbrev pub Byte0Refused : Type 0
Byte0Refused = (number tray by : ℕ) → reply_from 0 number tray by ≡ refused_by number

-- any other byte: it moved; by 0 0 no tray was short, by any other two bytes this one
abbrev pub OtherByteMoved : Type 0
OtherByteMoved = (m number tray by : ℕ) → ¬ (m ≡ 0) →
    (reply_from m number 0 0 ≡ moved_by number enough) ×
    (¬ (tray + by ≡ 0) → reply_from m number tray by ≡ moved_by number (short tray by))

-- the two bytes that a step set may be handed on as they are: with its rule, or with its refusal, they make the reply that
-- it told
abbrev pub HandedOn : Type 0
HandedOn = (table : List ℕ) (l : Buffers) → Bytes table → Bytes l.hall → (kind position node : ℕ) →
    let a = step_call table l kind position node in
    let b = shortage_words a.shortage in
    reply_from (cond (eqb a.number 0) 1 0) (cond (eqb a.number 0) a.rule a.number) (get_or b 0 0) (get_or b 1 0)
    ≡ step_reply a

-- under 21 nothing that was lent is written
abbrev pub ShortWritesNothing : Type 0
ShortWritesNothing = (k p n : ℕ) (r : moves.Reply) (buffer : List ℕ) (returned before after : ℕ) (buffer' : List ℕ) →
    SentenceAnswered (sentence_call k p n r buffer) returned before after buffer' → length buffer < 96 →
    (returned ≡ 21) × (after ≡ before) × (buffer' ≡ buffer)

abbrev pub LongTellsLength : Type 0
LongTellsLength = (k p n : ℕ) (r : moves.Reply) (buffer : List ℕ) (returned before after : ℕ) (buffer' : List ℕ) →
    SentenceAnswered (sentence_call k p n r buffer) returned before after buffer' → AllBytes k p n r →
    96 ≤ length buffer →
    (returned ≡ 0) × (after ≡ length (sentence k p n r))
