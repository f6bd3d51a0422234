-- What each answer of the code says, in the terms of the definitions.
-- Assumes nothing.
use Rattle.std.specs.Prelude.{ℕ, ◌+◌, ◌<◌, ◌≡◌, List, get_or, Option, Some, None, Result, Ok, Err, IfErr, ⊤}
use Rattle.std.proofs.Math.Option.{none, some}
use Rattle.semantics.specs.Definitions.Shortage as test
use Rattle.semantics.specs.Definitions.Configuration.{Idle, idle}
use Rattle.semantics.specs.Definitions.Stored.{component_bytes}
use Rattle.semantics.specs.Definitions.Moves as moves
use Rattle.semantics.specs.Definitions.Run.{counted_at}
use Rattle.semantics.specs.Definitions.Run as tally
use Rattle.semantics.specs.Definitions.Calls.{Verdict, ok, rejected, Opening, opened, not_opened, Buffers, RunCall, StepCall}
use Rattle.semantics.specs.Definitions.Calls as calls
use Rattle.semantics.specs.Definitions.Turns.{lays, past_end, not_turned}
use Rattle.semantics.specs.Definitions.Turns as opening
use Rattle.semantics.specs.Definitions.Suggestion.{suggested, still, not_suggested}
use Rattle.semantics.specs.Definitions.Suggestion as suggestion
use Rattle.semantics.specs.Definitions.Sentence.{told, not_told, SentenceCall}
use Rattle.semantics.specs.Definitions.Sentence as words
use denote.Enum.Declared.{tag_of}
use Rattle.answers.specs.contracts.refusals.Reason as refusals
use Rattle.answers.specs.contracts.rules.Rule as rules
use Rattle.answers.specs.declared.choices.Entry.{Entry}
use Rattle.answers.specs.declared.choices.Entry.TheVariants.{Act, Inside}
use Rattle.answers.specs.declared.refusals.Reason.{Reason}
use Rattle.answers.specs.declared.refusals.Refusal.{Refusal}
use Rattle.answers.specs.declared.rules.Rule.{Rule}
use Rattle.answers.specs.declared.replies.Short.{Short}
use Rattle.answers.specs.declared.replies.Move.{Move}
use Rattle.answers.specs.declared.replies.Moved.{Moved}
use Rattle.answers.specs.declared.tallies.Counters.{Counters}
use Rattle.answers.specs.declared.turns.Turn.{Turn}
use Rattle.answers.specs.declared.runs.RunAnswer.{RunAnswer}
use Rattle.answers.specs.declared.steps.Step.{Step}

-- ---- the numbers of document 01: the cases stand in its order, from 1 on, and src/ has the number at each

unfoldable pub reason_number : Reason → ℕ
reason_number r = tag_of refusals.the_type r + 1

unfoldable pub number_of_rule : Rule → ℕ
number_of_rule r = tag_of rules.the_type r + 1

-- ---- a choice, and the reply to it

abbrev pub entry_of : Entry → moves.Entry
entry_of (Act p) = moves.act p
entry_of (Inside p k) = moves.inside p k

-- each case with its numbers
unfoldable pub shortage_of : Option Short → test.Shortage
shortage_of None = test.enough
shortage_of (Some s) = test.short s.channel s.by

unfoldable pub reply_of : Result Move Reason → moves.Reply
unfolding shortage_of
reply_of (Ok m) = moves.moved_by (number_of_rule m.rule) (shortage_of m.short)
reply_of (Err e) = moves.refused_by (reason_number e)

-- the reply that a sentence is told; its number is any byte
abbrev pub reply_told : Result Moved ℕ → moves.Reply
reply_told (Ok m) = moves.moved_by m.rule (shortage_of m.short)
reply_told (Err n) = moves.refused_by n

-- ---- a tally

abbrev pub counters_of : Counters → tally.Counters
counters_of t = record { commits = t.commits; failed = t.failed; retries = t.retries }

-- the tally after a move by the rule of this number
unfoldable pub counted_by : Counters → (rule : ℕ) → Counters
unfolding counted_at
counted_by t rule = record {
  commits = counted_at 7 rule t.commits;
  failed = counted_at 6 rule t.failed;
  retries = counted_at 5 rule t.retries;
}

-- what is lent to a run or a step
abbrev pub buffers_of : List ℕ → Counters → Buffers
buffers_of hall c = record { hall = hall; counters = counters_of c }

-- ---- what is accepted or refused: a table, a hall, an opening

-- whatever is accepted; a refusal's number and place
unfoldable pub verdict_of : {T : Type 0} → Result T Refusal → Verdict
verdict_of (Ok x) = ok
verdict_of (Err e) = rejected (reason_number e.reason) e.place

-- an opened hall's counters; a refusal's number and place
unfoldable pub open_answer_of : Result Counters Refusal → calls.OpenAnswer
open_answer_of (Ok c) = opened (counters_of c)
open_answer_of (Err e) = not_opened (reason_number e.reason) e.place

-- the answer, and the lent bytes afterwards
abbrev pub opening_of : Result Counters Refusal → List ℕ → Opening
opening_of a hall = record { answer = open_answer_of a; hall = hall }

-- ---- a turn of an opening

-- the two bytes of a component
unfoldable pub kind_in : Idle → ℕ
kind_in c = get_or (component_bytes (idle c)) 0 0

unfoldable pub body_in : Idle → ℕ
body_in c = get_or (component_bytes (idle c)) 1 0

-- what the code answers for each answer of the definitions, a component in its two bytes
abbrev pub TurnIs : opening.TurnAnswer → Result (Option Turn) Refusal → Type 0
TurnIs (lays (some c) n) a =
    a ≡ Ok (Some (record { laid = Some (record { kind = kind_in c; body = body_in c }); left = n }))
TurnIs (lays none n) a = a ≡ Ok (Some (record { laid = None; left = n }))
TurnIs past_end a = a ≡ Ok None
TurnIs (not_turned n p) a = (e : Refusal) × (a ≡ Err e) × (reason_number e.reason ≡ n) × (e.place ≡ p)

-- ---- a run

-- 0 for a run that was completed
unfoldable pub outcome_number : Result ⊤ Reason → ℕ
outcome_number (Ok x) = 0
outcome_number (Err e) = reason_number e

-- the answer as the call of the definitions, with the lent bytes afterwards
abbrev pub run_call_of : RunAnswer → (hall : List ℕ) → RunCall
run_call_of a hall =
    record { number = outcome_number a.outcome; place = a.place; done = a.done; buffers = buffers_of hall a.counters }

-- no refusal has number 0, so that the number tells the case
abbrev pub RunCaseDecided : RunAnswer → Type 0
RunCaseDecided a = IfErr a.outcome (λ e. 0 < reason_number e)

-- ---- a step

-- each case as the call of the definitions, with what was lent and the hall's bytes afterwards: number 0 where the
-- choice moved; rule 0, nothing short and the counters that were lent where it is refused
abbrev pub step_call_of : Result Step Refusal → Buffers → StepCall
step_call_of (Ok s) l =
    let r = number_of_rule s.made.rule in let w = shortage_of s.made.short in
    record { number = 0; place = s.place; rule = r; shortage = w; buffers = buffers_of l.hall s.counters }
step_call_of (Err e) l =
    record { number = reason_number e.reason; place = e.place; rule = 0; shortage = test.enough; buffers = l }

-- no refusal has number 0, so that the number tells the case
abbrev pub StepCaseDecided : Result Step Refusal → Type 0
StepCaseDecided a = IfErr a (λ e. 0 < reason_number e.reason)

-- ---- a suggestion

unfoldable pub suggest_answer_of : Result (Option Entry) Refusal → suggestion.SuggestAnswer
suggest_answer_of (Ok (Some e)) = suggested (entry_of e)
suggest_answer_of (Ok None) = still
suggest_answer_of (Err e) = not_suggested (reason_number e.reason) e.place

-- ---- a sentence

abbrev pub sentence_answer_of : Result ℕ Refusal → words.SentenceAnswer
sentence_answer_of (Ok n) = told n
sentence_answer_of (Err e) = not_told (reason_number e.reason) e.place

-- the answer, and the lent bytes afterwards
abbrev pub sentence_call_of : Result ℕ Refusal → List ℕ → SentenceCall
sentence_call_of a buffer = record { answer = sentence_answer_of a; buffer = buffer }
