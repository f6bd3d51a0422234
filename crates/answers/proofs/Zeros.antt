-- A returned 0 means that nothing is refused: no refusal has that number.
-- Assumes nothing.
use Prim.Native.Nat.{ℕ, ◌≤◌}
use native.Mathlib.Omega.{arith}
use mathlib.Core.Path.{◌≡◌, refl, sym, ap, ◌∙◌}
use mathlib.Core.Bool.{Bool, true, false}
use mathlib.Core.Logic.{◌⊎◌, inl, inr}
use mathlib.Core.Option.{none, some}
use mathlib.Core.List.{[], ◌∷◌}
use lib.ListN.{length}
use lib.Dec.{ltb}
use borrow.Author.Tests.{ltb-true, ltb-false}
use Rattle.semantics.specs.Definitions.Moves.{Entry}
use Rattle.semantics.specs.Definitions.Calls.{Verdict, ok, rejected, check_table, check_hall, OpenAnswer, opened, not_opened, open_hall, open_verdict}
use Rattle.semantics.specs.Definitions.Configuration.{Idle, idle}
use Rattle.semantics.specs.Definitions.Stored.{component_bytes}
use Rattle.semantics.specs.Definitions.Turns.{TurnAnswer, lays, past_end, not_turned, turn_call}
use Rattle.semantics.specs.Definitions.Suggestion.{SuggestAnswer, suggested, still, not_suggested, suggest_call}
use Rattle.semantics.specs.Claims.Suggestions.{RefusedAsChecked}
use Rattle.semantics.specs.Claims.Turns.{left_by, TurnsRefusedAsChecked}
use Rattle.semantics.specs.Checks.Conditions.{RefusalNumbers}
use Rattle.semantics.specs.Checks.Sentences.{ShortBuffersRefused}
use Rattle.theorems.proofs.HallConditions.{refusal_numbers}
use Rattle.theorems.proofs.Suggestions.{refused_as_checked}
use Rattle.theorems.proofs.Turns.{turns_refused_as_checked}
use Rattle.theorems.proofs.Sentences.{short_buffers_refused}
use Rattle.answers.specs.Answered.{VerdictAnswered, TurnAnswered, choice_words, SuggestionAnswered}
use Rattle.answers.specs.Claims.{ZeroTable, ZeroHall, ZeroOpened, ZeroTurn, ZeroSuggested, ZeroSentence}

zero_ok : (v : Verdict) → ((n p : ℕ) → v ≡ rejected n p → 1 ≤ n) → (set : ℕ) → VerdictAnswered v 0 set → v ≡ ok
zero_ok ok above set t = refl
zero_ok (rejected n p) above set t = absurd (let z = above n p refl in let y = t.number in omega arith)

pub zero_table : ZeroTable
unfolding RefusalNumbers
zero_table table = zero_ok (check_table table) (λ n p e. ((refusal_numbers table table n p).0 e).0)

pub zero_hall : ZeroHall
unfolding RefusalNumbers
zero_hall table hall = zero_ok (check_hall table hall) (λ n p e. ((refusal_numbers table hall n p).2 e).0)

pub zero_opened : ZeroOpened
unfolding RefusalNumbers open_verdict
zero_opened table hall set bytes t =
    zero_ok (open_verdict (open_hall table hall).answer) (above (open_hall table hall).answer refl) set t.verdict
  where
    above : (a : OpenAnswer) → (open_hall table hall).answer ≡ a → (n p : ℕ) → open_verdict a ≡ rejected n p → 1 ≤ n
    above (opened c) e n p f = absurd (let z : ◌≡◌ {A = ℕ} 0 1 = cc in omega arith)
    above (not_opened m q) e n p f = ((refusal_numbers table hall n p).1 (cc)).0

pub zero_turn : ZeroTurn
unfolding TurnsRefusedAsChecked left_by
zero_turn table n place laid station left t = go (turn_call table n) refl t
  where
    go : (v : TurnAnswer) → turn_call table n ≡ v → TurnAnswered v 0 place laid station left →
        ((laid ≡ 0) × (turn_call table n ≡ lays none left)) ⊎
        (((c : Idle) × (laid ≡ 1) × (station ≡ component_bytes (idle c)) × (turn_call table n ≡ lays (some c) left)) ⊎
        ((laid ≡ 2) × (turn_call table n ≡ past_end)))
    go (lays none m) e t = inl (t.laid_down_holds, e ∙ ap (lays none) (sym t.left_open))
    go (lays (some c) m) e t = inr (inl (c, t.laid_down_holds, t.bytes, e ∙ ap (lays (some c)) (sym t.left_open)))
    go past_end e t = inr (inr (t.laid_down_holds, e))
    go (not_turned k p) e t =
        let above = ((turns_refused_as_checked table n k p).1 e).0 in
        let number = t.number in absurd (omega arith)

pub zero_suggested : ZeroSuggested
unfolding RefusalNumbers RefusedAsChecked
zero_suggested table hall place w x = go (suggest_call table hall) refl x
  where
    go : (a : SuggestAnswer) → suggest_call table hall ≡ a → SuggestionAnswered a 0 place w →
        ((e : Entry) × (w ≡ choice_words e) × (suggest_call table hall ≡ suggested e)) ⊎
        ((w ≡ 0 ∷ 0 ∷ 0 ∷ []) × (suggest_call table hall ≡ still))
    go (suggested e) h x = inl (e, x.choice, h)
    go still h x = inr (x.choice, h)
    go (not_suggested m q) h x =
        absurd
        (let n = x.number in
        let l = ((refusal_numbers table hall m q).2 ((refused_as_checked table hall m q).0 h)).0 in omega arith)

pub zero_sentence : ZeroSentence
unfolding ShortBuffersRefused
zero_sentence k p n a buffer before after buffer' t = go (ltb (length buffer) 96) refl
  where
    go : (b : Bool) → ltb (length buffer) 96 ≡ b → 96 ≤ length buffer
    go true e =
        let short = short_buffers_refused k p n a buffer (ltb-true (length buffer) 96 e) in
        absurd (let z : 0 ≡ 21 = rw short at t.number in omega arith)
    go false e = ltb-false (length buffer) 96 e
