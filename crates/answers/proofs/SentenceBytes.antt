-- The bytes that a sentence is asked for by, and what its call tells.
-- Assumes nothing.
use Prim.Native.Nat.{ℕ, zero, suc, ◌+◌, ◌≤◌}
use native.Mathlib.Omega.{arith}
use mathlib.Core.Path.{◌≡◌, refl}
use mathlib.Core.Bool.{Bool, true, false, cond, not}
use lib.ListN.{get_or}
use lib.Dec.{eqb}
use borrow.Author.Tests.{ne_eqb, eqb-true}
use Rattle.semantics.specs.Definitions.Shortage.{Shortage, enough, short}
use Rattle.semantics.specs.Definitions.Moves.{moved_by, refused_by}
use Rattle.semantics.specs.Definitions.Calls.{step_call}
use Rattle.semantics.specs.Checks.Steps.{StepCallNumbers}
use Rattle.semantics.specs.Checks.Sentences.{ShortBuffersRefused, SentenceStands}
use Rattle.theorems.proofs.Steps.{step_call_numbers}
use Rattle.theorems.proofs.Sentences.{short_buffers_refused, sentence_stands}
use Rattle.answers.specs.Answered.{shortage_words, tells_short, reply_from}
use Rattle.answers.specs.Claims.{Byte0Refused, OtherByteMoved, HandedOn, ShortWritesNothing, LongTellsLength}

-- whether two bytes tell a shortage: the tray does where it is not 0, and where it is, the number does
pub tray_tells : (a k : ℕ) → ¬ (a ≡ 0) → true ≡ tells_short a k
tray_tells a k other = rw (ne_eqb a 0 other) refl

pub by_tells : (a k : ℕ) → a ≡ 0 → not (eqb k 0) ≡ tells_short a k
by_tells a k none = rw none refl

-- ---- what a caller in C may rely on

-- two bytes that are not 0 0 tell a shortage
tells : (a k : ℕ) → ¬ (a + k ≡ 0) → true ≡ tells_short a k
tells zero k some = rw (ne_eqb k 0 (λ e. some (omega arith))) refl
tells (suc a) k some = tray_tells (suc a) k (λ e. omega arith)

pub byte_0_refused : Byte0Refused
byte_0_refused number tray by = refl

pub other_byte_moved : OtherByteMoved
other_byte_moved m number tray by other = (rw (ne_eqb m 0 other) refl, λ some. rw (ne_eqb m 0 other, ← tells tray by some) refl)

-- the two bytes that a step set may be handed on as they are: with its rule, or with its refusal, they make the reply that
-- it told
handed : (n r : ℕ) (w : Shortage) → (n ≡ 0 → (a k : ℕ) → w ≡ short a k → 1 ≤ k) →
    reply_from (cond (eqb n 0) 1 0) (cond (eqb n 0) r n) (get_or (shortage_words w) 0 0) (get_or (shortage_words w) 1 0)
    ≡ cond (eqb n 0) (moved_by r w) (refused_by n)
handed n r w some = go (eqb n 0) refl w some
  where
    go : (b : Bool) → eqb n 0 ≡ b → (v : Shortage) → (n ≡ 0 → (a k : ℕ) → v ≡ short a k → 1 ≤ k) →
        reply_from (cond b 1 0) (cond b r n) (get_or (shortage_words v) 0 0) (get_or (shortage_words v) 1 0) ≡ cond b (moved_by r v) (refused_by n)
    go false e v f = refl
    go true e enough f = refl
    go true e (short a k) f =
        let l = f (eqb-true n 0 e) a k refl in rw (← tells a k (λ z. omega arith)) refl

pub handed_on : HandedOn
unfolding StepCallNumbers
handed_on table l tb hb kind position node =
    let a = step_call table l kind position node in
    let f = (step_call_numbers table l tb hb kind position node).1 in
    handed a.number a.rule a.shortage (λ z tray by e. ((f z).4 tray by e).1)

pub short_writes_nothing : ShortWritesNothing
unfolding ShortBuffersRefused
short_writes_nothing k p n r buffer returned before after buffer' t l =
    let short = short_buffers_refused k p n r buffer l in
    (rw short at t.number, rw short at t.length, rw short at t.bytes)

pub long_tells_length : LongTellsLength
unfolding SentenceStands
long_tells_length k p n r buffer returned before after buffer' t bytes l =
    let stands = sentence_stands k p n r buffer bytes l in
    (rw stands.answer at t.number, rw stands.answer at t.length)
