-- The call: a buffer that is too short, and one that has room.
-- Assumes nothing.
use Prim.Native.Nat.{ℕ, ◌+◌, ◌≤◌, ◌<◌}
use native.Mathlib.Omega.{arith}
use native.Mathlib.Nat.{zero-add}
use mathlib.Core.Path.{◌≡◌, refl, sym, ◌∙◌}
use mathlib.Core.List.{List, [], ◌∷◌, ◌++◌}
use lib.ListN.{length, drop}
use lib.Seq.{take-length}
use borrow.Author.Tests.{le-ltb}
use Rattle.std.specs.Prelude.{Ok, Err}
use Rattle.semantics.specs.Definitions.Moves.{Reply}
use Rattle.semantics.specs.Definitions.Sentence.{ascii, choice_named, reply_named, sentence, told, SentenceCall, sentence_call}
use Rattle.semantics.specs.Checks.Sentences.{ShortBuffersRefused}
use Rattle.theorems.proofs.Sentences.{short_buffers_refused}
use Rattle.buffer.specs.Splice.{written}
use Rattle.answers.specs.declared.refusals.Reason.TheVariants.{ShortBuffer}
use Rattle.answers.specs.declared.refusals.Refusal.{Refusal}
use Rattle.answers.specs.Answers.{reason_number, sentence_call_of}
use Rattle.print_decimals.specs.Wrote.{Wrote}
use Rattle.print_decimals.specs.declared.Page.{Page}
use Rattle.print_decimals.specs.Page.{Begun, HasRoom, Room, Appended, Printed}
use Rattle.print_decimals.proofs.Pages.{room_for, printed_room, printed_more, begun_room, page_written}
use Rattle.print_sentence.specs.Told.{choice_most, reply_most}

-- a text that stands at the front, and how it is answered
told_as : (v s : List ℕ) → SentenceCall
told_as v s = record { answer = told (length v); buffer = v ++ drop (length v) s }

as_told : (v s s₁ : List ℕ) (r : ℕ) → Wrote s 0 v s₁ r → sentence_call_of (Ok r) s₁ ≡ told_as v s
unfolding written told_as
as_told v s s₁ r w = rw (w.end, w.bytes, take-length v, zero-add (length v)) refl

pub short_refused : (k i n : ℕ) (a : Reply) (s : List ℕ) → length s < 96 → (e : Refusal) → e ≡ record { reason = ShortBuffer; place = 0 } →
    sentence_call_of (Err e) s ≡ sentence_call k i n a s
unfolding ShortBuffersRefused reason_number
short_refused k i n a s l e x = rw x (sym (short_buffers_refused k i n a s l))

has_room : (k i n : ℕ) (a : Reply) (s : List ℕ) → 96 ≤ length s → sentence_call k i n a s ≡ told_as (sentence k i n a) s
unfolding sentence_call told_as
has_room k i n a s room = rw (le-ltb (length s) 96 room)

-- no sentence has more than 95 bytes
module _ (k i n name : ℕ) (s : List ℕ) (p : Page) (x : Begun name s p) (room : 95 ≤ length s) where
  all_fit : HasRoom (choice_most + (reply_most + 1)) p
  all_fit = begun_room name s p x _ room

  pub choice_fits : HasRoom choice_most p
  choice_fits = begun_room name s p x choice_most (omega arith)

  module _ (q : Page) (y : Printed choice_most p (choice_named k i n) q) where
    rest_fits : HasRoom (reply_most + 1) q
    rest_fits = printed_room choice_most (reply_most + 1) p _ q all_fit y

    pub reply_fits : HasRoom reply_most q
    reply_fits = let f = rest_fits.fits in record { fits = omega arith }

    module _ (a : Reply) (r : Page) (z : Printed reply_most q (reply_named a) r) where
      pub end_fits : Room r (46 ∷ [])
      end_fits = room_for 1 r (46 ∷ []) (printed_room reply_most 1 q _ r rest_fits z) (omega arith)

      pub sentence_told : 96 ≤ length s → (t : Page) → Appended r (46 ∷ []) t → (u : List ℕ) → u ≡ t.out.now →
          (l : ℕ) → l ≡ t.end → sentence_call_of (Ok l) u ≡ sentence_call k i n a s
      unfolding sentence ascii
      sentence_told enough t v u f l e =
          let dot : Printed 1 r (46 ∷ []) t = record { wrote = v; short = omega arith } in
          let rest = printed_more reply_most 1 q _ r rest_fits z _ t dot in
          let whole = printed_more choice_most (reply_most + 1) p _ q all_fit y _ t rest in
          let wrote = page_written name s p x (sentence k i n a) t whole.wrote in
          rw (e, f) (as_told (sentence k i n a) s t.out.now t.end wrote ∙ sym (has_room k i n a s enough))
