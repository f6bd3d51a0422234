-- Laws of the head of a schedule: one for each return of the code.
-- Assumes nothing.
use Rattle.std.specs.Prelude.{Some, None, Ok, Err}
use Prim.Native.Nat.{ℕ, zero, suc, ◌+◌, ◌-◌, ◌≤◌, ◌<◌}
use native.Mathlib.Omega.{arith}
use mathlib.Core.Path.{◌≡◌, refl}
use mathlib.Core.List.{List, [], ◌∷◌}
use lib.ListN.{length, get_or, drop, length-drop, drop_of_length-le}
use lib.Seq.{drop-cons}
use Rattle.semantics.specs.Definitions.Run.{malformed, schedule}
use Rattle.answers.specs.declared.choices.Entry.TheVariants.{Act, Inside}
use Rattle.answers.specs.declared.refusals.Reason.TheVariants.{UnknownKind, CutShort}
use Rattle.answers.specs.Answers.{reason_number}
use Rattle.choice_read.specs.Entries.{ParsedIs}

-- ---- bytes that are no entry

unknown : (k : ℕ) (bs : List ℕ) → (k ≡ 1 → ⊥) → (k ≡ 2 → ⊥) → schedule (k ∷ bs) ≡ malformed 12 ∷ []
unfolding schedule
unknown zero bs h i = refl
unknown (suc zero) bs h i = absurd (h refl)
unknown (suc (suc zero)) bs h i = absurd (i refl)
unknown (suc (suc (suc k))) bs h i = refl

act_short : (bs : List ℕ) → length bs < 1 → schedule (1 ∷ bs) ≡ malformed 13 ∷ []
unfolding schedule
act_short [] h = refl
act_short (p ∷ bs) h = absurd (omega arith)

inside_short : (bs : List ℕ) → length bs < 2 → schedule (2 ∷ bs) ≡ malformed 13 ∷ []
unfolding schedule
inside_short [] h = refl
inside_short (p ∷ []) h = refl
inside_short (p ∷ k ∷ bs) h = absurd (omega arith)

-- ---- what the code finds

module _ (s : List ℕ) (at : ℕ) where
  pub found_end : length s ≤ at → ParsedIs s at None
  unfolding schedule
  found_end h = rw (drop_of_length-le s h)

  -- the byte at an offset, and those behind it
  one : (i : ℕ) → at + i < length s → drop (at + i) s ≡ get_or s (at + i) 0 ∷ drop (at + suc i) s
  one i h = let z : at + suc i ≡ suc (at + i) = omega arith in rw z (drop-cons s (at + i) 0 h)

  first : at < length s → drop at s ≡ get_or s at 0 ∷ drop (at + 1) s
  first h = let z : at + 0 ≡ at = omega arith in rw z at (one 0 (omega arith))

  rest_length : length (drop (at + 1) s) ≡ length s - (at + 1)
  rest_length = length-drop (at + 1) s

  pub found_unknown : at < length s → (get_or s at 0 ≡ 1 → ⊥) → (get_or s at 0 ≡ 2 → ⊥) → ParsedIs s at (Some (Err UnknownKind))
  unfolding reason_number
  found_unknown l h i = rw (first l) (unknown (get_or s at 0) (drop (at + 1) s) h i)

  pub found_act_short : at < length s → get_or s at 0 ≡ 1 → length s - at < 2 → ParsedIs s at (Some (Err CutShort))
  unfolding reason_number
  found_act_short l k h = let r = rest_length in rw (first l, k) (act_short (drop (at + 1) s) (omega arith))

  pub found_inside_short : at < length s → get_or s at 0 ≡ 2 → length s - at < 3 → ParsedIs s at (Some (Err CutShort))
  unfolding reason_number
  found_inside_short l k h = let r = rest_length in rw (first l, k) (inside_short (drop (at + 1) s) (omega arith))

  pub found_act : at < length s → get_or s at 0 ≡ 1 → 2 ≤ length s - at →
      ParsedIs s at (Some (Ok (record { entry = Act (get_or s (at + 1) 0); next = at + 2 })))
  unfolding schedule
  found_act l k h = record {
    size = 2;
    some = omega arith;
    here = rw (first l, k, one 1 (omega arith));
    behind = refl;
    held = omega arith;
  }

  pub found_inside : at < length s → get_or s at 0 ≡ 2 → 3 ≤ length s - at →
      ParsedIs s at (Some (Ok (record { entry = Inside (get_or s (at + 1) 0) (get_or s (at + 2) 0); next = at + 3 })))
  unfolding schedule
  found_inside l k h = record {
    size = 3;
    some = omega arith;
    here = rw (first l, k, one 1 (omega arith), one 2 (omega arith));
    behind = refl;
    held = omega arith;
  }
