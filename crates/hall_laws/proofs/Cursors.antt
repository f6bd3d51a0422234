-- A list read from an offset on: what stands there, and what stands behind it.
-- Assumes nothing.
use Prim.Native.Nat.{ℕ, ◌+◌, ◌<◌}
use native.Mathlib.Numerals.{add-one}
use native.Mathlib.Omega.{arith}
use mathlib.Core.Path.{◌≡◌, refl, sym, ap, ◌∙◌}
use mathlib.Core.List.{List, ◌∷◌, ◌++◌}
use lib.ListN.{length, get_or, drop}
use lib.Seq.{drop-cons, drop-drop, drop-append_seam, get_or-drop}

-- the byte there, and those behind it
pub here : (s : List ℕ) (at : ℕ) → at < length s → drop at s ≡ get_or s at 0 ∷ drop (at + 1) s
here s at h = rw (add-one at) (drop-cons s at 0 h)

-- the first byte
pub first_byte : (s : List ℕ) (at x : ℕ) (rest : List ℕ) → drop at s ≡ x ∷ rest → get_or s at 0 ≡ x
first_byte s at x rest e =
    let p : get_or s (at + 0) 0 ≡ get_or (drop at s) 0 0 = sym (get_or-drop at s 0 0) in
    let z : at + 0 ≡ at = omega arith in
    let q : get_or (drop at s) 0 0 ≡ x = rw e refl in (rw z at p) ∙ q

-- over what stands there
pub over : (s : List ℕ) (at : ℕ) (xs rest : List ℕ) → drop at s ≡ xs ++ rest → drop (at + length xs) s ≡ rest
over s at xs rest e = sym (drop-drop (length xs) at s) ∙ ap (drop (length xs)) e ∙ drop-append_seam xs rest
