-- Nothing but zeros from an offset on: where all are zeros, the largest byte so far is 0; and where that is 0, so are
-- the bytes seen so far. First four quarters are seen side by side, then what is left.
-- Assumes nothing.
use Prim.Native.Nat.{ℕ, zero, suc, ◌+◌, ◌*◌, ◌-◌, ◌≤◌, ◌<◌, max}
use native.Mathlib.Omega.{arith}
use native.Mathlib.Decide.{dec_lt}
use mathlib.Core.Path.{◌≡◌, refl, sym, ap, ◌∙◌}
use mathlib.Core.Bool.{Bool, true, false, true≢false}
use mathlib.Core.List.{List, [], ◌∷◌}
use lib.ListN.{length, get_or, drop, length-drop}
use lib.Seq.{get_or-drop}
use lib.Dec.{eqb}
use borrow.Author.Tests.{eqb-true, eq-eqb, ne_eqb}
use Rattle.semantics.specs.Definitions.Basics.{all_of, zeros}
use Rattle.theorems.proofs.ByteReads.{and_true}

-- ---- zeros, byte by byte

zero_at : (s : List ℕ) → zeros s ≡ true → (k : ℕ) → get_or s k 0 ≡ 0
unfolding zeros
zero_at [] z k = refl
zero_at (x ∷ s) z zero = sym (eqb-true 0 x (and_true (eqb 0 x) (all_of (eqb 0) s) z).0)
zero_at (x ∷ s) z (suc k) = zero_at s (and_true (eqb 0 x) (all_of (eqb 0) s) z).1 k

all_zero : (s : List ℕ) → ((k : ℕ) → k < length s → get_or s k 0 ≡ 0) → zeros s ≡ true
unfolding zeros
all_zero [] h = refl
all_zero (x ∷ s) h =
    let z = h 0 (omega arith) in
    rw (eq-eqb 0 x (sym z)) (all_zero s (λ k l. h (suc k) (omega arith)))

module _ (s : List ℕ) (from : ℕ) where
  -- ---- the quarters

  pub record Quarters (q top i : ℕ) : Type 0 where
    none : zeros (drop from s) ≡ true → top ≡ 0
    all : top ≡ 0 → (j : ℕ) → j < i →
        (get_or s (from + j) 0 ≡ 0) × (get_or s (from + j + q) 0 ≡ 0)
        × (get_or s (from + j + 2 * q) 0 ≡ 0) × (get_or s (from + j + 3 * q) 0 ≡ 0)

  pub record Rest (top i : ℕ) : Type 0 where
    none : zeros (drop from s) ≡ true → top ≡ 0
    all : top ≡ 0 → (k : ℕ) → from ≤ k → k < i → get_or s k 0 ≡ 0

  pub quarters_begun : (q : ℕ) → Quarters q 0 0
  quarters_begun q = record { none = λ z. refl; all = λ e j l. absurd (omega arith) }

  zero_behind : zeros (drop from s) ≡ true → (k : ℕ) → from ≤ k → get_or s k 0 ≡ 0
  zero_behind z k l =
      let e : from + (k - from) ≡ k = omega arith in
      ap (λ (n : ℕ). get_or s n 0) (sym e) ∙ sym (get_or-drop from s (k - from) 0) ∙ zero_at (drop from s) z (k - from)

  module _ (q top i : ℕ) (h : Quarters q top i) where
    pub quarters_turn : (low high both b : ℕ) →
        low ≡ max (get_or s (from + i) 0) (get_or s (from + i + q) 0) →
        high ≡ max (get_or s (from + i + 2 * q) 0) (get_or s (from + i + 3 * q) 0) →
        both ≡ max low high → b ≡ max top both → Quarters q b (i + 1)
    quarters_turn low high both b l k m e = record {
      none = λ z.
          let t = h.none z in
          let w = zero_behind z (from + i) (omega arith) in
          let x = zero_behind z (from + i + q) (omega arith) in
          let y = zero_behind z (from + i + 2 * q) (omega arith) in
          let v = zero_behind z (from + i + 3 * q) (omega arith) in omega arith;
      all = λ z j n. elim (dec_lt j i) [
        | yes f ↦ h.all (omega arith) j f
        | no f ↦ (let p : j ≡ i = omega arith in rw p (omega arith, omega arith, omega arith, omega arith))
      ];
    }

    -- all quarters are seen
    pub quarters_done : q ≤ i → Rest top (from + 4 * q)
    quarters_done l = record { none = h.none; all = λ z k f n. seen z k f n }
      where
        at : (k j : ℕ) → j ≡ k → get_or s j 0 ≡ 0 → get_or s k 0 ≡ 0
        at k j e z = ap (λ (n : ℕ). get_or s n 0) (sym e) ∙ z

        seen : top ≡ 0 → (k : ℕ) → from ≤ k → k < from + 4 * q → get_or s k 0 ≡ 0
        seen z k f n = elim (dec_lt k (from + q)) [
          | yes a ↦ at k _ (omega arith) (h.all z (k - from) (omega arith)).0
          | no a ↦ elim (dec_lt k (from + 2 * q)) [
            | yes b ↦ at k _ (omega arith) (h.all z (k - from - q) (omega arith)).1
            | no b ↦ elim (dec_lt k (from + 3 * q)) [
              | yes c ↦ at k _ (omega arith) (h.all z (k - from - 2 * q) (omega arith)).2
              | no c ↦ at k _ (omega arith) (h.all z (k - from - 3 * q) (omega arith)).3
            ]
          ]
        ]

  -- ---- what is left

  module _ (top i : ℕ) (h : Rest top i) where
    pub rest_turn : (b : ℕ) → b ≡ max top (get_or s i 0) → from ≤ i → Rest b (i + 1)
    rest_turn b e l = record {
      none = λ z. let t = h.none z in let x = zero_behind z i l in omega arith;
      all = λ z k f n. elim (dec_lt k i) [
        | yes g ↦ h.all (omega arith) k f g
        | no g ↦ (let p : k ≡ i = omega arith in rw p (omega arith))
      ];
    }

    pub rest_done : length s ≤ i → eqb top 0 ≡ zeros (drop from s)
    rest_done l = answer (zeros (drop from s)) refl
      where
        answer : (b : Bool) → zeros (drop from s) ≡ b → eqb top 0 ≡ b
        answer true z = eq-eqb top 0 (h.none z)
        answer false z = ne_eqb top 0 (λ e.
            let d = length-drop from s in
            let all = all_zero (drop from s) (λ k n. get_or-drop from s k 0 ∙ h.all e (from + k) (omega arith) (omega arith)) in
            true≢false (sym all ∙ z))
