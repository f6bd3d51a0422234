-- Laws of needs held against counts, channel by channel, and of counts lowered by needs, for each turn of the code.
-- Assumes nothing.
use Prim.Native.Nat.{ℕ, zero, suc, ◌+◌, ◌-◌, ◌≤◌, ◌<◌}
use native.Mathlib.Omega.{arith}
use native.Mathlib.Numerals.{add-one}
use native.Mathlib.Decide.{dec_lt}
use mathlib.Core.Path.{◌≡◌, refl, ap, ◌∙◌}
use mathlib.Core.Bool.{true}
use mathlib.Core.List.{List, [], ◌∷◌, ◌++◌}
use lib.Dec.{leb}
use lib.ListN.{length, get_or, take, set}
use lib.Seq.{take_all, take-nil, set-get_or}
use borrow.Author.Tests.{leb-true, le-leb}
use Rattle.semantics.specs.Definitions.Layout.{channels}
use Rattle.theorems.proofs.ByteReads.{and_true}
use Rattle.move_logs.specs.Needs.{within_first, within_at, lowered}

-- ---- the test, channel by channel

module _ (need s : List ℕ) (at : ℕ) where
  first_covered : (n a : ℕ) → within_first need s at n ≡ true → a < n → get_or need a 0 ≤ get_or s (at + a) 0
  unfolding within_first
  first_covered zero a e h = absurd (omega arith)
  first_covered (suc n) a e h =
      let p = and_true (within_first need s at n) (leb (get_or need n 0) (get_or s (at + n) 0)) e in
      let q = leb-true (get_or need n 0) (get_or s (at + n) 0) p.1 in
      elim (dec_lt a n) [ yes l ↦ first_covered n a p.0 l | no l ↦ (let z : a ≡ n = omega arith in rw z q) ]

  pub covered : (a : ℕ) → within_at need s at ≡ true → a < channels → get_or need a 0 ≤ get_or s (at + a) 0
  unfolding within_at
  covered a e h = first_covered channels a e h

  first_within : (n : ℕ) → ((a : ℕ) → a < n → get_or need a 0 ≤ get_or s (at + a) 0) → within_first need s at n ≡ true
  unfolding within_first
  first_within zero h = refl
  first_within (suc n) h =
      let p = first_within n (λ a k. h a (omega arith)) in
      rw (p, le-leb (get_or need n 0) (get_or s (at + n) 0) (h n (omega arith)))

  pub all_covered : ((a : ℕ) → a < channels → get_or need a 0 ≤ get_or s (at + a) 0) → within_at need s at ≡ true
  unfolding within_at
  all_covered h = first_within channels h

-- ---- lowered, turn by turn

pub lowered_length : (need s : List ℕ) → length (lowered need s) ≡ length s
unfolding lowered
lowered_length [] s = refl
lowered_length (n ∷ need) [] = refl
lowered_length (n ∷ need) (c ∷ s) = ap suc (lowered_length need s)

-- the counts not yet reached are as they were
lowered_behind : (need s : List ℕ) (i : ℕ) → get_or (lowered (take i need) s) i 0 ≡ get_or s i 0
unfolding lowered
lowered_behind [] s zero = refl
lowered_behind [] s (suc i) = refl
lowered_behind (n ∷ need) s zero = refl
lowered_behind (n ∷ need) [] (suc i) = refl
lowered_behind (n ∷ need) (c ∷ s) (suc i) = lowered_behind need s i

lowered_next : (need s : List ℕ) (i : ℕ) →
    set (lowered (take i need) s) i (get_or s i 0 - get_or need i 0) ≡ lowered (take (suc i) need) s
unfolding lowered
lowered_next [] s i = rw (take-nil i) (let z : get_or s i 0 - 0 ≡ get_or s i 0 = omega arith in rw z (set-get_or s i 0))
lowered_next (n ∷ need) [] zero = refl
lowered_next (n ∷ need) [] (suc i) = refl
lowered_next (n ∷ need) (c ∷ s) zero = refl
lowered_next (n ∷ need) (c ∷ s) (suc i) = ap (◌∷◌ (c - n)) (lowered_next need s i)

pub lowered_start : (s : List ℕ) → s ≡ lowered [] s
unfolding lowered
lowered_start s = refl

-- so far the needs of the first i channels were taken
module _ (need s₀ s : List ℕ) (i : ℕ) (sofar : s ≡ lowered (take i need) s₀) where
  lowered_at : get_or s i 0 ≡ get_or s₀ i 0
  lowered_at = rw sofar (lowered_behind need s₀ i)

  pub lowered_room : within_at need s₀ 0 ≡ true → i < channels → get_or need i 0 ≤ get_or s i 0
  lowered_room h k = let z : 0 + i ≡ i = omega arith in rw lowered_at (rw z at (covered need s₀ 0 i h k))

  pub lowered_turn : set s i (get_or s i 0 - get_or need i 0) ≡ lowered (take (i + 1) need) s₀
  lowered_turn = rw (lowered_at, sofar, add-one i) (lowered_next need s₀ i)

  pub lowered_end : length need ≡ channels → channels ≤ i → s ≡ lowered need s₀
  lowered_end l h = sofar ∙ rw (take_all i need (omega arith))

-- channel by channel
pub lowered_count : (need s : List ℕ) (a : ℕ) → get_or (lowered need s) a 0 ≡ get_or s a 0 - get_or need a 0
unfolding lowered
lowered_count [] s a = omega arith
lowered_count (n ∷ need) [] a = omega arith
lowered_count (n ∷ need) (c ∷ s) zero = refl
lowered_count (n ∷ need) (c ∷ s) (suc a) = lowered_count need s a

-- as many needs as counts leave what stands behind the counts alone
pub lowered_before : (need σ rest : List ℕ) → length need ≡ length σ → lowered need (σ ++ rest) ≡ lowered need σ ++ rest
unfolding lowered
lowered_before [] [] rest l = refl
lowered_before [] (c ∷ σ) rest l = absurd (omega arith)
lowered_before (n ∷ need) [] rest l = absurd (omega arith)
lowered_before (n ∷ need) (c ∷ σ) rest l = ap (◌∷◌ (c - n)) (lowered_before need σ rest (omega arith))
