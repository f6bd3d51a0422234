-- What the decimal digits of a number are (document 01, "The printed run"), said apart from how they are computed, and
-- the claim that just these are printed. Proved in theorems/proofs/Decimals.
-- Assumes nothing.
use Rattle.std.specs.Prelude.{ℕ, suc, ◌+◌, ◌-◌, ◌*◌, ◌^◌, ◌≤◌, ◌<◌, ◌≡◌, ◌↔◌, ◌≢◌, List, [], ◌∷◌, length, ℤ, pos, negsuc}
use Rattle.semantics.specs.Definitions.Basics.{All}
use Rattle.semantics.specs.Definitions.Report.{decimal, signed}

-- what digits are worth by their places: a digit so many times the power of ten of the digits behind it
unfoldable pub place_value : List ℕ → ℕ
place_value [] = 0
place_value (b ∷ bs) = (b - 48) * 10 ^ length bs + place_value bs

-- at least one byte, and no zero in front of others
abbrev pub NoZeroInFront : List ℕ → Type 0
NoZeroInFront [] = ⊥
NoZeroInFront (b ∷ []) = Unit {0}
NoZeroInFront (b ∷ c ∷ bs) = b ≢ 48

-- the decimal of a number: bytes from 48 ("0") to 57 ("9"), no zero in front unless it stands alone, worth the number
pub record DecimalOf (n : ℕ) (bs : List ℕ) : Type 0 where
  pub each : All (λ b. (48 ≤ b) × (b ≤ 57)) bs
  pub front : NoZeroInFront bs
  pub worth : place_value bs ≡ n

-- of a number that may be negative: a minus sign (45) in front where it is, no sign where it is not
pub data SignedOf : ℤ → List ℕ → Type 0 where
  not_negative : {n : ℕ} {bs : List ℕ} → DecimalOf n bs → SignedOf (pos n) bs
  negative : {n : ℕ} {bs : List ℕ} → DecimalOf (suc n) bs → SignedOf (negsuc n) (45 ∷ bs)

-- a number below 10 ^ 20 is printed as its decimal, and has no other
unfoldable pub DecimalAsStated : Type 0
DecimalAsStated = (n : ℕ) (bs : List ℕ) → n < 10 ^ 20 → (decimal n ≡ bs) ↔ DecimalOf n bs

-- the same of one that may be negative, whose size is below 10 ^ 20
abbrev pub TwentyDigits : ℤ → Type 0
TwentyDigits (pos n) = n < 10 ^ 20
TwentyDigits (negsuc n) = suc n < 10 ^ 20

unfoldable pub SignedAsStated : Type 0
SignedAsStated = (z : ℤ) (bs : List ℕ) → TwentyDigits z → (signed z ≡ bs) ↔ SignedOf z bs
