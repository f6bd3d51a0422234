-- Small functions on lists, options and bytes that the definitions share.
-- Assumes nothing.
use Rattle.std.specs.Prelude.{ℕ, zero, suc, ◌-◌, ◌≤◌, Bool, true, false, cond, ◌&&◌, List, [], ◌∷◌, ◌++◌, length, replicate, eqb}
use Rattle.std.proofs.Math.Option.{Option, none, some}
use Rattle.semantics.specs.Definitions.Layout.{max_byte}

-- a value, where a test passes
unfoldable pub only_if {ℓ} : {A : Type ℓ} → Bool → A → Option A
only_if true a = some a
only_if false a = none

unfoldable pub all_of {ℓ} : {A : Type ℓ} → (A → Bool) → List A → Bool
all_of p [] = true
all_of p (x ∷ xs) = p x && all_of p xs

-- the first element that passes a test
unfoldable pub first_of {ℓ} : {A : Type ℓ} → (A → Bool) → List A → Option A
first_of p [] = none
first_of p (x ∷ xs) = cond (p x) (some x) (first_of p xs)

-- n numbers in a row, from a first one on
unfoldable pub count_up : (first n : ℕ) → List ℕ
count_up k zero = []
count_up k (suc n) = k ∷ count_up (suc k) n

-- element number p gives way to the elements of ys; past the end nothing changes
unfoldable pub replace_at {ℓ} : {A : Type ℓ} → ℕ → List A → List A → List A
replace_at p ys [] = []
replace_at zero ys (x ∷ xs) = ys ++ xs
replace_at (suc p) ys (x ∷ xs) = x ∷ replace_at p ys xs

-- a list followed by zeros up to n elements
unfoldable pub padded : ℕ → List ℕ → List ℕ
padded n xs = xs ++ replicate (n - length xs) 0

-- nothing but zeros
unfoldable pub zeros : List ℕ → Bool
unfolding all_of
zeros xs = all_of (eqb 0) xs

-- every element has the property
abbrev pub All {ℓ} : {A : Type ℓ} → (A → Type 0) → List A → Type 0
All p [] = Unit {0}
All p (x ∷ xs) = p x × All p xs

-- these numbers are bytes
abbrev pub Bytes : List ℕ → Type 0
Bytes bs = All (λ b. b ≤ max_byte) bs
