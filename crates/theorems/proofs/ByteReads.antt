-- Laws of the small functions by which bytes are read: tests, options, zeros.
-- Assumes nothing.
use Prim.Native.Nat.{ℕ, zero, suc}
use native.Mathlib.Omega.{arith}
use mathlib.Core.Path.{◌≡◌, refl}
use mathlib.Core.Bool.{Bool, true, false, cond, ◌&&◌, ◌||◌}
use mathlib.Core.Option.{Option, none, some}
use mathlib.Core.List.{List, [], ◌∷◌}
use lib.ListN.{length, replicate}
use lib.Dec.{eqb}
use borrow.Author.Tests.{eqb-true}
use Rattle.semantics.specs.Definitions.Basics.{only_if, all_of, zeros}
use mathlib.Core.Option.{bind}

-- ---- tests

-- what holds of either answer, each where the test says so
pub by_cases {ℓ} : {A : Type ℓ} (Q : A → Type 0) (b : Bool) (x y : A) → (b ≡ true → Q x) → (b ≡ false → Q y) → Q (cond b x y)
by_cases Q true x y f g = f refl
by_cases Q false x y f g = g refl

-- two tests of which neither holds, and two that both hold
pub or_false : (a b : Bool) → (a || b) ≡ false → (a ≡ false) × (b ≡ false)
or_false true b e = let z : ◌≡◌ {A = ℕ} 0 1 = cc in absurd (omega arith)
or_false false b e = (refl, e)

pub and_true : (a b : Bool) → (a && b) ≡ true → (a ≡ true) × (b ≡ true)
and_true true b e = (refl, e)
and_true false b e = let z : ◌≡◌ {A = ℕ} 0 1 = cc in absurd (omega arith)

-- ---- options

-- where going on gives a value, there was one to go on with
pub given_some {ℓ κ λ'} : {A : Type ℓ} {B : Type κ} {C : Type λ'} (o : Option A) (k : A → Option B) (y : B) → bind o k ≡ some y →
    ((a : A) → o ≡ some a → k a ≡ some y → C) → C
unfolding bind
given_some none k y e next = let z : ◌≡◌ {A = ℕ} 0 1 = cc in absurd (omega arith)
given_some (some a) k y e next = next a refl e

-- where a tested value is given, the test passed
pub provided_some {ℓ} : {A : Type ℓ} (b : Bool) (a y : A) → only_if b a ≡ some y → (b ≡ true) × (a ≡ y)
unfolding only_if
provided_some true a y e = (refl, cc)
provided_some false a y e = let z : ◌≡◌ {A = ℕ} 0 1 = cc in absurd (omega arith)

-- ---- zeros

pub zeros_replicate : (xs : List ℕ) → zeros xs ≡ true → xs ≡ replicate (length xs) 0
unfolding zeros
zeros_replicate [] e = refl
zeros_replicate (x ∷ xs) e =
    let h = and_true (eqb 0 x) (all_of (eqb 0) xs) e in
    let z = eqb-true 0 x h.0 in
    let g = zeros_replicate xs h.1 in cc

pub replicate_zeros : (n : ℕ) → zeros (replicate n 0) ≡ true
unfolding zeros
replicate_zeros zero = refl
replicate_zeros (suc n) = replicate_zeros n
