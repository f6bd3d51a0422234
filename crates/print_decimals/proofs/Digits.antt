-- The digits of a number, from those of its tenth, and how they are written.
-- Assumes nothing.
use Prim.Native.Nat.{ℕ, zero, suc, ◌+◌, ◌*◌, ◌/◌, ◌%◌, ◌^◌, ◌≤◌, ◌<◌}
use native.Mathlib.Omega.{arith}
use native.Mathlib.Numerals.{unary_clauses}
use mathlib.Core.Path.{◌≡◌, refl, ap, ◌∙◌}
use mathlib.Core.Bool.{Bool, true, false, cond}
use mathlib.Core.List.{List, [], ◌∷◌, ◌++◌}
use lib.ListN.{length, length-append}
use lib.Dec.{ltb}
use borrow.Author.Tests.{lt-ltb, le-ltb}
use mir.Syntax.{w64}
use mir.Val.{Fits}
use Rattle.semantics.specs.Definitions.Report.{digits, decimal}
use Rattle.theorems.proofs.Decimals.{tenth}
use Rattle.print_decimals.specs.Wrote.{Wrote}
use Rattle.print_decimals.proofs.Pages.{wrote_more, wrote_length}

-- more room for digits than are needed changes nothing
digits_enough : (f n : ℕ) → n < 10 ^ suc f → digits (suc f) n ≡ digits (suc (suc f)) n
unfolding digits
digits_enough zero n l = rw (lt-ltb n 10 (omega arith)) refl
digits_enough (suc f) n l =
    let m : n < 10 * 10 ^ suc f = simp unary_clauses (omega arith) in
    ap (λ ds. cond (ltb n 10) ((48 + n) ∷ []) (ds ++ ((48 + n % 10) ∷ []))) (digits_enough f (n / 10) (tenth n (10 ^ suc f) m))

-- a number below ten has one digit; another has those of its tenth, and one more
pub one_digit_holds : (n : ℕ) → n < 10 → decimal n ≡ (48 + n) ∷ []
unfolding decimal digits
one_digit_holds n l = rw (lt-ltb n 10 l) refl

pub more_digits : (n : ℕ) → 10 ≤ n → n < 10 ^ 20 → decimal n ≡ decimal (n / 10) ++ ((48 + n % 10) ∷ [])
unfolding decimal digits
more_digits n l m = rw (le-ltb n 10 l) (ap (λ ds. ds ++ ((48 + n % 10) ∷ [])) (digits_enough 18 (n / 10) (tenth n (10 ^ 19) m)))

-- ---- the digits of a number, written

some_digits : (n : ℕ) → 1 ≤ length (decimal n)
unfolding decimal digits
some_digits n = go (ltb n 10) refl
  where
    go : (b : Bool) → ltb n 10 ≡ b → 1 ≤ length (cond b ((48 + n) ∷ []) (digits 19 (n / 10) ++ ((48 + n % 10) ∷ [])))
    go true e = omega arith
    go false e = let l = length-append (digits 19 (n / 10)) ((48 + n % 10) ∷ []) in omega arith

module _ (s : List ℕ) (at n : ℕ) (room : at + length (decimal n) ≤ length s) where
  pub one_fits : at < length s
  one_fits = let l = some_digits n in omega arith

  pub one_written : n < 10 → (s₁ : List ℕ) (r d : ℕ) → d ≡ 48 + n → Wrote s at (d ∷ []) s₁ r → Wrote s at (decimal n) s₁ r
  one_written l s₁ r d e w = rw (one_digit_holds n l) (rw e at w)

  module _ (more : 10 ≤ n) (word : Fits w64 n) where
    tenth_length : length (decimal n) ≡ length (decimal (n / 10)) + 1
    tenth_length = ap length (more_digits n more (omega (arith, word))) ∙ length-append (decimal (n / 10)) _

    pub tenth_fits : at + length (decimal (n / 10)) ≤ length s
    tenth_fits = let l = tenth_length in omega arith

    module _ (s₁ : List ℕ) (i : ℕ) (w : Wrote s at (decimal (n / 10)) s₁ i) where
      pub last_fits : i < length s₁
      last_fits =
          let l = tenth_length in
          let m = wrote_length s s₁ at i (decimal (n / 10)) tenth_fits w in
          let e = w.end in omega arith

      pub last_written : (s₂ : List ℕ) (r d : ℕ) → d ≡ 48 + n % 10 → Wrote s₁ i (d ∷ []) s₂ r → Wrote s at (decimal n) s₂ r
      last_written s₂ r d e x =
          rw (more_digits n more (omega (arith, word))) (wrote_more s s₁ s₂ at i r (decimal (n / 10)) _ (omega arith) w (rw e at x))
