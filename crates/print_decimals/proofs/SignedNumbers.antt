-- Signed numbers on a page: the minus sign where there is one, then the digits. The difference of two bytes.
-- Assumes nothing.
use Prim.Native.Nat.{ℕ, zero, suc, ◌-◌, ◌<◌}
use native.Mathlib.Omega.{arith}
use mathlib.Core.Path.{◌≡◌, refl, ap, ◌∙◌}
use mathlib.Core.Bool.{Bool, true, false, cond}
use mathlib.Core.List.{List, [], ◌∷◌, ◌++◌}
use lib.IntN.{ℤ, pos, negsuc, nat_abs, ◌-ℤ◌}
use lib.Dec.{ltb}
use lib.Signed.{mag, lt_z}
use borrow.Author.Tests.{ltb-true}
use mir.Syntax.{w8, w16}
use mir.Val.{Fits, SFits, to_z, of_z}
use mir.ValLaws.{to_z_pos, to_z-of_z}
use Rattle.semantics.specs.Definitions.Run.{net}
use Rattle.semantics.specs.Definitions.Report.{decimal, signed}
use Rattle.print_decimals.specs.declared.Page.{Page}
use Rattle.print_decimals.specs.Page.{Room, Appended}
use Rattle.print_decimals.proofs.Pages.{appended_none, first_room, second_room, appended_both}

-- ---- a signed number on a page

-- the minus sign, where there is one
abbrev pub sign : ℤ → List ℕ
sign (pos n) = []
sign (negsuc n) = 45 ∷ []

parts : (z : ℤ) → signed z ≡ sign z ++ decimal (nat_abs z)
unfolding signed
parts (pos n) = refl
parts (negsuc n) = refl

minus : (z : ℤ) → lt_z z (pos 0) ≡ true → sign z ≡ 45 ∷ []
minus (pos n) b = absurd (let l = ltb-true n 0 b in omega arith)
minus (negsuc n) b = refl

no_minus : (z : ℤ) → lt_z z (pos 0) ≡ false → sign z ≡ []
no_minus (pos n) b = refl
no_minus (negsuc n) b = absurd (let e : ◌≡◌ {A = ℕ} 0 1 = ap (λ t. cond t 0 1) b in omega arith)

module _ (p : Page) (z : ℤ) (f : SFits w16 z) (room : Room p (signed z)) where
  whole : Room p (sign z ++ decimal (nat_abs z))
  whole = rw (parts z) at room

  abbrev read : ℤ
  read = to_z w16 (of_z w16 z)

  as_read : read ≡ z
  as_read = to_z-of_z w16 z f

  pub sign_room : lt_z read (pos 0) ≡ true → Room p (45 ∷ [])
  sign_room l = rw (minus z (rw as_read at l)) at (first_room p (sign z) _ whole)

  pub sign_written : (q r : Page) → lt_z read (pos 0) ≡ true → Appended p (45 ∷ []) r → q ≡ r → Appended p (sign z) q
  sign_written q r l x e = rw (minus z (rw as_read at l), e) x

  pub no_sign : (q : Page) → lt_z read (pos 0) ≡ false → q ≡ p → Appended p (sign z) q
  no_sign q l e = rw (no_minus z (rw as_read at l), e) (appended_none p)

  module _ (q : Page) (x : Appended p (sign z) q) (n m : ℕ) (d : n ≡ m) (e : m ≡ nat_abs read) where
    magnitude : n ≡ nat_abs z
    magnitude = d ∙ e ∙ ap nat_abs as_read

    pub digits_room : Room q (decimal n)
    digits_room = rw magnitude (second_room p (sign z) _ whole q x)

    pub signed_written : (r : Page) → Appended q (decimal n) r → Appended p (signed z) r
    signed_written r y = rw (parts z) (appended_both p (sign z) _ whole q x r (rw magnitude at y))

-- ---- the difference of two bytes

difference_small : (a b : ℕ) → a < 256 → b < 256 → mag (pos a -ℤ pos b) < 256
difference_small a zero l m = omega arith
difference_small a (suc b) l m = go (ltb a (suc b))
  where
    go : (t : Bool) → mag (cond t (negsuc (suc b - suc a)) (pos (a - suc b))) < 256
    go true = omega arith
    go false = omega arith

-- each byte is widened before
pub difference_net : (a b : ℕ) (x y : ℤ) → Fits w8 a → Fits w8 b → x ≡ pos a → y ≡ pos b →
    to_z w16 (of_z w16 (to_z w16 (of_z w16 x) -ℤ to_z w16 (of_z w16 y))) ≡ net b a
unfolding net
difference_net a b x y f g d e =
    let l = difference_small a b (omega (arith, f.fits)) (omega (arith, g.fits)) in
    rw (d, e, to_z_pos w16 a (omega (arith, f.fits)), to_z_pos w16 b (omega (arith, g.fits)))
    (to_z-of_z w16 (pos a -ℤ pos b) (record { sfits = omega arith }))
