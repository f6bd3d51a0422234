-- A log is readable at given counts exactly where the names that it reads are included in the state; and what is short where they
-- are not.
-- Assumes nothing.
use Prim.Native.Nat.{ℕ}
use mathlib.Core.Path.{◌≡◌, refl, sym, ap, ◌∙◌}
use mathlib.Core.Bool.{Bool, true, false, true≢false}
use Rattle.calculus.specs.Syntax.{Log, State}
use Rattle.calculus.specs.State.{Included}
use Rattle.calculus.specs.Log.{RD}
use Rattle.semantics.specs.Definitions.Shortage.{Shortage, enough, short, is_enough, shortage_against}
use Rattle.semantics.specs.Definitions.Logs.{shortage, readable}
use Rattle.semantics.specs.Checks.StatedMoves.{LowestShort}
use Rattle.theorems.proofs.Shortages.{Found, shortage_found, found_is, enough_true}

-- readable is included
pub readable_included : (σ : State) (δ : Log) → readable σ δ ≡ true → Included (RD δ) σ
unfolding readable shortage
readable_included σ δ e =
    let q : shortage_against (RD δ) σ ≡ enough = enough_true (shortage_against (RD δ) σ) e in
    let f : Found (RD δ) σ (shortage_against (RD δ) σ) = shortage_found (RD δ) σ in
    rw q at f

-- included is readable
pub included_readable : (σ : State) (δ : Log) → Included (RD δ) σ → readable σ δ ≡ true
unfolding readable shortage is_enough
included_readable σ δ h = ap is_enough (found_is (RD δ) σ enough h)

-- not readable is not included
pub unreadable_not_included : (σ : State) (δ : Log) → readable σ δ ≡ false → ¬ Included (RD δ) σ
unreadable_not_included σ δ e h = true≢false (sym (included_readable σ δ h) ∙ e)

-- not included is not readable
pub not_included_unreadable : (σ : State) (δ : Log) → ¬ Included (RD δ) σ → readable σ δ ≡ false
not_included_unreadable σ δ h = go (readable σ δ) refl
  where
    go : (b : Bool) → readable σ δ ≡ b → readable σ δ ≡ false
    go true e = absurd (h (readable_included σ δ e))
    go false e = e

-- ---- what is short

-- where it is not readable, some channel is the lowest that is short
pub unreadable_short : (σ : State) (δ : Log) → readable σ δ ≡ false → (a : ℕ) × (k : ℕ) × (shortage σ δ ≡ short a k) × LowestShort (RD δ) σ a k
unfolding readable shortage is_enough
unreadable_short σ δ e = go (shortage_against (RD δ) σ) refl e (shortage_found (RD δ) σ)
  where
    go : (w : Shortage) → shortage_against (RD δ) σ ≡ w → is_enough w ≡ false → Found (RD δ) σ w →
        (a : ℕ) × (k : ℕ) × (shortage_against (RD δ) σ ≡ short a k) × LowestShort (RD δ) σ a k
    go enough q n f = absurd (true≢false n)
    go (short a k) q n f = (a, k, q, f)

-- and back
pub short_unreadable : (σ : State) (δ : Log) {a k : ℕ} → LowestShort (RD δ) σ a k → (readable σ δ ≡ false) × (shortage σ δ ≡ short a k)
unfolding readable shortage is_enough
short_unreadable σ δ {a} {k} f = let q = found_is (RD δ) σ (short a k) f in (ap is_enough q, q)
