-- The one test of reads against counts finds that all are there, or the lowest channel that is short and by how many; and it finds
-- nothing else.
-- Assumes nothing.
use Prim.Native.Nat.{ℕ, ◌+◌, ◌-◌, ◌≤◌, ◌<◌}
use native.Mathlib.Omega.{arith}
use native.Mathlib.Decide.{ℕ_discrete}
use mathlib.Core.Path.{◌≡◌, refl, sym}
use mathlib.Core.Logic.{◌≢◌}
use mathlib.Core.Bool.{Bool, true, false, cond, true≢false}
use mathlib.Core.List.{List, [], ◌∷◌}
use lib.Dec.{leb}
use borrow.Author.Tests.{leb-true, leb-false}
use Rattle.calculus.specs.Syntax.{Name, State}
use Rattle.calculus.specs.State.{count, occurrences, Included}
use Rattle.calculus.proofs.States.{same_other}
use Rattle.semantics.specs.Definitions.Shortage.{Shortage, enough, short, is_enough, short_in, lower, lowest, shortage_against}
use Rattle.semantics.specs.Checks.StatedMoves.{LowestShort}

-- what a finding says of reads and counts
abbrev pub Found : List Name → State → Shortage → Type 0
Found bs σ enough = Included bs σ
Found bs σ (short a k) = LowestShort bs σ a k

-- ---- what is found is so

-- what holds of a name and of all that occur behind it holds of all that occur in the list
occurs_in : (P : Name → Type 0) (c : Name) (cs : List Name) → P c → ((b : Name) → 0 < occurrences b cs → P b) →
    (b : Name) → 0 < occurrences b (c ∷ cs) → P b
unfolding occurrences
occurs_in P c cs here behind b o = elim (ℕ_discrete b c) [ yes q ↦ rw q here | no q ↦ later q ]
  where
    later : b ≢ c → P b
    later q = let z = same_other b c q in behind b (omega arith)

module _ (bs : List Name) (σ : State) where
  -- the reads of a channel are there
  abbrev Enough : Name → Type 0
  Enough b = occurrences b bs ≤ count σ b

  -- what the test finds among some of the channels
  abbrev Among : List Name → Shortage → Type 0
  Among cs enough = (b : Name) → 0 < occurrences b cs → Enough b
  Among cs (short a k) = (0 < k) × (occurrences a bs ≡ count σ a + k) × ((b : Name) → 0 < occurrences b cs → b < a → Enough b)

  -- a channel that has enough adds nothing
  among_enough : (c : Name) (cs : List Name) (w : Shortage) → Enough c → Among cs w → Among (c ∷ cs) w
  among_enough c cs enough e f = occurs_in Enough c cs e f
  among_enough c cs (short a k) e f = (f.0, f.1, occurs_in (λ b. b < a → Enough b) c cs (λ _. e) f.2)

  -- one that is short is found, or a lower one
  among_short : (c k : ℕ) (cs : List Name) (w : Shortage) → 0 < k → occurrences c bs ≡ count σ c + k → Among cs w →
      Among (c ∷ cs) (lower (short c k) w)
  unfolding lower
  among_short c k cs enough some exact f = (some, exact, occurs_in (λ b. b < c → Enough b) c cs (λ l. absurd (omega arith)) (λ b o l. f b o))
  among_short c k cs (short a m) some exact f = go (leb c a) refl
    where
      go : (b : Bool) → leb c a ≡ b → Among (c ∷ cs) (cond b (short c k) (short a m))
      go true t = let z = leb-true c a t in
          (some, exact, occurs_in (λ b. b < c → Enough b) c cs (λ l. absurd (omega arith)) (λ b o l. f.2 b o (omega arith)))
      go false t = let z = leb-false c a t in
          (f.0, f.1, occurs_in (λ b. b < a → Enough b) c cs (λ l. absurd (omega arith)) f.2)

  among_found : (cs : List Name) → Among cs (lowest (short_in bs σ) cs)
  unfolding lowest short_in occurrences
  among_found [] = λ b o. absurd (omega arith)
  among_found (c ∷ cs) = go (leb (occurrences c bs) (count σ c)) refl (among_found cs)
    where
      rest : Shortage
      rest = lowest (short_in bs σ) cs

      go : (b : Bool) → leb (occurrences c bs) (count σ c) ≡ b → Among cs rest →
          Among (c ∷ cs) (lower (cond b enough (short c (occurrences c bs - count σ c))) rest)
      go true t behind = among_enough c cs rest (leb-true _ _ t) behind
      go false t behind = let z = leb-false (occurrences c bs) (count σ c) t in among_short c _ cs rest (omega arith) (omega arith) behind

  pub shortage_found : Found bs σ (shortage_against bs σ)
  unfolding shortage_against Included
  shortage_found = go (shortage_against bs σ) (among_found bs)
    where
      none : (b : Name) → occurrences b bs ≡ 0 → Enough b
      none b z = omega arith

      all : (b : Name) → (0 < occurrences b bs → Enough b) → Enough b
      all b f = elim (ℕ_discrete (occurrences b bs) 0) [ yes z ↦ none b z | no z ↦ f (omega arith) ]

      go : (w : Shortage) → Among bs w → Found bs σ w
      go enough f = λ b. all b (f b)
      go (short a k) f = record { lacks = f.0; exact = f.1; none_lower = λ b l. all b (λ o. f.2 b o l) }

  -- ---- and nothing else is

  -- two channels that are both the lowest are one, and lack as many
  lowest_alone : {a b k m : ℕ} → LowestShort bs σ a k → LowestShort bs σ b m → short a k ≡ short b m
  lowest_alone {a} {b} {k} {m} x y = elim (ℕ_discrete a b) [ yes q ↦ same q | no q ↦ absurd (other q) ]
    where
      same : a ≡ b → short a k ≡ short b m
      same q =
          let e : occurrences b bs ≡ count σ b + k = rw (← q) x.exact in
          let f = y.exact in
          let z : k ≡ m = omega arith in rw (q, z)

      below : a < b → ⊥
      below l = let e = x.exact in let s = x.lacks in let n = y.none_lower a l in omega arith

      above : b < a → ⊥
      above l = let e = y.exact in let s = y.lacks in let n = x.none_lower b l in omega arith

      other : a ≢ b → ⊥
      other q = go (leb a b) refl
        where
          go : (t : Bool) → leb a b ≡ t → ⊥
          go true t = let z = leb-true a b t in below (omega arith)
          go false t = let z = leb-false a b t in above (omega arith)

  -- where all are there no channel is short
  included_not_short : {a k : ℕ} → Included bs σ → LowestShort bs σ a k → ⊥
  unfolding Included
  included_not_short {a} i x = let e = x.exact in let s = x.lacks in let n = i a in omega arith

  found_alone : (w v : Shortage) → Found bs σ w → Found bs σ v → w ≡ v
  found_alone enough enough f g = refl
  found_alone enough (short b m) f g = absurd (included_not_short f g)
  found_alone (short a k) enough f g = absurd (included_not_short g f)
  found_alone (short a k) (short b m) f g = lowest_alone f g

  -- what is found is what is so
  pub found_is : (w : Shortage) → Found bs σ w → shortage_against bs σ ≡ w
  found_is w f = found_alone (shortage_against bs σ) w shortage_found f

-- ---- the test's first half

pub enough_true : (w : Shortage) → is_enough w ≡ true → w ≡ enough
unfolding is_enough
enough_true enough e = refl
enough_true (short a k) e = absurd (true≢false (sym e))
