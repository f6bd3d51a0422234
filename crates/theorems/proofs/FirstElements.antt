-- The first element that passes a test: in two lists, and in a list that grows by a block for each number.
-- Assumes nothing.
use Prim.Native.Nat.{ℕ, zero, suc, ◌+◌, ◌≤◌, ◌<◌}
use native.Mathlib.Omega.{arith}
use native.Mathlib.Decide.{ℕ_discrete}
use mathlib.Core.Path.{◌≡◌, refl, sym, ap, ◌∙◌}
use mathlib.Core.Bool.{Bool, true, false, cond}
use mathlib.Core.Option.{Option, none, some}
use mathlib.Core.List.{List, [], ◌∷◌, ◌++◌, map, flatten, append_assoc, append-nil, map-append}
use Rattle.semantics.specs.Definitions.Basics.{count_up, first_of}

-- ---- a list that grows: the whole for n has a block for each number below n

pub record Growing {ℓ} {A : Type ℓ} (whole block : ℕ → List A) : Type ℓ where
  pub empty : whole 0 ≡ []
  pub grows : (n : ℕ) → whole (suc n) ≡ whole n ++ block n

-- numbers in a row, with one more; m is the last
count_grows : (k n m : ℕ) → m ≡ k + n → count_up k (suc n) ≡ count_up k n ++ (m ∷ [])
unfolding count_up
count_grows k zero m e = let z : k ≡ m = omega arith in ap (λ i. i ∷ []) z
count_grows k (suc n) m e = ap (◌∷◌ k) (count_grows (suc k) n m (omega arith))

module _ {ℓ} {A : Type ℓ} where
  flatten_append : (xs ys : List (List A)) → flatten (xs ++ ys) ≡ flatten xs ++ flatten ys
  unfolding flatten
  flatten_append [] ys = refl
  flatten_append (x ∷ xs) ys = ap (◌++◌ x) (flatten_append xs ys) ∙ sym (append_assoc x (flatten xs) (flatten ys))

  -- with blocks of one element, and with any
  pub mapped_grows : (f : ℕ → A) → Growing (λ n. map f (count_up 0 n)) (λ n. f n ∷ [])
  unfolding count_up
  mapped_grows f = record {
    empty = refl;
    grows = λ n. ap (map f) (count_grows 0 n n (omega arith)) ∙ map-append f (count_up 0 n) (n ∷ []);
  }

  pub blocks_grow : (block : ℕ → List A) → Growing (λ n. flatten (map block (count_up 0 n))) block
  unfolding count_up flatten
  blocks_grow block = record {
    empty = refl;
    grows =
        λ n. ap (λ ns. flatten (map block ns)) (count_grows 0 n n (omega arith))
        ∙ ap flatten (map-append block (count_up 0 n) (n ∷ []))
        ∙ flatten_append (map block (count_up 0 n)) (block n ∷ [])
        ∙ ap (◌++◌ (flatten (map block (count_up 0 n)))) (append-nil (block n));
  }

-- ---- the first

module _ {ℓ} {A : Type ℓ} where
  -- the first of two that has a value
  unfoldable pub first_some : Option A → Option A → Option A
  first_some none y = y
  first_some (some x) y = some x

  pub first_alone : (x : Option A) → first_some x none ≡ x
  unfolding first_some
  first_alone none = refl
  first_alone (some x) = refl

module _ {ℓ} {A : Type ℓ} (passes : A → Bool) where
  -- in two lists
  pub first_of_both : (xs ys : List A) → first_of passes (xs ++ ys) ≡ first_some (first_of passes xs) (first_of passes ys)
  unfolding first_of first_some
  first_of_both [] ys = refl
  first_of_both (x ∷ xs) ys = go (passes x) (first_of_both xs ys)
    where
      go : (b : Bool) → first_of passes (xs ++ ys) ≡ first_some (first_of passes xs) (first_of passes ys) →
          cond b (some x) (first_of passes (xs ++ ys)) ≡ first_some (cond b (some x) (first_of passes xs)) (first_of passes ys)
      go true e = refl
      go false e = e

  -- the first of one element
  pub passes_alone : (x : A) → passes x ≡ true → first_of passes (x ∷ []) ≡ some x
  unfolding first_of
  passes_alone x e = rw e refl

  pub fails_alone : (x : A) → passes x ≡ false → first_of passes (x ∷ []) ≡ none
  unfolding first_of
  fails_alone x e = rw e refl

  -- and back
  pub alone_passes : (x : A) {y : A} → first_of passes (x ∷ []) ≡ some y → (passes x ≡ true) × (x ≡ y)
  unfolding first_of
  alone_passes x {y} q = go (passes x) refl q
    where
      go : (b : Bool) → passes x ≡ b → cond b (some x) none ≡ some y → (passes x ≡ true) × (x ≡ y)
      go true z q = (z, cc)
      go false z q = absurd (let z : ◌≡◌ {A = ℕ} 0 1 = cc in omega arith)

  pub alone_fails : (x : A) → first_of passes (x ∷ []) ≡ none → passes x ≡ false
  unfolding first_of
  alone_fails x q = go (passes x) refl q
    where
      go : (b : Bool) → passes x ≡ b → cond b (some x) none ≡ none → passes x ≡ false
      go true z q = absurd (let z : ◌≡◌ {A = ℕ} 0 1 = cc in omega arith)
      go false z q = z

  -- in a list that grows
  module _ {whole block : ℕ → List A} (g : Growing whole block) where
    first_grown : (n : ℕ) → first_of passes (whole (suc n)) ≡ first_some (first_of passes (whole n)) (first_of passes (block n))
    first_grown n = ap (first_of passes) (g.grows n) ∙ first_of_both (whole n) (block n)

    pub none_yet : first_of passes (whole 0) ≡ none
    unfolding first_of
    none_yet = rw g.empty refl

    -- where none was found so far, the next block decides
    pub next_decides : (n : ℕ) (o : Option A) → first_of passes (whole n) ≡ none → first_of passes (block n) ≡ o →
        first_of passes (whole (suc n)) ≡ o
    unfolding first_some
    next_decides n o e f = first_grown n ∙ rw (e, f) refl

    -- what was found stays found
    pub found_kept : (n m : ℕ) (x : A) → n ≤ m → first_of passes (whole n) ≡ some x → first_of passes (whole m) ≡ some x
    unfolding first_some
    found_kept n zero x l e = let z : n ≡ 0 = omega arith in rw z at e
    found_kept n (suc m) x l e =
        elim (ℕ_discrete n (suc m)) [
          | yes z ↦ rw z at e
          | no z ↦ first_grown m ∙ rw (found_kept n m x (omega arith) e) refl
        ]

    -- what the next block has, where none was found so far, is found from there on
    pub next_found : (n m : ℕ) (x : A) → n < m → first_of passes (whole n) ≡ none → first_of passes (block n) ≡ some x →
        first_of passes (whole m) ≡ some x
    next_found n m x l e f = found_kept (suc n) m x (omega arith) (next_decides n (some x) e f)

    -- where none was found so far, and none is in the blocks from there on, none is found
    pub none_kept : (n m : ℕ) → n ≤ m → first_of passes (whole n) ≡ none →
        ((i : ℕ) → n ≤ i → i < m → first_of passes (block i) ≡ none) → first_of passes (whole m) ≡ none
    none_kept n zero l e f = none_yet
    none_kept n (suc m) l e f =
        elim (ℕ_discrete n (suc m)) [
          | yes z ↦ rw z at e
          | no z ↦ next_decides m none (none_kept n m (omega arith) e (λ i k b. f i k (omega arith))) (f m (omega arith) (omega arith))
        ]

    -- none in any block
    pub none_below : (n : ℕ) → ((i : ℕ) → i < n → first_of passes (block i) ≡ none) → first_of passes (whole n) ≡ none
    none_below n f = none_kept 0 n (omega arith) none_yet (λ i k l. f i l)

    -- and back
    pub none_in : (n : ℕ) → first_of passes (whole n) ≡ none → (i : ℕ) → i < n → first_of passes (block i) ≡ none
    unfolding first_some
    none_in zero e i l = absurd (omega arith)
    none_in (suc n) e i l = go (first_of passes (whole n)) refl (sym (first_grown n) ∙ e) (λ d. none_in n d i)
      where
        go : (o : Option A) → first_of passes (whole n) ≡ o → first_some o (first_of passes (block n)) ≡ none →
            (first_of passes (whole n) ≡ none → i < n → first_of passes (block i) ≡ none) → first_of passes (block i) ≡ none
        go none d f rest = elim (ℕ_discrete i n) [ yes z ↦ rw z f | no z ↦ rest d (omega arith) ]
        go (some y) d f rest = absurd (let z : ◌≡◌ {A = ℕ} 0 1 = cc in omega arith)

    -- the first block that has one decides
    pub first_block : (n k : ℕ) (x : A) → k < n → ((i : ℕ) → i < k → first_of passes (block i) ≡ none) →
        first_of passes (block k) ≡ some x → first_of passes (whole n) ≡ some x
    first_block n k x l f e = next_found k n x l (none_below k f) e

    -- and back
    abbrev pub FoundBelow : ℕ → A → Type ℓ
    FoundBelow n x =
        (k : ℕ) × (k < n) × (first_of passes (block k) ≡ some x) × ((i : ℕ) → i < k → first_of passes (block i) ≡ none)

    pub found_in : (n : ℕ) (x : A) → first_of passes (whole n) ≡ some x → FoundBelow n x
    unfolding first_some
    found_in zero x e = absurd (let y = none_yet in let z : ◌≡◌ {A = ℕ} 0 1 = cc in omega arith)
    found_in (suc n) x e = go (first_of passes (whole n)) refl (sym (first_grown n) ∙ e) (found_in n x)
      where
        go : (o : Option A) → first_of passes (whole n) ≡ o → first_some o (first_of passes (block n)) ≡ some x →
            (first_of passes (whole n) ≡ some x → FoundBelow n x) → FoundBelow (suc n) x
        go none d f rest = (n, omega arith, f, none_in n d)
        go (some y) d f rest = let (k, l, here, none_before) = rest (d ∙ f) in (k, omega arith, here, none_before)
