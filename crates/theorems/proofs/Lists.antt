-- Small laws of lists: the element at a position, replacing one element by several, and a property of every element.
-- Assumes nothing.
use Prim.Native.Nat.{ℕ, zero, suc, ◌+◌, ◌≤◌, ◌<◌}
use native.Mathlib.Nat.{le_of_suc-le-suc, not-suc-le-zero, zero-add, suc-add}
use native.Mathlib.Omega.{arith}
use mathlib.Core.Path.{◌≡◌, refl, sym, ap, ap₂, ◌∙◌}
use mathlib.Core.Logic.{◌⊎◌, inl, inr}
use mathlib.Core.Option
use mathlib.Core.Option.{none, some}
use mathlib.Core.List.{List, [], ◌∷◌, ◌++◌, map, append_assoc, map-append}
use lib.ListN.{length, get_or, drop, set, replicate, get_elem?, length-append}
use Rattle.semantics.specs.Definitions.Basics.{replace_at, All}

-- ---- the element at a position

module _ {ℓ} {A : Type ℓ} where
  -- no element stands in the empty list
  pub none_found : (p : ℕ) (x : A) → get_elem? [] p ≡ some x → ⊥
  none_found p x e = let z : ◌≡◌ {A = ℕ} 0 1 = cc in omega arith

  -- a position with an element lies below the length
  pub found_below : (xs : List A) (p : ℕ) (x : A) → get_elem? xs p ≡ some x → p < length xs
  found_below [] p x e = absurd (none_found p x e)
  found_below (y ∷ ys) zero x e = omega arith
  found_below (y ∷ ys) (suc p) x e = let h = found_below ys p x e in omega arith

  -- below the length there is an element
  pub found_at : (xs : List A) (p : ℕ) → p < length xs → (x : A) × (get_elem? xs p ≡ some x)
  found_at [] p h = absurd (not-suc-le-zero h)
  found_at (y ∷ ys) zero h = (y, refl)
  found_at (y ∷ ys) (suc p) h = found_at ys p (le_of_suc-le-suc h)

  -- where there is none, the position is past them
  pub none_past : (xs : List A) (p : ℕ) → get_elem? xs p ≡ none → length xs ≤ p
  none_past [] p e = omega arith
  none_past (x ∷ xs) zero e = absurd (let z : ◌≡◌ {A = ℕ} 0 1 = cc in omega arith)
  none_past (x ∷ xs) (suc p) e = let h = none_past xs p e in omega arith

  -- the element at a position of the first of two lists
  pub found_left : (xs ys : List A) (p : ℕ) → p < length xs → get_elem? (xs ++ ys) p ≡ get_elem? xs p
  found_left [] ys p h = absurd (not-suc-le-zero h)
  found_left (x ∷ xs) ys zero h = refl
  found_left (x ∷ xs) ys (suc p) h = found_left xs ys p (le_of_suc-le-suc h)

  -- and of the second
  pub found_right : (xs ys : List A) (p : ℕ) → get_elem? (xs ++ ys) (length xs + p) ≡ get_elem? ys p
  found_right [] ys p = rw zero-add
  found_right (x ∷ xs) ys p = rw suc-add (found_right xs ys p)

  -- it stays where more elements follow
  pub found_stays : (xs ys : List A) (p : ℕ) (x : A) → get_elem? xs p ≡ some x → get_elem? (xs ++ ys) p ≡ some x
  found_stays xs ys p x e = found_left xs ys p (found_below xs p x e) ∙ e

  -- an element of a list with one more behind it is one of the list or that one
  pub found_snoc : (xs : List A) (y : A) (p : ℕ) (x : A) → get_elem? (xs ++ (y ∷ [])) p ≡ some x → (get_elem? xs p ≡ some x) ⊎ ((length xs ≡ p) × (y ≡ x))
  found_snoc [] y zero x e = inr (refl, cc)
  found_snoc [] y (suc p) x e = absurd (none_found p x e)
  found_snoc (z ∷ xs) y zero x e = inl e
  found_snoc (z ∷ xs) y (suc p) x e = elim (found_snoc xs y p x e) [ inl h ↦ inl h | inr h ↦ inr (ap suc h.0, h.1) ]

  -- the element at a position, where a default stands in for none
  pub found_get_d : (xs : List A) (p : ℕ) (x d : A) → get_elem? xs p ≡ some x → get_or xs p d ≡ x
  found_get_d [] p x d e = absurd (none_found p x e)
  found_get_d (y ∷ ys) zero x d e = cc
  found_get_d (y ∷ ys) (suc p) x d e = found_get_d ys p x d e

-- the element of a list's image
pub found_map {ℓ κ} : {A : Type ℓ} {B : Type κ} (f : A → B) (xs : List A) (p : ℕ) (x : A) → get_elem? xs p ≡ some x → get_elem? (map f xs) p ≡ some (f x)
found_map f [] p x e = absurd (none_found p x e)
found_map f (y ∷ ys) zero x e = cc
found_map f (y ∷ ys) (suc p) x e = found_map f ys p x e

-- whether or not there is one
pub found_map? {ℓ κ} : {A : Type ℓ} {B : Type κ} (f : A → B) (xs : List A) (p : ℕ) → get_elem? (map f xs) p ≡ Option.map f (get_elem? xs p)
found_map? f [] p = refl
found_map? f (x ∷ xs) zero = refl
found_map? f (x ∷ xs) (suc p) = found_map? f xs p

-- and back: where an image has an element there, the list has one that it comes from
pub found_back {ℓ κ} : {A : Type ℓ} {B : Type κ} (f : A → B) (xs : List A) (p : ℕ) (y : B) → get_elem? (map f xs) p ≡ some y →
    (x : A) × (get_elem? xs p ≡ some x) × (f x ≡ y)
found_back f [] p y e = absurd (none_found p y e)
found_back f (x ∷ xs) zero y e = (x, refl, cc)
found_back f (x ∷ xs) (suc p) y e = found_back f xs p y e

-- two functions that agree have the same images
pub map_agree {ℓ κ} : {A : Type ℓ} {B : Type κ} (f g : A → B) → ((x : A) → f x ≡ g x) → (xs : List A) → map f xs ≡ map g xs
map_agree f g h [] = refl
map_agree f g h (x ∷ xs) = ap₂ ◌∷◌ (h x) (map_agree f g h xs)

-- ---- one element gives way to several

module _ {ℓ} {A : Type ℓ} where
  -- in the first of two lists
  pub replace_at_left : (xs ys zs : List A) (p : ℕ) → p < length xs → replace_at p zs (xs ++ ys) ≡ replace_at p zs xs ++ ys
  unfolding replace_at
  replace_at_left [] ys zs p h = absurd (not-suc-le-zero h)
  replace_at_left (x ∷ xs) ys zs zero h = sym (append_assoc zs xs ys)
  replace_at_left (x ∷ xs) ys zs (suc p) h = ap (◌∷◌ x) (replace_at_left xs ys zs p (le_of_suc-le-suc h))

  -- and in the second
  pub replace_at_right : (xs ys zs : List A) (p : ℕ) → replace_at (length xs + p) zs (xs ++ ys) ≡ xs ++ replace_at p zs ys
  unfolding replace_at
  replace_at_right [] ys zs p = rw zero-add
  replace_at_right (x ∷ xs) ys zs p = rw suc-add (ap (◌∷◌ x) (replace_at_right xs ys zs p))

  -- one element goes, those laid down come
  pub length_replace_at : (xs ys : List A) (p : ℕ) → p < length xs → suc (length (replace_at p ys xs)) ≡ length ys + length xs
  unfolding replace_at
  length_replace_at [] ys p h = absurd (not-suc-le-zero h)
  length_replace_at (x ∷ xs) ys zero h = let l = length-append ys xs in omega arith
  length_replace_at (x ∷ xs) ys (suc p) h = let l = length_replace_at xs ys p (le_of_suc-le-suc h) in omega arith

  -- what stands before it stays
  pub replaced_left : (p q : ℕ) (ys xs : List A) → q < p → get_elem? (replace_at p ys xs) q ≡ get_elem? xs q
  unfolding replace_at
  replaced_left p q ys [] h = refl
  replaced_left zero q ys (x ∷ xs) h = absurd (omega arith)
  replaced_left (suc p) zero ys (x ∷ xs) h = refl
  replaced_left (suc p) (suc q) ys (x ∷ xs) h = replaced_left p q ys xs (omega arith)

  -- in its place stand the others
  pub replaced_here : (p q j : ℕ) (ys xs : List A) → p < length xs → q ≡ p + j → j < length ys → get_elem? (replace_at p ys xs) q ≡ get_elem? ys j
  unfolding replace_at
  replaced_here p q j ys [] e h g = absurd (omega arith)
  replaced_here zero q j ys (y ∷ xs) e h g = let z : q ≡ j = omega arith in rw z (found_left ys xs j g)
  replaced_here (suc p) zero j ys (y ∷ xs) e h g = absurd (omega arith)
  replaced_here (suc p) (suc q) j ys (y ∷ xs) e h g = replaced_here p q j ys xs (omega arith) (omega arith) g

  -- what stands behind it is moved
  pub replaced_right : (p q i : ℕ) (ys xs : List A) → p < length xs → p + length ys ≤ q → i + length ys ≡ suc q →
      get_elem? (replace_at p ys xs) q ≡ get_elem? xs i
  unfolding replace_at
  replaced_right p q i ys [] e h g = absurd (omega arith)
  replaced_right zero q zero ys (y ∷ xs) e h g = absurd (omega arith)
  replaced_right zero q (suc i) ys (y ∷ xs) e h g = let z : q ≡ length ys + i = omega arith in rw z (found_right ys xs i)
  replaced_right (suc p) zero i ys (y ∷ xs) e h g = absurd (omega arith)
  replaced_right (suc p) (suc q) zero ys (y ∷ xs) e h g = absurd (omega arith)
  replaced_right (suc p) (suc q) (suc i) ys (y ∷ xs) e h g = replaced_right p q i ys xs (omega arith) (omega arith) (omega arith)

  -- an element replaced by itself
  pub replace_at_same : (xs : List A) (p : ℕ) (x : A) → get_elem? xs p ≡ some x → replace_at p (x ∷ []) xs ≡ xs
  unfolding replace_at
  replace_at_same [] p x e = refl
  replace_at_same (y ∷ ys) zero x e = let k : y ≡ x = cc in rw k
  replace_at_same (y ∷ ys) (suc p) x e = ap (◌∷◌ y) (replace_at_same ys p x e)

  -- of two replacements at one position the second counts
  pub replace_at_twice : (xs ys : List A) (p : ℕ) (x : A) → replace_at p ys (replace_at p (x ∷ []) xs) ≡ replace_at p ys xs
  unfolding replace_at
  replace_at_twice [] ys p x = refl
  replace_at_twice (z ∷ zs) ys zero x = refl
  replace_at_twice (z ∷ zs) ys (suc p) x = ap (◌∷◌ z) (replace_at_twice zs ys p x)

-- a list's image after a replacement
pub map_replace_at {ℓ κ} : {A : Type ℓ} {B : Type κ} (f : A → B) (xs ys : List A) (p : ℕ) → map f (replace_at p ys xs) ≡ replace_at p (map f ys) (map f xs)
unfolding replace_at
map_replace_at f [] ys p = refl
map_replace_at f (x ∷ xs) ys zero = map-append f ys xs
map_replace_at f (x ∷ xs) ys (suc p) = ap (◌∷◌ (f x)) (map_replace_at f xs ys p)

-- ---- a property of every element

module _ {ℓ} {A : Type ℓ} (P : A → Type 0) where
  -- of two lists
  pub all_append : (xs ys : List A) → All P xs → All P ys → All P (xs ++ ys)
  all_append [] ys h k = k
  all_append (x ∷ xs) ys h k = (h.0, all_append xs ys h.1 k)

  -- and back
  pub all_left : (xs ys : List A) → All P (xs ++ ys) → All P xs
  all_left [] ys h = tt
  all_left (x ∷ xs) ys h = (h.0, all_left xs ys h.1)

  pub all_right : (xs ys : List A) → All P (xs ++ ys) → All P ys
  all_right [] ys h = h
  all_right (x ∷ xs) ys h = all_right xs ys h.1

  -- of what is left of a list
  pub all_drop : (n : ℕ) (xs : List A) → All P xs → All P (drop n xs)
  all_drop zero xs h = h
  all_drop (suc n) [] h = h
  all_drop (suc n) (x ∷ xs) h = all_drop n xs h.1

  -- of one element again and again
  pub all_replicate : (n : ℕ) (x : A) → P x → All P (replicate n x)
  all_replicate zero x h = tt
  all_replicate (suc n) x h = (h, all_replicate n x h)

  -- a property that everything has
  pub all_every : ((x : A) → P x) → (xs : List A) → All P xs
  all_every h [] = tt
  all_every h (x ∷ xs) = (h x, all_every h xs)

  -- of the element at a position
  pub all_at : (xs : List A) (p : ℕ) (x : A) → All P xs → get_elem? xs p ≡ some x → P x
  all_at [] p x h e = absurd (none_found p x e)
  all_at (y ∷ ys) zero x h e = let same : y ≡ x = cc in rw (← same) h.0
  all_at (y ∷ ys) (suc p) x h e = all_at ys p x h.1 e

  -- it is kept where what is laid down has it
  pub all_replace_at : (xs ys : List A) (p : ℕ) → All P xs → All P ys → All P (replace_at p ys xs)
  unfolding replace_at
  all_replace_at [] ys p h k = tt
  all_replace_at (x ∷ xs) ys zero h k = all_append ys xs k h.1
  all_replace_at (x ∷ xs) ys (suc p) h k = (h.0, all_replace_at xs ys p h.1 k)

  -- and where one element is set
  pub all_set : (xs : List A) (i : ℕ) (x : A) → All P xs → P x → All P (set xs i x)
  all_set [] i x h k = tt
  all_set (y ∷ ys) zero x h k = (k, h.1)
  all_set (y ∷ ys) (suc i) x h k = (h.0, all_set ys i x h.1 k)

  -- an element, or the default that stands in for none
  pub all_get_d : (xs : List A) (i : ℕ) (d : A) → All P xs → P d → P (get_or xs i d)
  all_get_d [] i d h k = k
  all_get_d (y ∷ ys) zero d h k = h.0
  all_get_d (y ∷ ys) (suc i) d h k = all_get_d ys i d h.1 k

-- of one property another follows
pub all_weaken {ℓ} : {A : Type ℓ} (P Q : A → Type 0) → ((x : A) → P x → Q x) → (xs : List A) → All P xs → All Q xs
all_weaken P Q f [] h = tt
all_weaken P Q f (x ∷ xs) h = (f x h.0, all_weaken P Q f xs h.1)

-- a property of every image
pub all_map {ℓ κ} : {A : Type ℓ} {B : Type κ} (f : A → B) (P : B → Type 0) (xs : List A) → All (λ x. P (f x)) xs → All P (map f xs)
all_map f P [] h = tt
all_map f P (x ∷ xs) h = (h.0, all_map f P xs h.1)
