-- What the small functions make of bytes.
-- Assumes nothing.
use Prim.Native.Nat.{ℕ, suc, ◌+◌, ◌-◌, ◌≤◌}
use native.Mathlib.Omega.{arith}
use mathlib.Core.Path.{◌≡◌, refl, sym, ap, ◌∙◌}
use mathlib.Core.List.{List, [], ◌∷◌, ◌++◌, append-nil}
use lib.ListN.{length, take, drop, set, replicate, length-append, length-drop, length-set}
use lib.Seq.{length-take-le, take_all, take_at, drop_at, set-append_left}
use Rattle.buffer.specs.Splice.{written}
use Rattle.table_terms.specs.Decoded.{first_at, second_at}
use Rattle.hall_layout.specs.Layout.{leaf_size, leaf_term, leaf_log_length, leaf_log, fork_kind, fork_size}
use Rattle.hall_held.specs.Holds.{CanReplacePart, ReplacedPart}
use Rattle.move_inside.specs.LeafBytes.{term_at, size_at, logged, fork_bytes, left_size}

-- ---- ARDOK and AWR

pub next_is : (d s : List ℕ) (at t next : ℕ) → t ≡ term_at s at → next ≡ second_at d t → next ≡ second_at d (term_at s at)
next_is d s at t next term second = second ∙ rw term

pub logged_is : (d s : List ℕ) (at next action w : ℕ) → next ≡ second_at d (term_at s at) → w ≡ size_at s at →
    set (set (set s (at + leaf_term) next) (at + leaf_log_length) (size_at s at + 1)) (at + leaf_log + w) action
    ≡ logged d s at action
unfolding logged
logged_is d s at next action w second size =
    let z : at + leaf_log + w ≡ at + (leaf_log + size_at s at) = omega arith in rw (second, z)

-- ---- copies

-- a leaf's bytes that are there
pub leaf_taken : (s : List ℕ) (at : ℕ) → at + leaf_size ≤ length s → length (take leaf_size (drop at s)) ≡ leaf_size
leaf_taken s at l = let d = length-drop at s in length-take-le leaf_size (drop at s) (omega arith)

pub leaf_copied : (s new : List ℕ) (at : ℕ) → at + leaf_size ≤ length s →
    new ≡ written (replicate leaf_size 0) 0 (take (at + leaf_size - at) (drop at s))
    (length (take (at + leaf_size - at) (drop at s))) →
    new ≡ take leaf_size (drop at s)
unfolding written
leaf_copied s new at l e =
    let z : at + leaf_size - at ≡ leaf_size = omega arith in
    let n = leaf_taken s at l in
    let v = take leaf_size (drop at s) in
    e ∙ rw (z, n, take_all leaf_size v (omega arith)) (append-nil v)

-- a store behind a seam
store_right : (xs ys : List ℕ) (i k b : ℕ) → k ≡ length xs + i → set (xs ++ ys) k b ≡ xs ++ set ys i b
store_right [] ys i k b e = let z : k ≡ i = omega arith in rw z
store_right (x ∷ xs) ys i k b e =
    let z : k ≡ suc (length xs + i) = omega arith in rw z (ap (λ l. x ∷ l) (store_right xs ys i (length xs + i) b refl))

-- a leaf twice behind a byte
twice : (v a b : List ℕ) → length v ≡ leaf_size → b ≡ written a left_size v (length v) →
    a ≡ written (replicate 39 0) fork_size v (length v) → b ≡ (0 ∷ v) ++ v
unfolding written
twice v a b n y x =
    let all : take leaf_size v ≡ v = take_all leaf_size v (omega arith) in
    let one : a ≡ (0 ∷ v) ++ replicate leaf_size 0 = x ∙ rw (n, all) in
    let size = length-append (0 ∷ v) (replicate leaf_size 0) in
    let long : length a ≡ 39 = rw one (omega arith) in
    let half : take left_size a ≡ 0 ∷ v = rw one (take_at (0 ∷ v) (replicate leaf_size 0) left_size (omega arith)) in
    let none : drop 39 a ≡ [] = ap (drop 39) (sym (append-nil a)) ∙ drop_at a [] 39 long in
    y ∙ rw (n, all, half, none) (append-nil ((0 ∷ v) ++ v))

-- each with a term of its own, behind a fork's
pub split_made : (d s v a b : List ℕ) (at t f g : ℕ) → b ≡ written a left_size v (length v) →
    a ≡ written (replicate 39 0) fork_size v (length v) → v ≡ take (at + leaf_size - at) (drop at s) → f ≡ first_at d t →
    g ≡ second_at d t → t ≡ term_at s at → at + leaf_size ≤ length s →
    set (set (set b 0 fork_kind) (fork_size + leaf_term) f) (left_size + leaf_term) g ≡ fork_bytes d s at
unfolding fork_bytes
split_made d s v a b at t f g y x p first second term i =
    let z : at + leaf_size - at ≡ leaf_size = omega arith in
    let leaf : v ≡ take leaf_size (drop at s) = p ∙ rw z in
    let n : length v ≡ leaf_size = ap length leaf ∙ leaf_taken s at i in
    let m = length-set v leaf_term f in
    let left : set (v ++ v) leaf_term f ≡ set v leaf_term f ++ v = set-append_left v v leaf_term f (omega arith) in
    let right : set (set v leaf_term f ++ v) left_size g ≡ set v leaf_term f ++ set v leaf_term g =
    store_right (set v leaf_term f) v leaf_term left_size g (omega arith) in
    rw (twice v a b n y x) (ap (λ l. fork_kind ∷ l) (rw (left, right, leaf, first, second, term)))

-- ---- AOI and AOE: a part that gives way

module _ (s starts : List ℕ) (n p from end to : ℕ) (new bytes : List ℕ) (made : new ≡ bytes) (ends : end ≡ to) where
  pub part_can : CanReplacePart s starts n p from to bytes → CanReplacePart s starts n p from end new
  part_can x = rw (made, ends) x

  pub part_does : (s' starts' : List ℕ) → ReplacedPart s starts n p from end new s' starts' →
      ReplacedPart s starts n p from to bytes s' starts'
  part_does s' starts' x = rw (made, ends) at x
