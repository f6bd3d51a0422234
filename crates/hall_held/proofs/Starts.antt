-- The loops over the index, a turn at a time, and the index after all of them.
-- Assumes nothing.
use Prim.Native.Nat.{ℕ, ◌+◌, ◌*◌, ◌-◌, ◌≤◌, ◌<◌}
use native.Mathlib.Omega.{arith}
use mathlib.Core.Path.{◌≡◌, refl, ◌∙◌}
use mathlib.Core.Bool.{Bool, true, false}
use mathlib.Core.List.{List}
use lib.ListN.{length, get_or, set, length-set}
use lib.Seq.{get_or-set_same, get_or-set_other}
use lib.Dec.{ltb}
use borrow.Author.Tests.{ltb-true, ltb-false}
use mir.Syntax.{w64}
use mir.Val.{Fits}
use Rattle.hall_layout.specs.Layout.{idle_size, index_size}
use Rattle.hall_held.specs.Starts.{StartsSet, moved, spaced, CanMoveStarts, CanSpaceStarts, CanRenumber, Renumbered}

-- ---- a loop

-- before the first turn
pub starts_set_none : (old : List ℕ) (at k : ℕ) (f : ℕ → ℕ) → StartsSet old at k k f old
starts_set_none old at k f = record { sized = refl; inside = λ i l m. absurd (omega arith); before = λ i l. refl; behind = λ i l. refl }

module _ (old : List ℕ) (at lo hi : ℕ) (f : ℕ → ℕ) (new : List ℕ) (x : StartsSet old at lo hi f new) where
  -- a value behind those entered
  pub starts_set_next : (v : ℕ) → v ≡ f hi → lo ≤ hi → at + hi < length old → StartsSet old at lo (hi + 1) f (set new (at + hi) v)
  starts_set_next v e l m = record {
    sized = length-set new (at + hi) v ∙ x.sized;
    inside = λ k a b. go k a b (ltb k hi) refl;
    before = λ i a. get_or-set_other new (at + hi) i v 0 (λ z. omega arith) ∙ x.before i a;
    behind = λ i a. get_or-set_other new (at + hi) i v 0 (λ z. omega arith) ∙ x.behind i (omega arith);
  }
    where
      go : (k : ℕ) → lo ≤ k → k < hi + 1 → (b : Bool) → ltb k hi ≡ b → get_or (set new (at + hi) v) (at + k) 0 ≡ f k
      go k a b true t = let o = ltb-true k hi t in get_or-set_other new (at + hi) (at + k) v 0 (λ z. omega arith) ∙ x.inside k a o
      go k a b false t =
          let o = ltb-false k hi t in
          let z : k ≡ hi = omega arith in
          let s = x.sized in rw z (get_or-set_same new (at + hi) v 0 (omega arith) ∙ e)

  -- a value before them
  pub starts_set_previous : (v : ℕ) → v ≡ f (lo - 1) → 0 < lo → lo ≤ hi → at + hi ≤ length old →
      StartsSet old at (lo - 1) hi f (set new (at + (lo - 1)) v)
  starts_set_previous v e l m o = record {
    sized = length-set new (at + (lo - 1)) v ∙ x.sized;
    inside = λ k a b. go k a b (ltb k lo) refl;
    before = λ i a. get_or-set_other new (at + (lo - 1)) i v 0 (λ z. omega arith) ∙ x.before i (omega arith);
    behind = λ i a. get_or-set_other new (at + (lo - 1)) i v 0 (λ z. omega arith) ∙ x.behind i a;
  }
    where
      go : (k : ℕ) → lo - 1 ≤ k → k < hi → (b : Bool) → ltb k lo ≡ b → get_or (set new (at + (lo - 1)) v) (at + k) 0 ≡ f k
      go k a b true t =
          let q = ltb-true k lo t in
          let z : k ≡ lo - 1 = omega arith in
          let s = x.sized in rw z (get_or-set_same new (at + (lo - 1)) v 0 (omega arith) ∙ e)
      go k a b false t = let q = ltb-false k lo t in get_or-set_other new (at + (lo - 1)) (at + k) v 0 (λ z. omega arith) ∙ x.inside k q b

-- ---- entries that move

-- one that still stands where it stood
module _ (old new : List ℕ) (from n less more : ℕ) (x : CanMoveStarts old from n less more) (k : ℕ) (l : k < n)
    (same : get_or new (from + k) 0 ≡ get_or old (from + k) 0) where
  above : less ≤ get_or new (from + k) 0
  above = let a = x.above k l in omega arith

  fits : Fits w64 (get_or new (from + k) 0 - less + more)
  fits = let b = x.below k l in record { fits = rw same (omega arith) }

  value : get_or new (from + k) 0 - less + more ≡ moved old from less more k
  value = rw same

-- to a lower place, or in place: those from i on still stand
module _ (old new : List ℕ) (from to i n less more : ℕ) (x : StartsSet old to 0 i (moved old from less more) new)
    (m : CanMoveStarts old from n less more) (o : to ≤ from) (l : i < n) where
  pub lower_above : less ≤ get_or new (from + i) 0
  lower_above = above old new from n less more m i l (x.behind (from + i) (omega arith))

  pub lower_fits : Fits w64 (get_or new (from + i) 0 - less + more)
  lower_fits = fits old new from n less more m i l (x.behind (from + i) (omega arith))

  pub lower_turn : StartsSet old to 0 (i + 1) (moved old from less more) (set new (to + i) (get_or new (from + i) 0 - less + more))
  lower_turn =
      let a = m.inside in
      let s = m.sized in
      starts_set_next old to 0 i (moved old from less more) new x _
      (value old new from n less more m i l (x.behind (from + i) (omega arith))) (omega arith) (omega arith)

-- to a higher place: those before number `left` still stand
module _ (old new : List ℕ) (from to left n less more : ℕ) (x : StartsSet old to left n (moved old from less more) new)
    (m : CanMoveStarts old from n less more) (o : from ≤ to) (room : to + n ≤ index_size) (l : left ≤ n) (some : 0 < left) where
  pub raise_above : less ≤ get_or new (from + (left - 1)) 0
  raise_above = above old new from n less more m (left - 1) (omega arith) (x.before (from + (left - 1)) (omega arith))

  pub raise_fits : Fits w64 (get_or new (from + (left - 1)) 0 - less + more)
  raise_fits = fits old new from n less more m (left - 1) (omega arith) (x.before (from + (left - 1)) (omega arith))

  pub raise_turn : StartsSet old to (left - 1) n (moved old from less more)
      (set new (to + (left - 1)) (get_or new (from + (left - 1)) 0 - less + more))
  raise_turn =
      let s = m.sized in
      starts_set_previous old to left n (moved old from less more) new x _
      (value old new from n less more m (left - 1) (omega arith) (x.before (from + (left - 1)) (omega arith))) some l (omega arith)

-- ---- idle components that follow one another

pub space_turn : (old new : List ℕ) (first i n : ℕ) → StartsSet old first 1 i (spaced (get_or old first 0)) new →
    CanSpaceStarts old first n → 1 ≤ i → i < n →
    StartsSet old first 1 (i + 1) (spaced (get_or old first 0)) (set new (first + i) (get_or old first 0 + idle_size * i))
space_turn old new first i n x s l m =
    let z = s.sized in
    let o = s.inside in starts_set_next old first 1 i (spaced (get_or old first 0)) new x _ refl l (omega arith)

-- ---- after the last turn

pub starts_set_up : (old : List ℕ) (at lo i n : ℕ) (f : ℕ → ℕ) (new : List ℕ) → StartsSet old at lo i f new → i ≤ n → n ≤ i →
    StartsSet old at lo n f new
starts_set_up old at lo i n f new x l m = let z : i ≡ n = omega arith in rw z at x

pub starts_set_down : (old : List ℕ) (at left n : ℕ) (f : ℕ → ℕ) (new : List ℕ) → StartsSet old at left n f new → left ≤ 0 →
    StartsSet old at 0 n f new
starts_set_down old at left n f new x l = let z : left ≡ 0 = omega arith in rw z at x

-- ---- the index after all

module _ (old : List ℕ) (n p pieces less more : ℕ) (c : CanRenumber old n p pieces less more) where
  -- one pass over the entries behind, where they move by no place or by one
  one_pass : (new : List ℕ) → pieces ≤ 1 → StartsSet old (p + pieces) 0 (n - p) (moved old (p + 1) less more) new →
      Renumbered old n p pieces less more new
  one_pass new h x = record {
    sized = x.sized ∙ c.movable.sized;
    before = λ i l. x.before i (omega arith);
    inside = λ j l. let z : j ≡ 0 = omega arith in rw z (x.before (p + 0) (omega arith) ∙ first);
    behind = λ k l. x.inside k (omega arith) l;
  }
    where
      first : get_or old (p + 0) 0 ≡ spaced (get_or old p 0) 0
      first = let z : p + 0 ≡ p = omega arith in rw z (omega arith)

  -- in place
  pub renumbered_in_place : (new : List ℕ) → pieces ≡ 1 →
      StartsSet old (p + 1) 0 (n - p) (moved old (p + 1) less more) new → Renumbered old n p pieces less more new
  renumbered_in_place new e x = one_pass new (omega arith) (rw e x)

  -- not at all
  pub renumbered_none : pieces ≡ 1 → less ≡ more → Renumbered old n p pieces less more old
  renumbered_none e f = renumbered_in_place old e (record {
    sized = refl;
    inside = λ k l m. let a = c.movable.above k m in omega arith;
    before = λ i l. refl;
    behind = λ i l. refl;
  })

  -- by a place down
  pub renumbered_down : (new : List ℕ) → pieces ≡ 0 → StartsSet old p 0 (n - p) (moved old (p + 1) less more) new →
      Renumbered old n p pieces less more new
  renumbered_down new e x = let z : p + pieces ≡ p = omega arith in one_pass new (omega arith) (rw z x)

  -- up, and the entries of what was laid down
  pub can_space_starts : (mid : List ℕ) → (pieces ≡ 0 → ⊥) →
      StartsSet old (p + pieces) 0 (n - p) (moved old (p + 1) less more) mid → CanSpaceStarts mid p pieces
  can_space_starts mid h x =
      let l = c.there in
      let r = c.room in
      let b = c.begins in
      let some : 0 < pieces = go (ltb 0 pieces) refl in
      record { sized = x.sized ∙ c.movable.sized; some = some; inside = omega arith; begins = rw (x.before p (omega arith)) b }
    where
      go : (t : Bool) → ltb 0 pieces ≡ t → 0 < pieces
      go true t = ltb-true 0 pieces t
      go false t = let o = ltb-false 0 pieces t in absurd (h (omega arith))

  pub renumbered_up : (mid new : List ℕ) → (pieces ≡ 0 → ⊥) →
      StartsSet old (p + pieces) 0 (n - p) (moved old (p + 1) less more) mid →
      StartsSet mid p 1 pieces (spaced (get_or mid p 0)) new → Renumbered old n p pieces less more new
  renumbered_up mid new h x y = record {
    sized = y.sized ∙ x.sized ∙ c.movable.sized;
    before = λ i l. y.before i (omega arith) ∙ x.before i (omega arith);
    inside = λ j l. go j l (ltb 0 j) refl;
    behind = λ k l. y.behind (p + pieces + k) (omega arith) ∙ x.inside k (omega arith) l;
  }
    where
      same : get_or mid p 0 ≡ get_or old p 0
      same = x.before p (omega arith)

      go : (j : ℕ) → j < pieces → (b : Bool) → ltb 0 j ≡ b → get_or new (p + j) 0 ≡ spaced (get_or old p 0) j
      go j l true t = let o = ltb-true 0 j t in y.inside j o l ∙ rw same
      go j l false t =
          let o = ltb-false 0 j t in
          let z : p + j ≡ p = omega arith in
          let w : get_or old p 0 ≡ get_or old p 0 + 2 * j = omega arith in
          rw z (y.before p (omega arith) ∙ same ∙ w)
