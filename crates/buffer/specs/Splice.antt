-- What the code of this crate does to the bytes of a slice, as functions of lists.
-- Assumes nothing.
use Rattle.std.specs.Prelude.{ℕ, ◌+◌, ◌-◌, ◌≤◌, ◌≡◌, List, ◌++◌, length, get_or, take, drop, replicate}
use Rattle.std.proofs.Math.Seq.{paste}

-- the first n elements of v written over those of s, from the offset at on
unfoldable pub written : List ℕ → ℕ → List ℕ → ℕ → List ℕ
written s at v n = paste s at v n

-- a list of n elements: the first of l, and zeros where l has fewer
unfoldable pub fit : ℕ → List ℕ → List ℕ
fit n l = take n (l ++ replicate n 0)

-- v in the place of the elements a..b, in a list of the same length: what is pushed out at the end is gone, what is
-- missing there is zero
unfoldable pub spliced : List ℕ → ℕ → ℕ → List ℕ → List ℕ
unfolding fit
spliced s a b v = fit (length s) (take a s ++ (v ++ drop b s))

-- the most bytes that are moved at once
abbrev pub chunk : ℕ
chunk = 12288

-- the elements b..used can be moved so that they begin at e: none but zeros follow them, and there is room
pub record CanShift (s : List ℕ) (b e used : ℕ) : Type 0 where
  pub ordered : b ≤ used
  pub held : used ≤ length s
  pub fits : e + (used - b) ≤ length s
  pub clear : (i : ℕ) → used ≤ i → get_or s i 0 ≡ 0
