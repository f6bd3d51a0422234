-- What the code of this crate does to the index of where components begin, entry by entry.
-- Assumes nothing.
use Rattle.std.specs.Prelude.{ℕ, ◌+◌, ◌*◌, ◌-◌, ◌≤◌, ◌<◌, ◌≡◌, List, length, get_or}
use Rattle.hall_layout.specs.Layout.{idle_size, hall_bytes, index_size}

-- ---- one loop

-- of the places from `at` on, those numbered from lo up to hi have new values, and all others are as they were
pub record StartsSet (old : List ℕ) (at lo hi : ℕ) (value : ℕ → ℕ) (new : List ℕ) : Type 0 where
  pub sized : length new ≡ length old
  pub inside : (k : ℕ) → lo ≤ k → k < hi → get_or new (at + k) 0 ≡ value k
  pub before : (i : ℕ) → i < at + lo → get_or new i 0 ≡ get_or old i 0
  pub behind : (i : ℕ) → at + hi ≤ i → get_or new i 0 ≡ get_or old i 0

-- the entries from a place on, each so many bytes lower and then so many higher
abbrev pub moved : List ℕ → (from less more : ℕ) → ℕ → ℕ
moved starts from less more k = get_or starts (from + k) 0 - less + more

-- where idle components begin that follow one another from an offset on
abbrev pub spaced : (begin : ℕ) → ℕ → ℕ
spaced begin k = begin + idle_size * k

-- the n entries from a place on are in the index, and moved so they are offsets in a hall
pub record CanMoveStarts (starts : List ℕ) (from n less more : ℕ) : Type 0 where
  pub sized : length starts ≡ index_size
  pub inside : from + n ≤ index_size
  pub above : (k : ℕ) → k < n → less ≤ get_or starts (from + k) 0
  pub below : (k : ℕ) → k < n → moved starts from less more k ≤ hall_bytes

-- the entries of n components are in the index, and the first of them is an offset in a hall
pub record CanSpaceStarts (starts : List ℕ) (first n : ℕ) : Type 0 where
  pub sized : length starts ≡ index_size
  pub some : 0 < n
  pub inside : first + n ≤ index_size
  pub begins : get_or starts first 0 ≤ hall_bytes

-- ---- the index as a whole

-- component number p of n may give way to others: there is room for their entries
pub record CanRenumber (starts : List ℕ) (n p pieces less more : ℕ) : Type 0 where
  pub there : p < n
  pub room : n + pieces ≤ index_size
  pub begins : get_or starts p 0 ≤ hall_bytes
  pub movable : CanMoveStarts starts (p + 1) (n - p) less more

-- it has given way to so many, the first of which begins where it did; the entries behind it have moved on with them
pub record Renumbered (old : List ℕ) (n p pieces less more : ℕ) (new : List ℕ) : Type 0 where
  pub sized : length new ≡ index_size
  pub before : (i : ℕ) → i < p → get_or new i 0 ≡ get_or old i 0
  pub inside : (j : ℕ) → j < pieces → get_or new (p + j) 0 ≡ spaced (get_or old p 0) j
  pub behind : (k : ℕ) → k < n - p → get_or new (p + pieces + k) 0 ≡ moved old (p + 1) less more k
