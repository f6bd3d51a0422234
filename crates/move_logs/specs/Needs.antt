-- What the bytes of a log read: which channels (trays), and how often each is needed. And reads and needs held against
-- counts.
-- Assumes nothing.
use Rattle.std.specs.Prelude.{ℕ, zero, suc, ◌+◌, ◌-◌, Bool, true, cond, ◌&&◌, List, [], ◌∷◌, get_or, set, take, drop, replicate, leb, ltb}
use Rattle.semantics.specs.Definitions.Layout.{channels, write_offset}
use Rattle.semantics.specs.Definitions.Shortage.{Shortage, shortage_against}

-- ---- reads

-- the channels that are read, in log order: a read's byte is its channel
unfoldable pub reads_of : List ℕ → List ℕ
reads_of [] = []
reads_of (b ∷ bs) = cond (ltb b write_offset) (b ∷ reads_of bs) (reads_of bs)

-- the counts that stand from an offset on
abbrev pub counts_in : (s : List ℕ) (at : ℕ) → List ℕ
counts_in s at = take channels (drop at s)

-- the one test: what the reads of these bytes are short of at those counts
unfoldable pub short_at : (bytes s : List ℕ) (at : ℕ) → Shortage
unfolding shortage_against reads_of
short_at bytes s at = shortage_against (reads_of bytes) (counts_in s at)

-- ---- needs, by channel

-- one more of a channel
unfoldable pub also_needed : List ℕ → ℕ → List ℕ
also_needed need a = set need a (get_or need a 0 + 1)

-- one more action: a read's byte is its channel, and a write needs nothing
unfoldable pub needing : List ℕ → ℕ → List ℕ
unfolding also_needed
needing need b = cond (ltb b write_offset) (also_needed need b) need

-- the actions in order
unfoldable pub needs_from : List ℕ → List ℕ → List ℕ
unfolding needing
needs_from need [] = need
needs_from need (b ∷ bs) = needs_from (needing need b) bs

unfoldable pub needs_of : List ℕ → List ℕ
unfolding needs_from
needs_of bs = needs_from (replicate channels 0) bs

-- how many tokens one action takes
unfoldable pub taken_by : ℕ → ℕ
taken_by b = cond (ltb b write_offset) 1 0

-- ---- needs and counts

-- the first so many channels are needed no more often than the counts say that stand from an offset on
unfoldable pub within_first : (need s : List ℕ) → (at n : ℕ) → Bool
within_first need s at zero = true
within_first need s at (suc n) = within_first need s at n && leb (get_or need n 0) (get_or s (at + n) 0)

-- whether counts suffice: the test's first half, said by needs
unfoldable pub within_at : (need s : List ℕ) → (at : ℕ) → Bool
unfolding within_first
within_at need s at = within_first need s at channels

-- counts lowered by needs; what stands behind them stays
unfoldable pub lowered : (need s : List ℕ) → List ℕ
lowered [] s = s
lowered (n ∷ need) [] = []
lowered (n ∷ need) (c ∷ s) = (c - n) ∷ lowered need s
