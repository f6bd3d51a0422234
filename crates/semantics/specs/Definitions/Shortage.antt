-- The one test of reads against counts (document 01, "Choices and moves"), which tells the lowest channel (tray) that is
-- short and by how many (document 02, Q-3).
-- Assumes nothing.
use Rattle.std.specs.Prelude.{ℕ, ◌-◌, Bool, true, false, cond, List, [], ◌∷◌, leb}
use Rattle.calculus.specs.Syntax.{Name, State}
use Rattle.calculus.specs.State.{count, occurrences}

-- enough, or a channel that is short, and by how many
pub data Shortage : Type 0 where
  enough : Shortage
  short : (channel by : ℕ) → Shortage

unfoldable pub is_enough : Shortage → Bool
is_enough enough = true
is_enough (short a k) = false

-- of one channel: it is read no more often than it counts, or so many times more
unfoldable pub short_in : List Name → State → Name → Shortage
unfolding occurrences
short_in bs σ a =
    cond (leb (occurrences a bs) (count σ a)) enough (short a (occurrences a bs - count σ a))

-- of two findings that of the lower channel
unfoldable pub lower : Shortage → Shortage → Shortage
lower enough w = w
lower (short a k) enough = short a k
lower (short a k) (short b m) = cond (leb a b) (short a k) (short b m)

-- the lowest channel's among those of some channels
unfoldable pub lowest : (Name → Shortage) → List Name → Shortage
unfolding lower
lowest f [] = enough
lowest f (a ∷ as') = lower (f a) (lowest f as')

-- the one test of reads against counts: no channel is read more often than it counts, or the lowest that is
unfoldable pub shortage_against : List Name → State → Shortage
unfolding lowest short_in
shortage_against bs σ = lowest (short_in bs σ) bs
