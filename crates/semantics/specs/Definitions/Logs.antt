-- A log's reads held against counts, and the paths of an expression (document 01, "Choices and moves").
-- Assumes nothing.
use Rattle.std.specs.Prelude.{suc, Bool, List, [], ◌∷◌, ◌++◌, map, set}
use Rattle.std.proofs.Math.Option.{Option}
use Rattle.calculus.specs.Syntax.{Name, rd, wt, Log, State}
use Rattle.calculus.specs.State.{count, without}
use Rattle.calculus.specs.Log.{RD}
use Rattle.semantics.specs.Definitions.Basics.{first_of}
use Rattle.semantics.specs.Definitions.Shortage.{Shortage, shortage_against, is_enough}
use Rattle.semantics.specs.Definitions.Terms.{Expression, end_t, retry_t, rd_t, wt_t, or_else_t}

-- the log of an attempt just begun
unfoldable pub empty_log : Log
empty_log = []

-- what a log, or a path, is short of at given counts (document 02, Q-3)
unfoldable pub shortage : State → Log → Shortage
unfolding shortage_against RD
shortage σ δ = shortage_against (RD δ) σ

-- it is readable there: nothing is short
unfoldable pub readable : State → Log → Bool
unfolding is_enough shortage
readable σ δ = is_enough (shortage σ δ)

-- the paths of a block from left to right: the actions of each branch that ends in end; a branch that ends in retry is none
unfoldable pub paths : Expression → List Log
unfolding empty_log
paths (end_t n) = empty_log ∷ []
paths (retry_t n) = []
paths (rd_t n a M) = map (◌∷◌ (rd a)) (paths M)
paths (wt_t n a M) = map (◌∷◌ (wt a)) (paths M)
paths (or_else_t n M N) = paths M ++ paths N

-- the first path, left to right, that is readable at given counts
unfoldable pub first_readable : State → Expression → Option Log
unfolding first_of readable paths
first_readable σ M = first_of (readable σ) (paths M)

-- a tray gains one; a tray loses one
unfoldable pub add_token : State → Name → State
add_token σ a = set σ a (suc (count σ a))

unfoldable pub take_token : State → Name → State
unfolding without
take_token σ a = without σ (a ∷ [])
