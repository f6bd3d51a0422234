-- Where the table of an input ends.
-- Assumes nothing.
use Rattle.std.specs.Prelude.{ℕ, ◌≤◌, List, length, take}
use Rattle.semantics.specs.Checks.PrintedRun.{TablePart}

-- the first r bytes are the table
pub record TableUpTo (input : List ℕ) (r : ℕ) : Type 0 where
  pub inside : r ≤ length input
  pub part : TablePart input (take r input)
