-- Laws of the measures of expressions and trees.
-- Assumes nothing.
use Prim.Native.Nat.{◌≤◌}
use native.Mathlib.Omega.{arith}
use Rattle.semantics.specs.Definitions.Terms.{Expression, end_t, retry_t, rd_t, wt_t, or_else_t, branches}
use Rattle.semantics.specs.Definitions.Configuration.{Tree, leaf, fork, branches_of}

-- every expression has a branch
pub branches_positive : (M : Expression) → 1 ≤ branches M
unfolding branches
branches_positive (end_t n) = omega arith
branches_positive (retry_t n) = omega arith
branches_positive (rd_t n a M) = branches_positive M
branches_positive (wt_t n a M) = branches_positive M
branches_positive (or_else_t n M N) = let h = branches_positive M in omega arith

-- and so has every tree
pub tree_branches_positive : (t : Tree) → 1 ≤ branches_of t
unfolding branches_of
tree_branches_positive (leaf M δ) = branches_positive M
tree_branches_positive (fork l r) = let h = tree_branches_positive l in omega arith
