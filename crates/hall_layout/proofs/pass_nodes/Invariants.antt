-- `pass_nodes` meets its contract: the walk from here ends where the walk from the tree's start does. Assumes nothing.
use Prim.Native.Nat.{◌+◌, ◌*◌, ◌-◌, ◌≤◌, ◌<◌}
use mathlib.Core.Path.{◌≡◌}
use Rattle.hall_layout.specs.Nodes.{passed}
use Rattle.hall_layout.specs.Layout.{leaf_size}
use Rattle.hall_layout.proofs.pass_nodes.Given as goal

abbrev pub invariant-loop-left : goal.invariant-loop-left
invariant-loop-left l = (passed l.s l.left l.pending l.at ≡ passed l.s l.nodes 1 l.tree) × (l.left ≤ l.nodes) × (0 < l.pending) × (l.pending ≤ 1 + (l.nodes - l.left)) × (l.at ≤ l.tree + leaf_size * (l.nodes - l.left))
