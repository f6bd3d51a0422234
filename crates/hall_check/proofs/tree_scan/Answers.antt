-- `tree_scan` meets its contract: the scan so far leads to what is read at the start. Assumes nothing.
use native.Mathlib.Omega.{arith}
use Rattle.hall_layout.proofs.Nodes.{pending_bound}
use Rattle.hall_check.proofs.TreeScans.{node_there, tree_begun, tree_crowded, tree_broken, tree_turn, tree_falls, tree_ended, fork_goes_on}
use Rattle.hall_check.proofs.tree_scan.Goals as goal

pub loop-sum-init : goal.loop-sum-init
loop-sum-init c = (tree_begun _ _ _ _ (omega arith), λ z. omega arith, omega arith)

pub returns-in_err-branches : goal.returns-in_err-branches
returns-in_err-branches c = rw c.from_residual.ensures (search (tree_broken, c.in_err-branches.ensures))

pub bounds-s-at : goal.bounds-s-at
bounds-s-at c = search (node_there, c.in_ok-branches.ensures)

pub loop-sum-smaller-then-kind-eq-KIND_FORK : goal.loop-sum-smaller-then-kind-eq-KIND_FORK
loop-sum-smaller-then-kind-eq-KIND_FORK c = search (tree_falls, c.in_ok-branches.ensures)

pub loop-sum-preserved-then-kind-eq-KIND_FORK : goal.loop-sum-preserved-then-kind-eq-KIND_FORK
loop-sum-preserved-then-kind-eq-KIND_FORK c = (
  search (tree_turn, c.in_ok-branches.ensures),
  search fork_goes_on,
  omega (arith, pending_bound _ _ _ c.pending_behind-pending.ensures),
)

pub returns-then-pending-eq0 : goal.returns-then-pending-eq0
returns-then-pending-eq0 c = search (tree_ended, c.in_ok-branches.ensures)

pub loop-sum-smaller : goal.loop-sum-smaller
loop-sum-smaller c = search (tree_falls, c.in_ok-branches.ensures)

pub loop-sum-preserved : goal.loop-sum-preserved
loop-sum-preserved c = (
  search (tree_turn, c.in_ok-branches.ensures),
  c.if-pending-eq0.false,
  omega (arith, pending_bound _ _ _ c.pending_behind-pending-else-kind-eq-KIND_FORK.ensures),
)

pub returns : goal.returns
returns c = search tree_crowded
