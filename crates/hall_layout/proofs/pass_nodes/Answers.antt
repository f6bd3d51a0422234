-- `pass_nodes` meets its contract: the walk from here ends where the walk from the tree's start does. Assumes nothing.
use native.Mathlib.Omega.{arith}
use Rattle.hall_layout.proofs.Nodes.{walk_on, walk_over, walk_done, fork_behind, pending_bound, size_bounds}
use Rattle.hall_layout.proofs.pass_nodes.Goals as goal

pub overflow_add-at : goal.overflow_add-at
overflow_add-at c = let b = size_bounds _ _ c.node_size-at.ensures in omega arith

pub loop-left-preserved-then-kind-eq-KIND_FORK : goal.loop-left-preserved-then-kind-eq-KIND_FORK
loop-left-preserved-then-kind-eq-KIND_FORK c = let pending = c.pending_behind-pending.ensures in
    let size = c.node_size-at.ensures in
    let more = fork_behind _ _ c.if-kind-eq-KIND_FORK.true _ pending in
    let bounds = size_bounds _ _ size in (
      walk_on _ _ _ _ _ c.loop-left.invariant.0 (omega arith) (omega arith) _
          c.byte_at-kind.ensures _ pending _ size,
      omega arith,
      omega arith,
      omega arith,
      omega arith,
    )

pub overflow_add-at-else-kind-eq-KIND_FORK : goal.overflow_add-at-else-kind-eq-KIND_FORK
overflow_add-at-else-kind-eq-KIND_FORK c = let b = size_bounds _ _ c.node_size-at-else-kind-eq-KIND_FORK.ensures in omega arith

pub returns-then-pending-eq0 : goal.returns-then-pending-eq0
returns-then-pending-eq0 c = walk_over _ _ _ _ _ c.loop-left.invariant.0 (omega arith) (omega arith) _
    c.byte_at-kind.ensures _ c.pending_behind-pending-else-kind-eq-KIND_FORK.ensures _
    c.node_size-at-else-kind-eq-KIND_FORK.ensures c.if-pending-eq0.true

pub loop-left-preserved : goal.loop-left-preserved
loop-left-preserved c = let pending = c.pending_behind-pending-else-kind-eq-KIND_FORK.ensures in
    let size = c.node_size-at-else-kind-eq-KIND_FORK.ensures in
    let bound = pending_bound _ _ _ pending in
    let bounds = size_bounds _ _ size in (
      walk_on _ _ _ _ _ c.loop-left.invariant.0 (omega arith) (omega arith) _
          c.byte_at-kind.ensures _ pending _ size,
      omega arith,
      omega (arith, c.if-pending-eq0.false),
      omega arith,
      omega arith,
    )

pub returns : goal.returns
returns c = search walk_done
