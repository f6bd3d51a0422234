-- `leaf_kind_at` meets its contract. Assumes nothing.
use native.Mathlib.Omega.{arith}
use Rattle.move_leaves.proofs.Leaves.{node_inside, fork_read, term_inside, leaf_names, leaf_read}
use Rattle.move_leaves.proofs.leaf_kind_at.Goals as goal

pub bounds-hall-at : goal.bounds-hall-at
bounds-hall-at c = search node_inside

pub returns-then-hall-at-eq-KIND_FORK : goal.returns-then-hall-at-eq-KIND_FORK
returns-then-hall-at-eq-KIND_FORK c = search fork_read

pub overflow_add-at : goal.overflow_add-at
overflow_add-at c = omega (arith, node_inside _ _ _ c.requires)

pub bounds-hall-at-2 : goal.bounds-hall-at-2
bounds-hall-at-2 c = search term_inside

pub expression_kind-requires : goal.expression_kind-requires
expression_kind-requires c = search leaf_names

pub returns : goal.returns
returns c = search leaf_read
