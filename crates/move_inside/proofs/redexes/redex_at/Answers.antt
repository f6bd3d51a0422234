-- `redex_at` meets its contract. Assumes nothing.
use native.Mathlib.Omega.{arith}
use Rattle.move_leaves.proofs.Leaves.{node_inside, term_inside, leaf_names}
use Rattle.move_inside.proofs.NodeRedexes.{left_present, left_ends, left_retries, fork_waits, left_nothing, action_term, read_redex, write_redex, or_else_redex, leaf_waits}
use borrow.Author.Rules.{rules}
use Rattle.move_inside.proofs.redexes.redex_at.Goals as goal

pub bounds-hall-at : goal.bounds-hall-at
bounds-hall-at c = search node_inside

pub leaf_kind_at-requires : goal.leaf_kind_at-requires
leaf_kind_at-requires c = search left_present

pub returns-in-Some-eq7 : goal.returns-in-Some-eq7
returns-in-Some-eq7 c = search left_ends

pub returns-in-Some-eq8 : goal.returns-in-Some-eq8
returns-in-Some-eq8 c = search left_retries

pub returns-in_default : goal.returns-in_default
returns-in_default c = search fork_waits

pub returns-in_default-2 : goal.returns-in_default-2
returns-in_default-2 c = search left_nothing

pub overflow_add-byte : goal.overflow_add-byte
overflow_add-byte c = omega (arith, node_inside)

pub bounds-hall-at-2 : goal.bounds-hall-at-2
bounds-hall-at-2 c = search term_inside

pub expression_kind-requires : goal.expression_kind-requires
expression_kind-requires c = search leaf_names

pub first_at-requires : goal.first_at-requires
first_at-requires c = search (action_term, rules)

pub first_at-requires-in-10 : goal.first_at-requires-in-10
first_at-requires-in-10 c = search (action_term, rules)

pub returns-in-9 : goal.returns-in-9
returns-in-9 c = search read_redex

pub returns-in-10 : goal.returns-in-10
returns-in-10 c = search write_redex

pub returns-in-11 : goal.returns-in-11
returns-in-11 c = search or_else_redex

pub returns-in_default-expression_kind : goal.returns-in_default-expression_kind
returns-in_default-expression_kind c = search leaf_waits
