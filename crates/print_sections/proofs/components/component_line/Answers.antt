-- Printing the line of a component meets its contract.
-- Assumes nothing.
use Rattle.std.proofs.Common.{rules}
use native.Mathlib.Nat.{sub-le}
use Rattle.print_sections.proofs.ComponentLines.{offset_fits, one_fits, output_printed, waiting_printed, walk_inside, left_few, two_fits, transaction_printed}
use Rattle.print_sections.proofs.components.component_line.Goals as goal

pub overflow_add-begin : goal.overflow_add-begin
overflow_add-begin c = search (offset_fits, rules)

pub write_line-requires : goal.write_line-requires
write_line-requires c = search one_fits

pub returns-then-kind-eq-KIND_OUTPUT : goal.returns-then-kind-eq-KIND_OUTPUT
returns-then-kind-eq-KIND_OUTPUT c = search output_printed

pub write_line-requires-then-kind-eq-KIND_WAITING : goal.write_line-requires-then-kind-eq-KIND_WAITING
write_line-requires-then-kind-eq-KIND_WAITING c = search one_fits

pub returns-then-kind-eq-KIND_WAITING : goal.returns-then-kind-eq-KIND_WAITING
returns-then-kind-eq-KIND_WAITING c = search waiting_printed

pub overflow_add-begin-else-kind-eq-KIND_WAITING : goal.overflow_add-begin-else-kind-eq-KIND_WAITING
overflow_add-begin-else-kind-eq-KIND_WAITING c = search (offset_fits, rules)

pub pass_nodes-walk-requires : goal.pass_nodes-walk-requires
pass_nodes-walk-requires c = search walk_inside

pub overflow_sub-nodes : goal.overflow_sub-nodes
overflow_sub-nodes c = search left_few

pub write_line-requires-else-kind-eq-KIND_WAITING : goal.write_line-requires-else-kind-eq-KIND_WAITING
write_line-requires-else-kind-eq-KIND_WAITING c = search (two_fits, sub-le)

pub returns-else-kind-eq-KIND_WAITING : goal.returns-else-kind-eq-KIND_WAITING
returns-else-kind-eq-KIND_WAITING c = search transaction_printed
