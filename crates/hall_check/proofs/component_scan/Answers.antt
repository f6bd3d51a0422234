-- `component_scan` meets its contract, return by return. Assumes nothing.
use Rattle.hall_check.proofs.ComponentScans.{component_short, component_on_no_term, component_by_kind, component_output, component_of_no_term, component_no_block, component_cut, component_tree, component_other}
use Rattle.hall_check.proofs.component_scan.Goals as goal

pub returns-then-s-next : goal.returns-then-s-next
returns-then-s-next c = search component_short

pub returns-in_err-kind-in-20 : goal.returns-in_err-kind-in-20
returns-in_err-kind-in-20 c = rw c.from_residual.ensures (search (component_on_no_term, c.in_err-kind-in-20.ensures))

pub returns-in_ok-kind-in-20 : goal.returns-in_ok-kind-in-20
returns-in_ok-kind-in-20 c = search (component_by_kind, c.in_ok-kind-in-20.ensures)

pub returns-in-24 : goal.returns-in-24
returns-in-24 c = search component_output

pub returns-in_err-term_kind-in-21 : goal.returns-in_err-term_kind-in-21
returns-in_err-term_kind-in-21 c = rw c.from_residual-in_err-term_kind-in-21.ensures (search (component_of_no_term, c.in_err-term_kind-in-21.ensures))

pub returns-then-branch-ne-ATOM : goal.returns-then-branch-ne-ATOM
returns-then-branch-ne-ATOM c = search (component_no_block, c.in_ok-term_kind-in-21.ensures)

pub returns-then-s-tree : goal.returns-then-s-tree
returns-then-s-tree c = search component_cut

pub returns-else-s-tree : goal.returns-else-s-tree
returns-else-s-tree c = search (component_tree, c.in_ok-term_kind-in-21.ensures)

pub returns-in_default : goal.returns-in_default
returns-in_default c = search component_other
