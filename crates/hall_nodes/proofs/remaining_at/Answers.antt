-- `remaining_at` meets its contract. Assumes nothing.
use Rattle.hall_nodes.proofs.Leaves.{retry_remains, no_term, process_remains, nothing_remains, term_remains}
use Rattle.hall_nodes.proofs.remaining_at.Goals as goal

pub returns-in-Some-Expression : goal.returns-in-Some-Expression
returns-in-Some-Expression c =
    let class = rw c.in-Some-Expression.field-0-is at c.in-Some-Expression.ensures in search (term_remains, class)

pub returns-in-Some-Process : goal.returns-in-Some-Process
returns-in-Some-Process c =
    let class = rw c.in-Some-Process.field-0-is at c.in-Some-Process.ensures in search (process_remains, class)

pub returns-in-None : goal.returns-in-None
returns-in-None c = search (nothing_remains, c.in-None.ensures)

pub returns-then-byte-eq-NO_TERM : goal.returns-then-byte-eq-NO_TERM
returns-then-byte-eq-NO_TERM c = search retry_remains

pub returns : goal.returns
returns c = search no_term
