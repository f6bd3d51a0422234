-- Printing the lines of all components meets its contract.
-- Assumes nothing.
use Rattle.print_sections.proofs.ComponentLines.{ComponentsSoFar}
use Rattle.print_sections.proofs.components.component_lines.Given as goal

abbrev pub invariant-loop-position : goal.invariant-loop-position
invariant-loop-position l = ComponentsSoFar l.hall l.index.starts l.index.components l.initial.page l.page l.position
