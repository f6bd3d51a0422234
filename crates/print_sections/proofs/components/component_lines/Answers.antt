-- Printing the lines of all components meets its contract.
-- Assumes nothing.
use Rattle.std.proofs.Common.{rules}
use Rattle.print_sections.proofs.ComponentLines.{no_component, component_room, component_more, all_components}
use Rattle.print_sections.proofs.components.component_lines.Goals as goal

pub loop-position-init : goal.loop-position-init
loop-position-init c = search no_component

pub component_line-requires : goal.component_line-requires
component_line-requires c = search (component_room, rules)

pub loop-position-preserved : goal.loop-position-preserved
loop-position-preserved c = search (component_more, rules)

pub returns : goal.returns
returns c = search (all_components, rules)
