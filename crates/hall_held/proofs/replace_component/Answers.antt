-- `replace_component` meets its contract. Assumes nothing.
use Rattle.hall_held.proofs.Replacements.{component_ordered, component_room, can_renumber, component_replaced}
use native.Mathlib.Omega.{arith}
use Rattle.hall_held.proofs.replace_component.Goals as goal

pub splice-requires : goal.splice-requires
splice-requires c = (search component_ordered, search component_room)

pub overflow_sub-less : goal.overflow_sub-less
overflow_sub-less c = search component_ordered

pub renumber-requires : goal.renumber-requires
renumber-requires c = search can_renumber

pub overflow_add-index : goal.overflow_add-index
overflow_add-index c = omega (arith, (can_renumber c.requires).room)

pub returns-clause-component : goal.returns-clause-component
returns-clause-component c = search component_replaced
