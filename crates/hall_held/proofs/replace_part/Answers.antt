-- `replace_part` meets its contract. Assumes nothing.
use Rattle.hall_held.proofs.Replacements.{part_ordered, part_room, can_renumber_part, part_replaced}
use Rattle.hall_held.proofs.replace_part.Goals as goal

pub splice-requires : goal.splice-requires
splice-requires c = (search part_ordered, search part_room)

pub renumber-requires : goal.renumber-requires
renumber-requires c = search can_renumber_part

pub returns : goal.returns
returns c = search part_replaced
