-- `restart` meets its contract. Assumes nothing.
use Rattle.move_blocks.proofs.TransactionEnd.{restart_position, restart_inside, restart_can, restart_applied}
use borrow.Author.Rules.{rules}
use native.Mathlib.Omega.{arith}
use Rattle.hall_held.proofs.Replacements.{can_renumber}
use Rattle.move_blocks.proofs.ends.restart.Goals as goal

pub offset_bounds-index-position : goal.offset_bounds-index-position
offset_bounds-index-position c = let l = restart_position _ _ _ _ c.requires in search rules

pub bounds-index-position : goal.bounds-index-position
bounds-index-position c = search restart_position

pub overflow_add-new : goal.overflow_add-new
overflow_add-new c = let l = restart_inside _ _ _ _ c.requires in search rules

pub bounds-hall-at : goal.bounds-hall-at
bounds-hall-at c = search restart_inside

pub replace_component-requires : goal.replace_component-requires
replace_component-requires c = search restart_can

pub returns-clause-block : goal.returns-clause-block
returns-clause-block c = search restart_applied

pub returns-clause-components : goal.returns-clause-components
returns-clause-components c =
    let there = (can_renumber (restart_can _ _ _ _ c.requires)).there in let count = c.replace_component.ensures.count in omega arith
