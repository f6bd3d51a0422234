-- `begin` meets its contract. Assumes nothing.
use Rattle.move_blocks.proofs.TransactionBegin.{begin_position, begin_inside, begin_counts, begin_term, begin_can, begin_applied}
use borrow.Author.Rules.{rules}
use native.Mathlib.Omega.{arith}
use mathlib.Core.Path.{◌≡◌}
use Rattle.hall_held.proofs.Replacements.{can_renumber}
use Rattle.move_blocks.proofs.begins.begin.Goals as goal

pub offset_bounds-index-position : goal.offset_bounds-index-position
offset_bounds-index-position c = let l = begin_position _ _ _ _ _ c.requires in search rules

pub bounds-index-position : goal.bounds-index-position
bounds-index-position c = search begin_position

pub overflow_add-block : goal.overflow_add-block
overflow_add-block c = let l = begin_inside _ _ _ _ _ c.requires in search rules

pub bounds-hall-at : goal.bounds-hall-at
bounds-hall-at c = search begin_inside

pub first_at-expression-requires : goal.first_at-expression-requires
first_at-expression-requires c = search begin_term

pub begun-new-requires : goal.begun-new-requires
begun-new-requires c = search begin_counts

pub replace_component-requires : goal.replace_component-requires
replace_component-requires c = begin_can _ _ _ _ _ _ _ _ c.from.ensures c.first_at-expression.ensures c.begun-new.ensures
    c.requires

pub returns : goal.returns
returns c =
    let can = begin_can _ _ _ _ _ _ _ _ c.from.ensures c.first_at-expression.ensures c.begun-new.ensures c.requires in
    let there = (can_renumber can).there in
    let count = c.replace_component.ensures.count in
    let same : c.replace_component.new.index.components ≡ c.args.index.now.components = omega arith in
    rw same (search begin_applied)
