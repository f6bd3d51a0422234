-- `commit` meets its contract: the log is read where it stands, and the counts fall before the outputs are laid down.
-- Assumes nothing.
use lib.Seq.{length-take-le}
use Rattle.move_blocks.proofs.EndLeaves.{leaf_inside, length_inside, counts_inside, log_few, log_inside, outputs_few, outputs_inside}
use Rattle.move_blocks.proofs.TransactionEnd.{commit_looks, commit_position, commit_inside, commit_within, commit_can, commit_applied}
use borrow.Author.Rules.{rules}
use Rattle.move_blocks.proofs.ends.commit.Goals as goal

pub offset_bounds-index-position : goal.offset_bounds-index-position
offset_bounds-index-position c = let l = commit_position _ _ _ _ c.requires in search rules

pub bounds-index-position : goal.bounds-index-position
bounds-index-position c = search commit_position

pub overflow_add-leaf : goal.overflow_add-leaf
overflow_add-leaf c = let l = commit_inside _ _ _ _ c.requires in search rules

pub overflow_add-leaf-2 : goal.overflow_add-leaf-2
overflow_add-leaf-2 c = let l = leaf_inside _ _ _ (commit_looks _ _ _ _ c.requires) in search rules

pub bounds-hall-leaf : goal.bounds-hall-leaf
bounds-hall-leaf c = length_inside _ _ _ (commit_looks _ _ _ _ c.requires)

pub overflow_add-leaf-3 : goal.overflow_add-leaf-3
overflow_add-leaf-3 c = let l =
    leaf_inside _ _ _ (commit_looks _ _ _ _ c.requires) in search rules

pub needs_of-need-requires : goal.needs_of-need-requires
needs_of-need-requires c = let log = commit_looks _ _ _ _ c.requires in
    (log_few _ _ _ log _ c.from-size.ensures, log_inside _ _ _ log _ c.from-size.ensures)

pub overflow_add-leaf-4 : goal.overflow_add-leaf-4
overflow_add-leaf-4 c = let l = leaf_inside _ _ _ (commit_looks _ _ _ _ c.requires) in search rules

pub outputs_of-outputs-requires : goal.outputs_of-outputs-requires
outputs_of-outputs-requires c = let log = commit_looks _ _ _ _ c.requires in
    (log_few _ _ _ log _ c.from-size.ensures, log_inside _ _ _ log _ c.from-size.ensures)

pub take_needs-requires : goal.take_needs-requires
take_needs-requires c = (search (counts_inside, commit_looks), search commit_within)

pub overflow_mul-bytes : goal.overflow_mul-bytes
overflow_mul-bytes c = let log = commit_looks _ _ _ _ c.requires in
    let l = outputs_few _ _ _ log _ c.from-size.ensures _ c.outputs_of-outputs.ensures in search rules

pub slice_bounds-bytes-end : goal.slice_bounds-bytes-end
slice_bounds-bytes-end c = search (rules, outputs_inside)

pub shared_ref_as_front-bytes : goal.shared_ref_as_front-bytes
shared_ref_as_front-bytes c = search (rules, length-take-le, outputs_inside)

pub replace_component-requires : goal.replace_component-requires
replace_component-requires c = search commit_can

pub returns : goal.returns
returns c = search commit_applied
