-- `look_commit` meets its contract. Assumes nothing.
use Rattle.move_blocks.proofs.EndLeaves.{length_fits, log_fits, length_inside, counts_inside, snapshot_inside, log_few, log_inside, many_fits, none_is, commit_fails, commit_crowded, commit_done}
use borrow.Author.Rules.{rules}
use Rattle.move_blocks.proofs.ends.look_commit.Goals as goal

pub overflow_add-leaf : goal.overflow_add-leaf
overflow_add-leaf c = search (rules, length_fits)

pub bounds-hall-leaf : goal.bounds-hall-leaf
bounds-hall-leaf c = search length_inside

pub overflow_add-leaf-2 : goal.overflow_add-leaf-2
overflow_add-leaf-2 c = search (rules, log_fits)

pub shortage-short-requires : goal.shortage-short-requires
shortage-short-requires c = (search log_few, search log_inside, search (counts_inside, snapshot_inside))

pub overflow_add-leaf-3 : goal.overflow_add-leaf-3
overflow_add-leaf-3 c = search (rules, log_fits)

pub outputs_of-outputs-requires : goal.outputs_of-outputs-requires
outputs_of-outputs-requires c = (search log_few, search log_inside)

pub overflow_add-after : goal.overflow_add-after
overflow_add-after c = search many_fits

pub returns-then-after-gt-MAX_COMPONENTS : goal.returns-then-after-gt-MAX_COMPONENTS
returns-then-after-gt-MAX_COMPONENTS c = search (commit_crowded, commit_done, commit_fails, none_is)

pub returns-then-is_some : goal.returns-then-is_some
returns-then-is_some c = search (commit_crowded, commit_done, commit_fails, none_is)

pub returns : goal.returns
returns c = search (commit_crowded, commit_done, commit_fails, none_is)
