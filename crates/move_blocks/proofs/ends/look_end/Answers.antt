-- `look_end` meets its contract: by the kind of the first node. Assumes nothing.
use Rattle.move_blocks.proofs.EndReplies.{end_stands, end_can, look_retry, look_end, look_more, some_is, other_is, none_is_other}
use Rattle.move_blocks.proofs.ends.look_end.Goals as goal

pub leaf_kind_at-requires : goal.leaf_kind_at-requires
leaf_kind_at-requires c = search end_stands

pub look_commit-requires : goal.look_commit-requires
look_commit-requires c = search (end_can, some_is)

pub returns-in-Some-eq8 : goal.returns-in-Some-eq8
returns-in-Some-eq8 c = search (look_retry, some_is)

pub returns-in-Some-eq7 : goal.returns-in-Some-eq7
returns-in-Some-eq7 c = search (look_end, some_is)

pub returns-in_default : goal.returns-in_default
returns-in_default c = search (look_more, other_is)

pub returns-in_default-2 : goal.returns-in_default-2
returns-in_default-2 c = search (look_more, none_is_other)
