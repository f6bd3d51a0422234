-- `move_at` meets its contract. Assumes nothing.
use mathlib.Core.Path.{◌≡◌}
use Rattle.std.specs.Prelude.{Some}
use Rattle.move_inside.specs.declared.redexes.Redex.TheVariants.{Read, Write}
use Rattle.move_inside.proofs.NodeRedexes.{some_is}
use Rattle.move_inside.proofs.RedexRules.{can_test_read, read_channel}
use Rattle.move_inside.proofs.RedexMoves.{held, present, read_can, read_moved, write_can, write_fits, write_moved, split_inside, split_can, split_moved, keep_inside, keep_can, keep_moved, drop_inside, drop_can, drop_moved, stays}
use borrow.Author.Rules.{rules}
use Rattle.move_inside.proofs.move_at.Goals as goal

pub redex_at-requires : goal.redex_at-requires
redex_at-requires c = search present

pub make_read-requires-clause-can_log_action : goal.make_read-requires-clause-can_log_action
make_read-requires-clause-can_log_action c =
    let is : c.redex_at.result ≡ Some (Read c.in-Some-Read.channel) = search some_is in search (read_can, held)

pub make_read-requires-clause-can_test_read : goal.make_read-requires-clause-can_test_read
make_read-requires-clause-can_test_read c =
    let is : c.redex_at.result ≡ Some (Read c.in-Some-Read.channel) = search some_is in
    (search (can_test_read, held), search (read_channel, held))

pub overflow_add-channel : goal.overflow_add-channel
overflow_add-channel c = search (write_fits, held, some_is, rules)

pub log_action-requires : goal.log_action-requires
log_action-requires c =
    let is : c.redex_at.result ≡ Some (Write c.in-Some-Write.channel) = search some_is in search (write_can, held)

pub split-requires : goal.split-requires
split-requires c = (search (split_inside, held, some_is), search (split_can, some_is))

pub keep_left-requires : goal.keep_left-requires
keep_left-requires c = (search (keep_inside, held, some_is), search (keep_can, some_is))

pub drop_left-requires : goal.drop_left-requires
drop_left-requires c = (search (drop_inside, held, some_is), search (drop_can, some_is))

pub returns-in-Some-Read-clause-node : goal.returns-in-Some-Read-clause-node
returns-in-Some-Read-clause-node c = search (read_moved, some_is)

pub returns-in-Some-Write-clause-node : goal.returns-in-Some-Write-clause-node
returns-in-Some-Write-clause-node c = search (write_moved, some_is)

pub returns-in-Some-OrElse-clause-node : goal.returns-in-Some-OrElse-clause-node
returns-in-Some-OrElse-clause-node c = search (split_moved, some_is)

pub returns-in-Some-LeftEnds-clause-node : goal.returns-in-Some-LeftEnds-clause-node
returns-in-Some-LeftEnds-clause-node c = search (keep_moved, some_is)

pub returns-in-Some-LeftRetries-clause-node : goal.returns-in-Some-LeftRetries-clause-node
returns-in-Some-LeftRetries-clause-node c = search (drop_moved, some_is)

pub returns-in-None-clause-node : goal.returns-in-None-clause-node
returns-in-None-clause-node c = search stays
