-- `rule_at` meets its contract. Assumes nothing.
use mathlib.Core.Path.{◌≡◌}
use Rattle.std.specs.Prelude.{Some}
use Rattle.move_inside.specs.declared.redexes.Redex.TheVariants.{Read, Write}
use Rattle.move_inside.proofs.NodeRedexes.{some_is}
use Rattle.move_inside.proofs.RedexRules.{can_test_read, read_channel, read_rule, write_rule, or_else_rule, left_ends_rule, left_retries_rule, no_rule_holds}
use Rattle.move_inside.proofs.rule_at.Goals as goal

pub read_rule-requires : goal.read_rule-requires
read_rule-requires c =
    let is : c.redex_at.result ≡ Some (Read c.in-Some-Read.channel) = search some_is in
    (search can_test_read, search read_channel)

pub returns-in-Some-Read : goal.returns-in-Some-Read
returns-in-Some-Read c = search (read_rule, some_is)

pub returns-in-Some-Write : goal.returns-in-Some-Write
returns-in-Some-Write c =
    let is : c.redex_at.result ≡ Some (Write c.in-Some-Write.field-0-0) = search some_is in search write_rule

pub returns-in-Some-OrElse : goal.returns-in-Some-OrElse
returns-in-Some-OrElse c = search (or_else_rule, some_is)

pub returns-in-Some-LeftEnds : goal.returns-in-Some-LeftEnds
returns-in-Some-LeftEnds c = search (left_ends_rule, some_is)

pub returns-in-Some-LeftRetries : goal.returns-in-Some-LeftRetries
returns-in-Some-LeftRetries c = search (left_retries_rule, some_is)

pub returns-in-None : goal.returns-in-None
returns-in-None c = search no_rule_holds
