-- `look_inside` meets its contract. Assumes nothing.
use Rattle.std.proofs.lemmas.Result.{err_from_is_err_and}
use Rattle.choice_inner.proofs.InsideReplies.{can_read_rule, refused_there, node_looked}
use Rattle.choice_inner.proofs.look_inside.Goals as goal

pub returns-in_err-at : goal.returns-in_err-at
returns-in_err-at c = let p = err_from_is_err_and c.from_residual.result c.from_residual.ensures.1 in
    rw (p.1, p.2) (search (refused_there, c.in_err-at.was))

pub rule_at-requires : goal.rule_at-requires
rule_at-requires c = search (can_read_rule, c.in_ok-at.was)

pub returns : goal.returns
returns c = search (node_looked, c.in_ok-at.was)
