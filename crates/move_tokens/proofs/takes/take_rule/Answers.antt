-- `take_rule` meets its contract. Assumes nothing.
use Rattle.move_tokens.proofs.TokenTakes.{rep_is, in_is}
use Rattle.move_tokens.proofs.takes.take_rule.Goals as goal

pub returns-then-repeated : goal.returns-then-repeated
returns-then-repeated c = search rep_is

pub returns-else-repeated : goal.returns-else-repeated
returns-else-repeated c = search in_is
