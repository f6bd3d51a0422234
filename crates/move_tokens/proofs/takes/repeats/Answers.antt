-- `repeats` meets its contract. Assumes nothing.
use borrow.Author.Rules.{rules}
use Rattle.move_tokens.specs.Tokens.{repeats}
use Rattle.move_tokens.proofs.takes.repeats.Goals as goal

pub returns : goal.returns
unfolding repeats
returns c = search rules
