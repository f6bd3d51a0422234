-- `first_accepted` meets its contract. Assumes nothing.
use Rattle.choice_suggest.proofs.Suggestions.{QuietBelow}
use Rattle.choice_suggest.proofs.first_accepted.Given as goal

abbrev pub invariant-loop-position : goal.invariant-loop-position
invariant-loop-position l = QuietBelow l.decoded l.hall l.index.starts l.index.components l.position
