-- `first_inside` meets its contract. Assumes nothing.
use Rattle.choice_suggest.proofs.Suggestions.{NoneBelow}
use Rattle.choice_suggest.proofs.first_inside.Given as goal

abbrev pub invariant-loop-node : goal.invariant-loop-node
invariant-loop-node l = NoneBelow l.decoded l.hall l.index.starts l.index.components l.position l.node
