-- `named` meets its contract: the two kinds name a choice. Assumes nothing.
use Rattle.semantics.specs.Checks.Steps.{names_act, names_inside}
use Rattle.call_step.proofs.named.Goals as goal

pub returns-in-1 : goal.returns-in-1
returns-in-1 c = rw c.in-1.is names_act

pub returns-in-2 : goal.returns-in-2
returns-in-2 c = rw c.in-2.is names_inside
