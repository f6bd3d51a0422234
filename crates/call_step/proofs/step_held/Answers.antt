-- `step_held` meets its contract: the look moved and the run did the choice, or it is refused. Assumes nothing.
use Rattle.call_step.proofs.HeldSteps.{step_moved, step_refused_holds}
use Rattle.call_step.proofs.step_held.Goals as goal

pub returns-in-Err : goal.returns-in-Err
returns-in-Err c = search step_refused_holds

pub returns : goal.returns
returns c = search step_moved
