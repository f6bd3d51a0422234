-- `run_held` meets its contract: before each turn the rest of the schedule, run from the configuration that is held,
-- gives what the whole run gives; the measure is what is left of the schedule. Assumes nothing.
use Prim.Native.Nat.{◌-◌}
use lib.ListN.{length}
use mir.Syntax.{w64}
use mir.Val.{Fits}
use Rattle.answers.specs.Answers.{counters_of}
use Rattle.choice_run.proofs.RunSteps.{Going}
use Rattle.choice_run.proofs.run_held.Given as goal

abbrev pub invariant-loop-read : goal.invariant-loop-read
invariant-loop-read l = Fits w64 (length l.schedule) ×
    Going l.decoded l.initial.hall l.initial.index.starts l.initial.index.components l.schedule (counters_of l.initial.run.counters) l.hall l.index.starts l.index.components l.run

abbrev pub decreases-loop-read : goal.decreases-loop-read
decreases-loop-read l = length l.schedule - l.run.place
