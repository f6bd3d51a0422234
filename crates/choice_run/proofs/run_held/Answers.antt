-- `run_held` meets its contract: before each turn the rest of the schedule, run from the configuration that is held,
-- gives what the whole run gives; the measure is what is left of the schedule. Assumes nothing.
use borrow.Author.Rules.{rules}
use Rattle.choice_run.proofs.RunSteps.{run_begins, run_ends, run_malformed, run_refused, run_goes_on}
use Rattle.choice_run.proofs.run_held.Goals as goal

pub loop-read-init : goal.loop-read-init
loop-read-init c = (search rules, search run_begins)

pub returns-in_default-read : goal.returns-in_default-read
returns-in_default-read c = rw (c.and-run.ensures, c.in_default-read.is) (search run_malformed)

pub returns-in_default-reply : goal.returns-in_default-reply
returns-in_default-reply c =
    rw (c.and-run-in_default-reply.ensures, c.in_default-reply.is) (search (run_refused, c.in_default-reply.ensures))

pub loop-read-preserved : goal.loop-read-preserved
loop-read-preserved c = (search rules, search (run_goes_on, c.in-Ok-reply.ensures))

pub returns : goal.returns
returns c = search run_ends
