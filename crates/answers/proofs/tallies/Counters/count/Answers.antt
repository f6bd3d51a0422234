-- `Counters::count` meets its contract: each of the three counters is raised by its own rule. Assumes nothing.
use Rattle.answers.specs.Answers.{number_of_rule, counted_by}
use Rattle.answers.proofs.tallies.Counters.count.Goals as goal

pub returns : goal.returns
unfolding counted_by number_of_rule
returns c = λ i. record {
  commits = c.counted_at.ensures i;
  failed = c.counted_at-2.ensures i;
  retries = c.counted_at-3.ensures i;
}
