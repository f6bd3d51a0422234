-- `Counters::fresh` meets its contract: three zeros. Assumes nothing.
use mathlib.Core.Path.{refl}
use Rattle.semantics.specs.Definitions.Run.{fresh_counters}
use Rattle.answers.proofs.tallies.Counters.fresh.Goals as goal

pub returns : goal.returns
unfolding fresh_counters
returns c = refl
