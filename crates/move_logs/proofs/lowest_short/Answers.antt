-- `lowest_short` meets its contract: before each turn the channels below this one have what is needed. Assumes nothing.
use Rattle.move_logs.proofs.LowestShort.{short_here, short_nowhere}
use Rattle.move_logs.proofs.lowest_short.Goals as goal

pub returns-then-count-needed : goal.returns-then-count-needed
returns-then-count-needed c = search short_here

pub returns : goal.returns
returns c = search short_nowhere
