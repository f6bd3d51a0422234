-- `splice` meets its contract: the tail is moved, then the new part written before it. Assumes nothing.
use Rattle.buffer.proofs.Splices.{spliced_from}
use Rattle.buffer.proofs.splice.Goals as goal

pub returns-clause-s_after : goal.returns-clause-s_after
returns-clause-s_after c = search spliced_from
