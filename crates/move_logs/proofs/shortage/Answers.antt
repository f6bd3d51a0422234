-- `shortage` meets its contract. Assumes nothing.
use Rattle.move_logs.proofs.LowestShort.{lowest_found}
use Rattle.move_logs.proofs.shortage.Goals as goal

pub returns : goal.returns
returns c = search lowest_found
