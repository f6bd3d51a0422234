-- `taken_by` meets its contract. Assumes nothing.
use Rattle.std.proofs.Common.{rules}
use Rattle.move_logs.specs.Needs.{taken_by}
use Rattle.move_logs.proofs.taken_by.Goals as goal

pub returns : goal.returns
unfolding taken_by
returns c = search rules
