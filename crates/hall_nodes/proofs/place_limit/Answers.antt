-- `place_limit` meets its contract. Assumes nothing.
use Rattle.hall_nodes.proofs.Logs.{limit_of_action, limit_of_zero}
use Rattle.hall_nodes.proofs.place_limit.Goals as goal

pub returns-then-place-lt-ZEROS : goal.returns-then-place-lt-ZEROS
returns-then-place-lt-ZEROS c = search limit_of_action

pub returns-else-place-lt-ZEROS : goal.returns-else-place-lt-ZEROS
returns-else-place-lt-ZEROS c = search limit_of_zero
