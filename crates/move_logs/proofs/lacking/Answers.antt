-- `lacking` meets its contract. Assumes nothing.
use Rattle.move_logs.proofs.LowestShort.{within_enough}
use Rattle.move_logs.proofs.lacking.Goals as goal

pub returns-then-suffice : goal.returns-then-suffice
returns-then-suffice c = search within_enough
