-- `is_log` meets its contract: `fits` says whether the bytes so far are at most their limits. Assumes nothing.
use Rattle.hall_nodes.proofs.Logs.{log_begun, log_turn, log_done}
use Rattle.hall_nodes.proofs.is_log.Goals as goal

pub loop-i-init : goal.loop-i-init
loop-i-init c = search log_begun

pub loop-i-preserved : goal.loop-i-preserved
loop-i-preserved c = search log_turn

pub returns : goal.returns
returns c = search log_done
