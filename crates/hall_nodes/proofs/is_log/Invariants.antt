-- `is_log` meets its contract: `fits` says whether the bytes so far are at most their limits. Assumes nothing.
use Rattle.hall_nodes.proofs.Logs.{LogSoFar}
use Rattle.hall_nodes.proofs.is_log.Given as goal

abbrev pub invariant-loop-i : goal.invariant-loop-i
invariant-loop-i l = LogSoFar l.s l.at l.size l.fits l.i
