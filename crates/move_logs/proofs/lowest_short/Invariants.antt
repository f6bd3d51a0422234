-- `lowest_short` meets its contract: before each turn the channels below this one have what is needed. Assumes nothing.
use Rattle.move_logs.proofs.LowestShort.{EnoughBelow}
use Rattle.move_logs.proofs.lowest_short.Given as goal

abbrev pub invariant-loop-channel : goal.invariant-loop-channel
invariant-loop-channel l = EnoughBelow l.need l.s l.counts l.channel
