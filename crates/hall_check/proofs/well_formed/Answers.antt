-- `well_formed` meets its contract: the components so far lead to what the bytes store. Assumes nothing.
use Rattle.hall_check.proofs.HallScans.{hall_short, hall_begun, hall_over, hall_zeros, hall_full, hall_broken, hall_next}
use Rattle.hall_check.proofs.well_formed.Goals as goal

pub returns-then-s-lt-CHANNELS : goal.returns-then-s-lt-CHANNELS
returns-then-s-lt-CHANNELS c = search hall_short

pub loop-at-init : goal.loop-at-init
loop-at-init c = search hall_begun

pub returns-then-s-at-eq0 : goal.returns-then-s-at-eq0
returns-then-s-at-eq0 c = search hall_zeros

pub returns-then-index-eq-MAX_COMPONENTS : goal.returns-then-index-eq-MAX_COMPONENTS
returns-then-index-eq-MAX_COMPONENTS c = search hall_full

pub returns-in-None : goal.returns-in-None
returns-in-None c = search (hall_broken, c.in-None.ensures)

pub loop-at-preserved : goal.loop-at-preserved
loop-at-preserved c = search (hall_next, c.in-Some.ensures)

pub returns : goal.returns
returns c = search hall_over
