-- `admit_hall` meets its contract, return by return. Assumes nothing.
use Rattle.call_admit.proofs.AdmissionTests.{wrong_length, malformed, well_formed}
use Rattle.call_admit.proofs.admit_hall.Goals as goal

pub returns-then-hall-ne-HALL_SIZE : goal.returns-then-hall-ne-HALL_SIZE
returns-then-hall-ne-HALL_SIZE c = search wrong_length

pub returns-then-not-well_formed : goal.returns-then-not-well_formed
returns-then-not-well_formed c = search malformed

pub returns : goal.returns
returns c = search well_formed
