-- `tell_verdict` meets its contract: 0 of whatever is accepted, and a refusal by its number and place.
-- Assumes nothing.
use Rattle.answers.proofs.Cases.{accepted_answered, refused_answered}
use Rattle.answers.proofs.verdicts.tell_verdict.Goals as goal

pub returns-in-Ok : goal.returns-in-Ok
returns-in-Ok g c = search accepted_answered

pub returns-in-Err : goal.returns-in-Err
returns-in-Err g c = search refused_answered
