-- Demand 2 is said of something: every list of components stands for a process, and what an accepted choice does is
-- within the limits as the calculus has them.
-- Assumes nothing.
use native.Mathlib.Omega.{arith}
use Rattle.semantics.specs.Claims.Correspondence.{EveryHallDenotes, AcceptedIsWithinLimits}
use Rattle.theorems.proofs.GoodTable.{accepted_is_good}
use Rattle.theorems.proofs.WellFormedKept.{well_formed_step}
use Rattle.theorems.proofs.Completeness.{stands_length}
use Rattle.theorems.proofs.Accounts.{standing}

pub every_hall_denotes : EveryHallDenotes
unfolding EveryHallDenotes
every_hall_denotes = standing

pub accepted_is_within_limits : AcceptedIsWithinLimits
unfolding AcceptedIsWithinLimits
accepted_is_within_limits bs t a h ok e r g q P' stands =
    let w = well_formed_step e (accepted_is_good bs t a.1) ok q in
    let few = w.few in
    let as_many = stands_length stands in
    (w.channel_counts.1, omega arith)
