-- `zeros_from` meets its contract: the bytes so far are zeros where the largest of them is. Assumes nothing.
use native.Mathlib.Omega.{arith}
use Rattle.hall_check.proofs.Zeros.{quarters_begun, quarters_turn, quarters_done, rest_turn, rest_done}
use Rattle.hall_check.proofs.zeros_from.Goals as goal

pub loop-i-init : goal.loop-i-init
loop-i-init c = (omega arith, quarters_begun _ _ _)

pub loop-i-preserved : goal.loop-i-preserved
loop-i-preserved c =
    let low = c.max-low.ensures in
    let high = c.max-high.ensures in
    let both = c.max.ensures in
    (c.loop-i.invariant.0, quarters_turn _ _ _ _ _ c.loop-i.invariant.1 _ _ _ _ low high both c.max-top.ensures)

pub loop-i-2-init : goal.loop-i-2-init
loop-i-2-init c = search quarters_done

pub loop-i-2-preserved : goal.loop-i-2-preserved
loop-i-2-preserved c = let l = c.loop-i-2.auto.i in rest_turn _ _ _ _ c.loop-i-2.invariant _ c.max-top-in-loop-i-2.ensures (omega arith)

pub returns : goal.returns
returns c = search rest_done
