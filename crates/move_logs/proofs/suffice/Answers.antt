-- `suffice` meets its contract: before each turn the reads among the actions so far were taken. Assumes nothing.
use native.Mathlib.Omega.{arith}
use Prim.Native.Nat.{◌-◌}
use mathlib.Core.Path.{refl, ◌∙◌}
use lib.ListN.{length, take, drop, length-set}
use lib.Seq.{take_all}
use Rattle.move_logs.proofs.Needs.{log_is}
use Rattle.move_logs.proofs.CountsLeft.{Leaves, left_length, leaves_start, left_turn, left_none, left_end}
use Rattle.move_logs.proofs.suffice.Goals as goal

pub loop-byte-init : goal.loop-byte-init
loop-byte-init c = (search left_length, search leaves_start)

pub returns-then-count-taken : goal.returns-then-count-taken
returns-then-count-taken c =
    rw (← (log_is c.args.s.now c.args.at c.args.size)) (left_none _ _ _ _ _ _ c.loop-byte.invariant.1 refl (omega arith) _ _ _
    c.taken_by-taken.ensures c.from-channel.ensures refl _ (omega arith))

pub loop-byte-preserved : goal.loop-byte-preserved
loop-byte-preserved c = (simp length-set (omega arith), search left_turn)

pub returns : goal.returns
returns c =
    let log = take c.args.size (take (length c.args.s.now - c.args.at) (drop c.args.at c.args.s.now)) in
    let whole = take_all c.loop-byte.byte-index log (omega arith) ∙ log_is c.args.s.now c.args.at c.args.size in
    let m : Leaves c.loop-byte.left c.args.s.now c.args.counts (take c.args.size (drop c.args.at c.args.s.now)) =
    rw whole at c.loop-byte.invariant.1 in
    left_end _ _ _ _ _ _ _ _ m c.loop-byte.invariant.0 c.taken_by.ensures c.from.ensures refl
