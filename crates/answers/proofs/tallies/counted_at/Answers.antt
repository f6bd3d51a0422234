-- `counted_at` meets its contract. Assumes nothing.
use native.Mathlib.Omega.{arith}
use Rattle.answers.proofs.CounterLaws.{raised_not, raised_one}
use Rattle.answers.proofs.tallies.counted_at.Goals as goal

pub returns-then-rule-number : goal.returns-then-rule-number
returns-then-rule-number c =
    raised_one _ _ _ c.number.result c.number.ensures c.if-rule-number.true _ c.saturating_add.ensures (omega arith)

pub returns : goal.returns
returns c = raised_not _ _ _ c.number.result c.number.ensures c.if-rule-number.false
