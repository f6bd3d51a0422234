-- `waits` meets its contract. Assumes nothing.
use native.Mathlib.Omega.{arith}
use Rattle.hall_check.proofs.ComponentScans.{waits_takes, waits_block, waits_no_other}
use Rattle.hall_check.proofs.waits.Goals as goal

pub returns-in_default : goal.returns-in_default
returns-in_default c = waits_no_other _ (λ z. omega arith) (λ z. omega arith) (λ z. omega arith)

pub returns-in_default-2 : goal.returns-in_default-2
returns-in_default-2 c = waits_no_other _ (λ z. omega arith) (λ z. omega arith) (λ z. omega arith)

pub returns-in-3 : goal.returns-in-3
returns-in-3 c = waits_block _ c.in-3.is

pub returns-in-3-2 : goal.returns-in-3-2
returns-in-3-2 c = waits_takes _ (omega arith) (omega arith)
