-- `shift` meets its contract, on each of the three ways. Assumes nothing.
use native.Mathlib.Omega.{arith}
use Rattle.buffer.proofs.Splices.{shifted_down, shifted_up, shifted_none}
use Rattle.buffer.proofs.shift.Goals as goal

pub returns-then-e-b : goal.returns-then-e-b
returns-then-e-b c = shifted_none _ _ _ _ c.requires (omega arith) (omega arith)

pub returns-then-e-b-2 : goal.returns-then-e-b-2
returns-then-e-b-2 c = shifted_down _ _ _ _ _ _ c.move_bytes.ensures c.clear.ensures c.requires (omega arith)

pub returns-else-e-b-2 : goal.returns-else-e-b-2
returns-else-e-b-2 c = shifted_up _ _ _ _ _ c.move_bytes.ensures c.requires (omega arith)
