-- `is_crowded` meets its contract. Assumes nothing.
use Rattle.move_tokens.proofs.TokenTakes.{room_inside, opened_few, narrow_enough}
use native.Mathlib.Omega.{arith}
use Rattle.move_tokens.proofs.takes.is_crowded.Goals as goal

pub breadth_at-requires : goal.breadth_at-requires
breadth_at-requires c = search room_inside

pub returns-then-others-from-le-MAX_COMPONENTS : goal.returns-then-others-from-le-MAX_COMPONENTS
returns-then-others-from-le-MAX_COMPONENTS c = search narrow_enough

pub overflow_add-result : goal.overflow_add-result
overflow_add-result c = omega (arith, opened_few _ _ _ _ _ c.requires c.component_count.ensures)
