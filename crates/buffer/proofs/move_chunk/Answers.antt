-- `move_chunk` meets its contract: what the chunk has read is what is written. Assumes nothing.
use native.Mathlib.Omega.{arith}
use Rattle.buffer.proofs.Written.{by_chunk}
use Rattle.buffer.proofs.move_chunk.Goals as goal

pub returns : goal.returns
returns c = by_chunk _ _ _ _ _ _ _ (omega arith) c.copy_from_slice.ensures.after c.copy_from_slice-2.ensures.after
