-- `write_at` meets its contract: the part is the slice that it was copied from. Assumes nothing.
use native.Mathlib.Omega.{arith}
use mathlib.Core.Path.{refl}
use Rattle.std.proofs.lemmas.Slice.{put_mid-paste}
use Rattle.buffer.specs.Splice.{written}
use Rattle.buffer.proofs.write_at.Goals as goal

pub returns : goal.returns
unfolding written
returns c = put_mid-paste _ _ _ _ c.args.new.now _ c.copy_from_slice.ensures.after (omega arith) refl
