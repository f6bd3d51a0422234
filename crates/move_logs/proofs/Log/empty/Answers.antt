-- `Log::empty` meets its contract: no action, and zeros. Assumes nothing.
use mathlib.Core.Path.{refl}
use Rattle.semantics.specs.Definitions.Basics.{padded}
use Rattle.semantics.specs.Definitions.Logs.{empty_log}
use Rattle.move_logs.proofs.Log.empty.Goals as goal

pub returns : goal.returns
unfolding empty_log padded
returns c = record { counted = refl; bytes = refl }
