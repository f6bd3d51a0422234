-- The log, the outputs and the shortage of the code, as those of the definitions.
-- Assumes nothing.
use Rattle.std.specs.Prelude.{ℕ, ◌≡◌, Option, List, map, length}
use Rattle.calculus.specs.Syntax.{Name, Log}
use Rattle.semantics.specs.Definitions.Basics.{padded}
use Rattle.semantics.specs.Definitions.Layout.{max_actions}
use Rattle.semantics.specs.Definitions.Stored.{action_byte}
use Rattle.move_logs.specs.declared.Log as code
use Rattle.move_logs.specs.declared.Outputs as code-outputs
use Rattle.answers.specs.declared.replies.Short.{Short}
use Rattle.answers.specs.Answers.{shortage_of}
use Rattle.move_logs.specs.Needs.{needs_of, short_at}
use Rattle.move_logs.specs.Writes.{outputs_size, output_bytes}

-- a value of the code is this log: so many actions, and their bytes as a leaf stores them
pub record LogIs (l : code.Log) (δ : Log) : Type 0 where
  pub counted : l.length ≡ length δ
  pub bytes : l.actions ≡ padded max_actions (map action_byte δ)

-- a value of the code is the outputs (putting stations) of these channels: so many, and their bytes with zeros behind
pub record OutputsAre (o : code-outputs.Outputs) (written : List Name) : Type 0 where
  pub counted : o.count ≡ length written
  pub bytes : o.bytes ≡ padded outputs_size (output_bytes written)

-- a value of the code says what bytes that need so much, whichever they are, are short of at the counts at an offset
pub record LowestFound (r : Option Short) (need s : List ℕ) (k : ℕ) : Type 0 where
  pub found : (bytes : List ℕ) → need ≡ needs_of bytes → shortage_of r ≡ short_at bytes s k
