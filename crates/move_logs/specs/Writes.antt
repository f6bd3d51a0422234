-- What the bytes of a log write, and the components (putting stations) that this becomes at a commit.
-- Assumes nothing.
use Rattle.std.specs.Prelude.{ℕ, ◌-◌, ◌*◌, cond, List, [], ◌∷◌, ltb}
use Rattle.semantics.specs.Definitions.Layout.{max_actions, write_offset, output_kind}
use Rattle.hall_layout.specs.Layout.{idle_size}

-- the channels written, in log order
unfoldable pub writes_of : List ℕ → List ℕ
writes_of [] = []
writes_of (b ∷ bs) = cond (ltb b write_offset) (writes_of bs) ((b - write_offset) ∷ writes_of bs)

-- what a log of writes alone becomes, in bytes
abbrev pub outputs_size : ℕ
outputs_size = idle_size * max_actions

-- a component for each channel: its kind, and the channel
unfoldable pub output_bytes : List ℕ → List ℕ
output_bytes [] = []
output_bytes (a ∷ written) = output_kind ∷ a ∷ output_bytes written
