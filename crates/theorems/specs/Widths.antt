-- How wide the terms are that wait to be opened.
-- Assumes nothing.
use Rattle.std.specs.Prelude.{ℕ, ◌+◌, List, [], ◌∷◌}
use Rattle.semantics.specs.Definitions.Terms.{Program, width}

-- what terms are wide in all
unfoldable pub widths : List Program → ℕ
widths [] = 0
widths (P ∷ Ps) = width P + widths Ps
