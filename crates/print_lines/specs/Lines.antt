-- Lines of numbers.
-- Assumes nothing.
use Rattle.std.specs.Prelude.{ℕ, List, ◌∷◌, map}
use mathlib.Core.List.{flatten}
use Rattle.semantics.specs.Definitions.Run.{net}
use Rattle.semantics.specs.Definitions.Report.{decimal, signed, line}

-- numbers, each behind a space
unfoldable pub words_of : List ℕ → List ℕ
unfolding decimal flatten
words_of ns = flatten (map (◌∷◌ 32) (map decimal ns))

-- a line of them
unfoldable pub number_line : (letter : ℕ) → List ℕ → List ℕ
unfolding line decimal
number_line letter ns = line letter (map decimal ns)

-- a part of the line of a channel (tray): its net
unfoldable pub net_word : (first last : ℕ) → List ℕ
unfolding signed net
net_word f l = 32 ∷ signed (net f l)
