-- How a block begins (ATST): the bytes of its transaction as they are laid down.
-- Assumes nothing.
use Rattle.std.specs.Prelude.{ℕ, ◌+◌, List, ◌∷◌, ◌++◌, map, length, take}
use Rattle.semantics.specs.Definitions.Basics.{padded}
use Rattle.semantics.specs.Definitions.Logs.{empty_log}
use Rattle.semantics.specs.Definitions.Stored.{action_byte}
use Rattle.hall_layout.specs.Layout.{channels, max_actions, transaction_kind, leaf_kind, leaf_size, transaction_head}

-- how many they are
abbrev pub begun_size : ℕ
begun_size = transaction_head + leaf_size

-- the leaf of an expression's number, with the empty log
abbrev pub first_leaf : (expression : ℕ) → List ℕ
first_leaf e = leaf_kind ∷ e ∷ length empty_log ∷ padded max_actions (map action_byte empty_log)

-- the transaction of a block: the counts of the hall s are its snapshot, and its expression stands at one leaf
abbrev pub begun_bytes : (s : List ℕ) (block expression : ℕ) → List ℕ
begun_bytes s n e = transaction_kind ∷ n ∷ (take channels s ++ first_leaf e)
