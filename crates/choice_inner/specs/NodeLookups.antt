-- Where the node that an entry names begins, as the code of this crate finds it.
--
-- d is a decoded table; s has the bytes, starts the index, n the number of components (stations); p is a position and k
-- the number of a node.
-- Assumes nothing.
use Rattle.std.specs.Prelude.{ℕ, ◌+◌, ◌<◌, ◌≡◌, List, Some, Result, Ok, Err, get_or}
use Rattle.semantics.specs.Definitions.Moves.{inside}
use Rattle.hall_layout.specs.Layout.{transaction_kind, transaction_head}
use Rattle.hall_layout.specs.Nodes.{node_start}
use Rattle.answers.specs.declared.refusals.Reason.{Reason}
use Rattle.hall_held.specs.Holds.{Running}
use Rattle.hall_held.specs.Choices.{EntryLooked}

-- some configuration of some table is held
pub record CanFindNode (s starts : List ℕ) (n : ℕ) : Type 0 where
  pub decoded : List ℕ
  pub running : Running decoded s starts n

-- a transaction stands at position p, and its node number k begins at this offset
pub record NodeBegins (s starts : List ℕ) (n p k at : ℕ) : Type 0 where
  pub there : p < n
  pub kind : get_or s (get_or starts p 0) 0 ≡ transaction_kind
  pub place : node_start s (get_or starts p 0 + transaction_head) k ≡ Some at

-- where the node begins; or what the entry is refused by, whatever the table
abbrev pub NodeLookupIs : (s starts : List ℕ) (n p k : ℕ) → Result ℕ Reason → Type 0
NodeLookupIs s starts n p k (Ok at) = NodeBegins s starts n p k at
NodeLookupIs s starts n p k (Err e) = (d : List ℕ) → EntryLooked d s starts n (inside p k) (Err e)

pub record NodeFound (s starts : List ℕ) (n p k : ℕ) (r : Result ℕ Reason) : Type 0 where
  pub found : NodeLookupIs s starts n p k r
