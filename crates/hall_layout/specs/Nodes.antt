-- The walk over the nodes of a transaction, in preorder, on any list of bytes.
-- Assumes nothing.
use Rattle.std.specs.Prelude.{ℕ, zero, suc, ◌+◌, ◌-◌, cond, List, get_or, eqb, Option, Some, None}
use Rattle.hall_layout.specs.declared.Walk.{Walk}
use Rattle.hall_layout.specs.Layout.{fork_kind, fork_size, leaf_size, max_nodes}

-- ---- a node

-- the bytes that a node of this kind takes, a fork without its sides
unfoldable pub node_size : ℕ → ℕ
node_size k = cond (eqb k fork_kind) fork_size leaf_size

-- how many subtrees are to come behind it: of a fork its two sides, of a leaf none, and the others
unfoldable pub pending_behind : ℕ → ℕ → ℕ
pending_behind k p = cond (eqb k fork_kind) (p + 1) (p - 1)

-- ---- the walk

-- past so many nodes, with so many subtrees to come from an offset on
unfoldable pub passed : List ℕ → (nodes pending at : ℕ) → Walk
unfolding node_size pending_behind
passed s zero p at = record { at = at; pending = p; left = 0 }
passed s (suc n) zero at = record { at = at; pending = 0; left = suc n }
passed s (suc n) (suc p) at = passed s n (pending_behind (get_or s at 0) (suc p)) (at + node_size (get_or s at 0))

-- where node number k of the tree that begins at an offset begins, if there is one: there is none where no subtree is to come
unfoldable pub node_start : List ℕ → ℕ → ℕ → Option ℕ
unfolding passed
node_start s tree k = cond (eqb (passed s k 1 tree).pending 0) None (Some (passed s k 1 tree).at)

-- the end of the tree of at most 8 branches that begins at an offset
unfoldable pub tree_end : List ℕ → ℕ → ℕ
unfolding passed
tree_end s tree = (passed s max_nodes 1 tree).at
