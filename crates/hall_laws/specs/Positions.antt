-- Where the parts of a configuration stand in its bytes: a component by its number, a node of a tree by its number in
-- preorder.
-- Assumes nothing.
use Rattle.std.specs.Prelude.{ℕ, zero, suc, ◌+◌, ◌≤◌, ◌≡◌, List, [], ◌∷◌, ◌++◌, map, length, get_or, take}
use Rattle.calculus.specs.Syntax.{State}
use mathlib.Core.List.{flatten}
use Rattle.semantics.specs.Definitions.Configuration.{Tree, leaf, fork, Component, Configuration}
use Rattle.semantics.specs.Definitions.Stored.{tree_bytes, component_bytes, bytes_of}
use Rattle.semantics.specs.Definitions.Moves.{NodeAnswer, evolves, no_rule, out_of_range, move_at}
use Rattle.buffer.specs.Splice.{spliced, CanShift}
use Rattle.hall_layout.specs.Layout.{fork_kind, channels, hall_bytes}

-- ---- components

-- the components' bytes, one after the other
unfoldable pub all_bytes : List Component → List ℕ
unfolding flatten component_bytes
all_bytes cs = flatten (map component_bytes cs)

-- how many bytes are used: by the counts, and by the components behind them
unfoldable pub used_of : List Component → ℕ
unfolding all_bytes
used_of cs = channels + length (all_bytes cs)

-- where component number p begins: behind the counts and the components before it
unfoldable pub start_of : List Component → ℕ → ℕ
unfolding used_of
start_of cs p = used_of (take p cs)

-- an index of where each of the components begins; one entry more says where the last one ends
abbrev pub IsIndex : List ℕ → List Component → Type 0
IsIndex starts cs = (i : ℕ) → i ≤ length cs → get_or starts i 0 ≡ start_of cs i

-- components fit into a hall's bytes
abbrev pub FitsHall : List Component → Type 0
FitsHall cs = used_of cs ≤ hall_bytes

-- One splice, of v in the place of the bytes a..b, makes of the bytes of h those of k: what `splice` requires holds,
-- and this is what it ensures.
pub record BySplice (h k : Configuration) (a b : ℕ) (v : List ℕ) : Type 0 where
  pub ordered : a ≤ b
  pub room : CanShift (bytes_of h) b (a + length v) (used_of h.components)
  pub bytes : spliced (bytes_of h) a b v ≡ bytes_of k

-- ---- nodes

-- a tree with one subtree left out
pub data Context : Type 0 where
  top : Context
  left_of : Context → Tree → Context
  right_of : Tree → Context → Context

-- a tree in its place
unfoldable pub plug : Context → Tree → Tree
plug top t = t
plug (left_of c r) t = fork (plug c t) r
plug (right_of l c) t = fork l (plug c t)

-- the bytes before the subtree that is left out, and those behind it
unfoldable pub before : Context → List ℕ
unfolding tree_bytes
before top = []
before (left_of c r) = fork_kind ∷ before c
before (right_of l c) = fork_kind ∷ (tree_bytes l ++ before c)

unfoldable pub behind : Context → List ℕ
unfolding tree_bytes
behind top = []
behind (left_of c r) = behind c ++ tree_bytes r
behind (right_of l c) = behind c

-- a node of a tree: the subtree there and what is round it; or, past the last node, how far past it
pub data Node : Type 0 where
  node : Context → Tree → Node
  beyond : ℕ → Node

unfoldable pub in_right_of : Tree → Node → Node
in_right_of l (node c t) = node (right_of l c) t
in_right_of l (beyond k) = beyond k

unfoldable pub in_left_of : Tree → Node → (ℕ → Node) → Node
in_left_of r (node c t) right = node (left_of c r) t
in_left_of r (beyond k) right = right k

-- node number k in preorder
unfoldable pub subtree_at : Tree → ℕ → Node
unfolding in_left_of in_right_of
subtree_at (leaf M δ) zero = node top (leaf M δ)
subtree_at (leaf M δ) (suc k) = beyond k
subtree_at (fork l r) zero = node top (fork l r)
subtree_at (fork l r) (suc k) = in_left_of r (subtree_at l k) (λ j. in_right_of l (subtree_at r j))

-- the tree with another subtree at a node; past the last node nothing changes
unfoldable pub filled : Node → Tree → Tree → Tree
unfolding plug
filled (node c u) t v = plug c v
filled (beyond k) t v = t

unfoldable pub with_node : Tree → ℕ → Tree → Tree
unfolding filled subtree_at
with_node t k v = filled (subtree_at t k) t v

-- a move of the subtree at a node, as a move of the whole tree
unfoldable pub around : Context → NodeAnswer → NodeAnswer
unfolding plug
around c (evolves r w t) = evolves r w (plug c t)
around c no_rule = no_rule
around c out_of_range = out_of_range

unfoldable pub move_at_subtree : State → Node → NodeAnswer
unfolding around move_at
move_at_subtree s (node c t) = around c (move_at s t 0)
move_at_subtree s (beyond k) = out_of_range
