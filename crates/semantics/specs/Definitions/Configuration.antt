-- The hall (document 01, "The stored hall"): a configuration of counts and components, and what opening gives.
-- Assumes nothing.
use Rattle.std.specs.Prelude.{ℕ, ◌+◌, List, [], ◌∷◌, ◌++◌, map}
use Rattle.calculus.specs.Syntax.{Name, Log, State}
use Rattle.semantics.specs.Definitions.Terms.{Expression, Program, nil_t, put_t, take_t, repeat_t, par_t, atom_t, branches}
use Rattle.semantics.specs.Definitions.Table.{Table}

-- a component (station) with nothing begun: one that waits, with its term's number, or an output (putting station)
pub data Idle : Type 0 where
  taking repeating : ℕ → Name → Program → Idle
  block : ℕ → Expression → Idle
  output : Name → Idle

-- the nodes of a transaction (attempt): a leaf has what remains and its log
pub data Tree : Type 0 where
  leaf : Expression → Log → Tree
  fork : Tree → Tree → Tree

-- a component: idle, or a transaction of block number n with expression M, its snapshot and the tree of its nodes
pub data Component : Type 0 where
  idle : Idle → Component
  transaction : (n : ℕ) (M : Expression) (snapshot : State) (tree : Tree) → Component

pub record Configuration : Type 0 where
  pub counts : State
  pub components : List Component

-- the branches of a tree's remaining terms in all
unfoldable pub branches_of : Tree → ℕ
unfolding branches
branches_of (leaf M δ) = branches M
branches_of (fork l r) = branches_of l + branches_of r

-- how many nodes a tree has
unfoldable pub nodes : Tree → ℕ
nodes (leaf M δ) = 1
nodes (fork l r) = 1 + (nodes l + nodes r)

-- the nodes of a tree in preorder: each before the sides below it, and what is left before what is right
unfoldable pub preorder : Tree → List Tree
preorder (leaf M δ) = leaf M δ ∷ []
preorder (fork l r) = fork l r ∷ (preorder l ++ preorder r)

-- what a process opens into, from left to right; nil leaves nothing
unfoldable pub opens : Program → List Idle
opens (nil_t n) = []
opens (put_t n a) = output a ∷ []
opens (take_t n a P) = taking n a P ∷ []
opens (repeat_t n a P) = repeating n a P ∷ []
opens (par_t n P Q) = opens P ++ opens Q
opens (atom_t n M) = block n M ∷ []

-- a hall just opened: the tokens as counts, and what the start term opens into
unfoldable pub opening : Table → Configuration
unfolding opens
opening t = record { counts = t.tokens; components = map idle (opens t.start) }
