-- A move inside a transaction, found by walking down its tree: at the root, in a fork's left side, in its right side behind
-- the nodes of the left one, or past the last node.
-- Assumes nothing.
use Prim.Native.Nat.{ℕ, zero, suc, ◌+◌, ◌-◌, ◌≤◌, ◌<◌}
use native.Mathlib.Omega.{arith}
use native.Mathlib.Decide.{dec_lt}
use mathlib.Core.Path.{◌≡◌, refl, ◌∙◌, subst}
use mathlib.Core.Option.{Option, none, some, Option-elim}
use mathlib.Core.List.{◌++◌}
use lib.ListN.{length, get_elem?, length-append}
use borrow.Author.Tests.{lt-ltb, le-ltb}
use Rattle.calculus.specs.Syntax.{Log, State}
use Rattle.calculus.specs.Reduction.{Rule}
use Rattle.semantics.specs.Definitions.Shortage.{Shortage}
use Rattle.semantics.specs.Definitions.Terms.{Expression}
use Rattle.semantics.specs.Definitions.Configuration.{Tree, leaf, fork, nodes, preorder}
use Rattle.semantics.specs.Definitions.Moves.{NodeAnswer, evolves, no_rule, out_of_range, at_node, put_back_move, move_at}
use Rattle.theorems.proofs.Lists.{found_left, found_right, found_below}

-- ---- the nodes of a fork

-- as many nodes in preorder as in the tree
pub length_preorder : (t : Tree) → length (preorder t) ≡ nodes t
unfolding preorder nodes
length_preorder (leaf M δ) = refl
length_preorder (fork l r) = let a = length_preorder l in let b = length_preorder r in let c = length-append (preorder l) (preorder r) in omega arith

-- a node of a fork's left side, and one of its right side
pub node_left : (l r : Tree) (k : ℕ) → k < nodes l → get_elem? (preorder l ++ preorder r) k ≡ get_elem? (preorder l) k
node_left l r k h = found_left (preorder l) (preorder r) k (rw length_preorder h)

pub node_right : (l r : Tree) (j : ℕ) → get_elem? (preorder l ++ preorder r) (nodes l + j) ≡ get_elem? (preorder r) j
node_right l r j = rw (← (length_preorder l)) (found_right (preorder l) (preorder r) j)

-- ---- a move of a side is a move of the fork

unfoldable pub in_left : Tree → NodeAnswer → NodeAnswer
in_left r (evolves e w u) = evolves e w (fork u r)
in_left r no_rule = no_rule
in_left r out_of_range = out_of_range

unfoldable pub in_right : Tree → NodeAnswer → NodeAnswer
in_right l (evolves e w u) = evolves e w (fork l u)
in_right l no_rule = no_rule
in_right l out_of_range = out_of_range

-- what is put back at the root stands alone; in a fork it stands in the left side, or in the right one
put_root : (t : Tree) (i : NodeAnswer) → put_back_move t 0 i ≡ i
unfolding put_back_move
put_root (leaf M δ) (evolves e w u) = refl
put_root (fork l r) (evolves e w u) = refl
put_root t no_rule = refl
put_root t out_of_range = refl

put_left : (l r : Tree) (k : ℕ) → k < nodes l → (i : NodeAnswer) → put_back_move (fork l r) (suc k) i ≡ in_left r (put_back_move l k i)
unfolding put_back_move in_left
put_left l r k h (evolves e w u) = rw (lt-ltb k (nodes l) h)
put_left l r k h no_rule = refl
put_left l r k h out_of_range = refl

put_right : (l r : Tree) (j : ℕ) (i : NodeAnswer) → put_back_move (fork l r) (suc (nodes l + j)) i ≡ in_right l (put_back_move r j i)
unfolding put_back_move in_right
put_right l r j (evolves e w u) =
    let back : nodes l + j - nodes l ≡ j = omega arith in rw (le-ltb (nodes l + j) (nodes l) (omega arith), back)
put_right l r j no_rule = refl
put_right l r j out_of_range = refl

module _ (s : State) where
  -- at the root
  pub move_at_root : (t : Tree) → move_at s t 0 ≡ at_node s t
  unfolding move_at
  move_at_root (leaf M δ) = put_root (leaf M δ) (at_node s (leaf M δ))
  move_at_root (fork l r) = put_root (fork l r) (at_node s (fork l r))

  -- in the left side
  pub move_at_left : (l r : Tree) (k : ℕ) → k < nodes l → move_at s (fork l r) (suc k) ≡ in_left r (move_at s l k)
  unfolding move_at in_left
  move_at_left l r k h = rw (node_left l r k h) (go (get_elem? (preorder l) k))
    where
      go : (o : Option Tree) →
          Option-elim o out_of_range (λ u. put_back_move (fork l r) (suc k) (at_node s u))
          ≡ in_left r (Option-elim o out_of_range (λ u. put_back_move l k (at_node s u)))
      go none = refl
      go (some u) = put_left l r k h (at_node s u)

  -- in the right side
  pub move_at_right : (l r : Tree) (j : ℕ) → move_at s (fork l r) (suc (nodes l + j)) ≡ in_right l (move_at s r j)
  unfolding move_at in_right
  move_at_right l r j = rw (node_right l r j) (go (get_elem? (preorder r) j))
    where
      go : (o : Option Tree) →
          Option-elim o out_of_range (λ u. put_back_move (fork l r) (suc (nodes l + j)) (at_node s u))
          ≡ in_right l (Option-elim o out_of_range (λ u. put_back_move r j (at_node s u)))
      go none = refl
      go (some u) = put_right l r j (at_node s u)

  -- past a leaf
  pub move_at_past_leaf : (M : Expression) (δ : Log) (k : ℕ) → move_at s (leaf M δ) (suc k) ≡ out_of_range
  unfolding move_at
  move_at_past_leaf M δ k = refl

  -- a node that moves is one of the tree's
  pub evolves_below : (t : Tree) (k : ℕ) {u : Tree} {e : Rule} {w : Shortage} → move_at s t k ≡ evolves e w u → k < nodes t
  unfolding move_at
  evolves_below t k {u} {e} {w} q = go (get_elem? (preorder t) k) refl q
    where
      go : (o : Option Tree) → get_elem? (preorder t) k ≡ o →
          Option-elim o out_of_range (λ v. put_back_move t k (at_node s v)) ≡ evolves e w u → k < nodes t
      go none f q = absurd (let z : ◌≡◌ {A = ℕ} 0 1 = cc in omega arith)
      go (some v) f q = let b = found_below (preorder t) k v f in let n = length_preorder t in omega arith

  -- a side's move, as the fork's
  pub left_evolves : (l r : Tree) (k : ℕ) {u : Tree} {e : Rule} {w : Shortage} → move_at s l k ≡ evolves e w u →
      move_at s (fork l r) (suc k) ≡ evolves e w (fork u r)
  unfolding in_left
  left_evolves l r k q = move_at_left l r k (evolves_below l k q) ∙ rw q

  pub right_evolves : (l r : Tree) (j : ℕ) {u : Tree} {e : Rule} {w : Shortage} → move_at s r j ≡ evolves e w u →
      move_at s (fork l r) (suc (nodes l + j)) ≡ evolves e w (fork l u)
  unfolding in_right
  right_evolves l r j q = move_at_right l r j ∙ rw q

-- ---- induction over the nodes

-- what holds at the root, goes up from either side, and holds past the last node, holds of every node
module _ (s : State) (Q : Tree → ℕ → NodeAnswer → Type 0)
    (root : (t : Tree) → Q t 0 (at_node s t))
    (left : (l r : Tree) (k : ℕ) → k < nodes l → (i : NodeAnswer) → Q l k i → Q (fork l r) (suc k) (in_left r i))
    (right : (l r : Tree) (j : ℕ) (i : NodeAnswer) → Q r j i → Q (fork l r) (suc (nodes l + j)) (in_right l i))
    (past : (t : Tree) (k : ℕ) → nodes t ≤ k → Q t k out_of_range) where
  side : (l r : Tree) (k : ℕ) → Q l k (move_at s l k) → ((j : ℕ) → Q r j (move_at s r j)) → Q (fork l r) (suc k) (move_at s (fork l r) (suc k))
  side l r k x y = elim (dec_lt k (nodes l)) [
    | yes h ↦ rw (move_at_left s l r k h) (left l r k h (move_at s l k) x)
    | no h ↦ let e : nodes l + (k - nodes l) ≡ k = omega arith in
        subst (λ m. Q (fork l r) (suc m) (move_at s (fork l r) (suc m))) e
        (rw (move_at_right s l r (k - nodes l)) (right l r (k - nodes l) (move_at s r (k - nodes l)) (y (k - nodes l))))
  ]

  pub node_induction : (t : Tree) (k : ℕ) → Q t k (move_at s t k)
  unfolding nodes
  node_induction (leaf M δ) zero = rw (move_at_root s (leaf M δ)) (root (leaf M δ))
  node_induction (leaf M δ) (suc k) = rw (move_at_past_leaf s M δ k) (past (leaf M δ) (suc k) (omega arith))
  node_induction (fork l r) zero = rw (move_at_root s (fork l r)) (root (fork l r))
  node_induction (fork l r) (suc k) = side l r k (node_induction l k) (node_induction r)
