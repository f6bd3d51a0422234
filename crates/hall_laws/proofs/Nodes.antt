-- The nodes of a transaction in its bytes: the walk over a tree's bytes ends behind them and finds each node where
-- its bytes begin; a subtree in its place; a move at a node.
-- Assumes nothing.
use Prim.Native.Nat.{ℕ, zero, suc, ◌+◌, ◌*◌, ◌-◌, ◌≤◌, ◌<◌}
use native.Mathlib.Omega.{arith}
use mathlib.Core.Path.{◌≡◌, refl, sym, ap, ◌∙◌}
use mathlib.Core.List.{List, [], ◌∷◌, ◌++◌, map, append_assoc, append-nil}
use lib.ListN.{length, get_or, drop, length-append, length-map}
use borrow.Author.Tests.{ne_eqb}
use Rattle.calculus.specs.Syntax.{Log, State}
use Rattle.calculus.specs.Reduction.{Rule}
use Rattle.semantics.specs.Definitions.Shortage.{Shortage}
use Rattle.semantics.specs.Definitions.Terms.{Expression, Term}
use Rattle.semantics.specs.Definitions.Configuration.{Tree, leaf, fork, branches_of, nodes}
use Rattle.semantics.specs.Definitions.Stored.{action_byte, tree_bytes, TreeOk}
use Rattle.semantics.specs.Definitions.Moves.{NodeAnswer, evolves, no_rule, out_of_range, at_node, move_at}
use Rattle.theorems.proofs.Measures.{branches_positive}
use Rattle.theorems.proofs.Trees.{length_padded}
use Rattle.theorems.proofs.Walk.{in_left, in_right, move_at_root, node_induction}
use Rattle.std.specs.Prelude.{Some, None}
use Rattle.hall_layout.specs.declared.Walk.{Walk}
use Rattle.hall_layout.specs.Layout.{fork_kind, leaf_kind, leaf_size, max_actions, max_branches, max_nodes, fork_size}
use Rattle.hall_layout.specs.Nodes.{node_size, pending_behind, passed, node_start, tree_end}
use Rattle.hall_layout.proofs.Nodes.{passed_over}
use Rattle.hall_laws.specs.Positions.{Context, top, left_of, right_of, plug, before, behind, Node, node, beyond, in_right_of, in_left_of, subtree_at, filled, with_node, around, move_at_subtree}
use Rattle.hall_laws.proofs.Cursors.{first_byte, over}

-- ---- how many

pub leaf_bytes : (M : Expression) (δ : Log) → length δ ≤ max_actions → length (tree_bytes (leaf M δ)) ≡ leaf_size
unfolding tree_bytes
leaf_bytes M δ h =
    let n : length (map action_byte δ) ≤ max_actions = rw (length-map δ action_byte) h in
    let p = length_padded max_actions (map action_byte δ) n in omega arith

-- a fork for each leaf but one
pub few_nodes : (t : Tree) → nodes t + 1 ≤ 2 * branches_of t
unfolding nodes branches_of
few_nodes (leaf M δ) = let b = branches_positive M in omega arith
few_nodes (fork l r) = let h = few_nodes l in let g = few_nodes r in omega arith

-- ---- the walk

-- past the last node of a tree
pub beyond_nodes : (t : Tree) (k : ℕ) → subtree_at t (nodes t + k) ≡ beyond k
unfolding nodes subtree_at in_left_of in_right_of
beyond_nodes (leaf M δ) k = let z : 1 + k ≡ suc k = omega arith in rw z
beyond_nodes (fork l r) k =
    let z : 1 + (nodes l + nodes r) + k ≡ suc (nodes l + (nodes r + k)) = omega arith in
    rw (z, beyond_nodes l (nodes r + k), beyond_nodes r k)

-- and a node that is not there lies past it
unfoldable Past : Tree → ℕ → Node → Type 0
Past t k (node c u) = Unit {0}
Past t k (beyond j) = k ≡ nodes t + j

past_nodes : (t : Tree) (k : ℕ) → Past t k (subtree_at t k)
unfolding Past nodes subtree_at in_left_of in_right_of
past_nodes (leaf M δ) zero = tt
past_nodes (leaf M δ) (suc k) = omega arith
past_nodes (fork l r) zero = tt
past_nodes (fork l r) (suc k) = go (subtree_at l k) (past_nodes l k) (past_nodes r)
  where
    right : (j : ℕ) → k ≡ nodes l + j → (N : Node) → Past r j N → Past (fork l r) (suc k) (in_right_of l N)
    right j e (node c u) h = tt
    right j e (beyond i) h = omega arith

    go : (N : Node) → Past l k N → ((j : ℕ) → Past r j (subtree_at r j)) →
        Past (fork l r) (suc k) (in_left_of r N (λ j. in_right_of l (subtree_at r j)))
    go (node c u) h g = tt
    go (beyond j) h g = right j h (subtree_at r j) (g j)

-- what a walk past k nodes comes to in a tree of n bytes at an offset, with p subtrees to come behind it
Finds : List ℕ → (p at k n : ℕ) → Node → Type 0
Finds s p at k n (node c t) = (q : ℕ) × (passed s k (suc p) at ≡ record { at = at + length (before c); pending = suc q; left = 0 })
Finds s p at k n (beyond j) = passed s k (suc p) at ≡ passed s j p (at + n)

-- of a fork it comes to what it comes to in the left side, or else in the right side
finds_right : (s : List ℕ) (p at k : ℕ) (l r : Tree) (j : ℕ) (R : Node) → passed s k (suc p) at ≡ passed s j (suc p) (at + fork_size + length (tree_bytes l)) →
    Finds s p (at + fork_size + length (tree_bytes l)) j (length (tree_bytes r)) R → Finds s p at k (length (tree_bytes (fork l r))) (in_right_of l R)
unfolding Finds in_right_of before tree_bytes
finds_right s p at k l r j (node c t) e h =
    let n = length-append (tree_bytes l) (before c) in
    let z : at + fork_size + length (tree_bytes l) + length (before c) ≡ at + length (fork_kind ∷ (tree_bytes l ++ before c)) = omega arith in
    (h.0, e ∙ h.1 ∙ rw z)
finds_right s p at k l r j (beyond i) e h =
    let n = length-append (tree_bytes l) (tree_bytes r) in
    let z : at + fork_size + length (tree_bytes l) + length (tree_bytes r) ≡ at + length (fork_kind ∷ (tree_bytes l ++ tree_bytes r)) = omega arith in
    e ∙ h ∙ ap (passed s i p) z

finds_left : (s : List ℕ) (p at k i : ℕ) (l r : Tree) (L : Node) → passed s k (suc p) at ≡ passed s i (suc (suc p)) (at + fork_size) →
    Finds s (suc p) (at + fork_size) i (length (tree_bytes l)) L →
    ((j : ℕ) → Finds s p (at + fork_size + length (tree_bytes l)) j (length (tree_bytes r)) (subtree_at r j)) →
    Finds s p at k (length (tree_bytes (fork l r))) (in_left_of r L (λ j. in_right_of l (subtree_at r j)))
unfolding Finds in_left_of before
finds_left s p at k i l r (node c t) e h right =
    let z : at + fork_size + length (before c) ≡ at + length (fork_kind ∷ before c) = omega arith in (h.0, e ∙ h.1 ∙ rw z)
finds_left s p at k i l r (beyond j) e h right = finds_right s p at k l r j (subtree_at r j) (e ∙ h) (right j)

-- past the first node of a tree
past_leaf : (s : List ℕ) (k p at : ℕ) → get_or s at 0 ≡ leaf_kind → passed s (suc k) (suc p) at ≡ passed s k p (at + leaf_size)
unfolding passed node_size pending_behind
past_leaf s k p at e = let z : suc p - 1 ≡ p = omega arith in rw (e, z)

pub past_fork : (s : List ℕ) (k p at : ℕ) → get_or s at 0 ≡ fork_kind → passed s (suc k) (suc p) at ≡ passed s k (suc (suc p)) (at + fork_size)
unfolding passed node_size pending_behind
past_fork s k p at e = let z : suc p + 1 ≡ suc (suc p) = omega arith in rw (e, z)

finds_node : (ts : List Term) (t : Tree) (s : List ℕ) (at p k : ℕ) (rest : List ℕ) → TreeOk ts t → drop at s ≡ tree_bytes t ++ rest →
    Finds s p at k (length (tree_bytes t)) (subtree_at t k)
unfolding TreeOk tree_bytes subtree_at Finds before passed
finds_node ts (leaf M δ) s at p zero rest ok e = let z : at + 0 ≡ at = omega arith in (p, rw z)
finds_node ts (leaf M δ) s at p (suc k) rest ok e = let h = ok.1 in rw (leaf_bytes M δ (omega arith)) (past_leaf s k p at (first_byte s at leaf_kind _ e))
finds_node ts (fork l r) s at p zero rest ok e = let z : at + 0 ≡ at = omega arith in (p, rw z)
finds_node ts (fork l r) s at p (suc k) rest ok e =
    let e' : drop (at + fork_size) s ≡ tree_bytes l ++ (tree_bytes r ++ rest) = over s at (fork_kind ∷ []) _ e ∙ append_assoc (tree_bytes l) (tree_bytes r) rest in
    let e'' = over s (at + fork_size) (tree_bytes l) (tree_bytes r ++ rest) e' in
    finds_left s p at (suc k) k l r (subtree_at l k) (past_fork s k p at (first_byte s at fork_kind _ e))
    (finds_node ts l s (at + fork_size) (suc p) k (tree_bytes r ++ rest) ok.0 e')
    (λ j. finds_node ts r s (at + fork_size + length (tree_bytes l)) p j rest ok.1 e'')

module _ (ts : List Term) (t : Tree) (s : List ℕ) (at : ℕ) (rest : List ℕ) (ok : TreeOk ts t) (e : drop at s ≡ tree_bytes t ++ rest) where
  -- past k nodes, and past all of them
  passed_to : (k : ℕ) (c : Context) (u : Tree) → subtree_at t k ≡ node c u →
      (q : ℕ) × (passed s k 1 at ≡ record { at = at + length (before c); pending = suc q; left = 0 })
  unfolding Finds
  passed_to k c u n = rw n at (finds_node ts t s at 0 k rest ok e)

  passed_all : (k j : ℕ) → subtree_at t k ≡ beyond j → passed s k 1 at ≡ record { at = at + length (tree_bytes t); pending = 0; left = j }
  unfolding Finds
  passed_all k j n = (rw n at (finds_node ts t s at 0 k rest ok e)) ∙ passed_over s j (at + length (tree_bytes t))

  -- node number k begins behind the bytes before it, and there is none past the last
  pub node_starts : (k : ℕ) (c : Context) (u : Tree) → subtree_at t k ≡ node c u → node_start s at k ≡ Some (at + length (before c))
  unfolding node_start
  node_starts k c u n = let w = passed_to k c u n in rw (w.1, ne_eqb (suc w.0) 0 (λ z. omega arith))

  pub node_missing : (k j : ℕ) → subtree_at t k ≡ beyond j → node_start s at k ≡ None
  unfolding node_start
  node_missing k j n = rw (passed_all k j n)

  -- a tree of at most 8 branches ends where its bytes do
  pub tree_ends : branches_of t ≤ max_branches → tree_end s at ≡ at + length (tree_bytes t)
  unfolding tree_end
  tree_ends few =
      let m = few_nodes t in
      let z : nodes t + (max_nodes - nodes t) ≡ max_nodes = omega arith in
      let b = rw z at (beyond_nodes t (max_nodes - nodes t)) in ap (λ (w : Walk). w.at) (passed_all max_nodes (max_nodes - nodes t) b)

-- ---- contexts

-- the bytes of a tree in its place
pub plug_bytes : (c : Context) (t : Tree) → tree_bytes (plug c t) ≡ before c ++ (tree_bytes t ++ behind c)
unfolding plug before behind tree_bytes
plug_bytes top t = sym (append-nil (tree_bytes t))
plug_bytes (left_of c r) t = ap (◌∷◌ fork_kind) (rw (plug_bytes c t) (simp append_assoc))
plug_bytes (right_of l c) t = ap (◌∷◌ fork_kind) (rw (plug_bytes c t) (simp append_assoc))

-- a tree is what stands at a node, in its place
Rebuilt : Tree → Node → Type 0
Rebuilt t (node c u) = t ≡ plug c u
Rebuilt t (beyond k) = Unit {0}

rebuilt_right : (l r : Tree) (R : Node) → Rebuilt r R → Rebuilt (fork l r) (in_right_of l R)
unfolding Rebuilt in_right_of plug
rebuilt_right l r (node c u) h = ap (fork l) h
rebuilt_right l r (beyond k) h = tt

rebuilt_left : (l r : Tree) (L : Node) → Rebuilt l L → ((j : ℕ) → Rebuilt r (subtree_at r j)) → Rebuilt (fork l r) (in_left_of r L (λ j. in_right_of l (subtree_at r j)))
unfolding Rebuilt in_left_of plug
rebuilt_left l r (node c u) h right = ap (λ x. fork x r) h
rebuilt_left l r (beyond k) h right = rebuilt_right l r (subtree_at r k) (right k)

rebuilt : (t : Tree) (k : ℕ) → Rebuilt t (subtree_at t k)
unfolding Rebuilt subtree_at plug
rebuilt (leaf M δ) zero = refl
rebuilt (leaf M δ) (suc k) = tt
rebuilt (fork l r) zero = refl
rebuilt (fork l r) (suc k) = rebuilt_left l r (subtree_at l k) (rebuilt l k) (λ j. rebuilt r j)

pub node_of : (t : Tree) (k : ℕ) (c : Context) (u : Tree) → subtree_at t k ≡ node c u → t ≡ plug c u
unfolding Rebuilt
node_of t k c u e = rw e at (rebuilt t k)

pub with_node_holds : (t : Tree) (k : ℕ) (c : Context) (u v : Tree) → subtree_at t k ≡ node c u → with_node t k v ≡ plug c v
unfolding with_node filled
with_node_holds t k c u v e = rw e refl

-- the subtree at a node is in order where the tree is, and has no more branches
pub plug_ok : (ts : List Term) (c : Context) (t : Tree) → TreeOk ts (plug c t) → TreeOk ts t
unfolding plug TreeOk
plug_ok ts top t ok = ok
plug_ok ts (left_of c r) t ok = plug_ok ts c t ok.0
plug_ok ts (right_of l c) t ok = plug_ok ts c t ok.1

pub plug_branches : (c : Context) (t : Tree) → branches_of t ≤ branches_of (plug c t)
unfolding plug branches_of
plug_branches top t = omega arith
plug_branches (left_of c r) t = let h = plug_branches c t in omega arith
plug_branches (right_of l c) t = let h = plug_branches c t in omega arith

-- ---- moves inside

module _ (s : State) where
  around_here : (I : NodeAnswer) → around top I ≡ I
  unfolding around plug
  around_here (evolves r w u) = refl
  around_here no_rule = refl
  around_here out_of_range = refl

  around_left : (r : Tree) (c : Context) (I : NodeAnswer) → in_left r (around c I) ≡ around (left_of c r) I
  unfolding in_left around plug
  around_left r c (evolves e w t) = refl
  around_left r c no_rule = refl
  around_left r c out_of_range = refl

  around_right : (l : Tree) (c : Context) (I : NodeAnswer) → in_right l (around c I) ≡ around (right_of l c) I
  unfolding in_right around plug
  around_right l c (evolves r w t) = refl
  around_right l c no_rule = refl
  around_right l c out_of_range = refl

  -- at the root, in a fork's left side, in its right side
  at_root : (t : Tree) → at_node s t ≡ move_at_subtree s (subtree_at t 0)
  unfolding subtree_at move_at_subtree
  at_root (leaf M δ) = sym (around_here (move_at s (leaf M δ) 0) ∙ move_at_root s (leaf M δ))
  at_root (fork l r) = sym (around_here (move_at s (fork l r) 0) ∙ move_at_root s (fork l r))

  at_left : (l r : Tree) (k : ℕ) → k < nodes l → (I : NodeAnswer) → I ≡ move_at_subtree s (subtree_at l k) →
      in_left r I ≡ move_at_subtree s (subtree_at (fork l r) (suc k))
  unfolding subtree_at move_at_subtree in_left_of Past
  at_left l r k h I q = ap (in_left r) q ∙ go (subtree_at l k) (past_nodes l k)
    where
      go : (N : Node) → Past l k N → in_left r (move_at_subtree s N) ≡ move_at_subtree s (in_left_of r N (λ j. in_right_of l (subtree_at r j)))
      go (node c u) p = around_left r c (move_at s u 0)
      go (beyond j) p = absurd (omega arith)

  at_right : (l r : Tree) (j : ℕ) (I : NodeAnswer) → I ≡ move_at_subtree s (subtree_at r j) →
      in_right l I ≡ move_at_subtree s (subtree_at (fork l r) (suc (nodes l + j)))
  unfolding subtree_at move_at_subtree in_left_of in_right_of in_right
  at_right l r j I q = ap (in_right l) q ∙ rw (beyond_nodes l j) (go (subtree_at r j))
    where
      go : (N : Node) → in_right l (move_at_subtree s N) ≡ move_at_subtree s (in_right_of l N)
      go (node c u) = around_right l c (move_at s u 0)
      go (beyond i) = refl

  past_last : (t : Tree) (k : ℕ) → nodes t ≤ k → out_of_range ≡ move_at_subtree s (subtree_at t k)
  unfolding move_at_subtree
  past_last t k h =
      let e : k ≡ nodes t + (k - nodes t) = omega arith in
      sym (ap (move_at_subtree s) (ap (subtree_at t) e ∙ beyond_nodes t (k - nodes t)))

  -- a move at node number k is the move of the subtree there, in its place; past the last node there is none
  pub move_at_subtree_holds : (t : Tree) (k : ℕ) → move_at s t k ≡ move_at_subtree s (subtree_at t k)
  move_at_subtree_holds = node_induction s (λ t k I. I ≡ move_at_subtree s (subtree_at t k)) at_root at_left at_right past_last

pub move_at_node : (s : State) (t : Tree) (k : ℕ) (c : Context) (u : Tree) → subtree_at t k ≡ node c u → move_at s t k ≡ around c (move_at s u 0)
unfolding move_at_subtree
move_at_node s t k c u e = move_at_subtree_holds s t k ∙ ap (move_at_subtree s) e

pub move_at_past : (s : State) (t : Tree) (k j : ℕ) → subtree_at t k ≡ beyond j → move_at s t k ≡ out_of_range
unfolding move_at_subtree
move_at_past s t k j e = move_at_subtree_holds s t k ∙ ap (move_at_subtree s) e

-- what a move makes of a tree: the tree with what the move makes of the subtree at the node
pub record EvolvedAt (s : State) (t : Tree) (k : ℕ) (r : Rule) (lacks : Shortage) (u : Tree) : Type 0 where
  pub context : Context
  pub subtree : Tree
  pub makes : Tree
  pub there : subtree_at t k ≡ node context subtree
  pub move : move_at s subtree 0 ≡ evolves r lacks makes
  pub whole : u ≡ with_node t k makes

pub move_at_evolves : (s : State) (t : Tree) (k : ℕ) (r : Rule) (lacks : Shortage) (u : Tree) → move_at s t k ≡ evolves r lacks u → EvolvedAt s t k r lacks u
unfolding around
move_at_evolves s t k r lacks u e = go (subtree_at t k) refl
  where
    at_place : (c : Context) (w : Tree) → subtree_at t k ≡ node c w → (I : NodeAnswer) → move_at s w 0 ≡ I → around c I ≡ evolves r lacks u → EvolvedAt s t k r lacks u
    at_place c w p (evolves q told v) m h =
        let z : plug c v ≡ u = cc in
        let y : q ≡ r = cc in
        let x : told ≡ lacks = cc in
        record { context = c; subtree = w; makes = v; there = p; move = m ∙ rw (y, x); whole = sym z ∙ sym (with_node_holds t k c w v p) }
    at_place c w p no_rule m h = let z : ◌≡◌ {A = ℕ} 0 1 = cc in absurd (omega arith)
    at_place c w p out_of_range m h = let z : ◌≡◌ {A = ℕ} 0 1 = cc in absurd (omega arith)

    go : (N : Node) → subtree_at t k ≡ N → EvolvedAt s t k r lacks u
    go (node c w) p = at_place c w p (move_at s w 0) refl (sym (move_at_node s t k c w p) ∙ e)
    go (beyond j) p = let q = sym (move_at_past s t k j p) ∙ e in let z : ◌≡◌ {A = ℕ} 0 1 = cc in absurd (omega arith)
