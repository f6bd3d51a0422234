-- Trees that follow one another: a fork's sides stand in its place, a leaf goes, and each tree has a branch at least.
-- Assumes nothing.
use Prim.Native.Nat.{ℕ, zero, suc, ◌+◌, ◌≤◌, ◌<◌}
use native.Mathlib.Omega.{arith}
use mathlib.Core.Path.{◌≡◌, refl, ap, ◌∙◌}
use mathlib.Core.Option.{Option, none, some}
use mathlib.Core.List.{List, [], ◌∷◌}
use lib.ListN.{length, take, drop, length-append, length-drop}
use lib.Seq.{drop-drop}
use borrow.Author.Tests.{le-leb, lt-leb, ne_eqb}
use Rattle.semantics.specs.Definitions.Basics.{only_if}
use mathlib.Core.Option.{bind}
use Rattle.semantics.specs.Definitions.Terms.{Term}
use Rattle.semantics.specs.Definitions.Configuration.{Tree, fork, branches_of}
use Rattle.semantics.specs.Definitions.Stored.{split_bytes, leaf_from, NodeKind, fork_n, leaf_n, other_n, node_kind, node_from, tree_from}
use Rattle.theorems.proofs.ByteReads.{given_some}
use Rattle.theorems.proofs.Trees.{cut_back}
use Rattle.hall_layout.specs.Layout.{fork_kind, leaf_kind, leaf_size, leaf_body}
use Rattle.hall_laws.specs.ReadParts.{trees_from}
use Rattle.theorems.proofs.Measures.{tree_branches_positive}

-- ---- what is cut off behind an offset

module _ (s : List ℕ) (at n : ℕ) where
  pub cut_there : at + n ≤ length s → split_bytes n (drop at s) ≡ some (take n (drop at s), drop (at + n) s)
  unfolding split_bytes only_if
  cut_there h = rw (le-leb n (length (drop at s)) (rw (length-drop at s) (omega arith)), drop-drop n at s)

  pub cut_short : 0 < n → length s < at + n → split_bytes n (drop at s) ≡ none
  unfolding split_bytes only_if
  cut_short k h = rw (lt-leb n (length (drop at s)) (rw (length-drop at s) (omega arith)))

-- ---- the first of the trees

module _ (f : ℕ) (fs : List ℕ) (b : ℕ) (ts : List Term) where
  pub trees_fork : (bs : List ℕ) → trees_from (suc f ∷ fs) b ts (fork_kind ∷ bs) ≡ trees_from (f ∷ f ∷ fs) b ts bs
  unfolding trees_from tree_from node_from node_kind bind branches_of
  trees_fork bs = left (tree_from f ts bs)
    where
      right : (l : Tree × List ℕ) (o : Option (Tree × List ℕ)) →
          bind {A = Tree × List ℕ} (bind o (λ r. some (fork l.0 r.0, r.1))) (λ t. trees_from fs (b + branches_of t.0) ts t.1) ≡
          bind o (λ r. trees_from fs (b + branches_of l.0 + branches_of r.0) ts r.1)
      right l none = refl
      right l (some r) = ap (λ x. trees_from fs x ts r.1) (omega arith)

      left : (o : Option (Tree × List ℕ)) →
          bind {A = Tree × List ℕ} (bind o (λ l. bind (tree_from f ts l.1) (λ r. some (fork l.0 r.0, r.1)))) (λ t. trees_from fs (b + branches_of t.0) ts t.1) ≡
          bind o (λ l. bind (tree_from f ts l.1) (λ r. trees_from fs (b + branches_of l.0 + branches_of r.0) ts r.1))
      left none = refl
      left (some l) = right l (tree_from f ts l.1)

  pub trees_leaf : (bs : List ℕ) →
      trees_from (suc f ∷ fs) b ts (leaf_kind ∷ bs) ≡ bind (split_bytes leaf_body bs) (λ c. bind (leaf_from ts c.0) (λ t. trees_from fs (b + branches_of t) ts c.1))
  unfolding trees_from tree_from node_from node_kind bind
  trees_leaf bs = body (split_bytes leaf_body bs)
    where
      next : (c : List ℕ × List ℕ) (o : Option Tree) →
          bind {A = Tree × List ℕ} (bind o (λ t. some (t, c.1))) (λ t. trees_from fs (b + branches_of t.0) ts t.1) ≡
          bind o (λ t. trees_from fs (b + branches_of t) ts c.1)
      next c none = refl
      next c (some t) = refl

      body : (o : Option (List ℕ × List ℕ)) →
          bind {A = Tree × List ℕ} (bind o (λ c. bind (leaf_from ts c.0) (λ t. some (t, c.1)))) (λ t. trees_from fs (b + branches_of t.0) ts t.1) ≡
          bind o (λ c. bind (leaf_from ts c.0) (λ t. trees_from fs (b + branches_of t) ts c.1))
      body none = refl
      body (some c) = next c (leaf_from ts c.0)

  pub trees_other : (k : ℕ) (bs : List ℕ) → (k ≡ fork_kind → ⊥) → (k ≡ leaf_kind → ⊥) → trees_from (suc f ∷ fs) b ts (k ∷ bs) ≡ none
  unfolding trees_from tree_from node_from node_kind bind
  trees_other k bs h g = rw (ne_eqb k fork_kind h, ne_eqb k leaf_kind g)

-- ---- how many bytes and branches

-- a tree has a leaf
tree_least : (ts : List Term) (f : ℕ) (bs : List ℕ) (y : Tree × List ℕ) → tree_from f ts bs ≡ some y → leaf_size ≤ length bs
unfolding tree_from node_from
tree_least ts zero bs y e = let z : ◌≡◌ {A = ℕ} 0 1 = cc in absurd (omega arith)
tree_least ts (suc f) [] y e = let z : ◌≡◌ {A = ℕ} 0 1 = cc in absurd (omega arith)
tree_least ts (suc f) (k ∷ bs) y e = go (λ x q. tree_least ts f bs x q) (node_kind k) e
  where
    go : ((x : Tree × List ℕ) → tree_from f ts bs ≡ some x → leaf_size ≤ length bs) → (K : NodeKind) → node_from ts (λ x. tree_from f ts x) K bs ≡ some y →
        leaf_size ≤ suc (length bs)
    go least fork_n e = given_some (tree_from f ts bs) _ y e (λ l p e'. let h = least l p in omega arith)
    go least leaf_n e =
        given_some (split_bytes leaf_body bs) _ y e (λ c p e'.
        let h = cut_back leaf_body bs c p in
        let l = ap length h.1 ∙ length-append c.0 c.1 in omega arith)
    go least other_n e = let z : ◌≡◌ {A = ℕ} 0 1 = cc in absurd (omega arith)

pub trees_short : (f : ℕ) (fs : List ℕ) (b : ℕ) (ts : List Term) (bs : List ℕ) → length bs < leaf_size → trees_from (f ∷ fs) b ts bs ≡ none
unfolding trees_from bind
trees_short f fs b ts bs h = go (tree_from f ts bs) refl
  where
    go : (o : Option (Tree × List ℕ)) → tree_from f ts bs ≡ o → bind o (λ t. trees_from fs (b + branches_of t.0) ts t.1) ≡ none
    go none e = refl
    go (some y) e = let l = tree_least ts f bs y e in absurd (omega arith)

-- each has a branch
pub trees_branches : (fs : List ℕ) (b : ℕ) (ts : List Term) (bs : List ℕ) (y : ℕ × List ℕ) → trees_from fs b ts bs ≡ some y → b + length fs ≤ y.0
unfolding trees_from
trees_branches [] b ts bs y e = let z : (b, bs) ≡ y = cc in rw (← z) (omega arith)
trees_branches (f ∷ fs) b ts bs y e =
    given_some (tree_from f ts bs) _ y e (λ t p e'.
    let h = trees_branches fs (b + branches_of t.0) ts t.1 y e' in
    let g = tree_branches_positive t.0 in omega arith)
