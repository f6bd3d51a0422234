-- The node at an offset: a law for each return of the code.
-- Assumes nothing.
use Prim.Native.Nat.{ℕ, suc, ◌+◌, ◌≤◌, ◌<◌}
use native.Mathlib.Omega.{arith}
use mathlib.Core.Path.{◌≡◌, refl}
use mathlib.Core.Option as math
use mathlib.Core.Option.{none, some}
use mathlib.Core.List.{List, ◌∷◌}
use Rattle.std.specs.Prelude.{Option, None, Some}
use lib.ListN.{length, get_or, take, drop, length-drop}
use mathlib.Core.Option.{bind}
use Rattle.semantics.specs.Definitions.Terms.{Term}
use Rattle.semantics.specs.Definitions.Configuration.{Tree, branches_of}
use Rattle.semantics.specs.Definitions.Stored.{leaf_from}
use Rattle.hall_layout.specs.Layout.{fork_kind, leaf_kind, leaf_size, leaf_body, leaf_term}
use Rattle.hall_layout.specs.Nodes.{node_size}
use Rattle.hall_laws.specs.ReadParts.{trees_from, bounds_behind}
use Rattle.hall_laws.proofs.Cursors.{here}
use Rattle.hall_laws.proofs.ReadTrees.{cut_there, trees_fork, trees_leaf, trees_other, trees_short}
use Rattle.hall_nodes.specs.NodeTests.{LeafIs, LeafRead, NodeRead}

module _ (d : List ℕ) (n : ℕ) (s : List ℕ) (at : ℕ) where
  pub node_short : length s < at + leaf_size → NodeRead d n s at None
  node_short h = record {
    inside = tt;
    found = λ ts x c f fs b. trees_short (suc f) fs b ts (drop at s) (rw (length-drop at s) (omega arith));
  }

  module _ (h : at + leaf_size ≤ length s) where
    first : drop at s ≡ get_or s at 0 ∷ drop (at + leaf_term) s
    first = here s at (omega arith)

    pub node_fork : get_or s at 0 ≡ fork_kind → NodeRead d n s at (Some 0)
    unfolding node_size bounds_behind
    node_fork e = record {
      inside = rw e (omega arith);
      found = λ ts x c f fs b. let z : b + 0 ≡ b = omega arith in rw (first, e, z) (trees_fork f fs b ts (drop (at + leaf_term) s));
    }

    pub node_other : (get_or s at 0 ≡ fork_kind → ⊥) → (get_or s at 0 ≡ leaf_kind → ⊥) → NodeRead d n s at None
    node_other no_fork no_leaf = record {
      inside = tt;
      found = λ ts x c f fs b. rw first (trees_other f fs b ts (get_or s at 0) (drop (at + leaf_term) s) no_fork no_leaf);
    }

    module _ (e : get_or s at 0 ≡ leaf_kind) where
      -- the trees from a leaf on, by the leaf
      from_leaf : (ts : List Term) (f : ℕ) (fs : List ℕ) (b : ℕ) → trees_from (suc f ∷ fs) b ts (drop at s) ≡
          bind (leaf_from ts (take leaf_body (drop (at + leaf_term) s))) (λ t. trees_from fs (b + branches_of t) ts (drop (at + leaf_size) s))
      unfolding bind
      from_leaf ts f fs b =
          let k : at + leaf_term + leaf_body ≡ at + leaf_size = omega arith in
          rw (first, e, trees_leaf f fs b ts (drop (at + leaf_term) s), cut_there s (at + leaf_term) leaf_body (omega arith), k)

      pub node_leaf : (r : Option ℕ) → LeafRead d n s at r → NodeRead d n s at r
      unfolding bind node_size bounds_behind
      node_leaf (Some w) q = record {
        inside = rw e h;
        found = λ ts x c f fs b. rw (from_leaf ts f fs b, e) (go ts fs b (leaf_from ts (take leaf_body (drop (at + leaf_term) s))) (q.found ts x c));
      }
        where
          go : (ts : List Term) (fs : List ℕ) (b : ℕ) (o : math.Option Tree) → LeafIs (Some w) o →
              bind o (λ t. trees_from fs (b + branches_of t) ts (drop (at + leaf_size) s)) ≡ trees_from fs (b + w) ts (drop (at + leaf_size) s)
          go ts fs b none i = absurd i
          go ts fs b (some t) i = rw i
      node_leaf None q = record {
        inside = tt;
        found = λ ts x c f fs b. rw (from_leaf ts f fs b) (go ts fs b (leaf_from ts (take leaf_body (drop (at + leaf_term) s))) (q.found ts x c));
      }
        where
          go : (ts : List Term) (fs : List ℕ) (b : ℕ) (o : math.Option Tree) → LeafIs None o →
              bind o (λ t. trees_from fs (b + branches_of t) ts (drop (at + leaf_size) s)) ≡ none
          go ts fs b none i = refl
          go ts fs b (some t) i = absurd i
