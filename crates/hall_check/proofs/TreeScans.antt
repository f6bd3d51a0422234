-- The scan of a tree: how far it came, and a law for each way on which it goes.
-- Assumes nothing.
use Prim.Native.Nat.{ℕ, zero, suc, ◌+◌, ◌-◌, ◌≤◌, ◌<◌}
use native.Mathlib.Omega.{arith}
use mathlib.Core.Path.{◌≡◌, refl, sym, ap, ◌∙◌}
use mathlib.Core.Bool.{Bool, true, false, cond}
use mathlib.Core.Option as math
use mathlib.Core.Option.{none, some}
use mathlib.Core.List.{List, [], ◌∷◌}
use Rattle.std.specs.Prelude.{Option, None, Some}
use Rattle.std.specs.Bool.{then_some}
use lib.ListN.{length, get_or, drop}
use lib.Dec.{leb, eqb}
use borrow.Author.Tests.{leb-true, leb-false}
use Rattle.semantics.specs.Definitions.Basics.{All}
use mathlib.Core.Option.{bind}
use Rattle.semantics.specs.Definitions.Terms.{Term}
use Rattle.semantics.specs.Definitions.Configuration.{Tree, branches_of}
use Rattle.semantics.specs.Definitions.Stored.{tree_from}
use Rattle.table_terms.specs.Decoded.{Decoded}
use Rattle.hall_layout.specs.Layout.{max_branches, fork_kind}
use Rattle.hall_layout.specs.Nodes.{node_size, pending_behind}
use Rattle.hall_layout.proofs.Nodes.{size_bounds, fork_behind}
use Rattle.hall_laws.specs.ReadParts.{trees_from, bounds_behind}
use Rattle.hall_laws.proofs.ReadTrees.{trees_branches}
use Rattle.hall_nodes.specs.NodeTests.{EachTable, NodeRead}
use Rattle.hall_check.specs.Scans.{EndsFrom, TreeIs, TreeRead}

-- ---- bounds on depth

-- as many bounds as subtrees are to come
bounds_length : (k f : ℕ) (fs : List ℕ) → length (bounds_behind k f fs) ≡ pending_behind k (suc (length fs))
unfolding bounds_behind pending_behind
bounds_length k f fs = go (eqb k fork_kind)
  where
    go : (b : Bool) → length (cond b (f ∷ f ∷ fs) fs) ≡ cond b (suc (length fs) + 1) (suc (length fs) - 1)
    go true = omega arith
    go false = omega arith

bounds_enough : (m n k f : ℕ) (fs : List ℕ) → n < m → m < suc f → All (λ g. m < g) fs → All (λ g. n < g) (bounds_behind k f fs)
unfolding bounds_behind
bounds_enough m n k f fs l h a = go (eqb k fork_kind)
  where
    later : (fs : List ℕ) → All (λ g. m < g) fs → All (λ g. n < g) fs
    later [] a = tt
    later (g ∷ fs) a = (let z = a.0 in omega arith, later fs a.1)

    go : (b : Bool) → All (λ g. n < g) (cond b (f ∷ f ∷ fs) fs)
    go true = (omega arith, (omega arith, later fs a))
    go false = later fs a

-- a node's first byte is inside
pub node_there : (d : List ℕ) (n : ℕ) (s : List ℕ) (at : ℕ) (w : ℕ) → NodeRead d n s at (Some w) → at < length s
node_there d n s at w r =
    let i = r.inside in
    let z = size_bounds (get_or s at 0) _ refl in omega arith

-- ---- how far a scan came

-- with this bound on the tree's depth, the tree is read where so many trees are read from an offset on, its branches
-- being those and the ones that were passed
record TreesFollow (s : List ℕ) (tree pending sum at : ℕ) (ts : List Term) (f : ℕ) : Type 0 where
  bounds : List ℕ
  counted : length bounds ≡ pending
  enough : All (λ g. length s - at < g) bounds
  same : trees_from (f ∷ []) 0 ts (drop tree s) ≡ trees_from bounds sum ts (drop at s)

module _ (d : List ℕ) (n : ℕ) (s : List ℕ) (tree : ℕ) where
  pub record TreeSoFar (pending sum at : ℕ) : Type 0 where
    pub ordered : tree ≤ at
    pub inside : at ≤ length s
    found : EachTable d n (λ ts. (f : ℕ) → length s - tree < f → TreesFollow s tree pending sum at ts f)

  pub tree_begun : tree ≤ length s → TreeSoFar 1 0 tree
  tree_begun h = record {
    ordered = omega arith;
    inside = h;
    found = λ ts x c f l. record { bounds = f ∷ []; counted = refl; enough = (l, tt); same = refl };
  }

  module _ (p b at : ℕ) (x : TreeSoFar p b at) where
    -- by what is read at the start
    tree_by : (r : Option ℕ) → EndsFrom s tree r →
        ((ts : List Term) → Decoded ts d → length ts ≡ n → (f : ℕ) (o : math.Option (Tree × List ℕ)) (w : TreesFollow s tree p b at ts f) →
        bind o (λ t. some (0 + branches_of t.0, t.1)) ≡ trees_from w.bounds b ts (drop at s) → TreeIs s r o) →
        TreeRead d n s tree r
    unfolding trees_from bind
    tree_by r e k = record {
      ends = e;
      found = λ ts y c f l. let w = x.found ts y c f l in k ts y c f (tree_from f ts (drop tree s)) w w.same;
    }

    -- too many branches
    pub tree_crowded : (limit : ℕ) → limit ≡ max_branches → limit < b + p → TreeRead d n s tree None
    unfolding bind
    tree_crowded limit same h = tree_by None tt (λ ts y c f o w e. go ts o w.bounds w.counted e)
      where
        go : (ts : List Term) (o : math.Option (Tree × List ℕ)) (fs : List ℕ) → length fs ≡ p →
            bind o (λ t. some (0 + branches_of t.0, t.1)) ≡ trees_from fs b ts (drop at s) → TreeIs s None o
        go ts none fs l e = tt
        go ts (some t) fs l e = let m = trees_branches fs b ts (drop at s) _ (sym e) in omega arith

    -- no subtree is to come
    pub tree_done : b + p ≤ max_branches → p ≡ 0 → TreeRead d n s tree (Some at)
    unfolding bind trees_from
    tree_done h z = tree_by (Some at) (x.ordered, x.inside) (λ ts y c f o w e. go ts o w.bounds w.counted e)
      where
        go : (ts : List Term) (o : math.Option (Tree × List ℕ)) (fs : List ℕ) → length fs ≡ p →
            bind o (λ t. some (0 + branches_of t.0, t.1)) ≡ trees_from fs b ts (drop at s) → TreeIs s (Some at) o
        go ts o (f ∷ fs) l e = absurd (omega arith)
        go ts none [] l e = let z : ◌≡◌ {A = ℕ} 0 1 = cc in absurd (omega arith)
        go ts (some t) [] l e =
            let y : ◌≡◌ {A = ℕ × List ℕ} (0 + branches_of t.0, t.1) (b, drop at s) = cc in
            let v = ap (λ y. y.0) y in (omega arith, ap (λ y. y.1) y)

    module _ (q : p ≡ 0 → ⊥) where
      -- no node stands here
      pub tree_broken : NodeRead d n s at None → TreeRead d n s tree None
      unfolding bind
      tree_broken r = tree_by None tt (λ ts y c f o w e. go ts y c o w.bounds w.counted w.enough e)
        where
          go : (ts : List Term) → Decoded ts d → length ts ≡ n → (o : math.Option (Tree × List ℕ)) (fs : List ℕ) → length fs ≡ p → All (λ g. length s - at < g) fs →
              bind o (λ t. some (0 + branches_of t.0, t.1)) ≡ trees_from fs b ts (drop at s) → TreeIs s None o
          go ts y c none fs l a e = tt
          go ts y c (some t) [] l a e = absurd (q (sym l))
          go ts y c (some t) (zero ∷ fs) l a e = absurd (let z = a.0 in omega arith)
          go ts y c (some t) (suc f ∷ fs) l a e =
              let i : trees_from (suc f ∷ fs) b ts (drop at s) ≡ none = r.found ts y c f fs b in
              let z : ◌≡◌ {A = ℕ} 0 1 = cc in absurd (omega arith)

      -- past a node
      module _ (w w' : ℕ) (r : NodeRead d n s at (Some w)) (v : w' ≡ w) (k : ℕ) (j : k ≡ get_or s at 0) (z : ℕ) (u : z ≡ node_size k) where
        node_inside : at + z ≤ length s
        node_inside = rw (u, j) r.inside

        pub tree_turn : (p' : ℕ) → p' ≡ pending_behind k p → TreeSoFar p' (b + w') (at + z)
        tree_turn p' e = record {
          ordered = let o = x.ordered in omega arith;
          inside = node_inside;
          found = λ ts y c f l. let t = x.found ts y c f l in go ts y c f t.bounds t.counted t.enough t.same;
        }
          where
            go : (ts : List Term) → Decoded ts d → length ts ≡ n → (f : ℕ) (fs : List ℕ) → length fs ≡ p → All (λ g. length s - at < g) fs →
                trees_from (f ∷ []) 0 ts (drop tree s) ≡ trees_from fs b ts (drop at s) → TreesFollow s tree p' (b + w') (at + z) ts f
            go ts y c f [] l a i = absurd (q (sym l))
            go ts y c f (zero ∷ fs) l a i = absurd (let z = a.0 in omega arith)
            go ts y c f (suc g ∷ fs) l a i = record {
              bounds = bounds_behind k g fs;
              counted = bounds_length k g fs ∙ rw (e, ← l);
              enough =
                  let o = node_inside in
                  let c = size_bounds k z u in bounds_enough (length s - at) (length s - (at + z)) k g fs (omega arith) a.0 a.1;
              same = i ∙ rw (v, u, j) (r.found ts y c g fs b);
            }

        -- the rest of the bytes is shorter
        pub tree_falls : length s - (at + z) < length s - at
        tree_falls = let o = node_inside in let c = size_bounds k z u in omega arith

  -- past the last leaf
  module _ (p b at : ℕ) (x : TreeSoFar p b at) (q : p ≡ 0 → ⊥) (w w' : ℕ) (r : NodeRead d n s at (Some w)) (v : w' ≡ w)
      (k : ℕ) (j : k ≡ get_or s at 0) (z : ℕ) (u : z ≡ node_size k) (p' : ℕ) (e : p' ≡ pending_behind k p) (last : p' ≡ 0) where
    pub tree_ended : (limit : ℕ) → limit ≡ max_branches → (o : Option ℕ) → o ≡ then_some (leb (b + w') limit) (at + z) → TreeRead d n s tree o
    tree_ended limit same o i = rw i (go (leb (b + w') limit) refl)
      where
        go : (t : Bool) → leb (b + w') limit ≡ t → TreeRead d n s tree (then_some t (at + z))
        go true f = let few = leb-true (b + w') limit f in
            tree_done p' (b + w') (at + z) (tree_turn p b at x q w w' r v k j z u p' e) (omega arith) last
        go false f = let many = leb-false (b + w') limit f in
            tree_crowded p' (b + w') (at + z) (tree_turn p b at x q w w' r v k j z u p' e) limit same (omega arith)

-- behind a fork more is to come
pub fork_goes_on : (k p p' : ℕ) → k ≡ fork_kind → p' ≡ pending_behind k p → p' ≡ 0 → ⊥
fork_goes_on k p p' h e z = let f = fork_behind k p h p' e in omega arith
