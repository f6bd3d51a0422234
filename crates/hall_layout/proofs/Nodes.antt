-- Laws of the walk over nodes, one for each way on which a turn of the code goes.
-- Assumes nothing.
use Prim.Native.Nat.{ℕ, zero, suc, ◌+◌, ◌-◌, ◌≤◌, ◌<◌}
use native.Mathlib.Omega.{arith}
use mathlib.Core.Path.{◌≡◌, refl, sym, ap, ◌∙◌}
use mathlib.Core.Bool.{Bool, true, false, cond}
use mathlib.Core.List.{List}
use lib.ListN.{get_or}
use lib.Dec.{eqb}
use borrow.Author.Tests.{eq-eqb, ne_eqb}
use Rattle.std.specs.Prelude.{Some, None}
use Rattle.hall_layout.specs.declared.Walk.{Walk}
use Rattle.hall_layout.specs.Layout.{fork_kind, fork_size, leaf_size, max_nodes}
use Rattle.hall_layout.specs.Nodes.{node_size, pending_behind, passed, node_start, tree_end}

-- ---- a node

module _ (k : ℕ) where
  pub fork_size_holds : k ≡ fork_kind → fork_size ≡ node_size k
  unfolding node_size
  fork_size_holds e = rw (eq-eqb k fork_kind e)

  pub leaf_size_holds : (k ≡ fork_kind → ⊥) → leaf_size ≡ node_size k
  unfolding node_size
  leaf_size_holds e = rw (ne_eqb k fork_kind e)

  pub size_bounds : (z : ℕ) → z ≡ node_size k → (1 ≤ z) × (z ≤ leaf_size)
  unfolding node_size
  size_bounds z e = go (eqb k fork_kind) e
    where
      go : (b : Bool) → z ≡ cond b fork_size leaf_size → (1 ≤ z) × (z ≤ leaf_size)
      go true e = (omega arith, omega arith)
      go false e = (omega arith, omega arith)

  module _ (p : ℕ) where
    pub fork_pending : k ≡ fork_kind → p + 1 ≡ pending_behind k p
    unfolding pending_behind
    fork_pending e = rw (eq-eqb k fork_kind e)

    pub fork_behind : k ≡ fork_kind → (q : ℕ) → q ≡ pending_behind k p → q ≡ p + 1
    fork_behind e q f = f ∙ sym (fork_pending e)

    pub leaf_pending : (k ≡ fork_kind → ⊥) → p - 1 ≡ pending_behind k p
    unfolding pending_behind
    leaf_pending e = rw (ne_eqb k fork_kind e)

    pub pending_bound : (q : ℕ) → q ≡ pending_behind k p → q ≤ p + 1
    unfolding pending_behind
    pending_bound q e = go (eqb k fork_kind) e
      where
        go : (b : Bool) → q ≡ cond b (p + 1) (p - 1) → q ≤ p + 1
        go true e = omega arith
        go false e = omega arith

-- ---- the walk

module _ (s : List ℕ) where
  pub passed_over : (left at : ℕ) → passed s left 0 at ≡ record { at = at; pending = 0; left = left }
  unfolding passed
  passed_over zero at = refl
  passed_over (suc n) at = refl

  passed_on : (left p at : ℕ) → 0 < left → (p ≡ 0 → ⊥) →
      passed s left p at ≡ passed s (left - 1) (pending_behind (get_or s at 0) p) (at + node_size (get_or s at 0))
  unfolding passed
  passed_on zero p at h i = absurd (omega arith)
  passed_on (suc n) zero at h i = absurd (i refl)
  passed_on (suc n) (suc p) at h i = let z : suc n - 1 ≡ n = omega arith in rw z

  -- no node is to be passed, or the walk goes past one, behind which no subtree may be to come
  module _ (left p at : ℕ) (r : Walk) (e : passed s left p at ≡ r) where
    pub walk_done : left ≤ 0 → record { at = at; pending = p; left = 0 } ≡ r
    unfolding passed
    walk_done h = let z : left ≡ 0 = omega arith in rw z at e

    module _ (h : 0 < left) (i : 0 < p) (k : ℕ) (f : k ≡ get_or s at 0) where
      module _ (q : ℕ) (g : q ≡ pending_behind k p) (z : ℕ) (m : z ≡ node_size k) where
        pub walk_on : passed s (left - 1) q (at + z) ≡ r
        walk_on = rw (m, g, f) (sym (passed_on left p at h (λ o. omega arith)) ∙ e)

        pub walk_over : q ≡ 0 → record { at = at + z; pending = q; left = left - 1 } ≡ r
        walk_over o = rw o (sym (passed_over (left - 1) (at + z)) ∙ (rw o at walk_on))

-- ---- a node's place, a tree's end

module _ (s : List ℕ) (tree : ℕ) where
  module _ (k : ℕ) (w : Walk) (e : w ≡ passed s k 1 tree) where
    pub no_node : w.pending ≡ 0 → None ≡ node_start s tree k
    unfolding node_start
    no_node h = rw (← e, eq-eqb _ _ h)

    pub node_found : (w.pending ≡ 0 → ⊥) → Some w.at ≡ node_start s tree k
    unfolding node_start
    node_found h = rw (← e, ne_eqb _ _ h)

  pub end_found : (w : Walk) → w ≡ passed s max_nodes 1 tree → w.at ≡ tree_end s tree
  unfolding tree_end
  end_found w e = ap (λ (x : Walk). x.at) e
