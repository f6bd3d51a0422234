-- The redex at a node: what the code reads there is what the definitions say of the tree, and which trees have it.
-- Assumes nothing.
use Prim.Native.Nat.{ℕ, ◌+◌, ◌≤◌, ◌<◌}
use native.Mathlib.Omega.{arith}
use mathlib.Core.Path.{◌≡◌, refl, sym, ap, ◌∙◌}
use mathlib.Core.Bool.{cond}
use mathlib.Core.Option.{some}
use mathlib.Core.List.{List}
use lib.ListN.{length, get_or, drop, length-append, length-drop}
use lib.Dec.{eqb}
use borrow.Author.Tests.{ne_eqb}
use Rattle.std.specs.Prelude.{Option, Some, None}
use Rattle.calculus.specs.Syntax.{Log, State}
use Rattle.semantics.specs.Definitions.Terms.{Expression, end_t, retry_t, rd_t, wt_t, or_else_t, Term, expression, path_length}
use Rattle.semantics.specs.Definitions.Configuration.{Tree, leaf, fork}
use Rattle.semantics.specs.Definitions.Stored.{leaf_expression, tree_bytes, TreeOk}
use Rattle.semantics.specs.Definitions.Table.{end_k, retry_k, rd_k, wt_k, or_else_k}
use Rattle.semantics.specs.Definitions.Moves.{no_rule, at_leaf, at_fork, move_at}
use Rattle.semantics.specs.Checks.AcceptedTables.{kind_byte}
use Rattle.table_terms.specs.Decoded.{max_terms, first_at}
use Rattle.hall_layout.specs.Layout.{fork_kind, fork_size, leaf_size, leaf_log, max_actions}
use Rattle.hall_laws.specs.ReadParts.{term_kind}
use Rattle.hall_laws.proofs.Nodes.{leaf_bytes}
use Rattle.move_logs.specs.LogOffsets.{LogAt}
use Rattle.move_logs.proofs.LogOffsets.{leaf_length, leaf_stored}
use Rattle.move_leaves.specs.Leaves.{ExpressionKindRead, kind_of_node, TreeAt, CanReadNode, LeafKindRead}
use Rattle.move_leaves.proofs.Leaves.{as_fork, as_leaf, leaf_named, left_at, FieldsOf, leaf_fields}
use Rattle.move_inside.specs.declared.redexes.Redex.{Redex}
use Rattle.move_inside.specs.declared.redexes.Redex.TheVariants.{Read, Write, OrElse, LeftEnds, LeftRetries}
use Rattle.move_inside.specs.LeafBytes.{term_at, size_at}
use Rattle.move_inside.specs.FoundMoves.{redex_of, RedexFound}

-- ---- a leaf

-- what its bytes hold
pub record LeafAt (ts : List Term) (M : Expression) (δ : Log) (d s : List ℕ) (at : ℕ) : Type 0 where
  pub named : leaf_expression ts (term_at s at) ≡ some M
  pub fields : FieldsOf d (term_at s at) M
  pub size : size_at s at ≡ length δ
  pub log : LogAt s (at + leaf_log) δ
  pub inside : at + leaf_size ≤ length s
  pub room : length δ + path_length M ≤ max_actions

pub leaf_at : {ts : List Term} {M : Expression} {δ : Log} {d s : List ℕ} {at : ℕ} → TreeAt ts (leaf M δ) d s at →
    LeafAt ts M δ d s at
unfolding TreeOk
leaf_at {ts} {M} {δ} {d} {s} {at} x =
    let few = x.ok.1 in
    let l : length (drop at s) ≡ length (tree_bytes (leaf M δ)) + length x.rest =
    ap length x.bytes ∙ length-append (tree_bytes (leaf M δ)) x.rest in
    let n = leaf_bytes M δ (omega arith) in
    let m = length-drop at s in
    record {
      named = leaf_named x;
      fields = leaf_fields ts _ _ M x.decoded (leaf_named x);
      size = leaf_length s at M δ x.rest x.bytes;
      log = leaf_stored s at M δ x.rest x.bytes ts x.ok;
      inside = omega arith;
      room = few;
    }

-- ---- the redex of a leaf, by its expression's kind and its record's first field

leaf_redex : (k first : ℕ) → Option Redex
leaf_redex k first =
    cond (eqb k (kind_byte rd_k)) (Some (Read first))
    (cond (eqb k (kind_byte wt_k)) (Some (Write first)) (cond (eqb k (kind_byte or_else_k)) (Some OrElse) None))

module _ (d s : List ℕ) (at k : ℕ) (kind : ExpressionKindRead d (term_at s at) k)
    (other : get_or s at 0 ≡ fork_kind → ⊥) where
  -- whichever leaf stands there has an expression of this kind
  by_leaf : (r : Option Redex) → r ≡ leaf_redex k (first_at d (term_at s at)) → RedexFound d s at r
  unfolding leaf_redex redex_of term_kind
  by_leaf r q = record {
    found = λ ts u x.
        let (M, δ, e) = as_leaf x other in
        let l : LeafAt ts M δ d s at = leaf_at (rw e at x) in
        rw e (go M δ (kind.found ts M x.decoded l.named) l.fields);
  }
    where
      go : (M : Expression) (δ : Log) → k ≡ term_kind (expression M) → FieldsOf d (term_at s at) M →
          r ≡ redex_of (leaf M δ)
      go (end_t n) δ f h = rw (q, f)
      go (retry_t n) δ f h = rw (q, f)
      go (rd_t n a N) δ f h = rw (q, f, h.1)
      go (wt_t n a N) δ f h = rw (q, f, h.1)
      go (or_else_t n N N') δ f h = rw (q, f)

  pub read_redex : (w a : ℕ) → w ≡ term_at s at → a ≡ first_at d w → k ≡ kind_byte rd_k → RedexFound d s at (Some (Read a))
  unfolding leaf_redex
  read_redex w a q g e = by_leaf (Some (Read a)) (rw (g, q, e))

  pub write_redex : (w a : ℕ) → w ≡ term_at s at → a ≡ first_at d w → k ≡ kind_byte wt_k → RedexFound d s at (Some (Write a))
  unfolding leaf_redex
  write_redex w a q g e = by_leaf (Some (Write a)) (rw (g, q, e))

  pub or_else_redex : k ≡ kind_byte or_else_k → RedexFound d s at (Some OrElse)
  unfolding leaf_redex
  or_else_redex e = by_leaf (Some OrElse) (rw e)

  pub leaf_waits : (k ≡ kind_byte rd_k → ⊥) → (k ≡ kind_byte wt_k → ⊥) → (k ≡ kind_byte or_else_k → ⊥) →
      RedexFound d s at None
  unfolding leaf_redex
  leaf_waits r w o =
      by_leaf None (rw (ne_eqb k (kind_byte rd_k) r, ne_eqb k (kind_byte wt_k) w, ne_eqb k (kind_byte or_else_k) o))

  -- a read and a write have a record
  has_record : CanReadNode d s at → (k ≡ kind_byte end_k → ⊥) → (k ≡ kind_byte retry_k → ⊥) → term_at s at < max_terms
  unfolding term_kind
  has_record x no_end no_retry =
      let (M, δ, e) = as_leaf x.there other in
      let l : LeafAt x.terms M δ d s at = leaf_at (rw e at x.there) in
      go M (kind.found x.terms M x.there.decoded l.named) l.fields
    where
      go : (M : Expression) → k ≡ term_kind (expression M) → FieldsOf d (term_at s at) M → term_at s at < max_terms
      go (end_t n) f h = absurd (no_end f)
      go (retry_t n) f h = absurd (no_retry f)
      go (rd_t n a N) f h = h.0
      go (wt_t n a N) f h = h.0
      go (or_else_t n N N') f h = h.0

  pub action_term : (w K : ℕ) → CanReadNode d s at → w ≡ term_at s at → k ≡ K → kind_byte retry_k < K → w < max_terms
  action_term w K x q e above = rw q (has_record x (λ z. omega arith) (λ z. omega arith))

-- ---- the redex of a fork, by the kind of its left side

kind_redex : ℕ → Option Redex
kind_redex k = cond (eqb k (kind_byte end_k)) (Some LeftEnds) (cond (eqb k (kind_byte retry_k)) (Some LeftRetries) None)

fork_redex : Option ℕ → Option Redex
unfolding kind_redex
fork_redex None = None
fork_redex (Some k) = kind_redex k

by_left : (l r : Tree) → fork_redex (kind_of_node l) ≡ redex_of (fork l r)
unfolding fork_redex kind_redex kind_of_node term_kind redex_of
by_left (leaf (end_t n) δ) r = refl
by_left (leaf (retry_t n) δ) r = refl
by_left (leaf (rd_t n a M) δ) r = refl
by_left (leaf (wt_t n a M) δ) r = refl
by_left (leaf (or_else_t n M N) δ) r = refl
by_left (fork l m) r = refl

module _ (d s : List ℕ) (at : ℕ) where
  pub left_present : CanReadNode d s at → get_or s at 0 ≡ fork_kind → CanReadNode d s (at + fork_size)
  left_present x f =
      let (l, r, e) = as_fork x.there f in
      record { terms = x.terms; tree = l; there = left_at (rw e at x.there) }

  module _ (k : Option ℕ) (left : LeafKindRead d s (at + fork_size) k) (f : get_or s at 0 ≡ fork_kind) where
    by_fork : (r : Option Redex) → r ≡ fork_redex k → RedexFound d s at r
    by_fork r q = record {
      found = λ ts u x.
          let (l, m, e) = as_fork x f in
          let z = left.found ts l (left_at (rw e at x)) in rw (e, q, z) (by_left l m);
    }

    pub left_nothing : k ≡ None → RedexFound d s at None
    unfolding fork_redex
    left_nothing z = by_fork None (rw z)

    module _ (j : ℕ) (is : k ≡ Some j) where
      pub left_ends : j ≡ kind_byte end_k → RedexFound d s at (Some LeftEnds)
      unfolding fork_redex kind_redex
      left_ends e = by_fork (Some LeftEnds) (rw (is, e))

      pub left_retries : j ≡ kind_byte retry_k → RedexFound d s at (Some LeftRetries)
      unfolding fork_redex kind_redex
      left_retries e = by_fork (Some LeftRetries) (rw (is, e))

      pub fork_waits : (j ≡ kind_byte end_k → ⊥) → (j ≡ kind_byte retry_k → ⊥) → RedexFound d s at None
      unfolding fork_redex kind_redex
      fork_waits e r = by_fork None (rw (is, ne_eqb j (kind_byte end_k) e, ne_eqb j (kind_byte retry_k) r))

-- what an Option has, by its parts
pub some_is : (w : Option Redex) (r q : Redex) → w ≡ Some r → r ≡ q → w ≡ Some q
some_is w r q e f = rw (e, f)

-- ---- which trees have a redex

abbrev pub Reducing : Tree → Option Redex → Type 0
Reducing u (Some (Read a)) = (n : ℕ) × (M : Expression) × (δ : Log) × (u ≡ leaf (rd_t n a M) δ)
Reducing u (Some (Write a)) = (n : ℕ) × (M : Expression) × (δ : Log) × (u ≡ leaf (wt_t n a M) δ)
Reducing u (Some OrElse) = (n : ℕ) × (M : Expression) × (N : Expression) × (δ : Log) × (u ≡ leaf (or_else_t n M N) δ)
Reducing u (Some LeftEnds) = (n : ℕ) × (δ : Log) × (r : Tree) × (u ≡ fork (leaf (end_t n) δ) r)
Reducing u (Some LeftRetries) = (n : ℕ) × (δ : Log) × (r : Tree) × (u ≡ fork (leaf (retry_t n) δ) r)
Reducing u None = (σ : State) → move_at σ u 0 ≡ no_rule

reducing : (u : Tree) → Reducing u (redex_of u)
unfolding redex_of move_at at_leaf at_fork
reducing (leaf (end_t n) δ) = λ σ. refl
reducing (leaf (retry_t n) δ) = λ σ. refl
reducing (leaf (rd_t n a M) δ) = (n, M, δ, refl)
reducing (leaf (wt_t n a M) δ) = (n, M, δ, refl)
reducing (leaf (or_else_t n M N) δ) = (n, M, N, δ, refl)
reducing (fork (leaf (end_t n) δ) r) = (n, δ, r, refl)
reducing (fork (leaf (retry_t n) δ) r) = (n, δ, r, refl)
reducing (fork (leaf (rd_t n a M) δ) r) = λ σ. refl
reducing (fork (leaf (wt_t n a M) δ) r) = λ σ. refl
reducing (fork (leaf (or_else_t n M N) δ) r) = λ σ. refl
reducing (fork (fork l m) r) = λ σ. refl

-- the tree at an offset, by the redex that was read there
pub redex_here : {d s : List ℕ} {at : ℕ} {w q : Option Redex} {ts : List Term} {u : Tree} → RedexFound d s at w → w ≡ q →
    TreeAt ts u d s at → Reducing u q
redex_here {u = u} read is x = rw (sym (read.found _ u x) ∙ is) at (reducing u)
