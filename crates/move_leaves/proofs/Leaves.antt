-- What the bytes at a node of a transaction tell: the kind of its expression, and the fields of its record.
-- Assumes nothing.
use Prim.Native.Nat.{ℕ, ◌+◌, ◌≤◌, ◌<◌}
use native.Mathlib.Omega.{arith}
use mathlib.Core.Path.{◌≡◌, refl, sym, ap, ◌∙◌}
use mathlib.Core.Bool.{Bool, true, false}
use mathlib.Core.Option.{Option, none, some}
use mathlib.Core.List.{List, [], ◌∷◌, ◌++◌, append_assoc}
use lib.ListN.{length, get_or, drop, get_elem?, length-append, length-drop}
use lib.Seq.{get_or-drop}
use lib.Dec.{eqb}
use borrow.Author.Tests.{ne_eqb, eqb-true, eqb-false}
use Rattle.std.specs.Prelude.{Some, None}
use Rattle.calculus.specs.Syntax.{Log, State}
use Rattle.semantics.specs.Definitions.Terms.{Expression, end_t, retry_t, rd_t, wt_t, or_else_t, Term, process, expression, number}
use Rattle.semantics.specs.Definitions.Configuration.{Tree, leaf, fork, transaction, Configuration}
use Rattle.semantics.specs.Definitions.Stored.{leaf_expression, tree_bytes, TreeOk, ComponentOk}
use Rattle.semantics.specs.Definitions.Table.{retry_k}
use Rattle.semantics.specs.Checks.AcceptedTables.{kind_byte, ChannelBelow}
use Rattle.theorems.proofs.Lists.{found_below}
use Rattle.table_terms.specs.Decoded.{channels, max_terms, kind_at, first_at, second_at, RecordOf, Decoded}
use Rattle.hall_layout.specs.Layout.{leaf_kind, fork_kind, leaf_term, leaf_log, fork_size, no_record, transaction_head}
use Rattle.hall_laws.specs.Positions.{Context, top, before, node, subtree_at}
use Rattle.hall_laws.specs.ReadParts.{term_kind}
use Rattle.hall_laws.proofs.Cursors.{first_byte, over}
use Rattle.hall_laws.proofs.Nodes.{node_of, plug_ok}
use Rattle.hall_laws.proofs.TermKinds.{term_kind_holds}
use Rattle.hall_held.specs.Holds.{Holds}
use Rattle.hall_held.proofs.Holds.{NodeAt, component_at, component_ok, transaction_here, node_here}
use Rattle.move_leaves.specs.Leaves.{CanReadKind, ExpressionKindRead, kind_of_node, TreeAt, CanReadNode, LeafKindRead, TransactionAt}

-- ---- the byte of a leaf's term

module _ (ts : List Term) (M : Expression) where
  -- the retry that has no record
  pub no_record_holds : (b : ℕ) → b ≡ no_record → leaf_expression ts b ≡ some M → M ≡ retry_t no_record
  unfolding leaf_expression
  no_record_holds b z e = let f : some (retry_t no_record) ≡ some M = rw z at e in cc

  -- any other is an entry of the table
  pub named_entry : (b : ℕ) → (b ≡ no_record → ⊥) → leaf_expression ts b ≡ some M → get_elem? ts b ≡ some (expression M)
  unfolding leaf_expression
  named_entry b other e = go (get_elem? ts b) refl
    where
      go : (o : Option Term) → get_elem? ts b ≡ o → get_elem? ts b ≡ some (expression M)
      go none f =
          let z : none ≡ some M = rw (ne_eqb b no_record other, f) at e in
          absurd (let o : ◌≡◌ {A = ℕ} 0 1 = cc in omega arith)
      go (some (process P)) f =
          let z : none ≡ some M = rw (ne_eqb b no_record other, f) at e in
          absurd (let o : ◌≡◌ {A = ℕ} 0 1 = cc in omega arith)
      go (some (expression N)) f = let z : some N ≡ some M = rw (ne_eqb b no_record other, f) at e in cc

pub term_below : (d : List ℕ) (b i : ℕ) → CanReadKind d b → (b ≡ no_record → ⊥) → i ≡ b → i < max_terms
term_below d b i x other z =
    let l = found_below x.terms b (expression x.named) (named_entry x.terms x.named b other x.there) in
    let f = x.decoded.good.few in omega arith

pub retry_read : (d : List ℕ) (b : ℕ) → b ≡ no_record → ExpressionKindRead d b (kind_byte retry_k)
unfolding term_kind
retry_read d b z = record { found = λ ts M x e. rw (no_record_holds ts M b z e) }

pub entry_read : (d : List ℕ) (b i k : ℕ) → (b ≡ no_record → ⊥) → i ≡ b → k ≡ kind_at d i → ExpressionKindRead d b k
entry_read d b i k other z q =
    record { found = λ ts M x e. rw z at q ∙ term_kind_holds ts d x b (expression M) (named_entry ts M b other e) }

-- ---- a node

-- all of a tree's bytes stand inside
tree_inside : (s : List ℕ) (at : ℕ) (u : Tree) (rest : List ℕ) → drop at s ≡ tree_bytes u ++ rest →
    0 < length (tree_bytes u) →
    at + length (tree_bytes u) ≤ length s
tree_inside s at u rest e l =
    let d = length-drop at s in
    let m : length (drop at s) ≡ length (tree_bytes u) + length rest =
    ap length e ∙ length-append (tree_bytes u) rest in omega arith

-- a node is a leaf or a fork: its first byte
abbrev Node : List ℕ → ℕ → Tree → Type 0
Node s at (leaf M δ) = (get_or s at 0 ≡ leaf_kind) × (get_or s (at + leaf_term) 0 ≡ number M) × (at + leaf_log ≤ length s)
Node s at (fork l r) = (get_or s at 0 ≡ fork_kind) × (at + fork_size ≤ length s)

node_bytes : (s : List ℕ) (at : ℕ) (u : Tree) (rest : List ℕ) → drop at s ≡ tree_bytes u ++ rest → Node s at u
unfolding tree_bytes
node_bytes s at (leaf M δ) rest e =
    let l = tree_inside s at (leaf M δ) rest e (omega arith) in
    (first_byte s at leaf_kind _ e, sym (get_or-drop at s leaf_term 0) ∙ rw e refl, omega arith)
node_bytes s at (fork l r) rest e =
    let m = tree_inside s at (fork l r) rest e (omega arith) in (first_byte s at fork_kind _ e, omega arith)

-- which of the two, by that byte
pub as_fork : {ts : List Term} {u : Tree} {d s : List ℕ} {at : ℕ} → TreeAt ts u d s at → get_or s at 0 ≡ fork_kind →
    (l : Tree) × (r : Tree) × (u ≡ fork l r)
as_fork {u = u} {s = s} {at = at} x f = go u (node_bytes s at u x.rest x.bytes)
  where
    go : (v : Tree) → Node s at v → (l : Tree) × (r : Tree) × (v ≡ fork l r)
    go (leaf M δ) n = let g = n.0 in absurd (omega arith)
    go (fork l r) n = (l, r, refl)

pub as_leaf : {ts : List Term} {u : Tree} {d s : List ℕ} {at : ℕ} → TreeAt ts u d s at → (get_or s at 0 ≡ fork_kind → ⊥) →
    (M : Expression) × (δ : Log) × (u ≡ leaf M δ)
as_leaf {u = u} {s = s} {at = at} x other = go u (node_bytes s at u x.rest x.bytes)
  where
    go : (v : Tree) → Node s at v → (M : Expression) × (δ : Log) × (v ≡ leaf M δ)
    go (leaf M δ) n = (M, δ, refl)
    go (fork l r) n = absurd (other n.0)

pub node_inside : (d s : List ℕ) (at : ℕ) → CanReadNode d s at → at < length s
node_inside d s at x = go x.tree (node_bytes s at x.tree x.there.rest x.there.bytes)
  where
    go : (u : Tree) → Node s at u → at < length s
    go (leaf M δ) n = let l = n.2 in omega arith
    go (fork l r) n = let m = n.1 in omega arith

-- a leaf's term, behind its byte of kind
pub leaf_term_holds : {ts : List Term} {M : Expression} {δ : Log} {d s : List ℕ} {at : ℕ} → TreeAt ts (leaf M δ) d s at →
    get_or s (at + leaf_term) 0 ≡ number M
leaf_term_holds {M = M} {δ = δ} {s = s} {at = at} x = (node_bytes s at (leaf M δ) x.rest x.bytes).1

-- which names its expression
pub leaf_named : {ts : List Term} {M : Expression} {δ : Log} {d s : List ℕ} {at : ℕ} → TreeAt ts (leaf M δ) d s at →
    leaf_expression ts (get_or s (at + leaf_term) 0) ≡ some M
unfolding TreeOk
leaf_named x = rw (leaf_term_holds x) x.ok.0

-- one that is no fork has a term behind its kind
pub term_inside : (d s : List ℕ) (at : ℕ) → CanReadNode d s at → (get_or s at 0 ≡ fork_kind → ⊥) → at + leaf_term < length s
term_inside d s at x other = go x.tree (node_bytes s at x.tree x.there.rest x.there.bytes)
  where
    go : (u : Tree) → Node s at u → at + leaf_term < length s
    go (leaf M δ) n = let l = n.2 in omega arith
    go (fork l r) n = absurd (other n.0)

pub leaf_names : (d s : List ℕ) (at : ℕ) → CanReadNode d s at → (get_or s at 0 ≡ fork_kind → ⊥) →
    CanReadKind d (get_or s (at + leaf_term) 0)
leaf_names d s at x other =
    let (M, δ, e) = as_leaf x.there other in
    record { terms = x.terms; named = M; decoded = x.there.decoded; there = leaf_named (rw e at x.there) }

-- what the code answers, at a fork and at a leaf
pub fork_read : (d s : List ℕ) (at : ℕ) → get_or s at 0 ≡ fork_kind → LeafKindRead d s at None
unfolding kind_of_node
fork_read d s at f = record { found = λ ts u x. let (l, r, e) = as_fork x f in rw e }

pub leaf_read : (d s : List ℕ) (at k : ℕ) → (get_or s at 0 ≡ fork_kind → ⊥) → ExpressionKindRead d (get_or s (at + leaf_term) 0) k →
    LeafKindRead d s at (Some k)
unfolding kind_of_node
leaf_read d s at k other q = record {
  found = λ ts u x. let (M, δ, e) = as_leaf x other in rw e (ap Some (q.found ts M x.decoded (leaf_named (rw e at x))));
}

-- the left side of a fork stands behind its byte
pub left_at : {ts : List Term} {l r : Tree} {d s : List ℕ} {at : ℕ} → TreeAt ts (fork l r) d s at →
    TreeAt ts l d s (at + fork_size)
unfolding TreeOk tree_bytes
left_at {l = l} {r = r} {s = s} {at = at} x = record {
  decoded = x.decoded;
  ok = x.ok.0;
  rest = tree_bytes r ++ x.rest;
  bytes = over s at (fork_kind ∷ []) _ x.bytes ∙ append_assoc (tree_bytes l) (tree_bytes r) x.rest;
}

-- ---- in a configuration that is held

first_node : (t : Tree) → subtree_at t 0 ≡ node top t
unfolding subtree_at
first_node (leaf M δ) = refl
first_node (fork l r) = refl

module _ {ts : List Term} {h : Configuration} {d s starts : List ℕ} {n : ℕ} (x : Decoded ts d)
    (held : Holds ts h s starts n) (p m : ℕ)
    (M : Expression) (σ : State) (t : Tree) (e : get_elem? h.components p ≡ some (transaction m M σ t)) where
  -- a node of the transaction at a position
  pub node_at : {k at : ℕ} {y : Context} {u : Tree} → NodeAt s starts p t k at y u → TreeAt ts u d s at
  unfolding ComponentOk
  node_at {k} {at} {y} {u} w = record {
    decoded = x;
    ok =
        let whole : TreeOk ts t = (component_ok held p (transaction m M σ t) e).2 in
        plug_ok ts y u (rw (node_of t k y u w.there) at whole);
    rest = _;
    bytes = w.bytes;
  }

  -- the whole tree, from behind its snapshot on
  pub whole_at : TreeAt ts t d s (get_or starts p 0 + transaction_head)
  unfolding before
  whole_at =
      let z : get_or starts p 0 + transaction_head + length (before top) ≡ get_or starts p 0 + transaction_head =
      omega arith in
      rw z at (node_at (node_here held p m M σ t e 0 top t (first_node t)))

-- the transaction at an offset, and where its nodes stand
pub record TransactionParts (ts : List Term) (h : Configuration) (d s : List ℕ) (p at : ℕ) : Type 0 where
  pub number : ℕ
  pub block : Expression
  pub snapshot : State
  pub nodes : Tree
  pub there : get_elem? h.components p ≡ some (transaction number block snapshot nodes)
  pub stands : TreeAt ts nodes d s (at + transaction_head)

pub transaction_parts : {ts : List Term} {h : Configuration} {d s starts : List ℕ} {n p at : ℕ} →
    TransactionAt ts h d s starts n p at → TransactionParts ts h d s p at
transaction_parts {h = h} {p = p} x =
    let (c, e) = component_at x.holds p x.there in
    let (M, σ, t, same) = transaction_here x.holds p c e (rw x.begins at x.kind) in
    let there : get_elem? h.components p ≡ some (transaction _ M σ t) = e ∙ ap some same in
    let tree = whole_at x.decoded x.holds p _ M σ t there in
    record { number = _; block = M; snapshot = σ; nodes = t; there = there; stands = rw (← x.begins) at tree }

-- ---- the fields of a leaf's expression

-- what the record of a leaf's term has: its channel, and the numbers of its subterms
abbrev pub FieldsOf : (d : List ℕ) → (b : ℕ) → Expression → Type 0
FieldsOf d b (end_t n) = Unit {0}
FieldsOf d b (retry_t n) = Unit {0}
FieldsOf d b (rd_t n a N) = (b < max_terms) × (first_at d b ≡ a) × (a < channels) × (second_at d b ≡ number N)
FieldsOf d b (wt_t n a N) = (b < max_terms) × (first_at d b ≡ a) × (a < channels) × (second_at d b ≡ number N)
FieldsOf d b (or_else_t n N N') = (b < max_terms) × (first_at d b ≡ number N) × (second_at d b ≡ number N')

entry_fields : (d : List ℕ) (b : ℕ) (M : Expression) → b < max_terms →
    RecordOf b (kind_at d b) (first_at d b) (second_at d b) (expression M) →
    ChannelBelow (expression M) → FieldsOf d b M
entry_fields d b (end_t n) l x y = tt
entry_fields d b (retry_t n) l x y = tt
entry_fields d b (rd_t n a N) l x y = (l, x.1, y, x.2)
entry_fields d b (wt_t n a N) l x y = (l, x.1, y, x.2)
entry_fields d b (or_else_t n N N') l x y = (l, x.1, x.3)

pub leaf_fields : (ts : List Term) (d : List ℕ) (b : ℕ) (M : Expression) → Decoded ts d →
    leaf_expression ts b ≡ some M → FieldsOf d b M
leaf_fields ts d b M x e = go (eqb b no_record) refl
  where
    go : (o : Bool) → eqb b no_record ≡ o → FieldsOf d b M
    go true f = rw (no_record_holds ts M b (eqb-true b no_record f) e) tt
    go false f =
        let other = eqb-false b no_record f in
        let there = named_entry ts M b other e in
        entry_fields d b M (term_below d b b (record { terms = ts; named = M; decoded = x; there = e }) other refl)
        (x.records b (expression M) there) (x.good.channel b (expression M) there)
