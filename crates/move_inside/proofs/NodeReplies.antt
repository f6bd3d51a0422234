-- The entry for a node of an open transaction: what is answered follows from the node that stands there.
-- Assumes nothing.
use Prim.Native.Nat.{ℕ, ◌+◌, ◌≤◌}
use native.Mathlib.Omega.{arith}
use mathlib.Core.Path.{◌≡◌, refl, sym, ap, ◌∙◌}
use mathlib.Core.Option.{some}
use mathlib.Core.List.{List, [], ◌∷◌}
use lib.ListN.{length, get_or, get_elem?}
use Rattle.std.specs.Prelude.{Option, Some, None, Result, Ok, Err}
use Rattle.calculus.specs.Syntax.{State}
use Rattle.semantics.specs.Definitions.Terms.{Expression, Term}
use Rattle.semantics.specs.Definitions.Configuration.{Tree, transaction, Configuration}
use Rattle.semantics.specs.Definitions.Moves.{NodeAnswer, evolves, no_rule, out_of_range, move_at, inside_answer, acts_inside, inside, apply_at, entry_answer, as_reply}
use Rattle.theorems.proofs.Lists.{found_below, length_replace_at}
use Rattle.theorems.proofs.Moves.{position_of, component_answer, chosen_at, entry_answer_made}
use Rattle.answers.specs.declared.refusals.Reason.{Reason}
use Rattle.answers.specs.declared.refusals.Reason.TheVariants.{NoNode}
use Rattle.answers.specs.declared.replies.Move.{Move}
use Rattle.answers.specs.Answers.{number_of_rule, reason_number, shortage_of, reply_of}
use Rattle.hall_layout.specs.Layout.{idle_size, transaction_head}
use Rattle.hall_layout.specs.Nodes.{node_start}
use Rattle.hall_laws.specs.Positions.{Context, node, beyond, subtree_at, around}
use Rattle.hall_laws.proofs.Nodes.{move_at_node, move_at_past}
use Rattle.hall_held.specs.Holds.{Holds}
use Rattle.hall_held.proofs.AcceptedActs.{by_number}
use Rattle.hall_held.proofs.Holds.{NodeAt, component_here, snapshot_sixteen, node_found, node_nowhere}
use Rattle.move_logs.specs.LogOffsets.{CountsAt}
use Rattle.move_logs.proofs.LogOffsets.{counts_held, snapshot_counts}
use Rattle.move_leaves.specs.Leaves.{TransactionAt}
use Rattle.move_leaves.proofs.Leaves.{node_at, node_inside, TransactionParts, transaction_parts}
use Rattle.move_inside.specs.FoundMoves.{node_reply, TreeAndCountsAt, CanReadRule, RuleFound}
use Rattle.move_inside.specs.MadeMoves.{NodeMovesBy}

-- ---- the reply

module _ {ts : List Term} {h : Configuration} {s starts : List ℕ} {n : ℕ} (x : Holds ts h s starts n) (p m : ℕ)
    (M : Expression)
    (σ : State) (t : Tree) (e : get_elem? h.components p ≡ some (transaction m M σ t)) where
  -- what the tree is answered is what the entry is: a move inside leaves as many components
  pub reply_inside : (k : ℕ) → as_reply (entry_answer h (inside p k)) ≡ node_reply (move_at σ t k)
  unfolding position_of component_answer acts_inside inside_answer apply_at as_reply node_reply
  reply_inside k = go (move_at σ t k) refl
    where
      go : (I : NodeAnswer) → move_at σ t k ≡ I → as_reply (entry_answer h (inside p k)) ≡ node_reply I
      go (evolves r w u) q =
          let l =
          length_replace_at h.components (transaction m M σ u ∷ []) p
          (found_below h.components p (transaction m M σ t) e) in
          let f = x.form.few in
          rw
          (entry_answer_made h (inside p k) r {w = w} h.counts (transaction m M σ t) (transaction m M σ u ∷ []) e (rw q)
          (omega arith))
      go no_rule q = rw (chosen_at h (inside p k) (transaction m M σ t) e, q)
      go out_of_range q = rw (chosen_at h (inside p k) (transaction m M σ t) e, q)

  -- at a node
  pub reply_node : (k : ℕ) (y : Context) (u : Tree) → subtree_at t k ≡ node y u →
      as_reply (entry_answer h (inside p k)) ≡ node_reply (move_at σ u 0)
  unfolding around node_reply
  reply_node k y u f = reply_inside k ∙ ap node_reply (move_at_node σ t k y u f) ∙ go (move_at σ u 0)
    where
      go : (I : NodeAnswer) → node_reply (around y I) ≡ node_reply I
      go (evolves r w v) = refl
      go no_rule = refl
      go out_of_range = refl

  -- past the last one
  pub reply_past : (k j : ℕ) → subtree_at t k ≡ beyond j → as_reply (entry_answer h (inside p k)) ≡ node_reply out_of_range
  reply_past k j f = reply_inside k ∙ ap node_reply (move_at_past σ t k j f)

-- ---- an open transaction

module _ {ts : List Term} {h : Configuration} {d s starts : List ℕ} {n p at : ℕ}
    (x : TransactionAt ts h d s starts n p at) where
  abbrev there : TransactionParts ts h d s p at
  there = transaction_parts x

  -- its snapshot
  snapshot_of_holds : (m : ℕ) (M : Expression) (σ : State) (t : Tree) →
      get_elem? h.components p ≡ some (transaction m M σ t) → CountsAt s (at + idle_size) σ
  snapshot_of_holds m M σ t e =
      rw x.begins
      (snapshot_counts s (get_or starts p 0) m M σ t _ (component_here x.holds p (transaction m M σ t) e)
      (snapshot_sixteen x.holds p m M σ t e))

  snapshot_at : CountsAt s (at + idle_size) there.snapshot
  snapshot_at =
      let o = there in snapshot_of_holds o.number o.block o.snapshot o.nodes o.there

  -- a node that code has found
  found_node : (k place : ℕ) → node_start s (at + transaction_head) k ≡ Some place →
      (y : Context) × (u : Tree) × NodeAt s starts p there.nodes k place y u ×
      TreeAndCountsAt ts u there.snapshot d s (at + idle_size) place
  found_node k place f =
      let o = there in
      let (y, u, w) =
      node_found x.holds p o.number o.block o.snapshot o.nodes o.there k place
      (rw x.begins at f) in
      let tree =
      node_at x.decoded x.holds p o.number o.block o.snapshot o.nodes o.there w in
      (y, u, w, record { tree = tree; counts = snapshot_at })

  missing_node : (k : ℕ) → node_start s (at + transaction_head) k ≡ None →
      (j : ℕ) × (subtree_at there.nodes k ≡ beyond j)
  missing_node k f =
      let o = there in
      node_nowhere x.holds p o.number o.block o.snapshot o.nodes o.there k (rw x.begins at f)

-- ---- an entry whose node is there

-- some transaction begins at this offset
pub record SomeTransactionAt (d s : List ℕ) (transaction : ℕ) : Type 0 where
  pub terms : List Term
  pub configuration : Configuration
  pub starts : List ℕ
  pub components : ℕ
  pub position : ℕ
  pub there : TransactionAt terms configuration d s starts components position transaction

-- r is what the entry for this node is answered, whichever configuration is held
pub record NodeReplied (d s : List ℕ) (transaction k : ℕ) (r : Result Move Reason) : Type 0 where
  pub found : (ts : List Term) (h : Configuration) (starts : List ℕ) (n p : ℕ) →
      TransactionAt ts h d s starts n p transaction →
      reply_of r ≡ as_reply (entry_answer h (inside p k))

module _ (d s : List ℕ) (transaction : ℕ) (x : SomeTransactionAt d s transaction) where
  pub some_transaction_inside : transaction + transaction_head ≤ length s
  some_transaction_inside = let l = counts_held s _ _ (snapshot_at x.there) in omega arith

  pub node_standing : (k at : ℕ) (r : Option ℕ) → r ≡ node_start s (transaction + transaction_head) k → r ≡ Some at →
      CanReadRule d s (transaction + idle_size) at
  node_standing k at r f g =
      let (y, u, w, z) = found_node x.there k at (sym f ∙ g) in
      record {
        terms = x.terms;
        tree = u;
        counts = (transaction_parts x.there).snapshot;
        there = z;
        inside = node_inside d s at (record { terms = x.terms; tree = u; there = z.tree });
      }

module _ (d s : List ℕ) (transaction k : ℕ) (r : Option ℕ)
    (found : r ≡ node_start s (transaction + transaction_head) k) where
  -- what was read at the node
  pub search_read : {at : ℕ} {a : Result Move Reason} → r ≡ Some at → RuleFound d s (transaction + idle_size) at a →
      NodeReplied d s transaction k a
  search_read {at} g read = record {
    found = λ ts h starts n p x.
        let o = transaction_parts x in
        let (y, u, w, z) = found_node x k at (sym found ∙ g) in
        read.found ts u o.snapshot z
        ∙ sym (reply_node x.holds p o.number o.block o.snapshot o.nodes o.there k y u w.there);
  }

-- ---- one whose node is not

module _ (d s : List ℕ) (transaction k : ℕ) (r : Option ℕ)
    (found : r ≡ node_start s (transaction + transaction_head) k) where
  pub search_missing : r ≡ None → NodeReplied d s transaction k (Err NoNode)
  unfolding reply_of reason_number node_reply
  search_missing g = record {
    found = λ ts h starts n p x.
        let o = transaction_parts x in
        let (j, f) = missing_node x k (sym found ∙ g) in
        sym (reply_past x.holds p o.number o.block o.snapshot o.nodes o.there k j f);
  }

-- ---- what was found can be made

pub found_moves : {ts : List Term} {h : Configuration} {d s starts : List ℕ} {n p transaction : ℕ} {m : Move} (k at : ℕ) →
    TransactionAt ts h d s starts n p transaction → node_start s (transaction + transaction_head) k ≡ Some at →
    NodeReplied d s transaction k (Ok m) → NodeMovesBy ts h d s starts n p k (number_of_rule m.rule) at
unfolding reply_of
found_moves {ts} {h} {starts = starts} {n = n} {p = p} {m = m} k at x place found = record {
  decoded = x.decoded;
  holds = x.holds;
  place = rw x.begins at place;
  by = by_number h (inside p k) (number_of_rule m.rule) (shortage_of m.short) (sym (found.found ts h starts n p x));
}
