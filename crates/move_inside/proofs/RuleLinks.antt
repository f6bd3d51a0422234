-- One link for each rule: the bytes that the code leaves are those of the configuration after the move. ARDOK, ARDF and
-- AWR store a few bytes of a leaf; for AOI, AOF and AOE a part of the transaction's bytes gives way to others.
-- Assumes nothing.
use Prim.Native.Nat.{ℕ, ◌+◌, ◌<◌}
use native.Mathlib.Omega.{arith}
use mathlib.Core.Path.{◌≡◌, refl, sym, ap, ◌∙◌}
use mathlib.Core.Bool.{Bool, true, false}
use mathlib.Core.List.{List, [], ◌∷◌, ◌++◌, append-nil}
use lib.ListN.{length, take, drop, set}
use lib.Seq.{take_at}
use Rattle.calculus.specs.Syntax.{Name, rd, wt, Action, Log, State}
use Rattle.calculus.specs.Reduction.{Rule, ARDOK, ARDF}
use Rattle.semantics.specs.Definitions.Terms.{Expression, end_t, retry_t, rd_t, wt_t, or_else_t, Term, number, path_length}
use Rattle.semantics.specs.Definitions.Shortage.{Shortage, enough}
use Rattle.semantics.specs.Definitions.Logs.{shortage, readable}
use Rattle.semantics.specs.Definitions.Configuration.{Tree, leaf, fork, Component, transaction, Configuration}
use Rattle.semantics.specs.Definitions.Stored.{action_byte, tree_bytes}
use Rattle.semantics.specs.Definitions.Moves.{evolves, reads, at_leaf, at_fork, at_node, move_at, inside, transition, rule_number}
use Rattle.theorems.proofs.Walk.{move_at_root}
use Rattle.table_terms.specs.Decoded.{second_at}
use Rattle.hall_layout.specs.Layout.{fork_kind, leaf_size, leaf_term, leaf_log, log_size, no_record, read_offset, write_offset}
use Rattle.hall_layout.specs.Nodes.{tree_end}
use Rattle.hall_laws.specs.Positions.{plug}
use Rattle.hall_laws.proofs.Nodes.{leaf_bytes}
use Rattle.hall_held.specs.Holds.{Holds, ReplacesPart}
use Rattle.hall_held.specs.Choices.{afterwards}
use Rattle.hall_held.proofs.MovesInPlace.{term_stored, action_stored, node_replaces_part}
use Rattle.move_leaves.specs.Leaves.{TreeAt}
use Rattle.move_leaves.proofs.Leaves.{left_at}
use Rattle.move_inside.specs.LeafBytes.{term_at, size_at, logged, fork_bytes, left_size, left_bytes}
use Rattle.move_inside.specs.MadeMoves.{NodeMovesBy}
use Rattle.move_inside.proofs.NodeRedexes.{LeafAt, leaf_at}
use Rattle.move_inside.proofs.MoveParts.{MoveInside, move_inside_holds}

-- the bytes of a leaf that stands at an offset
leaf_here : {ts : List Term} {M : Expression} {δ : Log} {d s : List ℕ} {at : ℕ} → TreeAt ts (leaf M δ) d s at →
    take leaf_size (drop at s) ≡ tree_bytes (leaf M δ)
leaf_here {M = M} {δ = δ} x =
    let few = (leaf_at x).log.few in
    ap (take leaf_size) x.bytes ∙ take_at (tree_bytes (leaf M δ)) x.rest leaf_size (leaf_bytes M δ few)

-- what a read becomes, by the rule's number
module _ (σ : State) (a : Name) (M : Expression) (δ : Log) (r : Rule) (w : Shortage) (v : Tree) (e : reads σ a M δ ≡ evolves r w v) where
  logs : rule_number r ≡ 8 → v ≡ leaf M (δ ++ (rd a ∷ []))
  unfolding reads rule_number
  logs number = go (readable σ (δ ++ (rd a ∷ []))) refl
    where
      go : (b : Bool) → readable σ (δ ++ (rd a ∷ [])) ≡ b → v ≡ leaf M (δ ++ (rd a ∷ []))
      go true q = let f : evolves ARDOK enough (leaf M (δ ++ (rd a ∷ []))) ≡ evolves r w v = rw q at e in cc
      go false q =
          let f : evolves ARDF (shortage σ (δ ++ (rd a ∷ []))) (leaf (retry_t no_record) δ) ≡ evolves r w v = rw q at e in
          let z : r ≡ ARDF = cc in
          let g : ◌≡◌ {A = ℕ} 9 8 = rw z at number in absurd (omega arith)

  fails : rule_number r ≡ 9 → v ≡ leaf (retry_t no_record) δ
  unfolding reads rule_number
  fails number = go (readable σ (δ ++ (rd a ∷ []))) refl
    where
      go : (b : Bool) → readable σ (δ ++ (rd a ∷ [])) ≡ b → v ≡ leaf (retry_t no_record) δ
      go true q =
          let f : evolves ARDOK enough (leaf M (δ ++ (rd a ∷ []))) ≡ evolves r w v = rw q at e in
          let z : r ≡ ARDOK = cc in
          let g : ◌≡◌ {A = ℕ} 8 9 = rw z at number in absurd (omega arith)
      go false q = let f : evolves ARDF (shortage σ (δ ++ (rd a ∷ []))) (leaf (retry_t no_record) δ) ≡ evolves r w v = rw q at e in cc

module _ {ts : List Term} {h : Configuration} {d s starts : List ℕ} {n p k rule at : ℕ}
    (x : NodeMovesBy ts h d s starts n p k rule at) where
  abbrev i : MoveInside ts h d s starts n p k rule at
  i = move_inside_holds x

  -- ---- rules 8 to 10: a leaf's bytes are stored

  abbrev Stored : List ℕ → Type 0
  Stored s' = Holds ts (afterwards (transition h (inside p k)) h) s' starts n

  -- one more action
  action_link : (N N' : Expression) (δ : Log) (α : Action) → i.subtree ≡ leaf N δ →
      i.becomes ≡ leaf N' (δ ++ (α ∷ [])) → length δ < log_size → second_at d (term_at s at) ≡ number N' → (c : ℕ) →
      c ≡ action_byte α → Stored (logged d s at c)
  unfolding logged
  action_link N N' δ α was is room next c action =
      let size = (leaf_at (rw was at i.stands)).size in
      rw (i.after, is)
      (action_stored x.holds p i.block i.body i.snapshot i.tree i.there k at i.context N δ
      (rw was at i.node) N' α
      room (rw is at i.form) (second_at d (term_at s at)) (size_at s at + 1) c (at + (leaf_log + size_at s at)) next
      (omega arith) action
      (omega arith))

  module _ {m : ℕ} {a : Name} {M : Expression} {δ : Log} where
    module _ (was : i.subtree ≡ leaf (rd_t m a M) δ) where
      tries : reads i.snapshot a M δ ≡ evolves i.by i.lacks i.becomes
      unfolding at_node
      tries = sym (move_at_root i.snapshot (leaf (rd_t m a M) δ)) ∙ (rw was at i.steps)

      pub ardok_link : rule ≡ 8 → Stored (logged d s at (read_offset + a))
      unfolding action_byte path_length
      ardok_link e =
          let l : LeafAt ts (rd_t m a M) δ d s at = leaf_at (rw was at i.stands) in
          let room = l.room in
          action_link (rd_t m a M) M δ (rd a) was (logs i.snapshot a M δ i.by i.lacks i.becomes tries (i.number ∙ e))
          (omega arith) l.fields.3 (read_offset + a) (omega arith)

      -- the retry that has no record
      pub ardf_link : rule ≡ 9 → Stored (set s (at + leaf_term) no_record)
      unfolding number
      ardf_link e =
          let is = fails i.snapshot a M δ i.by i.lacks i.becomes tries (i.number ∙ e) in
          rw (i.after, is)
          (term_stored x.holds p i.block i.body i.snapshot i.tree i.there k at i.context _ δ
          (rw was at i.node) (retry_t no_record) (rw is at i.form) no_record refl)

    pub awr_link : i.subtree ≡ leaf (wt_t m a M) δ → Stored (logged d s at (write_offset + a))
    unfolding move_at at_leaf action_byte path_length
    awr_link was =
        let l : LeafAt ts (wt_t m a M) δ d s at = leaf_at (rw was at i.stands) in
        let room = l.room in
        let steps = rw was at i.steps in
        action_link (wt_t m a M) M δ (wt a) was (cc) (omega arith) l.fields.3 (write_offset + a) (omega arith)

  -- ---- rules 11 to 13: a part of the transaction's bytes gives way

  -- the transaction after a move
  abbrev pub after_move : Component
  after_move = transaction i.block i.body i.snapshot (plug i.context i.becomes)

  -- its bytes from..to give way to `new`
  part_link : (old new back : List ℕ) →
      tree_bytes i.subtree ≡ old ++ back → tree_bytes i.becomes ≡ new ++ back → (to : ℕ) → to ≡ at + length old →
      ReplacesPart ts h after_move s starts n p at to new
  part_link old new back was is to ends =
      node_replaces_part x.holds p i.block i.body i.snapshot i.tree i.there k at i.context i.subtree
      i.node i.becomes
      i.form [] old new back was is at to (omega arith) ends

  pub aoi_link : {m : ℕ} {M N : Expression} {δ : Log} → i.subtree ≡ leaf (or_else_t m M N) δ →
      ReplacesPart ts h after_move s starts n p at (at + leaf_size) (fork_bytes d s at)
  unfolding move_at at_leaf fork_bytes tree_bytes
  aoi_link {m} {M} {N} {δ} was =
      let u : TreeAt ts (leaf (or_else_t m M N) δ) d s at = rw was at i.stands in
      let l = leaf_at u in
      let size = leaf_bytes (or_else_t m M N) δ l.log.few in
      let steps = rw was at i.steps in
      let is : i.becomes ≡ fork (leaf M δ) (leaf N δ) = cc in
      let new : fork_bytes d s at ≡ tree_bytes (fork (leaf M δ) (leaf N δ)) =
      rw (leaf_here u, l.fields.1, l.fields.2) in
      part_link (tree_bytes (leaf (or_else_t m M N) δ)) (fork_bytes d s at) []
      (ap tree_bytes was ∙ sym (append-nil _)) (ap tree_bytes is ∙ sym new ∙ sym (append-nil _)) (at + leaf_size)
      (omega arith)

  module _ {m : ℕ} {δ : Log} {r : Tree} where
    pub aof_link : i.subtree ≡ fork (leaf (retry_t m) δ) r → ReplacesPart ts h after_move s starts n p at (at + left_size) []
    unfolding move_at at_fork tree_bytes
    aof_link was =
        let left = leaf_at (left_at (rw was at i.stands)) in
        let size = leaf_bytes (retry_t m) δ left.log.few in
        let steps = rw was at i.steps in
        let is : i.becomes ≡ r = cc in
        part_link (fork_kind ∷ tree_bytes (leaf (retry_t m) δ)) [] (tree_bytes r) (ap tree_bytes was) (ap tree_bytes is)
        (at + left_size) (omega arith)

    pub aoe_link : i.subtree ≡ fork (leaf (end_t m) δ) r →
        ReplacesPart ts h after_move s starts n p at (tree_end s at) (left_bytes s at)
    unfolding move_at at_fork
    aoe_link was =
        let left = leaf_here (left_at (rw was at i.stands)) in
        let steps = rw was at i.steps in
        let is : i.becomes ≡ leaf (end_t m) δ = cc in
        part_link (tree_bytes i.subtree) (left_bytes s at) [] (sym (append-nil _))
        (ap tree_bytes is ∙ sym left ∙ sym (append-nil _)) (tree_end s at) i.node.ends
