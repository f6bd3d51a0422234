-- A move inside a transaction that is found: what a read is short of, and the rule for each redex.
-- Assumes nothing.
use Prim.Native.Nat.{ℕ, ◌+◌, ◌<◌}
use native.Mathlib.Omega.{arith}
use mathlib.Core.Path.{◌≡◌, sym, ◌∙◌}
use mathlib.Core.List.{List, [], ◌∷◌, ◌++◌}
use lib.ListN.{take, drop}
use Rattle.std.specs.Prelude.{Option, Some, None, Ok, Err}
use Rattle.calculus.specs.Syntax.{rd}
use Rattle.semantics.specs.Definitions.Shortage.{enough, short, is_enough}
use Rattle.semantics.specs.Definitions.Terms.{rd_t}
use Rattle.semantics.specs.Definitions.Logs.{shortage, readable}
use Rattle.semantics.specs.Definitions.Configuration.{leaf}
use Rattle.semantics.specs.Definitions.Moves.{reads, at_leaf, at_fork, at_node, move_at, rule_number}
use Rattle.theorems.proofs.Walk.{move_at_root}
use Rattle.table_terms.specs.Decoded.{channels}
use Rattle.answers.specs.declared.refusals.Reason.TheVariants.{NoRule}
use Rattle.answers.specs.declared.rules.Rule.TheVariants.{Awr, Aoi, Aof, Aoe}
use Rattle.answers.specs.declared.replies.Short.{Short}
use Rattle.answers.specs.declared.replies.Move.{Move}
use Rattle.answers.specs.Answers.{number_of_rule, reason_number, shortage_of, reply_of}
use Rattle.hall_layout.specs.Layout.{leaf_log}
use Rattle.move_logs.specs.Needs.{short_at}
use Rattle.move_logs.proofs.LogOffsets.{counts_held}
use Rattle.move_logs.proofs.StoredLogs.{stored_shortage_with}
use Rattle.move_inside.specs.declared.redexes.Redex.{Redex}
use Rattle.move_inside.specs.declared.redexes.Redex.TheVariants.{Read, Write, OrElse, LeftEnds, LeftRetries}
use Rattle.move_inside.specs.LeafBytes.{size_at}
use Rattle.move_inside.specs.FoundMoves.{node_reply, CanTestRead, ReadShortageFound, ReadRuleFound, RedexFound, CanReadRule, RuleFound}
use Rattle.move_inside.specs.MadeMoves.{read_move}
use Rattle.move_inside.proofs.NodeRedexes.{LeafAt, leaf_at, redex_here}

-- ---- a read

pub read_shortage_found : (s : List ℕ) (snapshot at a w : ℕ) (r : Option Short) → a < channels → w ≡ size_at s at →
    shortage_of r ≡ short_at (take w (drop (at + leaf_log) s) ++ (a ∷ [])) s snapshot → ReadShortageFound s snapshot at a r
read_shortage_found s snapshot at a w r below size tested = record {
  found = λ δ σ x.
      stored_shortage_with s (at + leaf_log) w δ x.log (size ∙ x.size) snapshot σ a _ x.counts below tested;
}

-- what the test answers tells the move
pub read_told : (s : List ℕ) (snapshot at a : ℕ) (r : Option Short) → ReadShortageFound s snapshot at a r → (m : Move) →
    m ≡ read_move r → ReadRuleFound s snapshot at a m
unfolding reads node_reply rule_number reply_of number_of_rule shortage_of readable is_enough
read_told s snapshot at a None tested m by = record {
  found = λ δ σ M x. let is : shortage σ (δ ++ (rd a ∷ [])) ≡ enough = sym (tested.found δ σ x) in rw (by, is);
}
read_told s snapshot at a (Some w) tested m by = record {
  found = λ δ σ M x. let is : shortage σ (δ ++ (rd a ∷ [])) ≡ short w.channel w.by = sym (tested.found δ σ x) in rw (by, is);
}

-- ---- a node

module _ (d s : List ℕ) (snapshot at : ℕ) where
  module _ {w : Option Redex} (read : RedexFound d s at w) where
    -- a read: its leaf's log and its channel, and its rule
    module _ {a : ℕ} (is : w ≡ Some (Read a)) where
      pub can_test_read : CanReadRule d s snapshot at → CanTestRead s snapshot at
      can_test_read x =
          let (n, M, δ, e) = redex_here read is x.there.tree in
          let l : LeafAt x.terms (rd_t n a M) δ d s at = leaf_at (rw e at x.there.tree) in
          let size = l.size in
          let few = l.log.few in
          record {
            log = δ;
            counts = x.counts;
            there = record { size = l.size; log = l.log; counts = x.there.counts };
            inside = l.inside;
            few = omega arith;
            counted = counts_held s snapshot x.counts x.there.counts;
          }

      pub read_channel : CanReadRule d s snapshot at → a < channels
      read_channel x =
          let (n, M, δ, e) = redex_here read is x.there.tree in
          let l : LeafAt x.terms (rd_t n a M) δ d s at = leaf_at (rw e at x.there.tree) in l.fields.2

      pub read_rule : {r : Move} → ReadRuleFound s snapshot at a r → RuleFound d s snapshot at (Ok r)
      unfolding at_node
      read_rule tried = record {
        found = λ ts u σ y.
            let (n, M, δ, e) = redex_here read is y.tree in
            let l : LeafAt ts (rd_t n a M) δ d s at = leaf_at (rw e at y.tree) in
            rw (e, move_at_root σ (leaf (rd_t n a M) δ)) (tried.found δ σ M (record { size = l.size; log = l.log; counts = y.counts }));
      }

    pub write_rule : {a : ℕ} → w ≡ Some (Write a) → {m : Move} → m ≡ record { rule = Awr; short = None } → RuleFound d s snapshot at (Ok m)
    unfolding move_at at_leaf node_reply rule_number reply_of number_of_rule shortage_of
    write_rule is by = record { found = λ ts u σ y. let (n, M, δ, e) = redex_here read is y.tree in rw (by, e) }

    pub or_else_rule : w ≡ Some OrElse → {m : Move} → m ≡ record { rule = Aoi; short = None } → RuleFound d s snapshot at (Ok m)
    unfolding move_at at_leaf node_reply rule_number reply_of number_of_rule shortage_of
    or_else_rule is by = record { found = λ ts u σ y. let (n, M, N, δ, e) = redex_here read is y.tree in rw (by, e) }

    pub left_retries_rule : w ≡ Some LeftRetries → {m : Move} → m ≡ record { rule = Aof; short = None } → RuleFound d s snapshot at (Ok m)
    unfolding move_at at_fork node_reply rule_number reply_of number_of_rule shortage_of
    left_retries_rule is by = record { found = λ ts u σ y. let (n, δ, r, e) = redex_here read is y.tree in rw (by, e) }

    pub left_ends_rule : w ≡ Some LeftEnds → {m : Move} → m ≡ record { rule = Aoe; short = None } → RuleFound d s snapshot at (Ok m)
    unfolding move_at at_fork node_reply rule_number reply_of number_of_rule shortage_of
    left_ends_rule is by = record { found = λ ts u σ y. let (n, δ, r, e) = redex_here read is y.tree in rw (by, e) }

    pub no_rule_holds : w ≡ None → RuleFound d s snapshot at (Err NoRule)
    unfolding node_reply reply_of reason_number
    no_rule_holds is = record { found = λ ts u σ y. rw (redex_here read is y.tree σ) }
