-- A node that moves by its redex: what each arm of the code may do, and that the move is made then.
-- Assumes nothing.
use Prim.Native.Nat.{ℕ, ◌+◌, ◌≤◌, ◌<◌}
use native.Mathlib.Omega.{arith}
use mathlib.Core.Path.{◌≡◌, refl, sym}
use mathlib.Core.List.{List, []}
use lib.ListN.{length, get_or, set}
use mir.Syntax.{w8, w64}
use mir.Val.{Fits}
use Rattle.std.specs.Prelude.{Option, Some, None, Ok, Err}
use Rattle.calculus.specs.Syntax.{Log}
use Rattle.semantics.specs.Definitions.Terms.{Expression, rd_t, wt_t, or_else_t, Term, path_length}
use Rattle.semantics.specs.Definitions.Configuration.{Tree, leaf, fork, Configuration}
use Rattle.table_terms.specs.Decoded.{channels, max_terms}
use Rattle.answers.specs.declared.refusals.Reason.TheVariants.{NoRule}
use Rattle.answers.specs.declared.rules.Rule.{Rule}
use Rattle.answers.specs.declared.rules.Rule.TheVariants.{Awr, Aoi, Aof, Aoe}
use Rattle.answers.specs.declared.replies.Short.{Short}
use Rattle.answers.specs.declared.replies.Move.{Move}
use Rattle.answers.specs.Answers.{number_of_rule}
use Rattle.hall_layout.specs.Layout.{leaf_size, leaf_term, log_size, no_record, read_offset, write_offset}
use Rattle.hall_layout.specs.Nodes.{tree_end}
use Rattle.hall_held.specs.Holds.{ReplacesPart, CanReplacePart, ReplacedPart}
use Rattle.hall_held.proofs.Holds.{hall_length}
use Rattle.move_logs.proofs.LogOffsets.{counts_held}
use Rattle.move_leaves.specs.Leaves.{TreeAt, CanReadNode}
use Rattle.move_leaves.proofs.Leaves.{left_at}
use Rattle.move_inside.specs.declared.redexes.Redex.{Redex}
use Rattle.move_inside.specs.declared.redexes.Redex.TheVariants.{Read, Write, OrElse, LeftEnds, LeftRetries}
use Rattle.move_inside.specs.LeafBytes.{term_at, logged, CanLogAction, fork_bytes, CanSplit, left_size, left_bytes}
use Rattle.move_inside.specs.FoundMoves.{ReadShortageFound, RedexFound, CanReadRule, RuleFound}
use Rattle.move_inside.specs.MadeMoves.{NodeMovesBy, NodeMovedBy, read_move, read_bytes, ReadMade, snapshot_of, CanMoveNode, NodeMoved}
use Rattle.move_inside.proofs.NodeRedexes.{LeafAt, leaf_at, redex_here}
use Rattle.move_inside.proofs.RedexRules.{read_told, read_rule, write_rule, or_else_rule, left_retries_rule, left_ends_rule, no_rule_holds}
use Rattle.move_inside.proofs.NodeReplies.{node_standing, search_read, found_moves}
use Rattle.move_inside.proofs.MoveParts.{move_inside_holds}
use Rattle.move_inside.proofs.RuleLinks.{after_move, ardok_link, ardf_link, awr_link, aoi_link, aof_link, aoe_link}

-- ---- a read, by its test

module _ (d s : List ℕ) (snapshot at a : ℕ) (lacks : Option Short) (tested : ReadShortageFound s snapshot at a lacks)
    (m : Move) (by : m ≡ read_move lacks) (s' : List ℕ) where
  pub read_logged : lacks ≡ None → s' ≡ logged d s at (read_offset + a) → ReadMade d s snapshot at a m s'
  read_logged e b = record { lacks = lacks; tested = tested; reply = by; bytes = rw e b }

  pub read_fails : (w : Short) → lacks ≡ Some w → s' ≡ set s (at + leaf_term) no_record → ReadMade d s snapshot at a m s'
  read_fails w e b = record { lacks = lacks; tested = tested; reply = by; bytes = rw e b }

-- ---- what stands inside

can_log : {ts : List Term} {M : Expression} {δ : Log} {d s : List ℕ} {at : ℕ} → LeafAt ts M δ d s at →
    term_at s at < max_terms → length δ < log_size → CanLogAction s at
can_log l term room = let size = l.size in record { inside = l.inside; term = term; room = omega arith }

left_inside : {ts : List Term} {M : Expression} {δ : Log} {r : Tree} {d s : List ℕ} {at : ℕ} →
    TreeAt ts (fork (leaf M δ) r) d s at → at + left_size ≤ length s
left_inside x = let l = (leaf_at (left_at x)).inside in omega arith

-- ---- a node, by its redex

module _ (d s starts : List ℕ) (n p at : ℕ) where
  -- a node that was found stands
  module _ (x : CanMoveNode d s starts n p at) where
    pub held : CanReadRule d s (snapshot_of starts p) at
    held = node_standing d s (get_or starts p 0) (record {
      terms = x.terms;
      configuration = x.configuration;
      starts = starts;
      components = n;
      position = p;
      there = x.there;
    }) x.node at (Some at) (sym x.place) refl

    pub present : CanReadNode d s at
    present = record { terms = held.terms; tree = held.tree; there = held.there.tree }

    pub snapshot_fits : Fits w64 (snapshot_of starts p)
    snapshot_fits =
        let l = counts_held s (snapshot_of starts p) held.counts held.there.counts in
        let z = hall_length x.there.holds in record { fits = omega arith }

    -- it may be moved by the rule that was read
    can_move : {m : Move} → RuleFound d s (snapshot_of starts p) at (Ok m) →
        NodeMovesBy x.terms x.configuration d s starts n p x.node (number_of_rule m.rule) at
    can_move read =
        found_moves x.node at x.there x.place
        (search_read d s (get_or starts p 0) x.node (Some at) (sym x.place) refl read)

  moved_by : {m : Move} {s' starts' : List ℕ} → RuleFound d s (snapshot_of starts p) at (Ok m) →
      NodeMovedBy d s starts n p (number_of_rule m.rule) at s' starts' → NodeMoved d s starts n p at (Ok m) s' starts'
  moved_by {m} {s' = s'} {starts'} read done = record {
    read = read;
    made = λ k e. let same : m ≡ k = cc in rw (← same) done;
    unchanged = λ k e. absurd (let z : ◌≡◌ {A = ℕ} 0 1 = cc in omega arith);
  }

  -- a part that gives way, whichever configuration is held
  module _ (rule : Rule)
      (rules : (m : Move) → m ≡ record { rule = rule; short = None } → RuleFound d s (snapshot_of starts p) at (Ok m))
      {to : ℕ} {new : List ℕ}
      (link : (ts : List Term) (h : Configuration) (k : ℕ) (x : NodeMovesBy ts h d s starts n p k (number_of_rule rule) at) →
      ReplacesPart ts h (after_move x) s starts n p at to new) where
    part_can : CanMoveNode d s starts n p at → CanReplacePart s starts n p at to new
    part_can x = record {
      terms = x.terms;
      configuration = x.configuration;
      becomes = _;
      replaces = link x.terms x.configuration x.node (can_move x (rules _ refl));
    }

    part_moved : {s' starts' : List ℕ} → ReplacedPart s starts n p at to new s' starts' → {m : Move} →
        m ≡ record { rule = rule; short = None } → NodeMoved d s starts n p at (Ok m) s' starts'
    part_moved r by =
        rw by
        (moved_by (rules _ refl)
        (record { found = λ ts h k x. rw (move_inside_holds x).after (r.found ts h _ (link ts h k x)) }))

  module _ {w : Option Redex} (read : RedexFound d s at w) where
    -- a read
    module _ {a : ℕ} (is : w ≡ Some (Read a)) where
      pub read_can : CanReadRule d s (snapshot_of starts p) at → CanLogAction s at
      unfolding path_length
      read_can x =
          let (m, M, δ, was) = redex_here read is x.there.tree in
          let l : LeafAt x.terms (rd_t m a M) δ d s at = leaf_at (rw was at x.there.tree) in
          let room = l.room in can_log l l.fields.0 (omega arith)

      pub read_moved : {r : Move} {s' : List ℕ} → ReadMade d s (snapshot_of starts p) at a r s' →
          NodeMoved d s starts n p at (Ok r) s' starts
      unfolding number_of_rule
      read_moved {r} {s'} m = rw m.reply (go m.lacks m.tested m.bytes)
        where
          told : (w : Option Short) → ReadShortageFound s (snapshot_of starts p) at a w →
              RuleFound d s (snapshot_of starts p) at (Ok (read_move w))
          told w tested =
              read_rule d s (snapshot_of starts p) at read is (read_told s (snapshot_of starts p) at a w tested (read_move w) refl)

          go : (w : Option Short) → ReadShortageFound s (snapshot_of starts p) at a w → s' ≡ read_bytes d s at a w →
              NodeMoved d s starts n p at (Ok (read_move w)) s' starts
          go None tested bytes =
              moved_by (told None tested)
              (record {
                found = λ ts h k x.
                    let (m, M, δ, was) = redex_here read is (move_inside_holds x).stands in rw bytes (ardok_link x was refl);
              })
          go (Some v) tested bytes =
              moved_by (told (Some v) tested)
              (record {
                found = λ ts h k x.
                    let (m, M, δ, was) = redex_here read is (move_inside_holds x).stands in rw bytes (ardf_link x was refl);
              })

    -- a write
    module _ {a : ℕ} (is : w ≡ Some (Write a)) where
      written : CanReadRule d s (snapshot_of starts p) at → CanLogAction s at × (a < channels)
      unfolding path_length
      written x =
          let (m, M, δ, was) = redex_here read is x.there.tree in
          let l : LeafAt x.terms (wt_t m a M) δ d s at = leaf_at (rw was at x.there.tree) in
          let room = l.room in (can_log l l.fields.0 (omega arith), l.fields.2)

      pub write_can : CanReadRule d s (snapshot_of starts p) at → CanLogAction s at
      write_can x = (written x).0

      pub write_fits : CanReadRule d s (snapshot_of starts p) at → Fits w8 (write_offset + a)
      write_fits x = let l = (written x).1 in record { fits = omega arith }

      pub write_moved : {s' : List ℕ} → s' ≡ logged d s at (write_offset + a) → {m : Move} →
          m ≡ record { rule = Awr; short = None } → NodeMoved d s starts n p at (Ok m) s' starts
      write_moved {s'} b by =
          moved_by (write_rule d s (snapshot_of starts p) at read is by)
          (record {
            found = λ ts h k x.
                let (m, M, δ, was) = redex_here read is (move_inside_holds x).stands in rw b (awr_link x was);
          })

    -- an orElse
    module _ (is : w ≡ Some OrElse) where
      pub split_inside : CanReadRule d s (snapshot_of starts p) at → CanSplit s at
      split_inside x =
          let (m, M, N, δ, was) = redex_here read is x.there.tree in
          let l : LeafAt x.terms (or_else_t m M N) δ d s at = leaf_at (rw was at x.there.tree) in
          record { inside = l.inside; term = l.fields.0 }

      split_link : (ts : List Term) (h : Configuration) (k : ℕ) (x : NodeMovesBy ts h d s starts n p k (number_of_rule Aoi) at) →
          ReplacesPart ts h (after_move x) s starts n p at (at + leaf_size) (fork_bytes d s at)
      split_link ts h k x = let (m, M, N, δ, was) = redex_here read is (move_inside_holds x).stands in aoi_link x was

      pub split_can : CanMoveNode d s starts n p at → CanReplacePart s starts n p at (at + leaf_size) (fork_bytes d s at)
      split_can x = part_can Aoi (λ m by. or_else_rule d s (snapshot_of starts p) at read is by) split_link x

      pub split_moved : {s' starts' : List ℕ} → ReplacedPart s starts n p at (at + leaf_size) (fork_bytes d s at) s' starts' →
          {m : Move} → m ≡ record { rule = Aoi; short = None } → NodeMoved d s starts n p at (Ok m) s' starts'
      split_moved r by = part_moved Aoi (λ m by. or_else_rule d s (snapshot_of starts p) at read is by) split_link r by

    -- a left side that says retry
    module _ (is : w ≡ Some LeftRetries) where
      pub drop_inside : CanReadRule d s (snapshot_of starts p) at → at + left_size ≤ length s
      drop_inside x =
          let (m, δ, r, was) = redex_here read is x.there.tree in left_inside (rw was at x.there.tree)

      drop_link : (ts : List Term) (h : Configuration) (k : ℕ) (x : NodeMovesBy ts h d s starts n p k (number_of_rule Aof) at) →
          ReplacesPart ts h (after_move x) s starts n p at (at + left_size) []
      drop_link ts h k x = let (m, δ, r, was) = redex_here read is (move_inside_holds x).stands in aof_link x was

      pub drop_can : CanMoveNode d s starts n p at → CanReplacePart s starts n p at (at + left_size) []
      drop_can x = part_can Aof (λ m by. left_retries_rule d s (snapshot_of starts p) at read is by) drop_link x

      pub drop_moved : {s' starts' : List ℕ} → ReplacedPart s starts n p at (at + left_size) [] s' starts' →
          {m : Move} → m ≡ record { rule = Aof; short = None } → NodeMoved d s starts n p at (Ok m) s' starts'
      drop_moved r by = part_moved Aof (λ m by. left_retries_rule d s (snapshot_of starts p) at read is by) drop_link r by

    -- one that ends
    module _ (is : w ≡ Some LeftEnds) where
      pub keep_inside : CanReadRule d s (snapshot_of starts p) at → at + left_size ≤ length s
      keep_inside x =
          let (m, δ, r, was) = redex_here read is x.there.tree in left_inside (rw was at x.there.tree)

      keep_link : (ts : List Term) (h : Configuration) (k : ℕ) (x : NodeMovesBy ts h d s starts n p k (number_of_rule Aoe) at) →
          ReplacesPart ts h (after_move x) s starts n p at (tree_end s at) (left_bytes s at)
      keep_link ts h k x = let (m, δ, r, was) = redex_here read is (move_inside_holds x).stands in aoe_link x was

      pub keep_can : CanMoveNode d s starts n p at → CanReplacePart s starts n p at (tree_end s at) (left_bytes s at)
      keep_can x = part_can Aoe (λ m by. left_ends_rule d s (snapshot_of starts p) at read is by) keep_link x

      pub keep_moved : {s' starts' : List ℕ} → ReplacedPart s starts n p at (tree_end s at) (left_bytes s at) s' starts' →
          {m : Move} → m ≡ record { rule = Aoe; short = None } → NodeMoved d s starts n p at (Ok m) s' starts'
      keep_moved r by = part_moved Aoe (λ m by. left_ends_rule d s (snapshot_of starts p) at read is by) keep_link r by

    -- none of these
    pub stays : w ≡ None → NodeMoved d s starts n p at (Err NoRule) s starts
    stays is = record {
      read = no_rule_holds d s (snapshot_of starts p) at read is;
      made = λ k e. absurd (let z : ◌≡◌ {A = ℕ} 0 1 = cc in omega arith);
      unchanged = λ k e. (refl, refl);
    }
