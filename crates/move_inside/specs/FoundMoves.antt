-- A move inside a transaction that is found: what the code asks and answers.
--
-- d is a decoded table; s has a hall's bytes; a snapshot and a node stand at offsets of s.
-- Assumes nothing.
use Rattle.std.specs.Prelude.{ℕ, ◌+◌, ◌≤◌, ◌<◌, ◌≡◌, Option, Some, None, Result, Ok, List, [], ◌∷◌, ◌++◌, length}
use Rattle.calculus.specs.Syntax.{rd, Log, State}
use Rattle.semantics.specs.Definitions.Terms.{Expression, end_t, retry_t, rd_t, wt_t, or_else_t, Term}
use Rattle.semantics.specs.Definitions.Logs.{shortage}
use Rattle.semantics.specs.Definitions.Configuration.{Tree, leaf, fork}
use Rattle.semantics.specs.Definitions.Moves.{NodeAnswer, evolves, no_rule, out_of_range, reads, move_at, rule_number, Reply, moved_by, refused_by}
use Rattle.answers.specs.declared.refusals.Reason.{Reason}
use Rattle.answers.specs.declared.replies.Short.{Short}
use Rattle.answers.specs.declared.replies.Move.{Move}
use Rattle.answers.specs.Answers.{shortage_of, reply_of}
use Rattle.hall_layout.specs.Layout.{channels, leaf_size, leaf_log, log_size}
use Rattle.move_logs.specs.LogOffsets.{LogAt, CountsAt}
use Rattle.move_leaves.specs.Leaves.{TreeAt}
use Rattle.move_inside.specs.declared.redexes.Redex.{Redex}
use Rattle.move_inside.specs.declared.redexes.Redex.TheVariants.{Read, Write, OrElse, LeftEnds, LeftRetries}
use Rattle.move_inside.specs.LeafBytes.{size_at}

-- ---- replies

-- what a move of a tree is answered
unfoldable pub node_reply : NodeAnswer → Reply
unfolding rule_number
node_reply (evolves r w t) = moved_by (rule_number r) w
node_reply no_rule = refused_by 17
node_reply out_of_range = refused_by 16

-- ---- a read

-- the log of a leaf and counts
pub record LogAndCountsAt (s : List ℕ) (snapshot at : ℕ) (δ : Log) (σ : State) : Type 0 where
  pub size : size_at s at ≡ length δ
  pub log : LogAt s (at + leaf_log) δ
  pub counts : CountsAt s snapshot σ

-- some log and some counts do, inside the bytes
pub record CanTestRead (s : List ℕ) (snapshot at : ℕ) : Type 0 where
  pub log : Log
  pub counts : State
  pub there : LogAndCountsAt s snapshot at log counts
  pub inside : at + leaf_size ≤ length s
  pub few : size_at s at ≤ log_size
  pub counted : snapshot + channels ≤ length s

-- r tells what the log with a read of channel a is short of at the counts, whatever they are
pub record ReadShortageFound (s : List ℕ) (snapshot at a : ℕ) (r : Option Short) : Type 0 where
  pub found : (δ : Log) (σ : State) → LogAndCountsAt s snapshot at δ σ → shortage_of r ≡ shortage σ (δ ++ (rd a ∷ []))

-- r tells the rule by which a read of channel a moves, and what was short, whatever the log, the counts and what follows are
pub record ReadRuleFound (s : List ℕ) (snapshot at a : ℕ) (r : Move) : Type 0 where
  pub found : (δ : Log) (σ : State) (M : Expression) → LogAndCountsAt s snapshot at δ σ →
      reply_of (Ok r) ≡ node_reply (reads σ a M δ)

-- ---- a redex

-- what can move at the first node of a tree, if anything can
unfoldable pub redex_of : Tree → Option Redex
redex_of (leaf (end_t n) δ) = None
redex_of (leaf (retry_t n) δ) = None
redex_of (leaf (rd_t n a M) δ) = Some (Read a)
redex_of (leaf (wt_t n a M) δ) = Some (Write a)
redex_of (leaf (or_else_t n M N) δ) = Some OrElse
redex_of (fork (leaf (end_t n) δ) r) = Some LeftEnds
redex_of (fork (leaf (retry_t n) δ) r) = Some LeftRetries
redex_of (fork (leaf (rd_t n a M) δ) r) = None
redex_of (fork (leaf (wt_t n a M) δ) r) = None
redex_of (fork (leaf (or_else_t n M N) δ) r) = None
redex_of (fork (fork l m) r) = None

-- r is the redex of the tree at an offset, whichever table and tree it is
pub record RedexFound (d s : List ℕ) (at : ℕ) (r : Option Redex) : Type 0 where
  pub found : (ts : List Term) (u : Tree) → TreeAt ts u d s at → r ≡ redex_of u

-- ---- a node

-- a tree and counts
pub record TreeAndCountsAt (ts : List Term) (u : Tree) (σ : State) (d s : List ℕ) (snapshot at : ℕ) : Type 0 where
  pub tree : TreeAt ts u d s at
  pub counts : CountsAt s snapshot σ

-- some tree and some counts do, inside the bytes
pub record CanReadRule (d s : List ℕ) (snapshot at : ℕ) : Type 0 where
  pub terms : List Term
  pub tree : Tree
  pub counts : State
  pub there : TreeAndCountsAt terms tree counts d s snapshot at
  pub inside : at < length s

-- r is what a move of the tree at its first node is answered, whatever the tree and the counts are
pub record RuleFound (d s : List ℕ) (snapshot at : ℕ) (r : Result Move Reason) : Type 0 where
  pub found : (ts : List Term) (u : Tree) (σ : State) → TreeAndCountsAt ts u σ d s snapshot at →
      reply_of r ≡ node_reply (move_at σ u 0)
