-- How a transaction (attempt) ends: what a look finds, and what the moves make of what is held.
--
-- d is a decoded table; s has the bytes, starts the index, n the number of components (stations), p a position. Where a
-- function is lent no decoded table, its contract speaks of some table or of every one.
-- Assumes nothing.
use Rattle.std.specs.Prelude.{ℕ, ◌+◌, ◌-◌, ◌≤◌, ◌<◌, ◌≡◌, ◌⊎◌, cond, Result, List, length, get_or, leb}
use Rattle.calculus.specs.Syntax.{Log, State}
use Rattle.calculus.specs.Log.{WT}
use Rattle.semantics.specs.Definitions.Shortage.{enough}
use Rattle.semantics.specs.Definitions.Terms.{Term}
use Rattle.semantics.specs.Definitions.Configuration.{Configuration}
use Rattle.semantics.specs.Definitions.Logs.{shortage, readable}
use Rattle.semantics.specs.Definitions.Moves as moves
use Rattle.semantics.specs.Definitions.Moves.{act, entry_answer, as_reply}
use Rattle.hall_layout.specs.Layout.{max_components, leaf_log_length, leaf_log}
use Rattle.move_logs.specs.LogOffsets.{LogAt, CountsAt}
use Rattle.answers.specs.declared.refusals.Reason.{Reason}
use Rattle.answers.specs.declared.replies.Move.{Move}
use Rattle.answers.specs.Answers.{reply_of}
use Rattle.hall_held.specs.Choices.{CanApply, Applied}
use Rattle.move_leaves.specs.Leaves.{TransactionAt}

-- ---- the look

-- some transaction, of some table that d decodes, begins at this offset
pub record CanLookEnd (d s : List ℕ) (n at : ℕ) : Type 0 where
  pub terms : List Term
  pub configuration : Configuration
  pub starts : List ℕ
  pub position : ℕ
  pub there : TransactionAt terms configuration d s starts n position at

-- r is what an act is answered there, whichever transaction it is
pub record EndLooked (d s : List ℕ) (n at : ℕ) (r : Result Move Reason) : Type 0 where
  pub found : (ts : List Term) (h : Configuration) (starts : List ℕ) (p : ℕ) →
      TransactionAt ts h d s starts n p at → reply_of r ≡ as_reply (entry_answer h (act p))

-- ---- the look at an end leaf

-- the leaf at an offset has the log δ, and the hall has the counts σ
pub record EndLogAt (s : List ℕ) (leaf : ℕ) (σ : State) (δ : Log) : Type 0 where
  pub size : get_or s (leaf + leaf_log_length) 0 ≡ length δ
  pub log : LogAt s (leaf + leaf_log) δ
  pub counts : CountsAt s 0 σ

pub record CanLookCommit (s : List ℕ) (leaf n : ℕ) : Type 0 where
  pub counts : State
  pub log : Log
  pub here : EndLogAt s leaf counts log
  pub some : 0 < n
  pub few : n ≤ max_components

-- ATOK where the log is readable at the counts of now and its outputs leave no more than 64 of n components, else
-- refused by 19; ATFAIL, with what is short, where it is not readable, whatever the number of components
unfoldable pub commit_reply : State → Log → (n : ℕ) → moves.Reply
unfolding readable shortage WT
commit_reply σ δ n =
    cond (readable σ δ) (cond (leb (n - 1 + length (WT δ)) max_components) (moves.moved_by 7 enough) (moves.refused_by 19))
    (moves.moved_by 6 (shortage σ δ))

-- r is the reply to a commit, whichever log and counts stand there
pub record CommitLooked (s : List ℕ) (leaf n : ℕ) (r : Result Move Reason) : Type 0 where
  pub found : (σ : State) (δ : Log) → EndLogAt s leaf σ δ → reply_of r ≡ commit_reply σ δ n

-- ---- the block comes back: ATRE (5) and ATFAIL (6)

abbrev pub Restarts : ℕ → Type 0
Restarts rule = (rule ≡ 5) ⊎ (rule ≡ 6)

pub record CanRestart (s starts : List ℕ) (n p : ℕ) : Type 0 where
  pub decoded : List ℕ
  pub rule : ℕ
  pub either : Restarts rule
  pub accepts : CanApply decoded s starts n (act p) rule

pub record Restarted (s starts : List ℕ) (n p : ℕ) (s' starts' : List ℕ) : Type 0 where
  pub found : (d : List ℕ) (rule : ℕ) → Restarts rule → Applied d s starts n (act p) rule s' starts' n

-- ---- the commit: ATOK (7)

pub record CanCommit (s starts : List ℕ) (n p : ℕ) : Type 0 where
  pub decoded : List ℕ
  pub accepts : CanApply decoded s starts n (act p) 7

pub record Committed (s starts : List ℕ) (n p : ℕ) (s' starts' : List ℕ) (n' : ℕ) : Type 0 where
  pub found : (d : List ℕ) → Applied d s starts n (act p) 7 s' starts' n'
