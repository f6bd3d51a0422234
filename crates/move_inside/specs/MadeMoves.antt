-- A move inside a transaction that is made: what the code asks and answers.
--
-- d is a decoded table; s has the bytes, starts the index, n the number of components (stations).
-- Assumes nothing.
use Rattle.std.specs.Prelude.{ℕ, ◌+◌, ◌≡◌, Option, Some, None, Result, Ok, Err, List, get_or, set}
use Rattle.semantics.specs.Definitions.Terms.{Term}
use Rattle.semantics.specs.Definitions.Configuration.{Configuration}
use Rattle.semantics.specs.Definitions.Moves.{inside, transition}
use Rattle.table_terms.specs.Decoded.{Decoded}
use Rattle.hall_layout.specs.Layout.{idle_size, transaction_head, leaf_term, no_record, read_offset}
use Rattle.hall_layout.specs.Nodes.{node_start}
use Rattle.hall_held.specs.Holds.{Holds}
use Rattle.hall_held.specs.Choices.{afterwards, AcceptedBy}
use Rattle.answers.specs.declared.refusals.Reason.{Reason}
use Rattle.answers.specs.declared.rules.Rule.{Rule}
use Rattle.answers.specs.declared.rules.Rule.TheVariants.{Ardok, Ardf}
use Rattle.answers.specs.declared.replies.Short.{Short}
use Rattle.answers.specs.declared.replies.Move.{Move}
use Rattle.answers.specs.Answers.{number_of_rule}
use Rattle.move_leaves.specs.Leaves.{TransactionAt}
use Rattle.move_inside.specs.LeafBytes.{logged}
use Rattle.move_inside.specs.FoundMoves.{ReadShortageFound, RuleFound}

-- node number k of the transaction at position p begins at this offset, and moves by the rule of this number
pub record NodeMovesBy (ts : List Term) (h : Configuration) (d s starts : List ℕ) (n p k rule at : ℕ) : Type 0 where
  pub decoded : Decoded ts d
  pub holds : Holds ts h s starts n
  pub place : node_start s (get_or starts p 0 + transaction_head) k ≡ Some at
  pub by : AcceptedBy h (inside p k) rule

-- whichever configuration was held, what the move makes of it is held now, and there are as many components
pub record NodeMovedBy (d s starts : List ℕ) (n p rule at : ℕ) (s' starts' : List ℕ) : Type 0 where
  pub found : (ts : List Term) (h : Configuration) (k : ℕ) → NodeMovesBy ts h d s starts n p k rule at →
      Holds ts (afterwards (transition h (inside p k)) h) s' starts' n

-- ---- a read that is made

-- by what it is short of: its move, and the bytes with the leaf where it is logged, or which has become a retry
abbrev pub read_by : Option Short → Rule
read_by None = Ardok
read_by (Some w) = Ardf

abbrev pub read_move : Option Short → Move
read_move lacks = record { rule = read_by lacks; short = lacks }

abbrev pub read_bytes : (d s : List ℕ) (at a : ℕ) → Option Short → List ℕ
read_bytes d s at a None = logged d s at (read_offset + a)
read_bytes d s at a (Some w) = set s (at + leaf_term) no_record

-- r is the rule by which a read of channel a moves, with what it is short of, and s' are the bytes afterwards
pub record ReadMade (d s : List ℕ) (snapshot at a : ℕ) (r : Move) (s' : List ℕ) : Type 0 where
  pub lacks : Option Short
  pub tested : ReadShortageFound s snapshot at a lacks
  pub reply : r ≡ read_move lacks
  pub bytes : s' ≡ read_bytes d s at a lacks

-- ---- a node that moves, by what stands there

-- where the snapshot of the transaction at position p begins
abbrev pub snapshot_of : (starts : List ℕ) (p : ℕ) → ℕ
snapshot_of starts p = get_or starts p 0 + idle_size

-- some node of the transaction at position p begins at this offset
pub record CanMoveNode (d s starts : List ℕ) (n p at : ℕ) : Type 0 where
  pub terms : List Term
  pub configuration : Configuration
  pub node : ℕ
  pub there : TransactionAt terms configuration d s starts n p (get_or starts p 0)
  pub place : node_start s (get_or starts p 0 + transaction_head) node ≡ Some at

-- r is what the node is answered; its move is made, or all is as it was
pub record NodeMoved (d s starts : List ℕ) (n p at : ℕ) (r : Result Move Reason) (s' starts' : List ℕ) : Type 0 where
  pub read : RuleFound d s (snapshot_of starts p) at r
  pub made : (m : Move) → r ≡ Ok m → NodeMovedBy d s starts n p (number_of_rule m.rule) at s' starts'
  pub unchanged : (m : Reason) → r ≡ Err m → (s' ≡ s) × (starts' ≡ starts)
