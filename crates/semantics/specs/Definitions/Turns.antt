-- An opening turn by turn (document 02, Q-4): the terms that wait to be opened, the next one first; one turn, many turns,
-- and the call that shows a turn of a table's opening.
-- Assumes nothing.
use Rattle.std.specs.Prelude.{ℕ, zero, suc, List, [], ◌∷◌, ◌++◌, length}
use Rattle.std.proofs.Math.Option.{Option, none, some}
use Rattle.semantics.specs.Definitions.Terms.{Program, nil_t, put_t, take_t, repeat_t, par_t, atom_t}
use Rattle.semantics.specs.Definitions.Table.{TableAnswer, accepted, refused_at, read_table}
use Rattle.semantics.specs.Definitions.Configuration.{Idle, taking, repeating, block, output}

-- ---- one turn

-- the component (station) that it lays down, one at most, and the terms that wait after it
pub record Turn : Type 0 where
  pub laid : Option Idle
  pub waiting : List Program

-- the turn that opens a term, with those behind it: nil lays down nothing; of two side by side the left one is next, then
-- the right one; every other process is laid down
unfoldable pub turn : Program → List Program → Turn
turn (nil_t n) rest = record { laid = none; waiting = rest }
turn (put_t n a) rest = record { laid = some (output a); waiting = rest }
turn (take_t n a P) rest = record { laid = some (taking n a P); waiting = rest }
turn (repeat_t n a P) rest = record { laid = some (repeating n a P); waiting = rest }
turn (par_t n P Q) rest = record { laid = none; waiting = P ∷ Q ∷ rest }
turn (atom_t n M) rest = record { laid = some (block n M); waiting = rest }

-- ---- many turns

-- the terms that wait after so many turns; past the end there are none
unfoldable pub waiting_after : ℕ → List Program → List Program
unfolding turn
waiting_after zero Ps = Ps
waiting_after (suc n) [] = []
waiting_after (suc n) (P ∷ Ps) = waiting_after n (turn P Ps).waiting

unfoldable pub listed : Option Idle → List Idle
listed none = []
listed (some c) = c ∷ []

-- what so many turns lay down, in order
unfoldable pub laid_by : ℕ → List Program → List Idle
unfolding turn listed
laid_by zero Ps = []
laid_by (suc n) [] = []
laid_by (suc n) (P ∷ Ps) = listed (turn P Ps).laid ++ laid_by n (turn P Ps).waiting

-- ---- the call

-- what a turn lays down, and how many terms are left to open after it; or that there is no such turn
pub data TurnAnswer : Type 0 where
  lays : Option Idle → (left : ℕ) → TurnAnswer
  past_end : TurnAnswer
  not_turned : (number place : ℕ) → TurnAnswer

unfoldable pub show_next : List Program → TurnAnswer
unfolding turn
show_next [] = past_end
show_next (P ∷ Ps) = lays (turn P Ps).laid (length (turn P Ps).waiting)

unfoldable pub turn_tested : ℕ → TableAnswer → TurnAnswer
unfolding show_next waiting_after
turn_tested n (accepted t) = show_next (waiting_after n (t.start ∷ []))
turn_tested n (refused_at k p) = not_turned k p

-- turn n, counted from 0, of the opening of a table
unfoldable pub turn_call : (table : List ℕ) (n : ℕ) → TurnAnswer
unfolding turn_tested read_table
turn_call table n = turn_tested n (read_table table)
