-- What is claimed of an opening turn by turn (document 02, Q-4): what is laid down and what waits are the whole opening
-- after every turn, the turns come to an end and how many they are, how many terms wait at the most, and that the calls
-- show the turns of a hall's opening.
-- Assumes nothing.
use Rattle.std.specs.Prelude.{ℕ, zero, suc, ◌+◌, ◌-◌, ◌*◌, ◌≤◌, ◌≡◌, ◌↔◌, length}
use Rattle.std.proofs.Math.Option.{some}
use mathlib.Core.List.{List, [], ◌∷◌, ◌++◌, map, flatten}
use Rattle.std.proofs.Math.ListN.{get_elem?}
use Rattle.semantics.specs.Definitions.Basics.{count_up}
use Rattle.semantics.specs.Definitions.Terms.{Program, put_t, par_t, process, width}
use Rattle.semantics.specs.Definitions.Table.{Table, accepted, read_table}
use Rattle.semantics.specs.Definitions.Configuration.{Idle, idle, opens, opening}
use Rattle.semantics.specs.Definitions.Calls.{rejected, check_table}
use Rattle.semantics.specs.Definitions.Turns.{turn, waiting_after, listed, laid_by, TurnAnswer, lays, past_end, not_turned, turn_call}

-- ---- every turn

-- what terms open into, in order
abbrev pub opens_all : List Program → List Idle
opens_all Ps = flatten (map opens Ps)

-- after any number of turns: what is laid down, followed by what the waiting terms open into, is the whole opening
unfoldable pub LaidThenWaiting : Type 0
unfolding opens laid_by waiting_after flatten
LaidThenWaiting = (Ps : List Program) (n : ℕ) → laid_by n Ps ++ opens_all (waiting_after n Ps) ≡ opens_all Ps

-- a turn adds one component at most
unfoldable pub OneATurn : Type 0
unfolding laid_by
OneATurn = (Ps : List Program) (n : ℕ) → length (laid_by (suc n) Ps) ≤ suc (length (laid_by n Ps))

-- ---- the turns come to an end

-- the turns that waiting terms take: of each two for a unit of width, less one
unfoldable pub turns_to_go : List Program → ℕ
unfolding width
turns_to_go [] = 0
turns_to_go (P ∷ Ps) = (2 * width P - 1) + turns_to_go Ps

-- each turn takes one from them
unfoldable pub TurnsFall : Type 0
unfolding turn turns_to_go
TurnsFall = (P : Program) (Ps : List Program) → turns_to_go (P ∷ Ps) ≡ suc (turns_to_go (turn P Ps).waiting)

-- so after 2 x width - 1 turns nothing waits and the whole opening is laid down, and before that something waits
unfoldable pub TurnsEnd : Type 0
unfolding waiting_after laid_by opens width
TurnsEnd =
    (P : Program) (n : ℕ) → ((waiting_after n (P ∷ []) ≡ []) ↔ (2 * width P - 1 ≤ n)) ×
    (2 * width P - 1 ≤ n → laid_by n (P ∷ []) ≡ opens P)

-- ---- the terms that wait

-- never more than the width
unfoldable pub WaitingFits : Type 0
unfolding waiting_after width
WaitingFits = (P : Program) (n : ℕ) → length (waiting_after n (P ∷ [])) ≤ width P

-- so a stack of 64 entries is enough for every process of an accepted table
unfoldable pub StackSuffices : Type 0
unfolding waiting_after
StackSuffices =
    (table : List ℕ) (t : Table) → read_table table ≡ accepted t →
    (i : ℕ) (P : Program) → get_elem? t.terms i ≡ some (process P) → (n : ℕ) → length (waiting_after n (P ∷ [])) ≤ 64

-- putting stations side by side, so many besides the first, each to the right of all before it
unfoldable pub leaning : ℕ → Program
leaning zero = put_t 0 0
leaning (suc n) = par_t (suc n) (leaning n) (put_t 0 0)

-- such a one needs as many entries as it is wide: with 63 besides the first all 64
unfoldable pub LeaningNeedsItsWidth : Type 0
unfolding waiting_after width leaning
LeaningNeedsItsWidth = (n : ℕ) → (width (leaning n) ≡ suc n) × (length (waiting_after n (leaning n ∷ [])) ≡ suc n)

-- ---- the calls

-- what an answer shows: the component laid down, and how many terms are left to open
unfoldable pub shown_by : TurnAnswer → List Idle
unfolding listed
shown_by (lays c n) = listed c
shown_by past_end = []
shown_by (not_turned n p) = []

unfoldable pub left_by : TurnAnswer → ℕ
left_by (lays c n) = n
left_by past_end = 0
left_by (not_turned n p) = 0

-- of an accepted table call n shows what turn n adds to what is laid down and how many terms wait after it, and is past
-- the end exactly from 2 x width - 1 on
unfoldable pub CallsShowTurns : Type 0
unfolding turn_call shown_by left_by waiting_after laid_by width
CallsShowTurns =
    (table : List ℕ) (t : Table) → read_table table ≡ accepted t → (n : ℕ) →
    (laid_by (suc n) (t.start ∷ []) ≡ laid_by n (t.start ∷ []) ++ shown_by (turn_call table n)) ×
    (left_by (turn_call table n) ≡ length (waiting_after (suc n) (t.start ∷ []))) ×
    ((turn_call table n ≡ past_end) ↔ (2 * width t.start - 1 ≤ n))

-- so those before the end show the components of the hall that opens, in order
unfoldable pub CallsShowTheOpening : Type 0
unfolding turn_call shown_by count_up opening flatten width
CallsShowTheOpening =
    (table : List ℕ) (t : Table) → read_table table ≡ accepted t → let turns = count_up 0 (2 * width t.start - 1) in
    map idle (flatten (map (λ n. shown_by (turn_call table n)) turns)) ≡ (opening t).components

-- a refusal is that of a check of the table, whatever the turn, and no other than 1 to 9
unfoldable pub TurnsRefusedAsChecked : Type 0
unfolding turn_call check_table
TurnsRefusedAsChecked =
    (table : List ℕ) (n k p : ℕ) → ((turn_call table n ≡ not_turned k p) ↔ (check_table table ≡ rejected k p)) ×
    (turn_call table n ≡ not_turned k p → (1 ≤ k) × (k ≤ 9))
