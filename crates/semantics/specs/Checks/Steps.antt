-- The step call: one choice, given as three numbers (document 01, "Choices and moves" and "Reasons to turn a request
-- down"). Its four cases as a relation, which is the definition's own telling; and what holds the definition apart from
-- that: it is a run of that one choice (`StepIsCall`: number, place, hall, tally and rule), and what it tells is the reply to
-- the choice (`StepReplies`: the shortage).
-- Assumes nothing.
use Rattle.std.specs.Prelude.{ℕ, ◌≤◌, ◌<◌, ◌≡◌, cond, ◌⊎◌, ◌↔◌, ◌≢◌, List, [], ◌∷◌, map, eqb}
use Rattle.calculus.specs.Reduction.{Rule}
use Rattle.semantics.specs.Definitions.Basics.{Bytes}
use Rattle.semantics.specs.Definitions.Table.{Table}
use Rattle.semantics.specs.Definitions.Shortage.{Shortage, enough, short}
use Rattle.semantics.specs.Definitions.Configuration.{Configuration}
use Rattle.semantics.specs.Definitions.Stored.{bytes_of}
use Rattle.semantics.specs.Definitions.Moves.{Entry, act, inside, does, refuses, entry_answer, rule_number, Reply, moved_by, refused_by, as_reply}
use Rattle.semantics.specs.Definitions.Run.{counted, steps}
use Rattle.semantics.specs.Definitions.Calls.{admitted, not_admitted, admission, Buffers, StepCall, step_call, step_choice, call_answer, call_entries}

-- the choice that a kind, a position and a node name, and how many bytes it has in a schedule: kind 1 has no node, and
-- one handed in counts for nothing
pub data Names : (kind position node : ℕ) → Entry → (size : ℕ) → Type 0 where
  names_act : {p k : ℕ} → Names 1 p k (act p) 2
  names_inside : {p k : ℕ} → Names 2 p k (inside p k) 3

-- the answers to a step
pub data StepCallAsStated (table : List ℕ) (l : Buffers) (kind position node : ℕ) : StepCall → Type 0 where
  -- table or hall is turned down: that number and place
  not_admitted_holds : {n p : ℕ} → admission table l.hall ≡ not_admitted n p →
      StepCallAsStated table l kind position node (record { number = n; place = p; rule = 0; shortage = enough; buffers = l })
  -- 12: the kind is not 1 or 2
  kind_unknown : {t : Table} {h : Configuration} → admission table l.hall ≡ admitted t h → kind ≢ 1 → kind ≢ 2 →
      StepCallAsStated table l kind position node (record { number = 12; place = 0; rule = 0; shortage = enough; buffers = l })
  -- the choice is refused: its number, at the choice's first byte
  is_refused : {t : Table} {h : Configuration} {e : Entry} {size n : ℕ} → admission table l.hall ≡ admitted t h →
      Names kind position node e size → entry_answer h e ≡ refuses n →
      StepCallAsStated table l kind position node (record { number = n; place = 0; rule = 0; shortage = enough; buffers = l })
  -- it moved: the number of its rule, the shortage told, the hall behind it, the tally with that rule counted; its
  -- place is its end
  has_moved : {t : Table} {h g : Configuration} {e : Entry} {size : ℕ} {r : Rule} {w : Shortage} →
      admission table l.hall ≡ admitted t h → Names kind position node e size → entry_answer h e ≡ does r w g →
      StepCallAsStated table l kind position node
      (record {
        number = 0;
        place = size;
        rule = rule_number r;
        shortage = w;
        buffers = record { hall = bytes_of g; counters = counted r l.counters };
      })

-- the definition gives exactly these
unfoldable pub StepCallsAsStated : Type 0
StepCallsAsStated =
    (table : List ℕ) (l : Buffers) (kind position node : ℕ) (a : StepCall) →
    (step_call table l kind position node ≡ a) ↔ StepCallAsStated table l kind position node a

-- refused, under any number: no rule, no shortage told, hall and tally as they were; 12, or 14 to 20, at place 0 (13
-- cannot come); done: number 0, a rule from 1 to 13, and the place 2 for kind 1 and 3 for kind 2; a shortage is told
-- exactly at rules 6 and 9, of one of the 16 trays, by 1 to 16
unfoldable pub StepCallNumbers : Type 0
StepCallNumbers =
    (table : List ℕ) (l : Buffers) → Bytes table → Bytes l.hall → (kind position node : ℕ) →
    let a = step_call table l kind position node in
    ((a.number ≢ 0 → (a.rule ≡ 0) × (a.shortage ≡ enough) × (a.buffers ≡ l)) ×
    (12 ≤ a.number → (a.place ≡ 0) × (a.number ≤ 20) × (a.number ≢ 13))) ×
    (a.number ≡ 0 →
    (1 ≤ a.rule) × (a.rule ≤ 13) × (((kind ≡ 1) × (a.place ≡ 2)) ⊎ ((kind ≡ 2) × (a.place ≡ 3))) ×
    ((a.shortage ≡ enough) ↔ ((a.rule ≢ 6) × (a.rule ≢ 9))) ×
    ((tray by : ℕ) → a.shortage ≡ short tray by → (tray < 16) × (1 ≤ by) × (by ≤ 16)))

-- what a step tells, as the reply that a sentence is made of
abbrev pub step_reply : StepCall → Reply
step_reply a = cond (eqb a.number 0) (moved_by a.rule a.shortage) (refused_by a.number)

-- it is the reply to the choice, so that the sentence names the tray that was short
unfoldable pub StepReplies : Type 0
StepReplies =
    (table : List ℕ) (l : Buffers) (t : Table) (h : Configuration) → admission table l.hall ≡ admitted t h →
    (kind position node size : ℕ) (e : Entry) → Names kind position node e size →
    step_reply (step_call table l kind position node) ≡ as_reply (entry_answer h e)

-- kind 1 with any node is one and the same call
unfoldable pub NodeOfKind1 : Type 0
NodeOfKind1 = (table : List ℕ) (l : Buffers) (p k m : ℕ) → step_call table l 1 p k ≡ step_call table l 1 p m

-- a step is a run of that one choice, and so it is as one of a list of calls: the same number and place, the same hall and
-- tally afterwards (every hall in such a list is bytes: CallLists.HallsAreBytes), with one choice done where it moved and
-- none elsewhere; the rule that it tells is that of the step done
unfoldable pub StepIsCall : Type 0
StepIsCall =
    (table : List ℕ) (l : Buffers) (kind position node : ℕ) →
    let a = step_call table l kind position node in
    let b = call_answer table l (step_choice kind position node) in
    (b.number ≡ a.number) × (b.place ≡ a.place) × (Bytes l.hall → b.buffers ≡ a.buffers) ×
    ((b.number ≡ 0) ↔ (b.done ≡ 1)) × ((b.number ≢ 0) ↔ (b.done ≡ 0)) ×
    ((t : Table) (h : Configuration) → admission table l.hall ≡ admitted t h →
    map (λ s. rule_number s.rule) (steps h (call_entries (step_choice kind position node)))
    ≡ cond (eqb a.number 0) (a.rule ∷ []) [])
