-- Opening turn by turn in bytes: the terms that wait on the stack, and what turns leave there and lay down in a lent hall.
--
-- d is a decoded table; i is the number of a process.
-- Assumes nothing.
use Rattle.std.specs.Prelude.{ℕ, suc, ◌+◌, ◌-◌, ◌*◌, ◌≤◌, ◌≡◌, List, [], ◌∷◌, length, get_or, set, Option, Ok}
use Rattle.std.proofs.Math.Option.{some}
use Rattle.std.proofs.Math.ListN.{get_elem?}
use Rattle.semantics.specs.Definitions.Terms.{Program, Term, process}
use Rattle.semantics.specs.Definitions.Configuration.{Idle}
use Rattle.semantics.specs.Definitions.Turns.{turn, waiting_after, listed, laid_by, show_next}
use Rattle.theorems.specs.Widths.{widths}
use Rattle.answers.specs.declared.turns.Turn.{Turn}
use Rattle.answers.specs.Answers.{TurnIs}
use Rattle.table_terms.specs.Decoded.{Decoded}
use Rattle.buffer.specs.Splice.{written}
use Rattle.hall_layout.specs.Layout.{idle_size, max_components}
use Rattle.hall_open.specs.Opening.{idle_bytes}

-- the first n entries of a stack, from the last one down, are the numbers of these processes
abbrev pub WaitingTerms : List Term → (stack : List ℕ) (n : ℕ) → List Program → Type 0
WaitingTerms ts stack n [] = n ≡ 0
WaitingTerms ts stack n (P ∷ Ps) =
    (m : ℕ) × (n ≡ suc m) × (get_elem? ts (get_or stack m 0) ≡ some (process P)) × WaitingTerms ts stack m Ps

-- these components stand in the hall from an offset on, up to another, and all else is as it was before
pub record LaidDown (cs : List Idle) (before : List ℕ) (from : ℕ) (after : List ℕ) (to : ℕ) : Type 0 where
  pub end : to ≡ from + length (idle_bytes cs)
  pub bytes : after ≡ written before from (idle_bytes cs) (length (idle_bytes cs))

-- u is the number of the term after the next one, where two or more wait
pub record AfterNext (stack : List ℕ) (n u : ℕ) : Type 0 where
  pub stands : 2 ≤ n → u ≡ get_or stack (n - 2) 0

-- v is the number of the next term, where one waits, and u of the one after it
pub record OnTop (stack : List ℕ) (n v u : ℕ) : Type 0 where
  pub next : 1 ≤ n → v ≡ get_or stack (n - 1) 0
  pub after : AfterNext stack n u

-- some terms of a table that d decodes wait, no wider in all than a process may be, and what they open into fits into
-- the hall from an offset on
pub record CanTurn (d : List ℕ) (stack : List ℕ) (n v u : ℕ) (hall : List ℕ) (from : ℕ) : Type 0 where
  pub terms : List Term
  pub next : Program
  pub rest : List Program
  pub decoded : Decoded terms d
  pub waiting : WaitingTerms terms stack n (next ∷ rest)
  pub on_top : OnTop stack n v u
  pub sized : length stack ≡ max_components
  pub narrow : widths (next ∷ rest) ≤ max_components
  pub fits : from + idle_size * widths (next ∷ rest) ≤ length hall

-- of any terms that wait: those wait that a turn leaves, and what it lays down stands in the hall
pub record TurnMade (d : List ℕ) (stack : List ℕ) (n : ℕ) (hall : List ℕ) (from : ℕ)
    (stack' : List ℕ) (n' v u : ℕ) (hall' : List ℕ) (to : ℕ) : Type 0 where
  pub sized : length stack' ≡ length stack
  pub on_top : OnTop stack' n' v u
  pub found : (ts : List Term) (P : Program) (Ps : List Program) → Decoded ts d → WaitingTerms ts stack n (P ∷ Ps) →
      WaitingTerms ts stack' n' (turn P Ps).waiting × LaidDown (listed (turn P Ps).laid) hall from hall' to

-- before the first turn process number i waits alone
pub record TurnsBegun (stack : List ℕ) (i from : ℕ) (stack' : List ℕ) (n v to : ℕ) : Type 0 where
  pub alone : n ≡ 1
  pub next : v ≡ i
  pub stands : stack' ≡ set stack 0 i
  pub nowhere : to ≡ from

-- of any table that d decodes: after so many turns from process number i on those terms wait that they leave, and what
-- they lay down stands in the hall
pub record TurnsMade (d : List ℕ) (i turns : ℕ) (hall : List ℕ) (from : ℕ)
    (stack : List ℕ) (n v u : ℕ) (hall' : List ℕ) (to : ℕ) : Type 0 where
  pub sized : length stack ≡ max_components
  pub on_top : OnTop stack n v u
  pub found : (ts : List Term) (P : Program) → Decoded ts d → get_elem? ts i ≡ some (process P) →
      WaitingTerms ts stack n (waiting_after turns (P ∷ [])) × LaidDown (laid_by turns (P ∷ [])) hall from hall' to

-- ---- a turn that is shown

-- of any table that d decodes, the turn of this number in the opening of process number i is shown
pub record TurnShown (d : List ℕ) (i number : ℕ) (r : Option Turn) : Type 0 where
  pub found : (ts : List Term) (P : Program) → Decoded ts d → get_elem? ts i ≡ some (process P) →
      TurnIs (show_next (waiting_after number (P ∷ []))) (Ok r)
