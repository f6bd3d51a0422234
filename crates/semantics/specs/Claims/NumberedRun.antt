-- The choices done, numbered from 0 in their order: to which attempt each belongs, which trays have gained since an
-- attempt was opened, and what is left without abandoned attempts (document 01, "The one-step run": notes, gains,
-- abandoned attempts). An attempt goes by the number of the choice that opened it.
-- Assumes nothing.
use Rattle.std.specs.Prelude.{ℕ, suc, ◌≡◌, Bool, cond, ◌||◌, List, [], ◌∷◌, map, drop, leb, eqb}
use Rattle.std.proofs.Math.Option
use Rattle.std.proofs.Math.Option.{Option-elim, bind}
use Rattle.std.proofs.Math.ListN.{get_elem?}
use Rattle.calculus.specs.Syntax.{Name, State}
use Rattle.calculus.specs.State.{occurrences}
use Rattle.calculus.specs.Reduction.{Rule}
use mathlib.Core.List.{flatten}
use Rattle.semantics.specs.Definitions.Table.{Table}
use Rattle.semantics.specs.Definitions.Moves.{Entry, act, inside, effect_of, rule_number}
use Rattle.semantics.specs.Definitions.Run.{Counters, Step}
use Rattle.semantics.specs.Definitions.AtomicRun.{WithNote, Atomic, atomic_start, atomic_step, atomic_run}

-- ---- the numbered run: the one-step run, with the number of the choice that made it in each note

pub record Note : Type 0 where
  pub counts : State
  pub begun : ℕ

-- the state of the one-step run, and the number of the next choice
pub record Numbered : Type 0 where
  pub run : Atomic Note
  pub next : ℕ

unfoldable pub numbered_start : Table → Counters → Numbered
unfolding atomic_start
numbered_start t c = record { run = atomic_start t c; next = 0 }

unfoldable pub numbered_step : Numbered → Entry → Numbered
unfolding atomic_step
numbered_step a e =
    let note_of : State → Note = λ σ. record { counts = σ; begun = a.next } in
    record { run = atomic_step (λ m. m.counts) note_of a.run e; next = suc a.next }

unfoldable pub numbered_run : Numbered → List Entry → Numbered
unfolding numbered_step
numbered_run a [] = a
numbered_run a (e ∷ es) = numbered_run (numbered_step a e) es

-- without the numbers
unfoldable pub unnumbered : Atomic Note → Atomic State
unnumbered a =
    let without_number : WithNote Note → WithNote State =
    λ x. record { station = x.station; note = Option.map (λ m. m.counts) x.note } in
    record { counts = a.counts; stations = map without_number a.stations; counters = a.counters }

-- it is the one-step run
unfoldable pub NumberedIsAtomic : Type 0
unfolding numbered_run numbered_start unnumbered atomic_run
NumberedIsAtomic =
    (t : Table) (c : Counters) (es : List Entry) →
    unnumbered (numbered_run (numbered_start t c) es).run ≡ atomic_run (atomic_start t c) es

-- ---- gains

-- the trays that have gained since choice number i, each as often as it did: the tokens that the rules behind number
-- i add
unfoldable pub gained_since : (i : ℕ) → List Rule → List Name
unfolding flatten effect_of
gained_since i done = flatten (map (λ r. (effect_of r).added) (drop (suc i) done))

-- ---- attempts

-- the attempt that an entry belongs to: the number in the note at its position. Without a note there its own number:
-- it opens an attempt, or it is an OUT, an IN or a REP and no other choice has that number.
unfoldable pub attempt_of : Numbered → Entry → ℕ
unfolding bind Option-elim
attempt_of a (act p) = Option-elim (bind (get_elem? a.run.stations p) (λ x. x.note)) a.next (λ m. m.begun)
attempt_of a (inside p k) = Option-elim (bind (get_elem? a.run.stations p) (λ x. x.note)) a.next (λ m. m.begun)

-- a step with the attempt that it belongs to
pub record Member : Type 0 where
  pub step : Step
  pub attempt : ℕ

unfoldable pub members : Numbered → List Step → List Member
unfolding attempt_of numbered_step
members a [] = []
members a (s ∷ ss) = record { step = s; attempt = attempt_of a s.chosen } ∷ members (numbered_step a s.chosen) ss

-- rules 5 and 6 abandon an attempt
unfoldable pub aborts : Rule → Bool
unfolding rule_number
aborts r = eqb (rule_number r) 5 || eqb (rule_number r) 6

-- the elements that pass a test
unfoldable pub passing {ℓ} : {A : Type ℓ} → (A → Bool) → List A → List A
passing p [] = []
passing p (x ∷ xs) = cond (p x) (x ∷ passing p xs) (passing p xs)

-- the numbers of the abandoned attempts
unfoldable pub aborted : List Member → List ℕ
unfolding passing aborts
aborted ms = map (λ m. m.attempt) (passing (λ m. aborts m.step.rule) ms)

-- the choices done without those of abandoned attempts
unfoldable pub without_aborted : List Member → List Entry
unfolding passing aborted occurrences
without_aborted ms = map (λ m. m.step.chosen) (passing (λ m. eqb (occurrences m.attempt (aborted ms)) 0) ms)

-- the rules that change the counts or what stands in the hall, in order: 1 OUT, 2 IN, 3 REP and 7 ATOK
unfoldable pub effects : List Step → List Rule
unfolding passing rule_number
effects ss = passing (λ r. leb (rule_number r) 3 || eqb (rule_number r) 7) (map (λ s. s.rule) ss)
