-- The atomic run (document 01, "The one-step run"): all that a block does is done in one step, when it is committed. It
-- has no refusals, no transactions and no trees. It uses none of the moves of a hall, and counts by itself.
--
-- A note (`N`) has the counts at which its attempt was opened. In the run of document 01, `atomic_run` below, it has
-- nothing else; in Claims/NumberedRun it also has a number.
-- Assumes nothing.
use Rattle.std.specs.Prelude.{ℕ, suc, ltb}
use Rattle.std.proofs.Math.Bool.{cond}
use Rattle.std.proofs.Math.Option.{Option, none, some, Option-elim}
use mathlib.Core.List.{List, [], ◌∷◌, ◌++◌, map}
use Rattle.std.proofs.Math.ListN.{get_elem?}
use Rattle.calculus.specs.Syntax.{Log, State}
use Rattle.calculus.specs.State.{without}
use Rattle.calculus.specs.Log.{RD, WT}
use Rattle.semantics.specs.Definitions.Basics.{replace_at}
use Rattle.semantics.specs.Definitions.Terms.{Expression}
use Rattle.semantics.specs.Definitions.Table.{Table}
use Rattle.semantics.specs.Definitions.Logs.{readable, first_readable, add_token, take_token}
use Rattle.semantics.specs.Definitions.Configuration.{Idle, taking, repeating, block, output, opens}
use Rattle.semantics.specs.Definitions.Moves.{Entry, act, inside}
use Rattle.semantics.specs.Definitions.Run.{Counters}

-- a component with nothing begun, and the note of a block whose attempt is open
pub record WithNote (N : Type 0) : Type 0 where
  pub station : Idle
  pub note : Option N

pub record Atomic (N : Type 0) : Type 0 where
  pub counts : State
  pub stations : List (WithNote N)
  pub counters : Counters

-- A counter rises by one, and one at its top stays there. It is the same function as Run.saturatingSuc, on purpose
-- written again, with its top written out: the one-step run takes nothing from a hall's moves, not even the counting.
unfoldable pub raised : ℕ → ℕ
raised n = cond (ltb n 4294967295) (suc n) 4294967295

module _ {N : Type 0} where
  unfoldable pub without_note : Idle → WithNote N
  without_note c = record { station = c; note = none }

  -- its start: what a hall has when it is opened, no notes, and any tally
  unfoldable pub atomic_start : Table → Counters → Atomic N
  unfolding opens without_note
  atomic_start t c = record { counts = t.tokens; stations = map without_note (opens t.start); counters = c }

  -- the component at p gives way to these, without notes
  unfoldable pub replace_component : Atomic N → ℕ → State → List Idle → Counters → Atomic N
  unfolding replace_at without_note
  replace_component s p σ cs c =
      record { counts = σ; stations = replace_at p (map without_note cs) s.stations; counters = c }

  -- a block with a note, by its first path readable at the note: without one the attempt is a retry; it is committed
  -- where that path is readable at the present counts, and else has failed
  unfoldable pub end_attempt : Atomic N → ℕ → ℕ → Expression → Option Log → Atomic N
  unfolding replace_component raised readable without RD WT
  end_attempt s p n M none =
      let c = s.counters in
      replace_component s p s.counts (block n M ∷ [])
      (record { commits = c.commits; failed = c.failed; retries = raised c.retries })
  end_attempt s p n M (some δ) =
      let c = s.counters in
      cond (readable s.counts δ)
      (replace_component s p (without s.counts (RD δ)) (map output (WT δ))
      (record { commits = raised c.commits; failed = c.failed; retries = c.retries }))
      (replace_component s p s.counts (block n M ∷ [])
      (record { commits = c.commits; failed = raised c.failed; retries = c.retries }))

-- how the counts are read off a note, and the note that the present counts make
module _ {N : Type 0} (counts_of : N → State) (note_of : State → N) where
  -- kind 1 at a block: where it has no note it gets one of the counts as they are; where it has one, its attempt ends
  unfoldable pub step_block : Atomic N → ℕ → ℕ → Expression → Option N → Atomic N
  unfolding end_attempt first_readable
  step_block s p n M none =
      let begun : WithNote N = record { station = block n M; note = some (note_of s.counts) } in
      record { counts = s.counts; stations = replace_at p (begun ∷ []) s.stations; counters = s.counters }
  step_block s p n M (some m) = end_attempt s p n M (first_readable (counts_of m) M)

  -- kind 1 at a component with its note
  unfoldable pub step_component : Atomic N → ℕ → Idle → Option N → Atomic N
  unfolding replace_component add_token take_token opens step_block
  step_component s p (output a) m = replace_component s p (add_token s.counts a) [] s.counters
  step_component s p (taking n a P) m = replace_component s p (take_token s.counts a) (opens P) s.counters
  step_component s p (repeating n a P) m =
      replace_component s p (take_token s.counts a) (opens P ++ (repeating n a P ∷ [])) s.counters
  step_component s p (block n M) m = step_block s p n M m

  -- an entry done; kind 2 changes nothing
  unfoldable pub atomic_step : Atomic N → Entry → Atomic N
  unfolding step_component Option-elim
  atomic_step s (act p) = Option-elim (get_elem? s.stations p) s (λ x. step_component s p x.station x.note)
  atomic_step s (inside p k) = s

-- the one-step run of document 01 over the choices done: a note is the counts and nothing else
unfoldable pub atomic_run : Atomic State → List Entry → Atomic State
unfolding atomic_step
atomic_run s [] = s
atomic_run s (e ∷ es) = atomic_run (atomic_step (λ σ. σ) (λ σ. σ) s e) es
