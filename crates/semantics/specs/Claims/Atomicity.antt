-- Demand 3 as one type: a record over one table, one list of calls and one first tally. Its proof stands in
-- the crate theorems.
-- Assumes nothing.
use Rattle.std.specs.Prelude.{ℕ, ◌≤◌, ◌<◌, ◌≡◌, ◌⊎◌, false, List, [], ◌∷◌, map, length, take}
use Rattle.std.proofs.Math.Option.{some}
use Rattle.std.proofs.Math.ListN.{get_elem?}
use Rattle.calculus.specs.Syntax.{Log, State}
use Rattle.calculus.specs.Reduction.{ATST, ATOK}
use Rattle.semantics.specs.Definitions.Basics.{All, Bytes}
use Rattle.semantics.specs.Definitions.Terms.{Expression}
use Rattle.semantics.specs.Definitions.Table.{Table}
use Rattle.semantics.specs.Definitions.Logs.{empty_log, first_readable}
use Rattle.semantics.specs.Definitions.Configuration.{Idle, block, Tree, leaf, Component, idle, transaction, Configuration, opening}
use Rattle.semantics.specs.Definitions.Stored.{hall_bytes, bytes_of, configuration_of}
use Rattle.semantics.specs.Definitions.Moves.{Entry, act}
use Rattle.semantics.specs.Definitions.Run.{Counters, schedule_bytes, run, Step, steps, final_configuration}
use Rattle.semantics.specs.Definitions.AtomicRun.{Atomic, atomic_start, atomic_run}
use Rattle.semantics.specs.Definitions.Calls.{Buffers, RunCall, Call, call_answer, after_calls, entries_done, open_hall, run_call}
use Rattle.semantics.specs.Claims.NumberedRun.{aborts, without_aborted, effects, numbered_start, numbered_run, gained_since, members}
use Rattle.semantics.specs.Claims.ConverseRuns.{PlainState, plain_start, ConverseSteps, idle_configuration}
use Rattle.semantics.specs.Claims.InnerMoves.{Moves}
use Rattle.semantics.specs.Claims.Correspondence.{AcceptsTable}

-- an open attempt read as a block not begun
unfoldable pub rolled_back : Component → Idle
rolled_back (idle c) = c
rolled_back (transaction n M s t) = block n M

-- the answers of a list of calls, in order
unfoldable pub answers : List ℕ → Buffers → List Call → List RunCall
unfolding call_answer after_calls
answers table l [] = []
answers table l (c ∷ cs) = call_answer table l c ∷ answers table (call_answer table l c).buffers cs

-- ---- the path that a block takes

-- over the choices done, numbered from 0: choice number j did step number j of `steps (opening t) done`
module _ (t : Table) (first : Counters) (done : List Entry) where
  -- when j choices are done: the block n M at position q has a note, with the number of an earlier choice, which did
  -- ATST, and with the counts that this choice met
  pub record AttemptBegun (j q n : ℕ) (M : Expression) : Type 0 where
    pub opener : ℕ
    pub earlier : opener < j
    pub step : Step
    pub found : get_elem? (steps (opening t) done) opener ≡ some step
    pub starts : step.rule ≡ ATST
    pub note_made :
        get_elem? (numbered_run (numbered_start t first) (take j done)).run.stations q
        ≡ some (record { station = block n M; note = some (record { counts = step.before.counts; begun = opener }) })

  -- choice number j, by the step s: where it commits the path δ of a block, δ comes first among the block's paths
  -- that were readable at the opening, and where no tray gained between the two, first among those readable at the
  -- commit
  abbrev pub CommitOk : (j : ℕ) → Step → Type 0
  CommitOk j s =
      (δ : Log) → s.rule ≡ ATOK δ →
      (p : ℕ) × (n : ℕ) × (M : Expression) × (o : AttemptBegun j p n M) × (s.chosen ≡ act p) ×
      (first_readable o.step.before.counts M ≡ some δ) ×
      (gained_since o.opener (map (λ u. u.rule) (take j (steps (opening t) done))) ≡ [] →
      first_readable s.before.counts M ≡ some δ)

  -- the attempts open in the configuration h when j choices are done: each has the counts of its opening for its
  -- snapshot, and has come from its block's expression and the empty log by moves inside it
  abbrev pub AttemptsOk : (j : ℕ) → Configuration → Type 0
  AttemptsOk j h =
      (q n : ℕ) (M : Expression) (s : State) (u : Tree) → get_elem? h.components q ≡ some (transaction n M s u) →
      (o : AttemptBegun j q n M) × (o.step.before.counts ≡ s) × Moves s (leaf M empty_log) u

-- ---- the claim

module _ (table : List ℕ) (t : Table) (buffer : List ℕ) (first : Counters) (cs : List Call) where
  -- what the first call is lent, the hall that opening gives and any tally; what the last one leaves; and the choices
  -- done on the way, over all calls as one list
  unfoldable pub initial_buffers : Buffers
  unfolding open_hall
  initial_buffers = record { hall = (open_hall table buffer).hall; counters = first }

  unfoldable pub final_buffers : Buffers
  unfolding after_calls initial_buffers
  final_buffers = after_calls table initial_buffers cs

  unfoldable pub all_done : List Entry
  unfolding entries_done initial_buffers
  all_done = entries_done table initial_buffers cs

  -- those without the ones of abandoned attempts
  unfoldable pub done_without_aborted : List Entry
  unfolding without_aborted members numbered_start steps opening all_done
  done_without_aborted = without_aborted (members (numbered_start t first) (steps (opening t) all_done))

  -- the one-step run, fed with all of them
  unfoldable pub atomic : Atomic State
  unfolding atomic_run atomic_start all_done
  atomic = atomic_run (atomic_start t first) all_done

  -- Sentence 1: after the calls counts, stations and tally are those of the one-step run over the choices done.
  pub record AsOneStepRun : Type 0 where
    -- whatever the calls: none is turned down with 1 to 11, and what they did is one accepted list of choices, from the
    -- opening to the hall that they leave
    pub never_rejected : All (λ a. (a.number ≡ 0) ⊎ (12 ≤ a.number)) (answers table initial_buffers cs)
    pub whole : length (steps (opening t) all_done) ≡ length all_done
    pub hall : final_buffers.hall ≡ bytes_of (final_configuration (opening t) (steps (opening t) all_done))
    -- what they leave: read back from its bytes, with attempts as blocks, it is what the one-step run has
    pub after : Configuration
    pub read : configuration_of t.terms final_buffers.hall ≡ some after
    pub counts : after.counts ≡ atomic.counts
    pub stations : map rolled_back after.components ≡ map (λ x. x.station) atomic.stations
    pub tally : final_buffers.counters ≡ atomic.counters
    -- all along the way: the same of the first j choices done, run by themselves
    pub each_choice :
        (j : ℕ) →
        let a = run (opening t) first (schedule_bytes (take j all_done)) in
        let o = atomic_run (atomic_start t first) (take j all_done) in
        (a.number ≡ 0) × (a.configuration ≡ final_configuration (opening t) (take j (steps (opening t) all_done))) ×
        (a.configuration.counts ≡ o.counts) × (a.counters ≡ o.counters) ×
        (map rolled_back a.configuration.components ≡ map (λ x. x.station) o.stations)

  -- Sentence 2. What a committed block does happens all at once, at its commit: so the one-step run is defined; with
  -- `each_choice` the hall has that step's counts and stations right behind the commit. And, but for the tally, abandoned
  -- attempts never happened: take their choices away, and the list is still accepted whole, to the same bytes; the
  -- one-step run ends in the same state and with as many commits, while failed and retries are the first tally's; all
  -- that had an effect is done in the same order; no attempt is abandoned.
  pub record AbandonedNeverHappened : Type 0 where
    pub whole : length (steps (opening t) done_without_aborted) ≡ length done_without_aborted
    pub hall : bytes_of (final_configuration (opening t) (steps (opening t) done_without_aborted)) ≡ final_buffers.hall
    pub one_step_holds :
        atomic_run (atomic_start t first) done_without_aborted
        ≡ record {
          counts = atomic.counts;
          stations = atomic.stations;
          counters = record { commits = atomic.counters.commits; failed = first.failed; retries = first.retries };
        }
    pub same_effects : effects (steps (opening t) done_without_aborted) ≡ effects (steps (opening t) all_done)
    pub none_abandoned : All (λ u. aborts u.rule ≡ false) (steps (opening t) done_without_aborted)

  -- Sentence 3: a block's path is the first readable at its opening, and at its commit too if no tray gained. It is said
  -- of every choice done; and all along the way each open attempt is one that its block's moves lead to.
  pub record FirstReadablePaths : Type 0 where
    pub commits : (j : ℕ) (s : Step) → get_elem? (steps (opening t) all_done) j ≡ some s → CommitOk t first all_done j s
    pub attempts :
        (j : ℕ) → j ≤ length all_done →
        AttemptsOk t first all_done j (final_configuration (opening t) (take j (steps (opening t) all_done)))

  -- Sentence 5, the converse: wherever one-step steps lead, each within the limits and each commit by the path that is the
  -- first readable then, there leads a list of choices too, in bytes, that one call accepts whole and that ends with the
  -- same counts and stations and no attempt open.
  pub record ConverseHolds : Type 0 where
    pub choices_found :
        (s : PlainState) → ConverseSteps (plain_start t) s →
        (es : List Entry) × Bytes (schedule_bytes es) ×
        ((run_call table initial_buffers (schedule_bytes es)).number ≡ 0) ×
        ((run_call table initial_buffers (schedule_bytes es)).done ≡ length es) ×
        ((run_call table initial_buffers (schedule_bytes es)).buffers.hall ≡ bytes_of (idle_configuration s))

  -- Demand 3, sentence by sentence. Of sentence 2 the first half, that a block acts in one step at its commit, is the
  -- one-step run's definition with `each_choice`. Sentence 4 is in the definitions: `final_buffers` and `all_done` hand hall
  -- and tally on from call to call, and `first` is any tally (Checks/CallLists says the same of a list's last call).
  pub record Demand3 : Type 0 where
    pub as_one_step_run : AsOneStepRun
    pub abandoned_never_happened : AbandonedNeverHappened
    pub first_readable_paths : FirstReadablePaths
    pub converse : ConverseHolds

-- for every accepted table's bytes, any buffer of a hall's size to open it in, any first tally and any list of calls,
-- each a run over choice bytes, well or badly formed, or a step by one choice, of a known kind or not
unfoldable pub AtomicityOfCalls : Type 0
AtomicityOfCalls =
    (table : List ℕ) (t : Table) → AcceptsTable table t → (buffer : List ℕ) → length buffer ≡ hall_bytes →
    (first : Counters) (cs : List Call) → Demand3 table t buffer first cs
