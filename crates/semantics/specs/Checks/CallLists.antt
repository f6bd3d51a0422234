-- Lists of calls, runs and steps mixed (demand 3, sentence 4: hall and tally go on from call to call), seen from
-- their last call; and that a list of choices may be handed over in two calls, cut between two choices, where
-- the first call does all of its own.
-- Assumes nothing.
use Rattle.std.specs.Prelude.{ℕ, ◌+◌, ◌≡◌, ◌≢◌, List, [], ◌∷◌, ◌++◌, length, take}
use Rattle.semantics.specs.Definitions.Basics.{Bytes}
use Rattle.semantics.specs.Definitions.Table.{Table}
use Rattle.semantics.specs.Definitions.Configuration.{Configuration}
use Rattle.semantics.specs.Definitions.Stored.{WellFormed, hall_bytes, bytes_of}
use Rattle.semantics.specs.Definitions.Run.{Counters, schedule, entries}
use Rattle.semantics.specs.Definitions.Calls.{Buffers, Call, run_choices, step_choice, call_bytes, run_call, after_calls, entries_done}
use Rattle.semantics.specs.Claims.Correspondence.{AcceptsTable}
use Rattle.semantics.specs.Claims.Atomicity.{answers, final_buffers}

-- the bytes of a call: a run's choices; of a step its one choice, or the kind alone where that is neither 1 nor 2
unfoldable pub CallBytes : Type 0
unfolding call_bytes
CallBytes =
    ((choices : List ℕ) → call_bytes (run_choices choices) ≡ choices) ×
    ((p k : ℕ) → call_bytes (step_choice 1 p k) ≡ 1 ∷ p ∷ []) ×
    ((p k : ℕ) → call_bytes (step_choice 2 p k) ≡ 2 ∷ p ∷ k ∷ []) ×
    ((kind p k : ℕ) → kind ≢ 1 → kind ≢ 2 → call_bytes (step_choice kind p k) ≡ kind ∷ [])

-- no calls do nothing; and behind any calls, the next one is a run over its bytes on what they left: it leaves what that
-- run leaves, its answer is the last, and the choices done are those before and as many of its own as it says
unfoldable pub CallsInTurn : Type 0
unfolding after_calls answers entries_done call_bytes
CallsInTurn =
    (table : List ℕ) (l : Buffers) →
    (after_calls table l [] ≡ l) × (answers table l [] ≡ []) × (entries_done table l [] ≡ []) ×
    ((cs : List Call) (c : Call) →
    let all = cs ++ (c ∷ []) in
    let a = run_call table (after_calls table l cs) (call_bytes c) in
    (after_calls table l all ≡ a.buffers) × (answers table l all ≡ answers table l cs ++ (a ∷ [])) ×
    (entries_done table l all ≡ entries_done table l cs ++ take a.done (entries (schedule (call_bytes c)))) ×
    (length (entries_done table l all) ≡ length (entries_done table l cs) + a.done))

-- what a list of calls leaves of a hall just opened is bytes, after each of them: there a step is a run of its choice
-- (Steps.StepIsCall)
unfoldable pub HallsAreBytes : Type 0
unfolding final_buffers
HallsAreBytes =
    (table : List ℕ) (t : Table) → AcceptsTable table t → (buffer : List ℕ) → length buffer ≡ hall_bytes →
    (first : Counters) (cs : List Call) → Bytes (final_buffers table t buffer first cs).hall

-- where a call does all of its choices, it and the next one are one call on the choices of both
unfoldable pub CallsCut : Type 0
CallsCut =
    (table : List ℕ) (t : Table) → AcceptsTable table t → (h : Configuration) → WellFormed t.terms h →
    (l : Buffers) → l.hall ≡ bytes_of h → (xs ys : List ℕ) →
    let a = run_call table l xs in
    let b = run_call table a.buffers ys in
    a.number ≡ 0 →
    run_call table l (xs ++ ys) ≡ record {
      number = b.number;
      place = a.place + b.place;
      done = a.done + b.done;
      buffers = b.buffers;
    }
