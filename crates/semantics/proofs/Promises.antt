-- What the records of claims give: each demand from its claims. And a contract that cites a record promises that record.
-- Assumes nothing.
use Prim.Native.Nat.{ℕ}
use mathlib.Core.Path.{◌≡◌, refl}
use mathlib.Core.Logic.{◌⊎◌, inl, inr}
use mathlib.Core.List.{List, []}
use lib.ListN.{length}
use Rattle.calculus.specs.Syntax.{State, Process}
use Rattle.calculus.specs.Reduction.{Label, by, COM, Reduces, LogOrder}
use Rattle.semantics.specs.Definitions.Basics.{Bytes}
use Rattle.semantics.specs.Definitions.Table.{Table, TableAnswer, accepted, refused_at, read_table}
use Rattle.semantics.specs.Definitions.Configuration.{Configuration}
use Rattle.semantics.specs.Definitions.Stored.{WellFormed, bytes_of}
use Rattle.semantics.specs.Definitions.Run.{Counters}
use Rattle.semantics.specs.Definitions.Calls.{Call, Admission, admitted, not_admitted, admission}
use Rattle.semantics.specs.Claims.Denotation.{Denotes, WithinLimits}
use Rattle.semantics.specs.Claims.Correspondence.{AcceptsTable, EveryHall, EveryMove, Soundness, OneReduction, Completeness, HasChoices, EveryHallDenotes, KeepsWellFormed, AcceptedIsWithinLimits}
use Rattle.semantics.specs.Claims.Suggestions.{SuggestedIsFirst, StillIsQuiescent}
use Rattle.semantics.specs.Claims.Atomicity.{AtomicityOfCalls, Demand3, initial_buffers, atomic}
use Rattle.semantics.specs.Checks.Conditions.{TableNumbers, HallNumbers, RunNumbers, RunCallNumbers, TableAccepted, TableRefused, HallCondition}
use Rattle.semantics.specs.Promises.{Promised, EveryClaim, Demands}

table_answered : EveryClaim → (table : List ℕ) (a : TableAnswer) → read_table table ≡ a →
    ((t : Table) × (read_table table ≡ accepted t) × TableAccepted table t)
    ⊎ ((n : ℕ) × (p : ℕ) × (read_table table ≡ refused_at n p) × TableRefused table n p)
unfolding TableNumbers
table_answered claims table (accepted t) e = inl (t, e, ((claims.on_tables.table_numbers table).1 t).0 e)
table_answered claims table (refused_at n p) e = inr (n, p, e, ((claims.on_tables.table_numbers table).0 n p).0 e)

hall_answered : EveryClaim → (table hall : List ℕ) → Bytes table → Bytes hall → (a : Admission) → admission table hall ≡ a →
    ((t : Table) × (h : Configuration) × (admission table hall ≡ admitted t h) × TableAccepted table t ×
    WellFormed t.terms h × (bytes_of h ≡ hall))
    ⊎ ((n : ℕ) × (p : ℕ) × (admission table hall ≡ not_admitted n p) × HallCondition table hall n p)
unfolding HallNumbers
hall_answered claims table hall b c (admitted t h) e =
    let x = ((claims.on_halls.hall_numbers table hall b c).1 t h).0 e in inl (t, h, e, x.0, x.1, x.2)
hall_answered claims table hall b c (not_admitted n p) e =
    inr (n, p, e, ((claims.on_halls.hall_numbers table hall b c).0 n p).0 e)

-- three of the claims unfolded, and what they ask of a table

accepts : (table : List ℕ) (t : Table) → Bytes table → read_table table ≡ accepted t → AcceptsTable table t
accepts table t b e = (b, e)

soundly : EveryClaim → EveryMove (λ t h e r g. OneReduction h r g)
unfolding Soundness
soundly claims = claims.on_runs.demand2.soundness

completely : EveryClaim → EveryHall (λ t h.
    (P : Process) → Denotes P h.components → (l : Label) (P' : Process) (σ' : State) →
    Reduces LogOrder l P h.counts P' σ' → WithinLimits l h.counts P' σ' → HasChoices l h P' σ')
unfolding Completeness
completely claims = claims.on_runs.demand2.completeness

atomically : EveryClaim → (table : List ℕ) (t : Table) → AcceptsTable table t → (buffer : List ℕ) → length buffer ≡ 11344 →
    (first : Counters) (cs : List Call) → Demand3 table t buffer first cs
unfolding AtomicityOfCalls
atomically claims = claims.on_runs.demand3.atomicity_of_calls

pub demands_follow : EveryClaim → Demands
unfolding RunNumbers RunCallNumbers OneReduction HasChoices SuggestedIsFirst StillIsQuiescent initial_buffers atomic
    EveryHallDenotes KeepsWellFormed AcceptedIsWithinLimits
demands_follow claims =
    let numbers = claims.on_runs.run_numbers in
    let complete = completely claims in
    let calls = atomically claims in
    record {
      every_table_answered = λ table. table_answered claims table (read_table table) refl;
      every_hall_answered = λ table hall b c. hall_answered claims table hall b c (admission table hall) refl;
      every_list_answered = λ table t b e h w c choices.
          let z = numbers table t (accepts table t b e) h w c choices in (z.inside_bytes, z.before, z.reason);
      refused_changes_nothing = λ table l choices b c n p x. (claims.on_runs.run_call_numbers table l choices b c).0 n p x;
      halls_denote = claims.on_runs.demand2.every_hall_denotes;
      opened_well_formed = claims.on_openings.opening_is_well_formed;
      choices_reduce = λ table t b e h w x r g q P d.
          let good = accepts table t b e in
          let z = soundly claims table t good h w x r g q P d in
          let kept = claims.on_runs.demand2.keeps_well_formed table t good h w x r g q in
          let bounded = claims.on_runs.demand2.accepted_is_within_limits table t good h w x r g q in
          (z.0, z.1, z.2, bounded z.0 z.2, kept.0);
      reductions_chosen = λ table t b e h w P d r P' σ' x y. complete table t (accepts table t b e) h w P d (by r) P' σ' x y;
      handovers_chosen = λ table t b e h w P d a P' σ' x y.
          let z = complete table t (accepts table t b e) h w P d (COM a) P' σ' x y in
          (z.0, z.1, z.2, z.3, z.4, z.5, z.6, z.7, z.8, z.10, z.11);
      suggestions_run = λ table l e q.
          let z = (claims.on_suggestions.suggested_is_first table l e).0 q in (z.in_bytes, z.done);
      still_is_said = claims.on_suggestions.still_is_quiescent;
      calls_as_one_step_run = λ table t b e buffer size first cs.
          let z = (calls table t (accepts table t b e) buffer size first cs).as_one_step_run in
          (z.whole, z.after, z.read, z.counts, z.stations, z.tally);
      abandoned_leave_no_trace = λ table t b e buffer size first cs.
          let z = (calls table t (accepts table t b e) buffer size first cs).abandoned_never_happened in
          (z.whole, z.hall, z.same_effects, z.none_abandoned);
      first_path_taken = λ table t b e buffer size first cs j s δ found rule.
          let z = (calls table t (accepts table t b e) buffer size first cs).first_readable_paths.commits j s found δ rule in
          (z.0, z.1, z.2, z.3, z.4, z.5, z.6);
      one_step_runs_chosen = λ table t b e buffer size first s steps.
          let z = (calls table t (accepts table t b e) buffer size first []).converse.choices_found s steps in
          (z.0, z.1, z.2, z.3, z.4);
    }

pub promised_is : (claims : Type 0) → Promised claims → claims
unfolding Promised
promised_is claims x = x
