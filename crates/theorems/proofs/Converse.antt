-- The converse of demand 3 (document 01, "The one-step run"): wherever one-step steps lead, each within the limits and
-- each commit by the path that is the first readable then, there are choices that one call accepts whole and that end
-- with the same counts and stations and no attempt open.
-- Assumes nothing.
use Prim.Native.Nat.{ℕ, ◌≤◌, ◌<◌}
use native.Mathlib.Omega.{arith}
use mathlib.Core.Path.{◌≡◌, refl, sym, ap, ◌∙◌}
use mathlib.Core.Logic.{◌⊎◌, inl, inr}
use mathlib.Core.Bool.{Bool, true, false}
use mathlib.Core.Option.{some}
use mathlib.Core.List.{List, [], ◌∷◌, ◌++◌, map, map-map}
use lib.ListN.{length, get_elem?, length-map}
use borrow.Author.Tests.{lt-leb, ne_eqb}
use Rattle.calculus.specs.Syntax.{Name, Log, State}
use Rattle.calculus.specs.State.{count, without}
use Rattle.calculus.specs.Log.{RD, WT}
use Rattle.calculus.specs.Reduction.{Rule, OUT, IN, REP, ATST, ATOK}
use Rattle.semantics.specs.Definitions.Basics.{replace_at, first_of, All, Bytes}
use Rattle.semantics.specs.Definitions.Terms.{Expression, end_t, atom_t, Term, process, expression, number, branches}
use Rattle.semantics.specs.Definitions.Table.{Table}
use Rattle.semantics.specs.Definitions.Shortage.{Shortage, enough}
use Rattle.semantics.specs.Definitions.Logs.{empty_log, readable, paths, first_readable, add_token, take_token}
use Rattle.semantics.specs.Definitions.Configuration.{Idle, taking, repeating, block, output, Tree, leaf, Component, idle, transaction, Configuration, opens, opening}
use Rattle.semantics.specs.Definitions.Moves.{Entry, act, inside, moves, takes, puts, commits, ends, acts, evolves, move_at, inside_answer, acts_inside, moved, transition, rule_number}
use Rattle.semantics.specs.Definitions.Run.{Counters, run, InBytes, entry_bytes, schedule_bytes}
use Rattle.semantics.specs.Checks.AcceptedTables.{GoodTable}
use Rattle.semantics.specs.Definitions.Stored.{hall_bytes, ComponentOk, WellFormed, bytes_of}
use Rattle.semantics.specs.Definitions.Calls.{Call, run_result, run_call}
use Rattle.semantics.specs.Claims.Atomicity.{initial_buffers}
use Rattle.semantics.specs.Claims.Correspondence.{AcceptsTable}
use Rattle.semantics.specs.Claims.ConverseRuns.{PlainState, plain_start, replacing, ConverseStep, step_out, step_in, step_rep, step_commit, ConverseSteps, no_step, step_then, idle_configuration}
use Rattle.theorems.proofs.Lists.{found_below, found_map, length_replace_at, map_replace_at, all_append, all_at, replaced_here, replace_at_twice}
use Rattle.theorems.proofs.Moves.{position_of, component_answer, accepted_inverts, accepted_made}
use Rattle.theorems.proofs.GoodTable.{accepted_is_good}
use Rattle.theorems.proofs.RoundTrip.{opening_is_well_formed}
use Rattle.theorems.proofs.WellFormedKept.{well_formed_step}
use Rattle.theorems.proofs.Runs.{Runs, rested, ran, runs_append, runs_keep, runs_whole}
use Rattle.theorems.proofs.CallsAsOne.{first_buffers, opened_hall, stored_run}
use Rattle.theorems.proofs.Drive.{nodes_for, Driven, arrived, driven, drives_commit, nodes_few}

-- ---- one step at a position

-- a component that moves by itself and leaves idle ones
idle_moves : {w : Shortage} (u : PlainState) (p : ℕ) (c : Idle) (r : Rule) (σ : State) (cs : List Idle) → get_elem? u.stations p ≡ some c →
    acts u.counts (idle c) ≡ moves r w σ (map idle cs) → length (replace_at p cs u.stations) ≤ 64 →
    transition (idle_configuration u) (act p) ≡ moved r (idle_configuration (replacing u p σ cs))
unfolding idle_configuration replacing position_of component_answer
idle_moves u p c r σ cs found move few =
    let same = map_replace_at idle u.stations cs p in
    let count : length (replace_at p (map idle cs) (map idle u.stations)) ≤ 64 = rw (← same, length-map) few in
    accepted_made (idle_configuration u) (act p) r σ (idle c) (map idle cs) (found_map idle u.stations p c found) move count
    ∙ λ i. moved r (record { counts = σ; components = sym same i })

-- a take where the channel is not empty, an output where it is not full
taken : (σ : State) (a : Name) (r : Rule) (cs : List Idle) → ¬ (count σ a ≡ 0) → takes σ a r cs ≡ moves r enough (take_token σ a) (map idle cs)
unfolding takes
taken σ a r cs some_there = rw (ne_eqb (count σ a) 0 some_there)

put_down : (σ : State) (a : Name) → ¬ (255 ≤ count σ a) → puts σ a ≡ moves (OUT a) enough (add_token σ a) []
unfolding puts
put_down σ a room = rw (lt-leb 255 (count σ a) (omega arith))

-- the first element that passes a test passes it
first_passes : (p : Log → Bool) (xs : List Log) (x : Log) → first_of p xs ≡ some x → p x ≡ true
unfolding first_of
first_passes p [] x e = absurd (let z : ◌≡◌ {A = ℕ} 0 1 = cc in omega arith)
first_passes p (y ∷ ys) x e = go (p y) refl (λ k. first_passes p ys x k)
  where
    go : (b : Bool) → p y ≡ b → (first_of p ys ≡ some x → p x ≡ true) → p x ≡ true
    go true t rest = let k : some y ≡ some x = rw t at e in let z : y ≡ x = cc in rw (← z) t
    go false t rest = rest (rw t at e)

-- the configuration while the attempt of the block at p is open
unfoldable pub attempting : (u : PlainState) (p n : ℕ) (M : Expression) → Tree → Configuration
attempting u p n M t = record { counts = u.counts; components = replace_at p (transaction n M u.counts t ∷ []) (map idle u.stations) }

module _ (u : PlainState) (p n : ℕ) (M : Expression) (found : get_elem? u.stations p ≡ some (block n M)) (few : length u.stations ≤ 64) where
  -- the block's position is one of the stations, and one component in its place leaves as many
  below : p < length (map idle u.stations)
  below = found_below (map idle u.stations) p (idle (block n M)) (found_map idle u.stations p (block n M) found)

  length_attempting : (c : Component) → length (replace_at p (c ∷ []) (map idle u.stations)) ≤ 64
  length_attempting c =
      let k = length_replace_at (map idle u.stations) (c ∷ []) p below in let l = length-map u.stations idle in omega arith

  -- the attempt opens
  opened : transition (idle_configuration u) (act p) ≡ moved ATST (attempting u p n M (leaf M empty_log))
  unfolding idle_configuration attempting position_of component_answer acts
  opened =
      accepted_made
      (idle_configuration u)
      (act p)
      ATST
      u.counts
      (idle (block n M))
      (transaction n M u.counts (leaf M empty_log) ∷ [])
      (found_map idle u.stations p (block n M) found)
      refl
      (length_attempting (transaction n M u.counts (leaf M empty_log)))

  -- a choice at the attempt
  moved_there : (e : Entry) → position_of e ≡ p → (t : Tree) (r : Rule) {w : Shortage} (σ : State) (cs : List Component) →
      component_answer u.counts (transaction n M u.counts t) e ≡ moves r w σ cs → length (replace_at p cs (map idle u.stations)) ≤ 64 →
      transition (attempting u p n M t) e ≡ moved r (record { counts = σ; components = replace_at p cs (map idle u.stations) })
  unfolding attempting
  moved_there e at t r σ cs move fits =
      let c : Component = transaction n M u.counts t in
      let twice = replace_at_twice (map idle u.stations) cs p c in
      let here = replaced_here p p 0 (c ∷ []) (map idle u.stations) below (omega arith) (omega arith) in
      accepted_made (attempting u p n M t) e r σ c cs (rw at here) move (rw (at, twice) fits)
      ∙ rw at (λ i. moved r (record { counts = σ; components = twice i }))

  -- it moves inside, at one node and at a list of nodes
  evolved : (t v : Tree) (k : ℕ) (r : Rule) {w : Shortage} → move_at u.counts t k ≡ evolves r w v → transition (attempting u p n M t) (inside p k) ≡ moved r (attempting u p n M v)
  unfolding attempting position_of component_answer acts_inside inside_answer
  evolved t v k r {w} e =
      let c : Component = transaction n M u.counts v in moved_there (inside p k) refl t r {w = w} u.counts (c ∷ []) (rw e) (length_attempting c)

  drive_runs : {t v : Tree} {ks : List ℕ} → Driven u.counts t ks v → Runs (attempting u p n M t) (map (inside p) ks) (attempting u p n M v)
  drive_runs arrived = rested
  drive_runs (driven r e d) = ran r (evolved _ _ _ r e) (drive_runs d)

  -- it commits at an end leaf whose log is readable at the present counts
  committed : (e : ℕ) (δ : Log) → readable u.counts δ ≡ true → length (replace_at p (map output (WT δ)) u.stations) ≤ 64 →
      transition (attempting u p n M (leaf (end_t e) δ)) (act p) ≡ moved (ATOK δ) (idle_configuration (replacing u p (without u.counts (RD δ)) (map output (WT δ))))
  unfolding idle_configuration replacing position_of component_answer acts ends commits
  committed e δ there fits =
      let laid : map idle (map output (WT δ)) ≡ map (λ a. idle (output a)) (WT δ) = map-map idle output (WT δ) in
      let same = map_replace_at idle u.stations (map output (WT δ)) p in
      let count : length (replace_at p (map idle (map output (WT δ))) (map idle u.stations)) ≤ 64 = rw (← same, length-map) fits in
      moved_there
      (act p)
      refl
      (leaf (end_t e) δ)
      (ATOK δ)
      {w = enough}
      (without u.counts (RD δ))
      (map idle (map output (WT δ)))
      (rw (there, laid))
      count
      ∙ λ i. moved (ATOK δ) (record { counts = without u.counts (RD δ); components = sym same i })

  -- an attempt is opened and moved inside, and then commits by the first readable path
  attempt_commits : (δ : Log) → first_readable u.counts M ≡ some δ → length (replace_at p (map output (WT δ)) u.stations) ≤ 64 →
      (f : Configuration) × Runs (idle_configuration u) (act p ∷ map (inside p) (nodes_for u.counts M empty_log 0)) f ×
      (transition f (act p) ≡ moved (ATOK δ) (idle_configuration (replacing u p (without u.counts (RD δ)) (map output (WT δ)))))
  unfolding first_readable
  attempt_commits δ first fits =
      let d = drives_commit u.counts M δ first in (
        attempting u p n M (leaf (end_t d.0) δ),
        ran ATST opened (drive_runs d.1),
        committed d.0 δ (first_passes (readable u.counts) (paths M) δ first) fits,
      )

-- the choices of a step: one act, or those of an attempt from its opening to its commit
unfoldable pub StepDone : (u : PlainState) (p : ℕ) (v : PlainState) → Type 0
StepDone u p v =
    ((r : Rule) × (transition (idle_configuration u) (act p) ≡ moved r (idle_configuration v)) × (rule_number r ≤ 3)) ⊎
    ((n : ℕ) × (M : Expression) × (δ : Log) × (f : Configuration) × (get_elem? u.stations p ≡ some (block n M)) ×
    Runs (idle_configuration u) (act p ∷ map (inside p) (nodes_for u.counts M empty_log 0)) f ×
    (transition f (act p) ≡ moved (ATOK δ) (idle_configuration v)))

-- every step has them
pub step_done : (u : PlainState) (p : ℕ) {v : PlainState} → length u.stations ≤ 64 → ConverseStep u p v → StepDone u p v
unfolding StepDone acts rule_number
step_done u p few (step_out a found room) =
    let small : length (replace_at p [] u.stations) ≤ 64 =
    let k = length_replace_at u.stations [] p (found_below u.stations p (output a) found) in omega arith in
    inl (OUT a, idle_moves u p (output a) (OUT a) (add_token u.counts a) [] found (put_down u.counts a room) small, omega arith)
step_done u p few (step_in n a P found there fits) =
    inl (
      IN a,
      idle_moves u p (taking n a P) (IN a) (take_token u.counts a) (opens P) found (taken u.counts a (IN a) (opens P) there) (omega arith),
      omega arith,
    )
step_done u p few (step_rep n a P found there fits) =
    let cs : List Idle = opens P ++ (repeating n a P ∷ []) in
    inl (
      REP a,
      idle_moves u p (repeating n a P) (REP a) (take_token u.counts a) cs found (taken u.counts a (REP a) cs there) (omega arith),
      omega arith,
    )
step_done u p few (step_commit n M δ found first fits) =
    let c = attempt_commits u p n M found few δ first (omega arith) in inr (n, M, δ, c.0, found, c.1, c.2)

-- ---- from choices to bytes

-- choices whose numbers are bytes have bytes for their bytes
in_bytes : (es : List Entry) → All InBytes es → Bytes (schedule_bytes es)
unfolding schedule_bytes entry_bytes InBytes
in_bytes [] h = tt
in_bytes (act p ∷ es) h = (omega arith, (h.0, in_bytes es h.1))
in_bytes (inside p k ∷ es) h = (omega arith, (h.0.0, (h.0.1, in_bytes es h.1)))

-- moves inside at few nodes are bytes
inside_in_bytes : (p : ℕ) (ks : List ℕ) → p ≤ 255 → All (λ k. k < 8) ks → All InBytes (map (inside p) ks)
unfolding InBytes
inside_in_bytes p [] h few = tt
inside_in_bytes p (k ∷ ks) h few = ((h, omega arith), inside_in_bytes p ks h few.1)

-- ---- the choices of all steps

-- choices that are accepted one after another from one state to another, no attempt open at either, and are bytes
record Choices (u v : PlainState) : Type 0 where
  chosen : List Entry
  runs : Runs (idle_configuration u) chosen (idle_configuration v)
  bytes : All InBytes chosen

module _ (ts : List Term) (good : GoodTable ts) where
  -- a block's expression is the table's, so it has few branches
  block_branches : (u : PlainState) (p n : ℕ) (M : Expression) → get_elem? u.stations p ≡ some (block n M) → WellFormed ts (idle_configuration u) →
      branches M ≤ 8
  unfolding idle_configuration ComponentOk
  block_branches u p n M found ok =
      let c : get_elem? ts n ≡ some (process (atom_t n M)) =
      all_at (ComponentOk ts) (map idle u.stations) p (idle (block n M)) ok.each (found_map idle u.stations p (block n M) found) in
      (good.limits (number M) (expression M) (good.subterms n (process (atom_t n M)) c)).0

  -- a well-formed configuration has at most 64 stations
  few_stations : (u : PlainState) → WellFormed ts (idle_configuration u) → length u.stations ≤ 64
  unfolding idle_configuration
  few_stations u ok = rw length-map at ok.few

  -- of one step
  step_choices : (u : PlainState) (p : ℕ) (v : PlainState) → WellFormed ts (idle_configuration u) → StepDone u p v → Choices u v
  unfolding StepDone InBytes position_of
  step_choices u p v ok (inl (r, q, h)) =
      let m = accepted_inverts (idle_configuration u) (act p) r (idle_configuration v) q in
      let below = found_below (idle_configuration u).components p m.component m.found in
      let few = ok.few in
      record { chosen = act p ∷ []; runs = ran r q rested; bytes = (omega arith, tt) }
  step_choices u p v ok (inr (n, M, δ, f, found, to, q)) =
      let ks = nodes_for u.counts M empty_log 0 in
      let small : p ≤ 255 = let k = found_below u.stations p (block n M) found in let l = few_stations u ok in omega arith in
      let few = nodes_few u.counts M empty_log 0 8 (let b = block_branches u p n M found ok in omega arith) in
      record {
        chosen = (act p ∷ map (inside p) ks) ++ (act p ∷ []);
        runs = runs_append to (ran (ATOK δ) q rested);
        bytes = all_append InBytes (act p ∷ map (inside p) ks) (act p ∷ []) (small, inside_in_bytes p ks small few) (small, tt);
      }

  -- of a list of steps
  steps_choices : {u v : PlainState} → WellFormed ts (idle_configuration u) → ConverseSteps u v → Choices u v
  steps_choices ok no_step = record { chosen = []; runs = rested; bytes = tt }
  steps_choices {u} ok (step_then {u = w} p one more) =
      let k = step_choices u p w ok (step_done u p (few_stations u ok) one) in
      let l = steps_choices (runs_keep (WellFormed ts) (λ h e r g w q. well_formed_step e good w q) k.runs ok) more in
      record {
        chosen = k.chosen ++ l.chosen;
        runs = runs_append k.runs l.runs;
        bytes = all_append InBytes k.chosen l.chosen k.bytes l.bytes;
      }

-- ---- on an opened hall

module _ (table : List ℕ) (t : Table) (accepts : AcceptsTable table t) (buffer : List ℕ) (size : length buffer ≡ hall_bytes) (first : Counters) (cs : List Call) where
  -- a run on a hall just opened is a run from the opening
  opened_runs : (choices : List ℕ) → run_call table (initial_buffers table t buffer first cs) choices ≡ run_result (run (opening t) first choices)
  unfolding initial_buffers first_buffers
  opened_runs choices =
      stored_run table t accepts.1 (first_buffers table buffer first) (opening t) (opened_hall table t accepts.1 buffer size first)
      (opening_is_well_formed table t accepts.0 accepts.1) choices

  -- The converse, as demand 3 asks for it.
  pub converse_holds : (s : PlainState) → ConverseSteps (plain_start t) s →
      (es : List Entry) × Bytes (schedule_bytes es) ×
      ((run_call table (initial_buffers table t buffer first cs) (schedule_bytes es)).number ≡ 0) ×
      ((run_call table (initial_buffers table t buffer first cs) (schedule_bytes es)).done ≡ length es) ×
      ((run_call table (initial_buffers table t buffer first cs) (schedule_bytes es)).buffers.hall ≡ bytes_of (idle_configuration s))
  unfolding idle_configuration plain_start opening run_result
  converse_holds s run_of =
      let good = accepted_is_good table t accepts.1 in
      let ok : WellFormed t.terms (idle_configuration (plain_start t)) = opening_is_well_formed table t accepts.0 accepts.1 in
      let k = steps_choices t.terms good ok run_of in
      let a = runs_whole k.runs first in
      let same = opened_runs (schedule_bytes k.chosen) in (
        k.chosen,
        in_bytes k.chosen k.bytes,
        ap (λ c. c.number) same ∙ a.number,
        ap (λ c. c.done) same ∙ a.done,
        ap (λ c. c.buffers.hall) same ∙ ap bytes_of a.configuration,
      )
