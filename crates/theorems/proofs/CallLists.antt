-- Lists of calls: the last call of a list, and a list of choices cut into two calls.
-- Assumes nothing.
use Prim.Native.Nat.{ℕ, zero, suc, ◌+◌, ◌≤◌}
use native.Mathlib.Omega.{arith}
use mathlib.Core.Path.{◌≡◌, refl, ap, ◌∙◌}
use mathlib.Core.Logic.{◌≢◌}
use mathlib.Core.List.{List, [], ◌∷◌, ◌++◌, append_assoc, append-nil}
use lib.ListN.{length, take, length-append, length-take}
use Rattle.calculus.specs.Reduction.{Rule}
use Rattle.semantics.specs.Definitions.Configuration.{Configuration}
use Rattle.semantics.specs.Definitions.Stored.{WellFormed, bytes_of}
use Rattle.semantics.specs.Definitions.Moves.{Entry, act, inside, Transition, moved, refused, transition}
use Rattle.semantics.specs.Definitions.Run.{Counters, counted, ScheduleItem, entry, malformed, schedule, entries, RunAnswer, continue_run, run_from, run}
use Rattle.semantics.specs.Definitions.Calls.{Buffers, Call, step_bytes, call_bytes, Admission, admitted, not_admitted, admission, run_result, run_admitted, run_call, call_answer, call_entries, after_calls, entries_done}
use Rattle.semantics.specs.Claims.Atomicity.{answers, initial_buffers, final_buffers}
use Rattle.semantics.specs.Checks.CallLists.{CallBytes, CallsInTurn, HallsAreBytes, CallsCut}
use Rattle.theorems.proofs.GoodTable.{accepted_is_good}
use Rattle.theorems.proofs.RoundTrip.{stored_fits}
use Rattle.theorems.proofs.WellFormedKept.{well_formed_step}
use Rattle.theorems.proofs.Runs.{runs_keep}
use Rattle.theorems.proofs.CallsAsOne.{AnswerHigh, choose_high, run_tells, stored_run, first_buffers, opened_calls}

-- ---- the last call

module _ (table : List ℕ) where
  after_last : (cs : List Call) (l : Buffers) (c : Call) →
      after_calls table l (cs ++ (c ∷ [])) ≡ (call_answer table (after_calls table l cs) c).buffers
  unfolding after_calls
  after_last [] l c = refl
  after_last (d ∷ cs) l c = after_last cs (call_answer table l d).buffers c

  answers_last : (cs : List Call) (l : Buffers) (c : Call) →
      answers table l (cs ++ (c ∷ [])) ≡ answers table l cs ++ (call_answer table (after_calls table l cs) c ∷ [])
  unfolding answers after_calls
  answers_last [] l c = refl
  answers_last (d ∷ cs) l c = ap (◌∷◌ (call_answer table l d)) (answers_last cs (call_answer table l d).buffers c)

  done_last : (cs : List Call) (l : Buffers) (c : Call) →
      entries_done table l (cs ++ (c ∷ []))
      ≡ entries_done table l cs ++ take (call_answer table (after_calls table l cs) c).done (call_entries c)
  unfolding entries_done after_calls
  done_last [] l c = append-nil (take (call_answer table l c).done (call_entries c))
  done_last (d ∷ cs) l c =
      let a = call_answer table l d in
      let front = take a.done (call_entries d) in
      ap (λ es. front ++ es) (done_last cs a.buffers c) ∙ simp append_assoc

-- a run does no more choices than it has
run_from_few : (items : List ScheduleItem) (h : Configuration) (c : Counters) (p d : ℕ) →
    (run_from h c p d items).done ≤ d + length (entries items)
unfolding run_from entries
run_from_few [] h c p d = omega arith
run_from_few (malformed n ∷ items) h c p d = omega arith
run_from_few (entry e w ∷ items) h c p d = go (transition h e) (λ g k. run_from_few items g k (p + w) (suc d))
  where
    go : (a : Transition) → ((g : Configuration) (k : Counters) → (run_from g k (p + w) (suc d) items).done ≤ suc d + length (entries items)) →
        (continue_run a (λ n. record { number = n; place = p; done = d; configuration = h; counters = c }) (λ r g. run_from g (counted r c) (p + w) (suc d) items)).done ≤ d + suc (length (entries items))
    go (moved r g) rest = let z = rest g (counted r c) in omega arith
    go (refused n) rest = omega arith

call_few : (table : List ℕ) (l : Buffers) (choices : List ℕ) → (run_call table l choices).done ≤ length (entries (schedule choices))
unfolding run_call
call_few table l choices = go (admission table l.hall)
  where
    go : (a : Admission) → (run_admitted l choices a).done ≤ length (entries (schedule choices))
    go (not_admitted n p) = omega arith
    go (admitted t h) = let z = run_from_few (schedule choices) h l.counters 0 0 in omega arith

pub call_bytes_holds : CallBytes
unfolding CallBytes step_bytes
call_bytes_holds = (λ choices. refl, λ p k. refl, λ p k. refl, other)
  where
    other : (kind p k : ℕ) → kind ≢ 1 → kind ≢ 2 → step_bytes kind p k ≡ kind ∷ []
    other zero p k one two = refl
    other (suc zero) p k one two = absurd (one refl)
    other (suc (suc zero)) p k one two = absurd (two refl)
    other (suc (suc (suc n))) p k one two = refl

pub calls_in_turn : CallsInTurn
unfolding CallsInTurn after_calls answers entries_done call_answer call_entries
calls_in_turn table l = (refl, refl, refl, behind)
  where
    behind : (cs : List Call) (c : Call) →
        let all = cs ++ (c ∷ []) in
        let a = run_call table (after_calls table l cs) (call_bytes c) in
        (after_calls table l all ≡ a.buffers) × (answers table l all ≡ answers table l cs ++ (a ∷ [])) ×
        (entries_done table l all ≡ entries_done table l cs ++ take a.done (entries (schedule (call_bytes c)))) ×
        (length (entries_done table l all) ≡ length (entries_done table l cs) + a.done)
    behind cs c =
        let es = entries (schedule (call_bytes c)) in
        let a = run_call table (after_calls table l cs) (call_bytes c) in
        let few = call_few table (after_calls table l cs) (call_bytes c) in
        let own : length (take a.done es) ≡ a.done = length-take a.done es ∙ omega arith in (
          after_last table cs l c,
          answers_last table cs l c,
          done_last table cs l c,
          ap length (done_last table cs l c) ∙ length-append (entries_done table l cs) (take a.done es)
              ∙ ap (λ n. length (entries_done table l cs) + n) own,
        )

-- ---- two calls in one

-- the run that goes on where another stopped
abbrev goes_on : RunAnswer → List ScheduleItem → RunAnswer
goes_on a items = run_from a.configuration a.counters a.place a.done items

-- one choice in front
entry_append : (h : Configuration) (c : Counters) (p d : ℕ) (e : Entry) (w : ℕ) (items all behind : List ScheduleItem) →
    ((g : Configuration) (k : Counters) → (run_from g k (p + w) (suc d) items).number ≡ 0 →
    run_from g k (p + w) (suc d) all ≡ goes_on (run_from g k (p + w) (suc d) items) behind) →
    (run_from h c p d (entry e w ∷ items)).number ≡ 0 →
    run_from h c p d (entry e w ∷ all) ≡ goes_on (run_from h c p d (entry e w ∷ items)) behind
unfolding run_from
entry_append h c p d e w items all behind rest = go (transition h e) (choose_high h e)
  where
    stopped : ℕ → RunAnswer
    stopped n = record { number = n; place = p; done = d; configuration = h; counters = c }

    over : List ScheduleItem → Rule → Configuration → RunAnswer
    over is r g = run_from g (counted r c) (p + w) (suc d) is

    go : (a : Transition) → AnswerHigh a → (continue_run a stopped (over items)).number ≡ 0 →
        continue_run a stopped (over all) ≡ goes_on (continue_run a stopped (over items)) behind
    go (moved r g) high z = rest g (counted r c) z
    go (refused n) high z = absurd (omega arith)

-- a run to the end of its bytes goes on with what is behind them
run_append : (xs ys : List ℕ) (h : Configuration) (c : Counters) (p d : ℕ) → (run_from h c p d (schedule xs)).number ≡ 0 →
    run_from h c p d (schedule (xs ++ ys)) ≡ goes_on (run_from h c p d (schedule xs)) (schedule ys)
unfolding run_from schedule
run_append [] ys h c p d z = refl
run_append (zero ∷ xs) ys h c p d z = absurd (omega arith)
run_append (suc zero ∷ []) ys h c p d z = absurd (omega arith)
run_append (suc zero ∷ q ∷ xs) ys h c p d z =
    entry_append h c p d (act q) 2 (schedule xs) (schedule (xs ++ ys)) (schedule ys) (λ g k. run_append xs ys g k (p + 2) (suc d)) z
run_append (suc (suc zero) ∷ []) ys h c p d z = absurd (omega arith)
run_append (suc (suc zero) ∷ q ∷ []) ys h c p d z = absurd (omega arith)
run_append (suc (suc zero) ∷ q ∷ j ∷ xs) ys h c p d z =
    entry_append h c p d (inside q j) 3 (schedule xs) (schedule (xs ++ ys)) (schedule ys) (λ g k. run_append xs ys g k (p + 3) (suc d)) z
run_append (suc (suc (suc k)) ∷ xs) ys h c p d z = absurd (omega arith)

-- an answer with its place and its choices done counted from further back
abbrev shifted : (place done : ℕ) → RunAnswer → RunAnswer
shifted q n a =
    record { number = a.number; place = q + a.place; done = n + a.done; configuration = a.configuration; counters = a.counters }

run_shifted : (items : List ScheduleItem) (h : Configuration) (c : Counters) (q n p d : ℕ) →
    run_from h c (q + p) (n + d) items ≡ shifted q n (run_from h c p d items)
unfolding run_from
run_shifted [] h c q n p d = refl
run_shifted (malformed m ∷ items) h c q n p d = refl
run_shifted (entry e w ∷ items) h c q n p d = go (transition h e) (λ g k. run_shifted items g k q n (p + w) (suc d))
  where
    go : (a : Transition) →
        ((g : Configuration) (k : Counters) → run_from g k (q + (p + w)) (n + suc d) items ≡ shifted q n (run_from g k (p + w) (suc d) items)) →
        continue_run a (λ m. record { number = m; place = q + p; done = n + d; configuration = h; counters = c })
        (λ r g. run_from g (counted r c) ((q + p) + w) (suc (n + d)) items)
        ≡ shifted q n
        (continue_run a (λ m. record { number = m; place = p; done = d; configuration = h; counters = c })
        (λ r g. run_from g (counted r c) (p + w) (suc d) items))
    go (moved r g) rest =
        let place : (q + p) + w ≡ q + (p + w) = omega arith in
        let done : suc (n + d) ≡ n + suc d = omega arith in
        rw (place, done) (rest g (counted r c))
    go (refused m) rest = refl

run_cut : (h : Configuration) (c : Counters) (xs ys : List ℕ) → (run h c xs).number ≡ 0 →
    let a = run h c xs in
    run h c (xs ++ ys) ≡ shifted a.place a.done (run a.configuration a.counters ys)
unfolding run
run_cut h c xs ys z =
    let a = run h c xs in
    let place : a.place + 0 ≡ a.place = omega arith in
    let done : a.done + 0 ≡ a.done = omega arith in
    run_append xs ys h c 0 0 z
    ∙ rw (place, done) at (run_shifted (schedule ys) a.configuration a.counters a.place a.done 0 0)

pub halls_are_bytes : HallsAreBytes
unfolding HallsAreBytes final_buffers initial_buffers first_buffers
halls_are_bytes table t accepts buffer size first cs =
    let all = opened_calls table t accepts buffer size first cs in
    rw all.hall (stored_fits t.terms all.after (accepted_is_good table t accepts.1) all.well_formed).2

pub calls_cut : CallsCut
unfolding CallsCut run_result
calls_cut table t accepts h ok l e xs ys = rw (stored_run table t accepts.1 l h e ok xs) cut
  where
    a : RunAnswer
    a = run h l.counters xs

    left : Buffers
    left = record { hall = bytes_of a.configuration; counters = a.counters }

    cut : a.number ≡ 0 →
        let b = run_call table left ys in
        run_call table l (xs ++ ys)
        ≡ record { number = b.number; place = a.place + b.place; done = a.done + b.done; buffers = b.buffers }
    cut z =
        let good = accepted_is_good table t accepts.1 in
        let kept = runs_keep (WellFormed t.terms) (λ h e r g w q. well_formed_step e good w q) (run_tells h l.counters xs).0 ok in
        rw (stored_run table t accepts.1 left a.configuration refl kept ys)
        (stored_run table t accepts.1 l h e ok (xs ++ ys) ∙ ap run_result (run_cut h l.counters xs ys z))
