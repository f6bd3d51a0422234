-- A list of calls, whatever it refuses on the way, is one run of the choices done from the opening, and no call is
-- refused 1 to 11.
-- Assumes nothing.
use Prim.Native.Nat.{ℕ, zero, suc, ◌+◌, ◌≤◌}
use native.Mathlib.Omega.{arith}
use mathlib.Core.Path.{◌≡◌, refl, sym, ap, ◌∙◌}
use mathlib.Core.Logic.{◌⊎◌, inl, inr}
use mathlib.Core.Bool.{Bool, true, false, cond}
use mathlib.Core.Option.{Option, none, some}
use mathlib.Core.List.{List, [], ◌∷◌, ◌++◌, map}
use lib.ListN.{length, take, get_elem?}
use lib.Dec.{leb, eqb}
use borrow.Author.Tests.{eq-eqb}
use Rattle.calculus.specs.Syntax.{Name, State}
use Rattle.calculus.specs.State.{count, without}
use Rattle.calculus.specs.Log.{RD, WT}
use Rattle.calculus.specs.Reduction.{Rule, OUT, ATFAIL, ATOK}
use Rattle.semantics.specs.Definitions.Basics.{All, replace_at}
use Rattle.semantics.specs.Definitions.Terms.{Expression, end_t, retry_t, rd_t, wt_t, or_else_t}
use Rattle.semantics.specs.Definitions.Table.{Table, accepted, read_table}
use Rattle.semantics.specs.Definitions.Shortage.{enough}
use Rattle.semantics.specs.Definitions.Logs.{shortage, readable, add_token, take_token}
use Rattle.semantics.specs.Definitions.Configuration.{Idle, taking, repeating, block, output, Tree, leaf, fork, Component, idle, transaction, Configuration, opening, opens}
use Rattle.semantics.specs.Definitions.Stored.{WellFormed, hall_bytes, bytes_of}
use Rattle.semantics.specs.Definitions.Moves.{Entry, act, inside, Transition, moved, refused, EntryAnswer, does, refuses, apply_at, at_position, transition_of, transition, ComponentAnswer, moves, blocked, takes, puts, ends, acts, acts_inside, NodeAnswer, evolves, no_rule, out_of_range, move_at, inside_answer}
use Rattle.semantics.specs.Definitions.Run.{ScheduleItem, entry, malformed, schedule, entries, Counters, counted, RunAnswer, continue_run, run_from, run, steps}
use Rattle.semantics.specs.Definitions.Calls.{admitted, form_tested, size_tested, table_tested, admission, open_sized, open_tested, open_hall, Buffers, RunCall, run_result, run_admitted, run_call, Call, call_bytes, call_answer, after_calls, call_entries, entries_done}
use Rattle.semantics.specs.Claims.Correspondence.{AcceptsTable}
use Rattle.semantics.specs.Claims.Atomicity.{answers}
use Rattle.semantics.specs.Checks.AcceptedTables.{GoodTable}
use Rattle.theorems.proofs.GoodTable.{accepted_is_good}
use Rattle.theorems.proofs.RoundTrip.{stored_fits, read_back, opening_is_well_formed}
use Rattle.theorems.proofs.WellFormedKept.{well_formed_step}
use Rattle.theorems.proofs.Runs.{Runs, rested, ran, runs_append, runs_keep, tallied, tallied_append}

-- ---- refusals of choices are 12 and above

-- a refusal by a component's move is 12 or above
abbrev pub ComponentAnswerHigh : ComponentAnswer → Type 0
ComponentAnswerHigh (moves r w σ cs) = Unit {0}
ComponentAnswerHigh (blocked n) = 12 ≤ n

-- a refusal of a choice
abbrev pub AnswerHigh : Transition → Type 0
AnswerHigh (moved r g) = Unit {0}
AnswerHigh (refused n) = 12 ≤ n

abbrev EntryAnswerHigh : EntryAnswer → Type 0
EntryAnswerHigh x = AnswerHigh (transition_of x)

-- a refusal of a schedule's bytes
abbrev pub ItemHigh : ScheduleItem → Type 0
ItemHigh (entry e w) = Unit {0}
ItemHigh (malformed n) = 12 ≤ n

-- IN and REP
takes_high : (σ : State) (a : Name) (r : Rule) (cs : List Idle) → ComponentAnswerHigh (takes σ a r cs)
unfolding takes
takes_high σ a r cs = go (eqb (count σ a) 0)
  where
    go : (b : Bool) → ComponentAnswerHigh (cond b (blocked 18) (moves r enough (take_token σ a) (map idle cs)))
    go true = omega arith
    go false = tt

-- OUT
puts_high : (σ : State) (a : Name) → ComponentAnswerHigh (puts σ a)
unfolding puts
puts_high σ a = go (leb 255 (count σ a))
  where
    go : (b : Bool) → ComponentAnswerHigh (cond b (blocked 20) (moves (OUT a) enough (add_token σ a) []))
    go true = omega arith
    go false = tt

-- at an attempt's nodes
ends_high : (σ : State) (n : ℕ) (M : Expression) (t : Tree) → ComponentAnswerHigh (ends σ n M t)
unfolding ends
ends_high σ n M (leaf (end_t e) δ) = go (readable σ δ)
  where
    go : (b : Bool) → ComponentAnswerHigh
        (cond b (moves (ATOK δ) enough (without σ (RD δ)) (map (λ a. idle (output a)) (WT δ))) (moves ATFAIL (shortage σ δ) σ (idle (block n M) ∷ [])))
    go true = tt
    go false = tt
ends_high σ n M (leaf (retry_t e) δ) = tt
ends_high σ n M (leaf (rd_t e a N) δ) = omega arith
ends_high σ n M (leaf (wt_t e a N) δ) = omega arith
ends_high σ n M (leaf (or_else_t e N N') δ) = omega arith
ends_high σ n M (fork l r) = omega arith

-- kind 1
acts_high : (σ : State) (c : Component) → ComponentAnswerHigh (acts σ c)
unfolding acts
acts_high σ (idle (taking n a P)) = takes_high σ a _ (opens P)
acts_high σ (idle (repeating n a P)) = takes_high σ a _ (opens P ++ (repeating n a P ∷ []))
acts_high σ (idle (block n M)) = tt
acts_high σ (idle (output a)) = puts_high σ a
acts_high σ (transaction n M s t) = ends_high σ n M t

-- kind 2
inside_high : (σ : State) (c : Component) (k : ℕ) → ComponentAnswerHigh (acts_inside σ c k)
unfolding acts_inside inside_answer
inside_high σ (idle c) k = omega arith
inside_high σ (transaction n M s t) k = go (move_at s t k)
  where
    go : (i : NodeAnswer) → ComponentAnswerHigh (inside_answer σ n M s i)
    go (evolves r w u) = tt
    go no_rule = omega arith
    go out_of_range = omega arith

-- at a position
settles_high : (p : ℕ) (l : ComponentAnswer) (h : Configuration) → ComponentAnswerHigh l → EntryAnswerHigh (apply_at p l h)
unfolding apply_at transition_of
settles_high p (blocked n) h i = i
settles_high p (moves r w σ cs) h i = go (leb (length (replace_at p cs h.components)) 64)
  where
    go : (b : Bool) → EntryAnswerHigh (cond b (does r w (record { counts = σ; components = replace_at p cs h.components })) (refuses 19))
    go true = tt
    go false = omega arith

-- of any choice
pub choose_high : (h : Configuration) (e : Entry) → AnswerHigh (transition h e)
unfolding transition transition_of
choose_high h (act p) = go (get_elem? h.components p)
  where
    go : (o : Option Component) → EntryAnswerHigh (at_position o (λ c. apply_at p (acts h.counts c) h))
    go none = omega arith
    go (some c) = settles_high p (acts h.counts c) h (acts_high h.counts c)
choose_high h (inside p k) = go (get_elem? h.components p)
  where
    go : (o : Option Component) → EntryAnswerHigh (at_position o (λ c. apply_at p (acts_inside h.counts c k) h))
    go none = omega arith
    go (some c) = settles_high p (acts_inside h.counts c k) h (inside_high h.counts c k)

-- of any bytes
pub schedule_high : (bs : List ℕ) → All ItemHigh (schedule bs)
unfolding schedule
schedule_high [] = tt
schedule_high (zero ∷ bs) = (omega arith, tt)
schedule_high (suc zero ∷ []) = (omega arith, tt)
schedule_high (suc zero ∷ p ∷ bs) = (tt, schedule_high bs)
schedule_high (suc (suc zero) ∷ []) = (omega arith, tt)
schedule_high (suc (suc zero) ∷ p ∷ []) = (omega arith, tt)
schedule_high (suc (suc zero) ∷ p ∷ k ∷ bs) = (tt, schedule_high bs)
schedule_high (suc (suc (suc k)) ∷ bs) = (omega arith, tt)

-- ---- entries done

-- a call's answer is no refusal of 1 to 11
abbrev pub NotTurnedDown : ℕ → Type 0
NotTurnedDown n = (n ≡ 0) ⊎ (12 ≤ n)

-- what a run over items from h with so many entries done before it answers
pub record RunTells (h : Configuration) (c : Counters) (before : ℕ) (items : List ScheduleItem) (a : RunAnswer) : Type 0 where
  pub more : ℕ
  pub done : a.done ≡ before + more
  pub runs : Runs h (take more (entries items)) a.configuration
  pub tally : a.counters ≡ tallied c (steps h (take more (entries items)))
  pub number : NotTurnedDown a.number

-- the rest of a run does the entries that it counts, and refuses with 0 or with 12 and above
run_from_tells : (items : List ScheduleItem) → All ItemHigh items → (h : Configuration) (c : Counters) (p d : ℕ) → RunTells h c d items (run_from h c p d items)
unfolding run_from entries steps tallied
run_from_tells [] high h c p d = record { more = 0; done = omega arith; runs = rested; tally = refl; number = inl refl }
run_from_tells (malformed n ∷ items) high h c p d = record { more = 0; done = omega arith; runs = rested; tally = refl; number = inr high.0 }
run_from_tells (entry e w ∷ items) high h c p d = go (transition h e) refl (choose_high h e) (λ g k. run_from_tells items high.1 g k (p + w) (suc d))
  where
    go : (a : Transition) → transition h e ≡ a → AnswerHigh a → ((g : Configuration) (k : Counters) → RunTells g k (suc d) items (run_from g k (p + w) (suc d) items)) →
        RunTells h c d (entry e w ∷ items)
        (continue_run a (λ n. record { number = n; place = p; done = d; configuration = h; counters = c }) (λ r g. run_from g (counted r c) (p + w) (suc d) items))
    go (moved r g) q i rest =
        let t = rest g (counted r c) in
        record { more = suc t.more; done = t.done ∙ omega arith; runs = ran r q t.runs; tally = rw q t.tally; number = t.number }
    go (refused n) q i rest = record { more = 0; done = omega arith; runs = rested; tally = refl; number = inr i }

-- a run over choice bytes
pub run_tells : (h : Configuration) (c : Counters) (bs : List ℕ) →
    let a : RunAnswer = run h c bs in
    let es : List Entry = take a.done (entries (schedule bs)) in
    Runs h es a.configuration × (a.counters ≡ tallied c (steps h es)) × NotTurnedDown a.number
unfolding run
run_tells h c bs =
    let t = run_from_tells (schedule bs) (schedule_high bs) h c 0 0 in
    let e : t.more ≡ (run h c bs).done = let d = t.done in omega arith in
    (rw (← e) t.runs, rw (← e) t.tally, t.number)

-- ---- calls

module _ (table : List ℕ) (t : Table) (reads : read_table table ≡ accepted t) where
  -- the table's terms
  good : GoodTable t.terms
  good = accepted_is_good table t reads

  -- the stored bytes of a well-formed configuration are admitted
  stored_admitted : (h : Configuration) → WellFormed t.terms h → admission table (bytes_of h) ≡ admitted t h
  unfolding admission
  stored_admitted h w =
      ap (table_tested (bytes_of h)) reads ∙
      ap (size_tested t (bytes_of h)) (ap (λ n. eqb n hall_bytes) (stored_fits t.terms h good w).1 ∙ eq-eqb hall_bytes hall_bytes refl) ∙
      ap (form_tested t) (read_back t.terms h good w)

  -- a call on them is a run
  pub stored_run : (l : Buffers) (h : Configuration) → l.hall ≡ bytes_of h → WellFormed t.terms h → (bs : List ℕ) →
      run_call table l bs ≡ run_result (run h l.counters bs)
  unfolding run_call
  stored_run l h e w bs = ap (run_admitted l bs) (ap (admission table) e ∙ stored_admitted h w)

  -- what a call on a stored configuration answers and leaves
  record CallTells (l : Buffers) (h : Configuration) (c : Call) (a : RunCall) : Type 0 where
    after : Configuration
    well_formed : WellFormed t.terms after
    hall : a.buffers.hall ≡ bytes_of after
    runs : Runs h (take a.done (call_entries c)) after
    tally : a.buffers.counters ≡ tallied l.counters (steps h (take a.done (call_entries c)))
    number : NotTurnedDown a.number

  -- each call does the choices that it counts, to the hall that it leaves
  call_tells : (l : Buffers) (h : Configuration) → l.hall ≡ bytes_of h → WellFormed t.terms h → (c : Call) → CallTells l h c (call_answer table l c)
  unfolding call_answer call_entries run_result
  call_tells l h e w c = rw (stored_run l h e w (call_bytes c)) told
    where
      a : RunAnswer
      a = run h l.counters (call_bytes c)

      told : CallTells l h c (run_result a)
      told =
          let r = run_tells h l.counters (call_bytes c) in
          let w' = runs_keep (WellFormed t.terms) (λ h e r g w q. well_formed_step e good w q) r.0 w in
          record { after = a.configuration; well_formed = w'; hall = refl; runs = r.0; tally = r.1; number = r.2 }

  -- what a list of calls does: the entries done are one run
  pub record CallsTell (l : Buffers) (h : Configuration) (cs : List Call) : Type 0 where
    pub after : Configuration
    pub well_formed : WellFormed t.terms after
    pub hall : (after_calls table l cs).hall ≡ bytes_of after
    pub runs : Runs h (entries_done table l cs) after
    pub tally : (after_calls table l cs).counters ≡ tallied l.counters (steps h (entries_done table l cs))
    pub numbers : All (λ a. NotTurnedDown a.number) (answers table l cs)

  -- the calls, one after another, are one run of the choices done
  pub calls_tell : (l : Buffers) (h : Configuration) → l.hall ≡ bytes_of h → WellFormed t.terms h → (cs : List Call) → CallsTell l h cs
  unfolding after_calls entries_done answers steps tallied
  calls_tell l h e w [] = record { after = h; well_formed = w; hall = e; runs = rested; tally = refl; numbers = tt }
  calls_tell l h e w (c ∷ cs) =
      let one = call_tells l h e w c in
      let later = entries_done table (call_answer table l c).buffers cs in
      let rest = calls_tell (call_answer table l c).buffers one.after one.hall one.well_formed cs in
      record {
        after = rest.after;
        well_formed = rest.well_formed;
        hall = rest.hall;
        runs = runs_append one.runs rest.runs;
        tally =
            rest.tally ∙ ap (λ n. tallied n (steps one.after later)) one.tally
            ∙ sym (tallied_append one.runs l.counters later);
        numbers = (one.number, rest.numbers);
      }

-- ---- from the opening

-- what the first call is lent: the hall that opening gives, and any tally
unfoldable pub first_buffers : (table buffer : List ℕ) → Counters → Buffers
unfolding open_hall
first_buffers table buffer c = record { hall = (open_hall table buffer).hall; counters = c }

-- that hall is the opening's
pub opened_hall : (table : List ℕ) (t : Table) → read_table table ≡ accepted t → (buffer : List ℕ) → length buffer ≡ hall_bytes → (first : Counters) →
    (first_buffers table buffer first).hall ≡ bytes_of (opening t)
unfolding first_buffers open_tested
opened_hall table t reads buffer size first =
    ap (λ a. (open_tested buffer a).hall) reads ∙
    ap (λ b. (open_sized t buffer b).hall) (ap (λ n. eqb n hall_bytes) size ∙ eq-eqb hall_bytes hall_bytes refl)

-- the calls on it are one run of the choices done
pub opened_calls : (table : List ℕ) (t : Table) (accepts : AcceptsTable table t) (buffer : List ℕ) → length buffer ≡ hall_bytes → (first : Counters) (cs : List Call) →
    CallsTell table t accepts.1 (first_buffers table buffer first) (opening t) cs
opened_calls table t accepts buffer size first cs =
    calls_tell table t accepts.1 (first_buffers table buffer first) (opening t) (opened_hall table t accepts.1 buffer size first)
    (opening_is_well_formed table t accepts.0 accepts.1) cs
