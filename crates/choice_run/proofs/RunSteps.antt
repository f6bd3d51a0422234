-- The turns of a run: what is left of the schedule, run from the configuration that is held, gives what the whole run
-- gives.
-- Assumes nothing.
use Rattle.std.specs.Prelude.{Option, Some, None, Result, Ok, Err}
use Prim.Native.Nat.{ℕ, ◌+◌, ◌-◌, ◌≤◌, ◌<◌}
use native.Mathlib.Omega.{arith}
use native.Mathlib.Numerals.{add-one}
use mathlib.Core.Path.{◌≡◌, refl, sym, ap, ◌∙◌}
use mathlib.Core.List.{List, ◌∷◌}
use lib.ListN.{length, drop}
use mir.Syntax.{w64}
use mir.Val.{Fits}
use Rattle.calculus.specs.Reduction.{Rule}
use Rattle.semantics.specs.Definitions.Terms.{Term}
use Rattle.semantics.specs.Definitions.Configuration.{Configuration}
use Rattle.semantics.specs.Definitions.Moves.{Entry, moved, transition}
use Rattle.semantics.specs.Definitions.Run.{Counters, counted, ScheduleItem, entry, schedule, continue_run, run_from, run}
use Rattle.semantics.specs.Definitions.Calls.{run_result}
use Rattle.table_terms.specs.Decoded.{Decoded}
use Rattle.answers.specs.declared.refusals.Reason.{Reason}
use Rattle.answers.specs.declared.replies.Move.{Move}
use Rattle.answers.specs.declared.tallies.Counters as code
use Rattle.answers.specs.Answers.{number_of_rule, counters_of, counted_by, entry_of, outcome_number}
use Rattle.answers.proofs.Numbers.{reason_tag}
use Rattle.answers.proofs.CounterLaws.{counted_by_holds}
use Rattle.hall_held.specs.Holds.{Holds, Running}
use Rattle.hall_held.specs.Choices.{EntryMade}
use Rattle.hall_held.proofs.Holds.{hall_length}
use Rattle.choice_read.specs.declared.Parsed.{Parsed}
use Rattle.answers.specs.declared.runs.RunAnswer.{RunAnswer}
use Rattle.choice_read.specs.Entries.{EntryAt, ParsedIs}
use Rattle.hall_held.proofs.Choices.{entry_made_running}
use Rattle.choice_run.specs.Answers.{Ran}
use Rattle.choice_run.proofs.MadeEntries.{made_moved, made_refused}

-- a configuration is held from which the rest of the schedule gives what the run from h gives
pub record Follows (ts : List Term) (h : Configuration) (choices : List ℕ) (t₀ : Counters) (s starts : List ℕ)
    (n at done : ℕ) (t : Counters) : Type 0 where
  pub configuration : Configuration
  pub holds : Holds ts configuration s starts n
  pub same : run h t₀ choices ≡ run_from configuration t at done (schedule (drop at choices))

-- between the turns, k is the answer of a run that is completed there: some configuration is held; whichever was held at
-- first, what is held now follows from it
pub record Going (d s₀ starts₀ : List ℕ) (n₀ : ℕ) (choices : List ℕ) (t₀ : Counters) (s starts : List ℕ) (n : ℕ)
    (k : RunAnswer) : Type 0 where
  pub completed : k.outcome ≡ Ok tt
  pub running : Running d s starts n
  pub first : Running d s₀ starts₀ n₀
  pub follows : (ts : List Term) (h : Configuration) → Decoded ts d → Holds ts h s₀ starts₀ n₀ →
      Follows ts h choices t₀ s starts n k.place k.done (counters_of k.counters)
  pub inside : k.place ≤ length choices
  pub few : k.done ≤ k.place

pub run_begins : {d s starts : List ℕ} {n : ℕ} {choices : List ℕ} {t : code.Counters} → Running d s starts n →
    Going d s starts n choices (counters_of t) s starts n (record { outcome = Ok tt; place = 0; done = 0; counters = t })
unfolding run
run_begins r = record {
  completed = refl;
  running = r;
  first = r;
  follows = λ ts h y x. record { configuration = h; holds = x; same = refl };
  inside = omega arith;
  few = omega arith;
}

-- the bytes are as many as at first
pub run_keeps_length : {d s₀ starts₀ : List ℕ} {n₀ : ℕ} {choices : List ℕ} {t₀ : Counters} {s starts : List ℕ} {n : ℕ}
    {k : RunAnswer} → Going d s₀ starts₀ n₀ choices t₀ s starts n k → length s ≡ length s₀
run_keeps_length g = hall_length g.running.holds ∙ sym (hall_length g.first.holds)

-- an entry that is done
turn : (g h : Configuration) (e : Entry) (size behind at done : ℕ) (items : List ScheduleItem) (t u : Counters)
    (by : Rule) →
    transition g e ≡ moved by h → u ≡ counted by t → behind ≡ at + size →
    run_from g t at done (entry e size ∷ items) ≡ run_from h u behind (done + 1) items
unfolding run_from continue_run
turn g h e size behind at done items t u by answer counts b = rw (answer, counts, b, add-one done)

module _ {d s₀ starts₀ : List ℕ} {n₀ : ℕ} {choices : List ℕ} {t₀ : Counters} {s starts : List ℕ} {n : ℕ} {k : RunAnswer}
    (g : Going d s₀ starts₀ n₀ choices t₀ s starts n k)
    {a : Option (Result Parsed Reason)} (f : ParsedIs choices k.place a) where
  -- the schedule has come to its end
  pub run_ends : a ≡ None → Ran d s₀ starts₀ n₀ choices t₀ k s
  unfolding outcome_number run_from run_result
  run_ends q = record {
    found = λ ts h y x. let w = g.follows ts h y x in rw (g.completed, w.same, rw q at f, ← w.holds.bytes);
    decided = rw g.completed tt;
  }

  module _ {b : Result Parsed Reason} (there : a ≡ Some b) where
    -- what stands there is no entry
    pub run_malformed : {e : Reason} → b ≡ Err e → Ran d s₀ starts₀ n₀ choices t₀ (record { outcome = Err e; place = k.place; done = k.done; counters = k.counters }) s
    unfolding outcome_number run_from run_result
    run_malformed {e} q = record {
      found = λ ts h y x. let w = g.follows ts h y x in rw (w.same, rw (there, q) at f, ← w.holds.bytes);
      decided = let z = reason_tag e in omega arith;
    }

    module _ {p : Parsed} (q : b ≡ Ok p) where
      stands : EntryAt choices k.place (entry_of p.entry) p.next
      stands = rw (there, q) at f

      -- each turn takes some bytes of the schedule
      pub nearer : length choices - p.next < length choices - k.place
      nearer =
          let w = stands.some in
          let o = stands.behind in
          let l = stands.held in omega arith

      -- the entries done stay fewer than the schedule's bytes
      pub done_fits : Fits w64 (length choices) → Fits w64 (k.done + 1)
      done_fits f =
          let w = stands.some in
          let o = stands.behind in
          let l = stands.held in let m = g.few in omega arith

      -- the entry is refused
      pub run_refused : {e : Reason} {s' starts' : List ℕ} {n' : ℕ} → EntryMade d s starts n (entry_of p.entry) (Err e) s' starts' n' →
          Ran d s₀ starts₀ n₀ choices t₀ (record { outcome = Err e; place = k.place; done = k.done; counters = k.counters }) s'
      unfolding outcome_number run_from run_result continue_run
      run_refused {e} c = record {
        found = λ ts h y x.
            let w = g.follows ts h y x in
            let (b, after) = made_refused c ts w.configuration y w.holds e refl in
            rw (w.same, stands.here, b, ← after.bytes);
        decided = let z = reason_tag e in omega arith;
      }

      -- it is done, and the run goes on behind it
      pub run_goes_on : {m : Move} {s' starts' : List ℕ} {n' : ℕ} → EntryMade d s starts n (entry_of p.entry) (Ok m) s' starts' n' →
          {rule : ℕ} → rule ≡ number_of_rule m.rule → {u : code.Counters} → u ≡ counted_by k.counters rule →
          Going d s₀ starts₀ n₀ choices t₀ s' starts' n'
          (record { outcome = k.outcome; place = p.next; done = k.done + 1; counters = u })
      run_goes_on {m} {s'} {starts'} {n'} c numbered {u} counts = record {
        completed = g.completed;
        running = entry_made_running g.running c;
        first = g.first;
        follows = λ ts h y x. goes ts h (g.follows ts h y x) y;
        inside = stands.held;
        few =
            let w = stands.some in let o = stands.behind in let l = g.few in omega arith;
      }
        where
          goes : (ts : List Term) (h : Configuration) → Follows ts h choices t₀ s starts n k.place k.done (counters_of k.counters) →
              Decoded ts d → Follows ts h choices t₀ s' starts' n' p.next (k.done + 1) (counters_of u)
          goes ts h w y =
              let b = made_moved c ts w.configuration y w.holds m refl in
              let here = ap (λ l. run_from w.configuration (counters_of k.counters) k.place k.done l) stands.here in
              let next = turn w.configuration b.result (entry_of p.entry) stands.size p.next k.place k.done
              (schedule (drop p.next choices)) (counters_of k.counters) (counters_of u) b.done b.answer
              (ap counters_of (rw numbered at counts) ∙ counted_by_holds k.counters (number_of_rule m.rule) b.done b.number)
              stands.behind in
              record { configuration = b.result; holds = b.holds; same = w.same ∙ here ∙ next }
