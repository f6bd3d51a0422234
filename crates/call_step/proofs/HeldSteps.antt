-- A step on a configuration that is held: its choice was looked at, and where that moves a run of its bytes was made.
-- Assumes nothing.
use Rattle.std.specs.Prelude.{Result, Ok, Err}
use Prim.Native.Nat.{ℕ, ◌+◌}
use native.Mathlib.Omega.{arith}
use mathlib.Core.Path.{◌≡◌, refl, sym, ap, ◌∙◌}
use mathlib.Core.List.{List}
use lib.ListN.{length}
use Rattle.calculus.specs.Reduction.{Rule}
use Rattle.semantics.specs.Definitions.Configuration.{Configuration}
use Rattle.semantics.specs.Definitions.Stored.{bytes_of}
use Rattle.semantics.specs.Definitions.Shortage.{Shortage}
use Rattle.semantics.specs.Definitions.Moves.{Entry, EntryAnswer, does, refuses, entry_answer, moved, transition_of, transition, rule_number, moved_by, refused_by, as_reply}
use Rattle.semantics.specs.Definitions.Run.{Counters, counted, continue_run, run_from, run}
use Rattle.semantics.specs.Definitions.Calls.{Buffers, run_result, step_refused, step_entry}
use Rattle.answers.specs.declared.refusals.Reason.{Reason}
use Rattle.answers.specs.declared.refusals.Refusal.{Refusal}
use Rattle.answers.specs.declared.replies.Move.{Move}
use Rattle.answers.specs.Answers.{number_of_rule, reason_number, shortage_of, reply_of, counters_of, run_call_of}
use Rattle.answers.specs.declared.tallies.Counters as code
use Rattle.hall_held.specs.Choices.{EntryLooked}
use Rattle.answers.specs.declared.runs.RunAnswer.{RunAnswer}
use Rattle.choice_run.specs.Answers.{Ran}
use Rattle.call_admit.proofs.Admissions.{number_told}
use Rattle.call_step.specs.Steps.{OneEntry, HeldStepped}

-- ---- the answer that a look tells

record Does (h : Configuration) (e : Entry) (rule : ℕ) (w : Shortage) : Type 0 where
  by : Rule
  result : Configuration
  response : entry_answer h e ≡ does by w result
  numbered : rule_number by ≡ rule

looked_does : (h : Configuration) (e : Entry) (rule : ℕ) (w : Shortage) → as_reply (entry_answer h e) ≡ moved_by rule w → Does h e rule w
unfolding as_reply
looked_does h e rule w q = go (entry_answer h e) refl q
  where
    go : (a : EntryAnswer) → entry_answer h e ≡ a → as_reply a ≡ moved_by rule w → Does h e rule w
    go (does r v g) f same =
        let told : v ≡ w = cc in
        record { by = r; result = g; response = f ∙ ap (λ x. does r x g) told; numbered = cc }
    go (refuses n) f same = let z : ◌≡◌ {A = ℕ} 0 1 = cc in absurd (omega arith)

looked_refuses : (h : Configuration) (e : Entry) (m : ℕ) → as_reply (entry_answer h e) ≡ refused_by m → entry_answer h e ≡ refuses m
unfolding as_reply
looked_refuses h e m q = go (entry_answer h e) q
  where
    go : (a : EntryAnswer) → as_reply a ≡ refused_by m → a ≡ refuses m
    go (does r v g) same = let z : ◌≡◌ {A = ℕ} 0 1 = cc in absurd (omega arith)
    go (refuses n) same = ap refuses (cc)

-- ---- a run of one choice that moves

-- what it leaves
run_of_one : (h g : Configuration) (t : Counters) (bytes : List ℕ) (e : Entry) (by : Rule) → OneEntry bytes e →
    transition h e ≡ moved by g →
    run h t bytes
    ≡ record {
      number = 0;
      place = 0 + length bytes;
      done = 1;
      configuration = g;
      counters = counted by t;
    }
unfolding run run_from continue_run
run_of_one h g t bytes e by one q = rw (one.says, q)

-- ---- a step

moved_said : (h g : Configuration) (l b : Buffers) (size rule : ℕ) (w : Shortage) (e : Entry) (by : Rule) →
    entry_answer h e ≡ does by w g → rule_number by ≡ rule → b ≡ record { hall = bytes_of g; counters = counted by l.counters } →
    record { number = 0; place = size; rule = rule; shortage = w; buffers = b } ≡ step_entry (record { hall = bytes_of h; counters = l.counters }) size (entry_answer h e)
unfolding step_entry
moved_said h g l b size rule w e by answer number leaves = rw (answer, ← number, leaves)

module _ {d s starts : List ℕ} {n : ℕ} {e : Entry} {t : code.Counters} {r : Result Move Reason} (look : EntryLooked d s starts n e r) where
  pub step_moved : {bytes : List ℕ} → OneEntry bytes e → {m : Move} → r ≡ Ok m → {a : RunAnswer} {s' : List ℕ} →
      Ran d s starts n bytes (counters_of t) a s' →
      HeldStepped d s starts n e (length bytes) (counters_of t)
      (Ok (record { made = m; place = length bytes; counters = a.counters })) s'
  unfolding reply_of run_result transition transition_of
  step_moved {bytes} one {m} z {a} {s'} f = record {
    found = λ ts h y x.
        let rule = number_of_rule m.rule in
        let w = shortage_of m.short in
        let q = looked_does h e rule w (sym (look.found ts h y x) ∙ ap reply_of z) in
        let whole = f.found ts h y x ∙ ap run_result
        (run_of_one h q.result (counters_of t) bytes e q.by one (ap transition_of q.response)) in
        moved_said h q.result (record { hall = s; counters = counters_of t }) (run_call_of a s').buffers (length bytes) rule w e
        q.by q.response q.numbered (ap (λ c. c.buffers) whole);
    decided = tt;
  }

  pub step_refused_holds : {x : Reason} → r ≡ Err x → {size : ℕ} {f : Refusal} → f ≡ record { reason = x; place = 0 } →
      HeldStepped d s starts n e size (counters_of t) (Err f) s
  unfolding reply_of transition transition_of step_entry step_refused
  step_refused_holds {x} z at_0 = rw at_0 (record {
    found = λ ts h y v.
        let q = looked_refuses h e (reason_number x) (sym (look.found ts h y v) ∙ ap reply_of z) in rw (q, ← v.bytes);
    decided = number_told x;
  })
