-- The loop over records: what the rest of the table is read as from here is what the whole table is read as. And the
-- verdict.
-- Assumes nothing.
use Prim.{Unit}
use Prim.Native.Nat.{ℕ, zero, suc, ◌+◌, ◌-◌, ◌≤◌, ◌<◌}
use native.Mathlib.Omega.{arith}
use mathlib.Core.Path.{◌≡◌, refl, ap, ◌∙◌}
use mathlib.Core.List.{List, []}
use lib.ListN.{length, drop, replicate, length-replicate}
use lib.Seq.{drop-drop}
use Rattle.std.specs.Prelude.{Result, Ok, Err}
use Rattle.semantics.specs.Definitions.Table.{TableSoFar, TableAnswer, accepted, refused_at, RecordAnswer, stop, more, read_record, then_read, read_from, empty_table, read_table}
use Rattle.semantics.specs.Definitions.Calls.{ok, table_verdict, check_table}
use Rattle.table_terms.proofs.Stores.{none_decoded}
use Rattle.answers.specs.declared.refusals.Refusal.{Refusal}
use Rattle.table_read.specs.declared.Accepted.{Accepted}
use Rattle.table_read.specs.declared.AfterRecord.{AfterRecord}
use Rattle.table_read.specs.declared.AfterRecord.TheVariants.{More, Done}
use Rattle.table_read.specs.ReadAnswers.{ReadAnswerIs}
use Rattle.answers.specs.Answers.{verdict_of}
use Rattle.table_read.specs.RecordTests.{DecodedSoFar}
use Rattle.table_read.specs.RecordRead.{Advanced, AfterRecordIs, reading_of, RecordRead}
use Rattle.table_terms.specs.Decoded.{decoded_bytes}

-- at the loop's head: the decoded table holds the terms read so far, and reading on from them gives the table's answer
pub record ReadSoFar (s : List ℕ) (at n : ℕ) (d : List ℕ) : Type 0 where
  pub held : DecodedSoFar d n
  pub fuel : ℕ
  pub says : read_table s ≡ read_from fuel (reading_of held.terms d) at (drop at s)
  pub enough : length s < at + fuel
  pub inside : at ≤ length s

pub nothing_read : (s d : List ℕ) → d ≡ replicate decoded_bytes 0 → ReadSoFar s 0 0 d
unfolding read_table empty_table
nothing_read s d e = record {
  held = record { terms = []; decoded = none_decoded d (ap length e ∙ length-replicate {A = ℕ} decoded_bytes 0); counted = refl };
  fuel = suc (length s);
  says = rw e refl;
  enough = omega arith;
  inside = omega arith;
}

module _ (s : List ℕ) (at n : ℕ) (d : List ℕ) (w : ReadSoFar s at n d)
    (x : Result AfterRecord Refusal) (d' : List ℕ) (reads : RecordRead s at n d x d') where
  abbrev so_far : TableSoFar
  so_far = reading_of w.held.terms d

  -- one record more of the fuel
  step_of : (f : ℕ) → length s < at + f → (a : TableAnswer) → a ≡ read_from f so_far at (drop at s) →
      (g : ℕ) × (f ≡ suc g) × (a ≡ then_read (read_record so_far at (drop at s)) (λ y v. read_from g y (at + v) (drop v (drop at s))))
  unfolding read_from
  step_of zero h a e = let i = w.inside in absurd (omega arith)
  step_of (suc g) h a e = (g, refl, e)

  agrees : AfterRecordIs s at x (read_record so_far at (drop at s)) d'
  agrees = reads.found w.held.terms w.held.decoded w.held.counted

  module _ (next m : ℕ) (e : x ≡ Ok (More next m)) where
    advanced : {C : Type 0} → ((y : TableSoFar) (v : ℕ) → read_record so_far at (drop at s) ≡ more y v → Advanced s at next m y v d' → C) → C
    advanced {C} k = go (read_record so_far at (drop at s)) refl (rw e at agrees)
      where
        go : (t : RecordAnswer) → read_record so_far at (drop at s) ≡ t → AfterRecordIs s at (Ok (More next m)) t d' → C
        go (stop a) p h = absurd h
        go (more y v) p h = k y v p h

    pub read_on : ReadSoFar s next m d'
    unfolding then_read
    read_on = advanced (λ y v p h. go y v p h (step_of w.fuel w.enough (read_table s) w.says))
      where
        go : (y : TableSoFar) (v : ℕ) → read_record so_far at (drop at s) ≡ more y v → Advanced s at next m y v d' →
            (g : ℕ) × (w.fuel ≡ suc g) × (read_table s ≡ then_read (read_record so_far at (drop at s)) (λ y v. read_from g y (at + v) (drop v (drop at s)))) →
            ReadSoFar s next m d'
        go y v p h q =
            let i = h.behind in
            let j = h.some_bytes in
            let o = w.enough in
            let u = q.1 in
            let r : read_table s ≡ read_from q.0 y (at + v) (drop v (drop at s)) = rw p at q.2 in
            record {
              held = record { terms = y.terms; decoded = h.decoded; counted = h.counted };
              fuel = q.0;
              says = rw (← h.tokens, i) (r ∙ ap (λ l. read_from q.0 y (at + v) l) (drop-drop v at s));
              enough = omega arith;
              inside = h.inside;
            }

    pub nearer : length s - next < length s - at
    nearer = advanced (λ y v p h. let i = h.behind in let j = h.some_bytes in let o = h.inside in omega arith)

  -- the record ends the reading, and a is the table's answer
  ends : (a : Result Accepted Refusal) → ((b : TableAnswer) → AfterRecordIs s at x (stop b) d' → ReadAnswerIs a b d') →
      ((y : TableSoFar) (v : ℕ) → AfterRecordIs s at x (more y v) d' → ⊥) → ReadAnswerIs a (read_table s) d'
  unfolding then_read
  ends a f g = go (read_record so_far at (drop at s)) refl agrees (step_of w.fuel w.enough (read_table s) w.says)
    where
      go : (t : RecordAnswer) → read_record so_far at (drop at s) ≡ t → AfterRecordIs s at x t d' →
          (g : ℕ) × (w.fuel ≡ suc g) × (read_table s ≡ then_read (read_record so_far at (drop at s)) (λ y v. read_from g y (at + v) (drop v (drop at s)))) →
          ReadAnswerIs a (read_table s) d'
      go (stop b) p h q = let r : read_table s ≡ b = rw p at q.2 in rw r (f b h)
      go (more y v) p h q = absurd (g y v h)

  pub read_accepted : (a : Accepted) → x ≡ Ok (Done a) → ReadAnswerIs (Ok a) (read_table s) d'
  read_accepted a e = ends (Ok a) (λ b h. rw e at h) (λ y v h. rw e at h)

  pub read_refused : (e : Refusal) → x ≡ Err e → ReadAnswerIs (Err e) (read_table s) d'
  read_refused e p = ends (Err e) (λ b h. rw p at h) (λ y v h. rw p at h)

-- ---- the paper's number and place

module _ (s d : List ℕ) (a : Result Accepted Refusal) (h : ReadAnswerIs a (read_table s) d) where
  pub ok_verdict : (x : Accepted) → a ≡ Ok x → verdict_of {T = Unit {0}} (Ok tt) ≡ check_table s
  unfolding check_table table_verdict verdict_of
  ok_verdict x e = go (read_table s) refl (rw e at h)
    where
      go : (b : TableAnswer) → read_table s ≡ b → ReadAnswerIs (Ok x) b d → ok ≡ table_verdict (read_table s)
      go (accepted t) q y = rw q
      go (refused_at m o) q y = absurd y

  pub refused_verdict : (x : Refusal) → a ≡ Err x → verdict_of {T = Unit {0}} (Err x) ≡ check_table s
  unfolding check_table table_verdict verdict_of
  refused_verdict x e = go (read_table s) refl (rw e at h)
    where
      go : (b : TableAnswer) → read_table s ≡ b → ReadAnswerIs (Err x) b d → verdict_of {T = Unit {0}} (Err x) ≡ table_verdict (read_table s)
      go (accepted t) q y = absurd y
      go (refused_at m o) q y = rw (q, y.0, y.1)
