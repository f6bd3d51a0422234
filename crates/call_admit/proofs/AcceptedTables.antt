-- The table behind what reading a table answers.
-- Assumes nothing.
use Prim.Native.Nat.{ℕ}
use mathlib.Core.Path.{◌≡◌, refl}
use mathlib.Core.List.{List}
use Rattle.std.specs.Prelude.{Ok, Err}
use Rattle.semantics.specs.Definitions.Table.{Table, TableAnswer, accepted, refused_at, read_table}
use Rattle.answers.specs.declared.refusals.Refusal.{Refusal}
use Rattle.answers.specs.Answers.{reason_number}
use Rattle.table_terms.specs.Decoded.{AProcess}
use Rattle.table_read.specs.declared.Accepted.{Accepted}
use Rattle.table_read.specs.ReadAnswers.{IsTable, ReadAnswerIs}

module _ (s d : List ℕ) where
  module _ (a : Accepted) (h : ReadAnswerIs (Ok a) (read_table s) d) where
    pub accepted_table_holds : {C : Type 0} → ((t : Table) → read_table s ≡ accepted t → IsTable t a.terms a.start d → C) → C
    accepted_table_holds {C} k = go (read_table s) refl h
      where
        go : (b : TableAnswer) → read_table s ≡ b → ReadAnswerIs (Ok a) b d → C
        go (accepted t) q x = k t q x
        go (refused_at m o) q x = absurd x

    -- its start is a process of the decoded table
    pub start_process : (i : ℕ) → i ≡ a.start → AProcess d i
    start_process i o = accepted_table_holds
        (λ t q x. rw o (record { terms = t.terms; tree = t.start; decoded = x.decoded; at = x.at }))

  pub refused_table_holds : (e : Refusal) → ReadAnswerIs (Err e) (read_table s) d → read_table s ≡ refused_at (reason_number e.reason) e.place
  refused_table_holds e = go (read_table s)
    where
      go : (b : TableAnswer) → ReadAnswerIs (Err e) b d → b ≡ refused_at (reason_number e.reason) e.place
      go (accepted t) x = absurd x
      go (refused_at m o) x = rw (x.0, x.1)
