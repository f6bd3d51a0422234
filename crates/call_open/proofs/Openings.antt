-- What an opening answers, by the answer on its table and the length of the lent hall.
-- Assumes nothing.
use Prim.Native.Nat.{ℕ}
use mathlib.Core.Path.{◌≡◌}
use mathlib.Core.List.{List}
use Rattle.std.specs.Prelude.{Ok, Err}
use lib.ListN.{length}
use borrow.Author.Tests.{eq-eqb, ne_eqb}
use Rattle.semantics.specs.Definitions.Table.{read_table}
use Rattle.semantics.specs.Definitions.Stored.{hall_bytes}
use Rattle.semantics.specs.Definitions.Run.{fresh_counters}
use Rattle.semantics.specs.Definitions.Calls.{open_sized, open_tested, open_hall}
use Rattle.answers.specs.declared.refusals.Reason.TheVariants.{WrongLength}
use Rattle.answers.specs.declared.refusals.Refusal.{Refusal}
use Rattle.answers.specs.declared.tallies.Counters.{Counters}
use Rattle.answers.specs.Answers.{reason_number, counters_of, open_answer_of, opening_of}
use Rattle.table_read.specs.declared.Accepted.{Accepted}
use Rattle.table_read.specs.ReadAnswers.{ReadAnswerIs}
use Rattle.hall_layout.specs.Layout.{hall_bytes}
use Rattle.hall_open.specs.Opening.{OpeningWritten}
use Rattle.call_admit.proofs.AcceptedTables.{accepted_table_holds, refused_table_holds}

module _ (s d hall : List ℕ) where
  -- 1 to 9
  pub by_the_table : (e : Refusal) → ReadAnswerIs (Err e) (read_table s) d → opening_of (Err e) hall ≡ open_hall s hall
  unfolding open_hall open_tested open_answer_of
  by_the_table e h = rw (refused_table_holds s d e h)

  module _ (a : Accepted) (h : ReadAnswerIs (Ok a) (read_table s) d) where
    -- 10
    pub by_the_length : (length hall ≡ hall_bytes → ⊥) → (e : Refusal) → e ≡ record { reason = WrongLength; place = 0 } →
        opening_of (Err e) hall ≡ open_hall s hall
    unfolding open_hall open_tested open_sized open_answer_of reason_number
    by_the_length other e p = accepted_table_holds s d a h (λ t q x. rw (p, q, ne_eqb (length hall) 11344 other))

    pub opened : length hall ≡ hall_bytes → (i : ℕ) → i ≡ a.start → (after : List ℕ) → OpeningWritten d i after →
        (c : Counters) → counters_of c ≡ fresh_counters → opening_of (Ok c) after ≡ open_hall s hall
    unfolding open_hall open_tested open_sized open_answer_of
    opened right i o after w c f =
        accepted_table_holds s d a h
        (λ t q x. rw (q, eq-eqb (length hall) 11344 right, f, w.found t x.decoded x.tokens (rw o x.at)))
