-- What a turn of an opening answers, by the answer on its table and by what the turn shows.
-- Assumes nothing.
use Prim.Native.Nat.{ℕ}
use mathlib.Core.Path.{◌≡◌, refl}
use mathlib.Core.List.{List}
use Rattle.std.specs.Prelude.{Option, Ok, Err}
use Rattle.semantics.specs.Definitions.Table.{read_table}
use Rattle.semantics.specs.Definitions.Turns.{turn_tested, turn_call}
use Rattle.answers.specs.declared.refusals.Refusal.{Refusal}
use Rattle.answers.specs.declared.turns.Turn.{Turn}
use Rattle.answers.specs.Answers.{TurnIs}
use Rattle.table_read.specs.declared.Accepted.{Accepted}
use Rattle.table_read.specs.ReadAnswers.{ReadAnswerIs}
use Rattle.hall_open.specs.Turns.{TurnShown}
use Rattle.call_admit.proofs.AcceptedTables.{accepted_table_holds, refused_table_holds}

module _ (s d : List ℕ) (number : ℕ) where
  -- 1 to 9
  pub turn_refused : (e : Refusal) → ReadAnswerIs (Err e) (read_table s) d → TurnIs (turn_call s number) (Err e)
  unfolding turn_call turn_tested
  turn_refused e h = rw (refused_table_holds s d e h) (e, refl, refl, refl)

  pub turn_shown : (a : Accepted) → ReadAnswerIs (Ok a) (read_table s) d → (i : ℕ) → i ≡ a.start → (r : Option Turn) → TurnShown d i number r →
      TurnIs (turn_call s number) (Ok r)
  unfolding turn_call turn_tested
  turn_shown a h i o r x =
      accepted_table_holds s d a h (λ t q y. rw q (x.found t.terms t.start y.decoded (rw o y.at)))
