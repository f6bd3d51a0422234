-- An entry that was made, by what it was answered.
-- Assumes nothing.
use Rattle.std.specs.Prelude.{Result, Ok, Err}
use Prim.Native.Nat.{ℕ}
use native.Mathlib.Omega.{arith}
use mathlib.Core.Path.{◌≡◌, refl, sym, ap, ◌∙◌}
use mathlib.Core.List.{List}
use Rattle.calculus.specs.Reduction.{Rule}
use Rattle.semantics.specs.Definitions.Terms.{Term}
use Rattle.semantics.specs.Definitions.Configuration.{Configuration}
use Rattle.semantics.specs.Definitions.Moves.{Entry, EntryAnswer, does, refuses, entry_answer, moved, refused, transition_of, transition, rule_number, refused_by, as_reply}
use Rattle.table_terms.specs.Decoded.{Decoded}
use Rattle.answers.specs.declared.refusals.Reason.{Reason}
use Rattle.answers.specs.declared.replies.Move.{Move}
use Rattle.answers.specs.Answers.{number_of_rule, reason_number, shortage_of, reply_of}
use Rattle.hall_held.specs.Holds.{Holds}
use Rattle.hall_held.specs.Choices.{afterwards, EntryMade}
use Rattle.hall_held.proofs.AcceptedActs.{by_number}

-- it moved: by a rule of the number told, to the configuration that is held now
pub record MovedTo (ts : List Term) (h : Configuration) (e : Entry) (rule : ℕ) (s starts : List ℕ) (n : ℕ) :
    Type 0 where
  pub done : Rule
  pub result : Configuration
  pub answer : transition h e ≡ moved done result
  pub number : rule_number done ≡ rule
  pub holds : Holds ts result s starts n

module _ {d s starts : List ℕ} {n : ℕ} {e : Entry} {r : Result Move Reason} {s' starts' : List ℕ} {n' : ℕ}
    (c : EntryMade d s starts n e r s' starts' n') (ts : List Term) (h : Configuration) (y : Decoded ts d)
    (x : Holds ts h s starts n) where
  reply : reply_of r ≡ as_reply (entry_answer h e)
  reply = c.looked.found ts h y x

  pub made_moved : (m : Move) → r ≡ Ok m → MovedTo ts h e (number_of_rule m.rule) s' starts' n'
  unfolding reply_of afterwards
  made_moved m q =
      let a = by_number h e (number_of_rule m.rule) (shortage_of m.short) (sym reply ∙ ap reply_of q) in
      record {
        done = a.rule;
        result = a.result;
        answer = a.answer;
        number = a.numbered;
        holds = rw a.answer at (c.found ts h y x);
      }

  -- it was refused: with the number told, and the configuration is held as it was
  pub made_refused : (m : Reason) → r ≡ Err m → (transition h e ≡ refused (reason_number m)) × Holds ts h s' starts' n'
  unfolding reply_of as_reply afterwards transition transition_of
  made_refused m q = go (entry_answer h e) refl (sym reply ∙ ap reply_of q) (c.found ts h y x)
    where
      go : (a : EntryAnswer) → entry_answer h e ≡ a → as_reply a ≡ refused_by (reason_number m) → Holds ts (afterwards (transition_of a) h) s' starts' n' →
          (transition h e ≡ refused (reason_number m)) × Holds ts h s' starts' n'
      go (does done w g) f k z = absurd (let z : ◌≡◌ {A = ℕ} 0 1 = cc in omega arith)
      go (refuses j) f k z = (ap transition_of f ∙ ap refused (cc), z)
