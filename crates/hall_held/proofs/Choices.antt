-- An entry that is looked at, accepted or made: how one follows from the other.
-- Assumes nothing.
use Prim.Native.Nat.{ℕ}
use native.Mathlib.Omega.{arith}
use mathlib.Core.Path.{◌≡◌, refl, sym, ap, ◌∙◌}
use mathlib.Core.List.{List}
use Rattle.std.specs.Prelude.{Result, Ok, Err}
use Rattle.semantics.specs.Definitions.Configuration.{Configuration}
use Rattle.semantics.specs.Definitions.Moves.{Entry, EntryAnswer, does, refuses, entry_answer, transition_of, transition, refused_by, as_reply}
use Rattle.answers.specs.declared.refusals.Reason.{Reason}
use Rattle.answers.specs.declared.replies.Move.{Move}
use Rattle.answers.specs.Answers.{number_of_rule, reason_number, shortage_of, reply_of}
use Rattle.hall_held.specs.Holds.{Running}
use Rattle.hall_held.specs.Choices.{afterwards, EntryLooked, CanApply, Applied, EntryMade}
use Rattle.hall_held.proofs.AcceptedActs.{by_number}

-- a refusal leaves the configuration as it was
refused_leaves : (e : Entry) (h : Configuration) (m : ℕ) → as_reply (entry_answer h e) ≡ refused_by m → afterwards (transition h e) h ≡ h
unfolding as_reply afterwards transition transition_of
refused_leaves e h m q = go (entry_answer h e) q
  where
    go : (a : EntryAnswer) → as_reply a ≡ refused_by m → afterwards (transition_of a) h ≡ h
    go (does r w g) q = let z : ◌≡◌ {A = ℕ} 0 1 = cc in absurd (omega arith)
    go (refuses k) q = refl

module _ {d s starts : List ℕ} {n : ℕ} where
  -- an entry whose look answers a rule may be made by it
  pub looked_can_apply : {e : Entry} {r : Result Move Reason} {m : Move} → Running d s starts n → EntryLooked d s starts n e r →
      r ≡ Ok m → CanApply d s starts n e (number_of_rule m.rule)
  unfolding reply_of
  looked_can_apply {e} {m = m} x l q = record {
    terms = x.terms;
    configuration = x.configuration;
    decoded = x.decoded;
    holds = x.holds;
    by =
        by_number x.configuration e (number_of_rule m.rule) (shortage_of m.short)
        (sym (l.found x.terms x.configuration x.decoded x.holds) ∙ ap reply_of q);
  }

  -- one that is made
  pub entry_made_moved : {e : Entry} {r : Result Move Reason} {m : Move} {s' starts' : List ℕ} {n' : ℕ} →
      EntryLooked d s starts n e r → r ≡ Ok m →
      Applied d s starts n e (number_of_rule m.rule) s' starts' n' → EntryMade d s starts n e (Ok m) s' starts' n'
  unfolding reply_of
  entry_made_moved {e} {m = m} l q a = record {
    looked = rw q at l;
    found = λ ts h y x. a.found ts h y x (by_number h e (number_of_rule m.rule) (shortage_of m.short) (sym (l.found ts h y x) ∙ ap reply_of q));
  }

  -- and one that is refused
  pub entry_made_refused : {e : Entry} {r : Result Move Reason} {m : Reason} → EntryLooked d s starts n e r → r ≡ Err m →
      EntryMade d s starts n e (Err m) s starts n
  unfolding reply_of
  entry_made_refused {e} {r} {m} l q = record {
    looked = rw q at l;
    found = λ ts h y x. rw (refused_leaves e h (reason_number m) (sym (l.found ts h y x) ∙ ap reply_of q)) x;
  }

  -- what is held afterwards is a run's again
  pub entry_made_running : {e : Entry} {r : Result Move Reason} {s' starts' : List ℕ} {n' : ℕ} → Running d s starts n →
      EntryMade d s starts n e r s' starts' n' → Running d s' starts' n'
  entry_made_running {e} x c = record {
    terms = x.terms;
    configuration = afterwards (transition x.configuration e) x.configuration;
    decoded = x.decoded;
    holds = c.found x.terms x.configuration x.decoded x.holds;
  }
