-- What an entry of a schedule (a choice) is answered while a configuration is held, and what it makes of what is held.
--
-- d is a decoded table; s has the bytes, starts the index, n the number of components (stations).
-- Assumes nothing.
use Rattle.std.specs.Prelude.{ℕ, ◌≡◌, List, Result}
use Rattle.calculus.specs.Reduction.{Rule}
use Rattle.semantics.specs.Definitions.Terms.{Term}
use Rattle.semantics.specs.Definitions.Configuration.{Configuration}
use Rattle.semantics.specs.Definitions.Moves.{Entry, entry_answer, Transition, moved, refused, transition, rule_number, as_reply}
use Rattle.table_terms.specs.Decoded.{Decoded}
use Rattle.answers.specs.declared.refusals.Reason.{Reason}
use Rattle.answers.specs.declared.replies.Move.{Move}
use Rattle.answers.specs.Answers.{reply_of}
use Rattle.hall_held.specs.Holds.{Holds}

-- the configuration after an answer: a refusal leaves it as it was
unfoldable pub afterwards : Transition → Configuration → Configuration
afterwards (moved r g) h = g
afterwards (refused n) h = h

-- r is what the entry is answered, whichever configuration of whichever table is held
pub record EntryLooked (d s starts : List ℕ) (n : ℕ) (e : Entry) (r : Result Move Reason) : Type 0 where
  pub found : (ts : List Term) (h : Configuration) → Decoded ts d → Holds ts h s starts n →
      reply_of r ≡ as_reply (entry_answer h e)

-- an entry is accepted on a configuration, by a rule of this number
pub record AcceptedBy (h : Configuration) (e : Entry) (number : ℕ) : Type 0 where
  pub rule : Rule
  pub result : Configuration
  pub answer : transition h e ≡ moved rule result
  pub numbered : rule_number rule ≡ number

-- on some configuration that is held
pub record CanApply (d s starts : List ℕ) (n : ℕ) (e : Entry) (rule : ℕ) : Type 0 where
  pub terms : List Term
  pub configuration : Configuration
  pub decoded : Decoded terms d
  pub holds : Holds terms configuration s starts n
  pub by : AcceptedBy configuration e rule

-- where the entry is accepted by the rule of this number, what it makes of the configuration is held now
pub record Applied (d s starts : List ℕ) (n : ℕ) (e : Entry) (rule : ℕ) (s' starts' : List ℕ) (n' : ℕ) : Type 0 where
  pub found : (ts : List Term) (h : Configuration) → Decoded ts d → Holds ts h s starts n →
      AcceptedBy h e rule → Holds ts (afterwards (transition h e) h) s' starts' n'

-- an entry that is made: r is what a look would answer, and what the entry makes of the configuration is held now,
-- accepted or refused
pub record EntryMade (d s starts : List ℕ) (n : ℕ) (e : Entry) (r : Result Move Reason) (s' starts' : List ℕ) (n' : ℕ) : Type 0 where
  pub looked : EntryLooked d s starts n e r
  pub found : (ts : List Term) (h : Configuration) → Decoded ts d → Holds ts h s starts n →
      Holds ts (afterwards (transition h e) h) s' starts' n'
