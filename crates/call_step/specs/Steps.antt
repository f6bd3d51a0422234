-- A step on a configuration (hall) that is held, in the terms of the definitions.
--
-- d is a decoded table; s has the bytes of the configuration, starts the index of its n components (stations).
-- Assumes nothing.
use Rattle.std.specs.Prelude.{ℕ, ◌≡◌, ◌≢◌, List, [], ◌∷◌, length, Result, Ok, Err}
use Rattle.semantics.specs.Definitions.Terms.{Term}
use Rattle.semantics.specs.Definitions.Configuration.{Configuration}
use Rattle.semantics.specs.Definitions.Stored.{bytes_of}
use Rattle.semantics.specs.Definitions.Moves.{Entry, entry_answer}
use Rattle.semantics.specs.Definitions.Run.{Counters, entry, schedule}
use Rattle.semantics.specs.Definitions.Calls.{step_entry}
use Rattle.table_terms.specs.Decoded.{Decoded}
use Rattle.semantics.specs.Checks.Steps.{Names}
use Rattle.answers.specs.declared.choices.Entry as code
use Rattle.answers.specs.declared.refusals.Reason.TheVariants.{UnknownKind}
use Rattle.answers.specs.declared.refusals.Refusal.{Refusal}
use Rattle.answers.specs.declared.steps.Step.{Step}
use Rattle.answers.specs.Answers.{entry_of, step_call_of, StepCaseDecided}
use Rattle.hall_held.specs.Holds.{Holds}

-- the entry that a kind, a position and a node name, and how many bytes it has; only kinds 1 and 2 name one
abbrev pub NamedBy : (kind position node : ℕ) → Result (code.Entry × ℕ) Refusal → Type 0
NamedBy kind p k (Ok (e, size)) = Names kind p k (entry_of e) size
NamedBy kind p k (Err e) = (e ≡ record { reason = UnknownKind; place = 0 }) × (kind ≢ 1) × (kind ≢ 2)

-- these bytes are one entry
pub record OneEntry (bytes : List ℕ) (e : Entry) : Type 0 where
  pub says : schedule bytes ≡ entry e (length bytes) ∷ []

-- r is the answer to an entry of so many bytes, and s' are the bytes afterwards, whichever configuration of whichever
-- table is held
pub record HeldStepped (d s starts : List ℕ) (n : ℕ) (e : Entry) (size : ℕ) (t : Counters) (r : Result Step Refusal)
    (s' : List ℕ) : Type 0 where
  pub found : (ts : List Term) (h : Configuration) → Decoded ts d → Holds ts h s starts n →
      step_call_of r (record { hall = s'; counters = t })
      ≡ step_entry (record { hall = bytes_of h; counters = t }) size (entry_answer h e)
  pub decided : StepCaseDecided r
