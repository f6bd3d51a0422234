-- What a suggestion answers: the first entry (choice) that is accepted, or that none is; of all entries, at a position,
-- and of kind 2 at a position.
--
-- d is a decoded table; s has the bytes, starts the index, n the number of components (stations); p is a position.
-- Assumes nothing.
use Rattle.std.specs.Prelude.{ℕ, suc, ◌≡◌, List, map, Option, Some, None}
use Rattle.std.proofs.Math.Option as math
use Rattle.std.proofs.Math.Option.{none, some}
use Rattle.semantics.specs.Definitions.Layout.{max_byte}
use Rattle.semantics.specs.Definitions.Basics.{count_up, first_of}
use Rattle.semantics.specs.Definitions.Terms.{Term}
use Rattle.semantics.specs.Definitions.Configuration.{Configuration}
use Rattle.semantics.specs.Definitions.Moves as moves
use Rattle.semantics.specs.Definitions.Moves.{is_accepted}
use Rattle.semantics.specs.Definitions.Suggestion.{entries_at, first_accepted}
use Rattle.table_terms.specs.Decoded.{Decoded}
use Rattle.hall_held.specs.Holds.{Holds}
use Rattle.answers.specs.declared.choices.Entry.{Entry}
use Rattle.answers.specs.Answers.{entry_of}

-- what is found
abbrev pub found_of : Option Entry → math.Option moves.Entry
found_of (Some e) = some (entry_of e)
found_of None = none

-- of whichever configuration of whichever table is held
abbrev pub Always : (d s starts : List ℕ) (n : ℕ) → (Configuration → Type 0) → Type 0
Always d s starts n P = (ts : List Term) (h : Configuration) → Decoded ts d → Holds ts h s starts n → P h

-- the first of these entries that is accepted
abbrev pub first_in : List moves.Entry → Configuration → math.Option moves.Entry
first_in es h = first_of (is_accepted h) es

pub record FirstFound (d s starts : List ℕ) (n : ℕ) (r : Option Entry) : Type 0 where
  pub found : Always d s starts n (λ h. first_accepted h ≡ found_of r)

pub record FirstFoundAt (d s starts : List ℕ) (n p : ℕ) (r : Option Entry) : Type 0 where
  pub found : Always d s starts n (λ h. first_in (entries_at (suc max_byte) p) h ≡ found_of r)

pub record FirstFoundInside (d s starts : List ℕ) (n p : ℕ) (r : Option Entry) : Type 0 where
  pub found : Always d s starts n (λ h. first_in (map (moves.inside p) (count_up 0 (suc max_byte))) h ≡ found_of r)
