-- What a request for a suggestion gives (document 02, Q-2): of the accepted choices the one at the lowest position, and
-- inside an attempt the one at the lowest node; still where none is accepted. A table or hall is turned down as by a check
-- of that hall.
-- Assumes nothing.
use Rattle.std.specs.Prelude.{ℕ, suc}
use Rattle.std.proofs.Math.Option.{Option, none, some}
use mathlib.Core.List.{List, ◌∷◌, map, flatten}
use Rattle.semantics.specs.Definitions.Layout.{max_byte}
use Rattle.semantics.specs.Definitions.Basics.{count_up, first_of}
use Rattle.semantics.specs.Definitions.Configuration.{Configuration}
use Rattle.semantics.specs.Definitions.Moves.{Entry, act, inside, is_accepted}
use Rattle.semantics.specs.Definitions.Calls.{Admission, admitted, not_admitted, admission}

-- ---- the first accepted entry

-- the entries at a position, with the nodes below a number, lowest first. Kind 1 has no node and is listed before kind 2;
-- either order finds the same (Claims/Suggestions, KindsInEitherOrder)
unfoldable pub entries_at : (nodes position : ℕ) → List Entry
unfolding count_up
entries_at nodes p = act p ∷ map (inside p) (count_up 0 nodes)

-- those at all positions below a number, lowest first
unfoldable pub entries_below : (nodes positions : ℕ) → List Entry
unfolding entries_at count_up flatten
entries_below nodes positions = flatten (map (entries_at nodes) (count_up 0 positions))

-- of all entries in bytes, the first that is accepted
unfoldable pub first_accepted : Configuration → Option Entry
unfolding first_of is_accepted entries_below
first_accepted h = first_of (is_accepted h) (entries_below (suc max_byte) (suc max_byte))

-- ---- the call

pub data SuggestAnswer : Type 0 where
  suggested : Entry → SuggestAnswer
  still : SuggestAnswer
  not_suggested : (number place : ℕ) → SuggestAnswer

unfoldable pub suggest_found : Option Entry → SuggestAnswer
suggest_found none = still
suggest_found (some e) = suggested e

unfoldable pub suggest_admitted : Admission → SuggestAnswer
unfolding suggest_found first_accepted
suggest_admitted (admitted t h) = suggest_found (first_accepted h)
suggest_admitted (not_admitted n p) = not_suggested n p

unfoldable pub suggest_call : (table hall : List ℕ) → SuggestAnswer
unfolding suggest_admitted admission
suggest_call table hall = suggest_admitted (admission table hall)
