-- What is claimed of a suggestion (document 02, Q-2; demand 2, its last sentence): that the first accepted choice is
-- suggested and no other, that the order of the two kinds makes no difference, that still (document 01's) is said just where
-- no choice of either kind is accepted, and that a refusal is that of a check of the hall.
-- Assumes nothing.
use Rattle.std.specs.Prelude.{ℕ, suc, ◌<◌, ◌≡◌, ◌↔◌}
use mathlib.Core.List.{List, [], ◌∷◌, ◌++◌, map, flatten}
use Rattle.calculus.specs.Reduction.{Rule}
use Rattle.semantics.specs.Definitions.Layout.{max_byte}
use Rattle.semantics.specs.Definitions.Basics.{Bytes, count_up, first_of}
use Rattle.semantics.specs.Definitions.Table.{Table}
use Rattle.semantics.specs.Definitions.Configuration.{Configuration}
use Rattle.semantics.specs.Definitions.Moves.{Entry, act, inside, moved, transition, is_accepted}
use Rattle.semantics.specs.Definitions.Run.{entry_bytes, InBytes, Quiescent}
use Rattle.semantics.specs.Definitions.Calls.{rejected, check_hall, admitted, admission, Buffers, run_call}
use Rattle.semantics.specs.Definitions.Suggestion.{first_accepted, suggested, still, not_suggested, suggest_call}

-- ---- the first

abbrev pub position_of : Entry → ℕ
position_of (act p) = p
position_of (inside p k) = p

-- an entry comes before another: at a lower position, or at the same one and a lower node. Of the two kinds at one position
-- neither comes before the other
pub data Before : Entry → Entry → Type 0 where
  lower_position : {d e : Entry} → position_of d < position_of e → Before d e
  lower_node : {p j k : ℕ} → j < k → Before (inside p j) (inside p k)

-- handed to a run on the same hall the entry is done, and no entry before it would be
pub record FirstDone (table : List ℕ) (l : Buffers) (e : Entry) : Type 0 where
  pub in_bytes : InBytes e
  pub done : (run_call table l (entry_bytes e)).done ≡ 1
  pub none_before : (d : Entry) → InBytes d → Before d e → (run_call table l (entry_bytes d)).done ≡ 0

-- such an entry is suggested, and no other is
unfoldable pub SuggestedIsFirst : Type 0
unfolding suggest_call
SuggestedIsFirst =
    (table : List ℕ) (l : Buffers) (e : Entry) → (suggest_call table l.hall ≡ suggested e) ↔ FirstDone table l e

-- ---- the kinds

-- kind 1 and kind 2 are never both accepted at one position
unfoldable pub KindsApart : Type 0
KindsApart =
    (h f g : Configuration) (p k : ℕ) (r s : Rule) →
    transition h (act p) ≡ moved r f → transition h (inside p k) ≡ moved s g → ⊥

-- so, with kind 2 listed before kind 1 at each position, the same entry is found
unfoldable pub KindsInEitherOrder : Type 0
unfolding first_accepted first_of is_accepted count_up flatten
KindsInEitherOrder =
    let bytes = count_up 0 (suc max_byte) in
    (h : Configuration) →
    first_accepted h ≡ first_of (is_accepted h) (flatten (map (λ p. map (inside p) bytes ++ (act p ∷ [])) bytes))

-- ---- still

-- still is said exactly of a hall that is admitted and on which no choice of either kind is accepted
unfoldable pub StillIsQuiescent : Type 0
unfolding suggest_call Quiescent admission
StillIsQuiescent =
    (table hall : List ℕ) → (suggest_call table hall ≡ still) ↔
    ((t : Table) × (h : Configuration) × (admission table hall ≡ admitted t h) × Quiescent h)

-- and there no list of choice bytes does anything
unfoldable pub StillRunsNone : Type 0
unfolding suggest_call
StillRunsNone =
    (table : List ℕ) (l : Buffers) → suggest_call table l.hall ≡ still →
    (choices : List ℕ) → Bytes choices → (run_call table l choices).done ≡ 0

-- ---- turned down

-- a refusal is that of a check of the same table and hall
unfoldable pub RefusedAsChecked : Type 0
unfolding suggest_call check_hall
RefusedAsChecked =
    (table hall : List ℕ) (n p : ℕ) →
    (suggest_call table hall ≡ not_suggested n p) ↔ (check_hall table hall ≡ rejected n p)
