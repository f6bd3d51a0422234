-- What stands at a position, as the code of this crate reads it.
--
-- d is a decoded table; s has the bytes, starts the index, n the number of components (stations); p is a position.
-- Assumes nothing.
use Rattle.std.specs.Prelude.{ℕ, ◌≡◌, Bool, List, Option, Some, None}
use Rattle.std.proofs.Math.Option as math
use Rattle.std.proofs.Math.Option.{none, some}
use Rattle.std.proofs.Math.ListN.{get_elem?}
use Rattle.calculus.specs.Syntax.{Name, State}
use Rattle.semantics.specs.Definitions.Terms.{Expression, Program, Term}
use Rattle.semantics.specs.Definitions.Configuration.{block, output, Tree, Component, idle, transaction, Configuration}
use Rattle.table_terms.specs.Decoded.{Decoded}
use Rattle.hall_held.specs.Holds.{Holds}
use Rattle.move_tokens.specs.Tokens.{take_of}
use Rattle.choice_act.specs.declared.occupants.Occupant.{Occupant}
use Rattle.choice_act.specs.declared.occupants.Occupant.TheVariants.{Transaction, Output, Block, Take}

-- the component that an occupant is; none where there is no occupant
abbrev pub OccupantIs : Option Occupant → math.Option Component → Type 0
OccupantIs None o = o ≡ none
OccupantIs (Some Transaction) o =
    (m : ℕ) × (M : Expression) × (σ : State) × (t : Tree) × (o ≡ some (transaction m M σ t))
OccupantIs (Some (Output a)) o = o ≡ some (idle (output a))
OccupantIs (Some Block) o = (m : ℕ) × (M : Expression) × (o ≡ some (idle (block m M)))
OccupantIs (Some (Take m)) o = (b : Bool) × (a : Name) × (P : Program) × (o ≡ some (idle (take_of b m a P)))

-- r is the occupant of position p, whichever configuration of whichever table is held
pub record OccupantRead (d s starts : List ℕ) (n p : ℕ) (r : Option Occupant) : Type 0 where
  pub found : (ts : List Term) (h : Configuration) → Decoded ts d → Holds ts h s starts n →
      OccupantIs r (get_elem? h.components p)
