-- What the code of this crate prints, in the terms of the definitions.
--
-- s has the bytes of a configuration (hall) that is held, starts the index of its n components (stations).
-- Assumes nothing.
use Rattle.std.specs.Prelude.{ℕ, ◌≡◌, cond, ◌&&◌, eqb}
use Rattle.std.proofs.Math.Option.{some}
use mathlib.Core.List.{List, [], map, flatten}
use Rattle.std.proofs.Math.ListN.{get_elem?}
use Rattle.semantics.specs.Definitions.Terms.{Term}
use Rattle.semantics.specs.Definitions.Configuration.{Component, Configuration}
use Rattle.semantics.specs.Definitions.Report.{channel_line, component_line}
use Rattle.print_decimals.specs.declared.Page.{Page}
use Rattle.print_decimals.specs.Page.{Printed}
use Rattle.hall_held.specs.Holds.{Holds}
use Rattle.print_sections.specs.Limits.{component_most, components_most}

-- ---- channels (trays)

-- a channel's line, or nothing for one that was and is empty
unfoldable pub channel_text : (channel first last : ℕ) → List ℕ
unfolding channel_line
channel_text i f l = cond (eqb f 0 && eqb l 0) [] (channel_line i f l)

-- ---- components

-- some configuration of some table is held
pub record CanPrintComponents (s starts : List ℕ) (n : ℕ) : Type 0 where
  pub terms : List Term
  pub configuration : Configuration
  pub holds : Holds terms configuration s starts n

-- the line of component number i, whichever configuration of whichever table is held
pub record ComponentPrinted (s starts : List ℕ) (n i : ℕ) (p q : Page) : Type 0 where
  pub found : (ts : List Term) (h : Configuration) (c : Component) → Holds ts h s starts n →
      get_elem? h.components i ≡ some c → Printed component_most p (component_line c) q

-- the lines of all components
pub record ComponentsPrinted (s starts : List ℕ) (n : ℕ) (p q : Page) : Type 0 where
  pub found : (ts : List Term) (h : Configuration) → Holds ts h s starts n →
      Printed components_most p (flatten (map component_line h.components)) q
