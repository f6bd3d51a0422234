-- What a run holds beside a decoded table, and what the code of this crate makes of it: the bytes of a configuration
-- (hall), an index of where each component (station) begins, and how many components there are.
--
-- s has the bytes, starts the index, n the number of components.
-- Assumes nothing.
use Rattle.std.specs.Prelude.{ℕ, ◌+◌, ◌*◌, ◌<◌, ◌≡◌, List, [], ◌∷◌, ◌++◌, length, get_or, take}
use Rattle.std.proofs.Math.Option.{some}
use Rattle.std.proofs.Math.ListN.{get_elem?}
use Rattle.calculus.specs.Syntax.{State}
use Rattle.semantics.specs.Definitions.Basics.{replace_at}
use Rattle.semantics.specs.Definitions.Terms.{Term}
use Rattle.semantics.specs.Definitions.Configuration.{Component, Configuration}
use Rattle.semantics.specs.Definitions.Stored.{component_bytes, bytes_of, WellFormed}
use Rattle.semantics.specs.Checks.AcceptedTables.{GoodTable}
use Rattle.table_terms.specs.Decoded.{Decoded}
use Rattle.hall_layout.specs.Layout.{idle_size, index_size}
use Rattle.hall_laws.specs.Positions.{all_bytes, IsIndex}

-- ---- the invariant

-- a well-formed configuration of the terms ts, its bytes, and the index of its n components
pub record Holds (ts : List Term) (h : Configuration) (s starts : List ℕ) (n : ℕ) : Type 0 where
  pub good : GoodTable ts
  pub form : WellFormed ts h
  pub bytes : s ≡ bytes_of h
  pub counted : n ≡ length h.components
  pub sized : length starts ≡ index_size
  pub index : IsIndex starts h.components

-- some configuration of some table that d decodes is held so: all that code on a run asks for
pub record Running (d s starts : List ℕ) (n : ℕ) : Type 0 where
  pub terms : List Term
  pub configuration : Configuration
  pub decoded : Decoded terms d
  pub holds : Holds terms configuration s starts n

-- ---- a configuration after a move

-- component number p has given way to others
abbrev pub replaced_at : ℕ → List Component → Configuration → Configuration
replaced_at p ds h = record { counts = h.counts; components = replace_at p ds h.components }

-- the counts are others
abbrev pub with_counts : State → Configuration → Configuration
with_counts σ h = record { counts = σ; components = h.components }

-- ---- a component gives way to others

-- components of which each begins as if those before it were idle: all are idle, or there is only one
abbrev pub Spaced : List Component → Type 0
Spaced ds = (j : ℕ) → j < length ds → length (all_bytes (take j ds)) ≡ idle_size * j

-- component number p of a configuration that is held may give way to ds, whose bytes are given, and how many they are
pub record Replaces (ts : List Term) (h : Configuration) (ds : List Component) (s starts : List ℕ) (n p : ℕ)
    (new : List ℕ) (pieces : ℕ) : Type 0 where
  pub holds : Holds ts h s starts n
  pub there : p < n
  pub bytes : new ≡ all_bytes ds
  pub many : pieces ≡ length ds
  pub even : Spaced ds
  pub form : WellFormed ts (replaced_at p ds h)

pub record CanReplace (s starts : List ℕ) (n p : ℕ) (new : List ℕ) (pieces : ℕ) : Type 0 where
  pub terms : List Term
  pub configuration : Configuration
  pub successors : List Component
  pub replaces : Replaces terms configuration successors s starts n p new pieces

-- whichever configuration was held, the one in which the component has given way is held now
pub record Replaced (s starts : List ℕ) (n p : ℕ) (new : List ℕ) (pieces : ℕ) (s' starts' : List ℕ) (n' : ℕ) :
    Type 0 where
  pub found : (ts : List Term) (h : Configuration) (ds : List Component) → Replaces ts h ds s starts n p new pieces →
      Holds ts (replaced_at p ds h) s' starts' n'

-- ---- a part of a component gives way

-- c and d differ in a part of their bytes, which begins behind `front`
pub record Differ (c d : Component) (front old new : List ℕ) : Type 0 where
  pub back : List ℕ
  pub was : component_bytes c ≡ front ++ (old ++ back)
  pub is : component_bytes d ≡ front ++ (new ++ back)

-- component number p of a configuration that is held may become d: the bytes from..to of it give way to others
pub record ReplacesPart (ts : List Term) (h : Configuration) (d : Component) (s starts : List ℕ) (n p from to : ℕ)
    (new : List ℕ) : Type 0 where
  pub holds : Holds ts h s starts n
  pub component : Component
  pub there : get_elem? h.components p ≡ some component
  pub front : List ℕ
  pub old : List ℕ
  pub differ : Differ component d front old new
  pub begins : from ≡ get_or starts p 0 + length front
  pub ends : to ≡ from + length old
  pub form : WellFormed ts (replaced_at p (d ∷ []) h)

pub record CanReplacePart (s starts : List ℕ) (n p from to : ℕ) (new : List ℕ) : Type 0 where
  pub terms : List Term
  pub configuration : Configuration
  pub becomes : Component
  pub replaces : ReplacesPart terms configuration becomes s starts n p from to new

-- whichever configuration was held, the one with the altered component is held now, and there are as many components
pub record ReplacedPart (s starts : List ℕ) (n p from to : ℕ) (new s' starts' : List ℕ) : Type 0 where
  pub found : (ts : List Term) (h : Configuration) (d : Component) → ReplacesPart ts h d s starts n p from to new →
      Holds ts (replaced_at p (d ∷ []) h) s' starts' n
