-- What the answers on a stored hall's bytes say: what reading them gives, for every table that the decoded one stands
-- for.
--
-- d is a decoded table of n terms, s has the bytes.
-- Assumes nothing.
use Rattle.std.specs.Prelude.{ℕ, suc, ◌-◌, ◌≤◌, ◌<◌, ◌≡◌, List, length, get_or, drop, Option, None, Some, IfSome}
use Rattle.std.proofs.Math.Option as math
use Rattle.std.proofs.Math.Option.{none, some}
use Rattle.std.proofs.Math.ListN.{get_elem?}
use Rattle.semantics.specs.Definitions.Terms.{Term}
use Rattle.semantics.specs.Definitions.Configuration.{Tree, Component, Configuration, branches_of}
use Rattle.semantics.specs.Definitions.Stored.{tree_from, configuration_of}
use Rattle.hall_layout.specs.Layout.{max_branches, index_size}
use Rattle.hall_layout.specs.declared.Index.{Index}
use Rattle.hall_laws.specs.Positions.{used_of, IsIndex}
use Rattle.hall_laws.specs.ReadParts.{kind_in, first_component}
use Rattle.hall_nodes.specs.NodeTests.{EachTable}

-- ---- terms

-- the kind of the term, or there is none
abbrev pub KindIs : Option ℕ → math.Option Term → Type 0
KindIs (Some k) (some t) = k ≡ kind_in (some t)
KindIs (Some k) none = ⊥
KindIs None (some t) = ⊥
KindIs None none = Unit {0}

-- the kind of the term that a byte names
pub record KindRead (d : List ℕ) (n byte : ℕ) (r : Option ℕ) : Type 0 where
  pub found : EachTable d n (λ ts. KindIs r (get_elem? ts byte))

-- ---- a tree, a component

-- what was scanned ends at an offset or behind it, and inside the bytes
abbrev pub EndsFrom : List ℕ → ℕ → Option ℕ → Type 0
EndsFrom s from (Some e) = (from ≤ e) × (e ≤ length s)
EndsFrom s from None = Unit {0}

-- a tree of at most 8 branches and what follows it, or there is none
abbrev pub TreeIs : List ℕ → Option ℕ → math.Option (Tree × List ℕ) → Type 0
TreeIs s (Some e) (some y) = (branches_of y.0 ≤ max_branches) × (y.1 ≡ drop e s)
TreeIs s (Some e) none = ⊥
TreeIs s None (some y) = max_branches < branches_of y.0
TreeIs s None none = Unit {0}

-- it is read with any bound on its depth that the bytes behind its start allow
pub record TreeRead (d : List ℕ) (n : ℕ) (s : List ℕ) (tree : ℕ) (r : Option ℕ) : Type 0 where
  pub ends : EndsFrom s tree r
  pub found : EachTable d n (λ ts. (f : ℕ) → length s - tree < f → TreeIs s r (tree_from f ts (drop tree s)))

-- a component and what follows it, or there is none
abbrev pub ComponentIs : List ℕ → Option ℕ → math.Option (Component × List ℕ) → Type 0
ComponentIs s (Some e) (some y) = y.1 ≡ drop e s
ComponentIs s (Some e) none = ⊥
ComponentIs s None (some y) = ⊥
ComponentIs s None none = Unit {0}

pub record ComponentRead (d : List ℕ) (n : ℕ) (s : List ℕ) (at : ℕ) (r : Option ℕ) : Type 0 where
  pub ends : EndsFrom s (suc at) r
  pub found : EachTable d n (λ ts. ComponentIs s r (first_component ts (drop at s)))

-- ---- the hall

-- the configuration that the bytes store: how many components it has, how many bytes it uses, where each component
-- begins; or there is none
abbrev pub HallIs : Option Index → math.Option Configuration → Type 0
HallIs (Some x) (some h) =
    (x.components ≡ length h.components) × (get_or x.starts x.components 0 ≡ used_of h.components) ×
    IsIndex x.starts h.components
HallIs (Some x) none = ⊥
HallIs None (some h) = ⊥
HallIs None none = Unit {0}

pub record HallRead (d : List ℕ) (n : ℕ) (s : List ℕ) (r : Option Index) : Type 0 where
  pub sized : IfSome r (λ x. length x.starts ≡ index_size)
  pub found : EachTable d n (λ ts. HallIs r (configuration_of ts s))
