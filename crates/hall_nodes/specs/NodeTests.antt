-- What the answers on a node's bytes say: what reading the node gives, for every table that the decoded one stands for.
--
-- d is a decoded table of n terms, s has the bytes.
-- Assumes nothing.
use Rattle.std.specs.Prelude.{ℕ, suc, ◌+◌, ◌*◌, ◌-◌, ◌≤◌, ◌≡◌, cond, List, ◌∷◌, length, get_or, take, drop, ltb, Option, None, Some}
use Rattle.std.proofs.Math.Option as math
use Rattle.std.proofs.Math.Option.{none, some}
use Rattle.semantics.specs.Definitions.Terms.{Expression, Term, branches, path_length}
use Rattle.semantics.specs.Definitions.Configuration.{Tree, branches_of}
use Rattle.semantics.specs.Definitions.Stored.{leaf_expression, leaf_from}
use Rattle.table_terms.specs.Decoded.{Decoded}
use Rattle.table_terms.specs.declared.Measures.{Measures}
use Rattle.hall_layout.specs.Layout.{leaf_body, leaf_term, action_bytes, log_size}
use Rattle.hall_layout.specs.Nodes.{node_size}
use Rattle.hall_laws.specs.ReadParts.{trees_from, bounds_behind}

-- it holds of every list of n terms that d decodes
abbrev pub EachTable : List ℕ → ℕ → (List Term → Type 0) → Type 0
EachTable d n P = (ts : List Term) → Decoded ts d → length ts ≡ n → P ts

-- ---- what remains at a leaf

-- the measures of the expression, or there is none
abbrev pub RemainingIs : Option Measures → math.Option Expression → Type 0
RemainingIs (Some m) (some M) = (m.breadth ≡ branches M) × (m.length ≡ path_length M)
RemainingIs (Some m) none = ⊥
RemainingIs None (some M) = ⊥
RemainingIs None none = Unit {0}

pub record RemainingRead (d : List ℕ) (n byte : ℕ) (r : Option Measures) : Type 0 where
  pub found : EachTable d n (λ ts. RemainingIs r (leaf_expression ts byte))

-- ---- a log's bytes

-- the first place behind a log's actions, and the largest byte that may stand at a place
abbrev pub zeros_place : ℕ
zeros_place = 2 * log_size

unfoldable pub place_limit : (place : ℕ) → ℕ
place_limit place = cond (ltb place zeros_place) (action_bytes - 1) 0

-- ---- a leaf

-- the branches of the leaf, or there is none
abbrev pub LeafIs : Option ℕ → math.Option Tree → Type 0
LeafIs (Some b) (some t) = b ≡ branches_of t
LeafIs (Some b) none = ⊥
LeafIs None (some t) = ⊥
LeafIs None none = Unit {0}

-- the leaf at an offset is read from the bytes behind its kind
pub record LeafRead (d : List ℕ) (n : ℕ) (s : List ℕ) (at : ℕ) (r : Option ℕ) : Type 0 where
  pub found : EachTable d n (λ ts. LeafIs r (leaf_from ts (take leaf_body (drop (at + leaf_term) s))))

-- ---- a node

-- a node's own bytes are inside
abbrev pub NodeInside : List ℕ → ℕ → Option ℕ → Type 0
NodeInside s at (Some w) = at + node_size (get_or s at 0) ≤ length s
NodeInside s at None = Unit {0}

-- trees that begin at a node are those that begin behind it, with the node's own branches; without a node there are
-- none
abbrev pub NodeIs : List ℕ → ℕ → Option ℕ → List Term → (f : ℕ) (fs : List ℕ) (b : ℕ) → Type 0
NodeIs s at (Some w) ts f fs b =
    let kind = get_or s at 0 in
    let next = at + node_size kind in
    trees_from (suc f ∷ fs) b ts (drop at s) ≡ trees_from (bounds_behind kind f fs) (b + w) ts (drop next s)
NodeIs s at None ts f fs b = trees_from (suc f ∷ fs) b ts (drop at s) ≡ none

pub record NodeRead (d : List ℕ) (n : ℕ) (s : List ℕ) (at : ℕ) (r : Option ℕ) : Type 0 where
  pub inside : NodeInside s at r
  pub found : EachTable d n (λ ts. (f : ℕ) (fs : List ℕ) (b : ℕ) → NodeIs s at r ts f fs b)
