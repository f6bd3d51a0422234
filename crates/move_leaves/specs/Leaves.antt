-- The kind of the expression at a node of a transaction, where a tree of nodes stands in bytes, and where a transaction
-- begins.
--
-- d is a decoded table; s has a hall's bytes.
-- Assumes nothing.
use Rattle.std.specs.Prelude.{ℕ, ◌<◌, ◌≡◌, Option, Some, None, List, ◌++◌, get_or, drop}
use Rattle.std.proofs.Math.Option.{some}
use Rattle.semantics.specs.Definitions.Terms.{Expression, Term, expression}
use Rattle.semantics.specs.Definitions.Configuration.{Tree, leaf, fork, Configuration}
use Rattle.semantics.specs.Definitions.Stored.{leaf_expression, tree_bytes, TreeOk}
use Rattle.table_terms.specs.Decoded.{Decoded}
use Rattle.hall_layout.specs.Layout.{transaction_kind}
use Rattle.hall_laws.specs.ReadParts.{term_kind}
use Rattle.hall_held.specs.Holds.{Holds}

-- ---- the byte of a leaf's term

-- it names an expression, of some table that d decodes
pub record CanReadKind (d : List ℕ) (b : ℕ) : Type 0 where
  pub terms : List Term
  pub named : Expression
  pub decoded : Decoded terms d
  pub there : leaf_expression terms b ≡ some named

-- r is the kind of that expression, whichever table it is
pub record ExpressionKindRead (d : List ℕ) (b r : ℕ) : Type 0 where
  pub found : (ts : List Term) (M : Expression) → Decoded ts d → leaf_expression ts b ≡ some M →
      r ≡ term_kind (expression M)

-- ---- a node

-- the byte of the kind of a leaf's expression; none for a fork
unfoldable pub kind_of_node : Tree → Option ℕ
unfolding term_kind
kind_of_node (leaf M δ) = Some (term_kind (expression M))
kind_of_node (fork l r) = None

-- the tree u, of the terms ts that d decodes, stands at an offset
pub record TreeAt (ts : List Term) (u : Tree) (d s : List ℕ) (at : ℕ) : Type 0 where
  pub decoded : Decoded ts d
  pub ok : TreeOk ts u
  pub rest : List ℕ
  pub bytes : drop at s ≡ tree_bytes u ++ rest

-- some tree of some table does
pub record CanReadNode (d s : List ℕ) (at : ℕ) : Type 0 where
  pub terms : List Term
  pub tree : Tree
  pub there : TreeAt terms tree d s at

-- r is the kind at its node, whichever table and tree it is
pub record LeafKindRead (d s : List ℕ) (at : ℕ) (r : Option ℕ) : Type 0 where
  pub found : (ts : List Term) (u : Tree) → TreeAt ts u d s at → r ≡ kind_of_node u

-- ---- a transaction

-- it begins at this offset, and is the component at position p of a configuration that is held
pub record TransactionAt (ts : List Term) (h : Configuration) (d s starts : List ℕ) (n p at : ℕ) : Type 0 where
  pub decoded : Decoded ts d
  pub holds : Holds ts h s starts n
  pub there : p < n
  pub begins : at ≡ get_or starts p 0
  pub kind : get_or s at 0 ≡ transaction_kind
