-- What the laws on reading a stored hall speak of: a log's bytes, trees that follow one another, the component at
-- hand, a term's kind.
-- Assumes nothing.
use Rattle.std.specs.Prelude.{ℕ, ◌+◌, Bool, true, false, cond, ◌&&◌, List, [], ◌∷◌, ◌++◌, length, take, drop, leb, eqb}
use Rattle.std.proofs.Math.Option.{Option, none, some, bind}
use Rattle.calculus.specs.Syntax.{State}
use Rattle.semantics.specs.Definitions.Basics.{only_if, zeros}
use Rattle.semantics.specs.Definitions.Table.{nil_k, put_k, take_k, repeat_k, par_k, atom_k, end_k, retry_k, rd_k, wt_k, or_else_k}
use Rattle.semantics.specs.Checks.AcceptedTables.{kind_byte}
use Rattle.semantics.specs.Definitions.Terms.{end_t, retry_t, rd_t, wt_t, or_else_t, nil_t, put_t, take_t, repeat_t, par_t, atom_t}
use Rattle.semantics.specs.Definitions.Terms.{Term, process, expression}
use Rattle.semantics.specs.Definitions.Configuration.{Component, Configuration, branches_of}
use Rattle.semantics.specs.Definitions.Stored.{log_of, tree_from, component_kind, component_from}
use Rattle.hall_layout.specs.Layout.{fork_kind, max_components}

-- there is a value
unfoldable pub there {ℓ} : {A : Type ℓ} → Option A → Bool
there none = false
there (some a) = true

-- ---- logs

-- the bytes are a log of so many actions, with zeros behind it
unfoldable pub is_log : ℕ → List ℕ → Bool
unfolding there log_of zeros
is_log size bs = there (log_of (take size bs)) && zeros (drop size bs)

-- ---- trees

-- trees that follow one another: their branches, added to b, and what follows the last of them. Each tree is read
-- with a bound of its own on its depth, so that the sides of a fork may follow one another in its place
unfoldable pub trees_from : List ℕ → ℕ → List Term → List ℕ → Option (ℕ × List ℕ)
unfolding bind tree_from branches_of
trees_from [] b ts bs = some (b, bs)
trees_from (f ∷ fs) b ts bs = bind (tree_from f ts bs) (λ t. trees_from fs (b + branches_of t.0) ts t.1)

-- the bounds of the trees that follow a node of this kind: of a fork its two sides, of a leaf none, and the others
unfoldable pub bounds_behind : ℕ → ℕ → List ℕ → List ℕ
bounds_behind k f fs = cond (eqb k fork_kind) (f ∷ f ∷ fs) fs

-- ---- components

-- the component that the bytes begin with, and what follows it
unfoldable pub first_component : List Term → List ℕ → Option (Component × List ℕ)
unfolding component_from component_kind
first_component ts [] = none
first_component ts (k ∷ []) = none
first_component ts (k ∷ n ∷ bs) = component_from ts (component_kind k) n bs

-- the configuration of these counts, with the components that were read and those that follow: at most 64 in all
unfoldable pub configured : State → List Component → Option (List Component) → Option Configuration
unfolding bind only_if
configured σ read rest =
    bind rest (λ cs.
    only_if (leb (length (read ++ cs)) max_components) (record { counts = σ; components = read ++ cs }))

-- ---- terms

-- the byte of a term's kind
unfoldable pub term_kind : Term → ℕ
term_kind (process (nil_t n)) = kind_byte nil_k
term_kind (process (put_t n a)) = kind_byte put_k
term_kind (process (take_t n a P)) = kind_byte take_k
term_kind (process (repeat_t n a P)) = kind_byte repeat_k
term_kind (process (par_t n P Q)) = kind_byte par_k
term_kind (process (atom_t n M)) = kind_byte atom_k
term_kind (expression (end_t n)) = kind_byte end_k
term_kind (expression (retry_t n)) = kind_byte retry_k
term_kind (expression (rd_t n a M)) = kind_byte rd_k
term_kind (expression (wt_t n a M)) = kind_byte wt_k
term_kind (expression (or_else_t n M N)) = kind_byte or_else_k

-- 0 for no term
unfoldable pub kind_in : Option Term → ℕ
unfolding term_kind
kind_in none = 0
kind_in (some t) = term_kind t

-- a component may wait on a term of this kind: takes, repeated takes and blocks
unfoldable pub waits : ℕ → Bool
waits k = cond (eqb k (kind_byte take_k)) true (cond (eqb k (kind_byte repeat_k)) true (eqb k (kind_byte atom_k)))
