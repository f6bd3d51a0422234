-- The stored form of a configuration (document 01, "The stored hall"): its 11,344 bytes and back, and well formed.
-- Assumes nothing.
use Rattle.std.specs.Prelude.{ℕ, zero, suc, ◌+◌, ◌-◌, ◌≤◌, ◌<◌, ◌≡◌, cond, ◌&&◌, length, get_or, take, drop, leb, ltb, eqb}
use Rattle.std.proofs.Math.Option.{Option, none, some, bind}
use mathlib.Core.List.{List, [], ◌∷◌, ◌++◌, map, flatten}
use Rattle.std.proofs.Math.ListN.{get_elem?}
use Rattle.calculus.specs.Syntax.{Name, Action, rd, wt, Log, State}
pub use Rattle.semantics.specs.Definitions.Layout.{channels}
pub use Rattle.semantics.specs.Definitions.Layout.{hall_bytes}
use Rattle.semantics.specs.Definitions.Layout.{max_count, max_components, max_branches, max_actions, waiting_kind, transaction_kind, output_kind, fork_kind, leaf_kind, leaf_head, leaf_body, no_record, write_offset, action_bytes}
use Rattle.semantics.specs.Definitions.Basics.{only_if, padded, zeros, All}
use Rattle.semantics.specs.Definitions.Terms.{Expression, retry_t, nil_t, put_t, take_t, repeat_t, par_t, atom_t, Term, process, expression, number, path_length}
use Rattle.semantics.specs.Definitions.Configuration.{Idle, taking, repeating, block, output, Tree, leaf, fork, Component, idle, transaction, Configuration, branches_of}

-- ---- a configuration's bytes

-- one byte an action: below 16 a read of that channel, from 16 on a write
unfoldable pub action_byte : Action → ℕ
action_byte (rd a) = a
action_byte (wt a) = write_offset + a

-- 23 leaf: term, log length, 16 log bytes; 22 fork, then its left side and its right side
unfoldable pub tree_bytes : Tree → List ℕ
unfolding number padded action_byte
tree_bytes (leaf M δ) = leaf_kind ∷ number M ∷ length δ ∷ padded max_actions (map action_byte δ)
tree_bytes (fork l r) = fork_kind ∷ (tree_bytes l ++ tree_bytes r)

-- 20 waiting, 24 putting, 21 attempt
unfoldable pub component_bytes : Component → List ℕ
unfolding tree_bytes
component_bytes (idle (taking n a P)) = waiting_kind ∷ n ∷ []
component_bytes (idle (repeating n a P)) = waiting_kind ∷ n ∷ []
component_bytes (idle (block n M)) = waiting_kind ∷ n ∷ []
component_bytes (idle (output a)) = output_kind ∷ a ∷ []
component_bytes (transaction n M s t) = transaction_kind ∷ n ∷ (s ++ tree_bytes t)

-- counts by channel, components in order, and the rest filled with zeros
unfoldable pub bytes_of : Configuration → List ℕ
unfolding component_bytes padded flatten
bytes_of h = padded hall_bytes (h.counts ++ flatten (map component_bytes h.components))

-- ---- well formed, as a property of a configuration

-- the expression of a leaf's byte: a term of the table, or 255
unfoldable pub leaf_expression : List Term → ℕ → Option Expression
leaf_expression ts n = cond (eqb n no_record) (some (retry_t no_record)) (as_expr (get_elem? ts n))
  where
    as_expr : Option Term → Option Expression
    as_expr none = none
    as_expr (some (process P)) = none
    as_expr (some (expression M)) = some M

abbrev pub ByteCounts : State → Type 0
ByteCounts σ = (length σ ≡ channels) × All (λ c. c ≤ max_count) σ

unfoldable pub channel_of : Action → Name
channel_of (rd a) = a
channel_of (wt a) = a

-- each leaf: its term is the table's, its channels are below 16, its log and the longest way through its term have at
-- most 16 actions together
unfoldable pub TreeOk : List Term → Tree → Type 0
unfolding leaf_expression channel_of path_length number
TreeOk ts (leaf M δ) =
    (leaf_expression ts (number M) ≡ some M) × (length δ + path_length M ≤ max_actions) ×
    All (λ α. channel_of α < channels) δ
TreeOk ts (fork l r) = TreeOk ts l × TreeOk ts r

unfoldable pub ComponentOk : List Term → Component → Type 0
unfolding TreeOk branches_of
ComponentOk ts (idle (taking n a P)) = get_elem? ts n ≡ some (process (take_t n a P))
ComponentOk ts (idle (repeating n a P)) = get_elem? ts n ≡ some (process (repeat_t n a P))
ComponentOk ts (idle (block n M)) = get_elem? ts n ≡ some (process (atom_t n M))
ComponentOk ts (idle (output a)) = a < channels
ComponentOk ts (transaction n M s t) =
    (get_elem? ts n ≡ some (process (atom_t n M))) × ByteCounts s × TreeOk ts t × (branches_of t ≤ max_branches)

pub record WellFormed (ts : List Term) (h : Configuration) : Type 0 where
  pub channel_counts : ByteCounts h.counts
  pub few : length h.components ≤ max_components
  pub each : All (ComponentOk ts) h.components

-- ---- a configuration from bytes

-- n bytes and what follows them
unfoldable pub split_bytes : ℕ → List ℕ → Option (List ℕ × List ℕ)
unfolding only_if
split_bytes n bs = only_if (leb n (length bs)) (take n bs, drop n bs)

unfoldable pub action_of : ℕ → Option Action
unfolding only_if
action_of b = cond (ltb b write_offset) (some (rd b)) (only_if (ltb b action_bytes) (wt (b - write_offset)))

unfoldable pub log_of : List ℕ → Option Log
unfolding bind action_of
log_of [] = some []
log_of (b ∷ bs) = bind (action_of b) (λ α. bind (log_of bs) (λ δ. some (α ∷ δ)))

-- a leaf from the 18 bytes of its body
unfoldable pub leaf_from : List Term → List ℕ → Option Tree
unfolding bind only_if log_of leaf_expression zeros path_length
leaf_from ts body =
    let size = get_or body 1 0 in
    let log = drop leaf_head body in
    bind (leaf_expression ts (get_or body 0 0)) (λ M.
    bind (log_of (take size log)) (λ δ.
    only_if (leb (size + path_length M) max_actions && zeros (drop size log)) (leaf M δ)))

pub data NodeKind : Type 0 where
  fork_n leaf_n other_n : NodeKind

unfoldable pub node_kind : ℕ → NodeKind
node_kind k = cond (eqb k fork_kind) fork_n (cond (eqb k leaf_kind) leaf_n other_n)

unfoldable pub node_from : List Term → (List ℕ → Option (Tree × List ℕ)) → NodeKind → List ℕ → Option (Tree × List ℕ)
unfolding bind split_bytes leaf_from
node_from ts sub fork_n bs = bind (sub bs) (λ l. bind (sub l.1) (λ r. some (fork l.0 r.0, r.1)))
node_from ts sub leaf_n bs = bind (split_bytes leaf_body bs) (λ c. bind (leaf_from ts c.0) (λ t. some (t, c.1)))
node_from ts sub other_n bs = none

-- one tree in preorder, and what follows it; each node takes a byte at least, so the first argument never runs out
unfoldable pub tree_from : ℕ → List Term → List ℕ → Option (Tree × List ℕ)
unfolding node_from node_kind
tree_from zero ts bs = none
tree_from (suc f) ts [] = none
tree_from (suc f) ts (k ∷ bs) = node_from ts (λ x. tree_from f ts x) (node_kind k) bs

-- a waiting component's term is of kind 3, 4 or 6
unfoldable pub waiting_component : Option Term → Option Idle
waiting_component none = none
waiting_component (some (expression M)) = none
waiting_component (some (process (nil_t n))) = none
waiting_component (some (process (put_t n a))) = none
waiting_component (some (process (take_t n a P))) = some (taking n a P)
waiting_component (some (process (repeat_t n a P))) = some (repeating n a P)
waiting_component (some (process (par_t n P Q))) = none
waiting_component (some (process (atom_t n M))) = some (block n M)

-- a transaction of this component's block, which must be one
unfoldable pub transaction_on : Option Idle → State → Tree → Option Component
transaction_on none s t = none
transaction_on (some (taking n a P)) s t = none
transaction_on (some (repeating n a P)) s t = none
transaction_on (some (block n M)) s t = some (transaction n M s t)
transaction_on (some (output a)) s t = none

pub data ComponentKind : Type 0 where
  waiting_c output_c transaction_c other_c : ComponentKind

unfoldable pub component_kind : ℕ → ComponentKind
component_kind k =
    cond (eqb k waiting_kind) waiting_c
    (cond (eqb k output_kind) output_c (cond (eqb k transaction_kind) transaction_c other_c))

-- one component from the byte behind its kind, and what follows it
unfoldable pub component_from : List Term → ComponentKind → ℕ → List ℕ → Option (Component × List ℕ)
unfolding bind only_if split_bytes tree_from waiting_component transaction_on branches_of
component_from ts waiting_c n bs = bind (waiting_component (get_elem? ts n)) (λ c. some (idle c, bs))
component_from ts output_c a bs = only_if (ltb a channels) (idle (output a), bs)
component_from ts transaction_c n bs =
    bind (split_bytes channels bs) (λ s.
    bind (tree_from (suc (length bs)) ts s.1) (λ t.
    bind (transaction_on (waiting_component (get_elem? ts n)) s.0 t.0) (λ c.
    only_if (leb (branches_of t.0) max_branches) (c, t.1))))
component_from ts other_c n bs = none

-- the components up to the first zero byte or the end; from there on all is zero
unfoldable pub components_from : ℕ → List Term → List ℕ → Option (List Component)
unfolding bind only_if component_from component_kind zeros
components_from zero ts bs = none
components_from (suc f) ts [] = some []
components_from (suc f) ts (zero ∷ bs) = only_if (zeros bs) []
components_from (suc f) ts (suc k ∷ []) = none
components_from (suc f) ts (suc k ∷ n ∷ bs) =
    bind (component_from ts (component_kind (suc k)) n bs) (λ c.
    bind (components_from f ts c.1) (λ cs. some (c.0 ∷ cs)))

-- the configuration that bytes store, where they are well formed
unfoldable pub configuration_of : List Term → List ℕ → Option Configuration
unfolding bind only_if split_bytes components_from
configuration_of ts bs =
    bind (split_bytes channels bs) (λ c.
    bind (components_from (suc (length bs)) ts c.1) (λ cs.
    only_if (leb (length cs) max_components) (record { counts = c.0; components = cs })))
