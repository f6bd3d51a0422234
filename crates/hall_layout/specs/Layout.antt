-- The stored hall's numbers for code on bytes (document 01, "The stored hall"): those of the definitions, and the sizes and offsets
-- that follow from them.
-- Assumes nothing.
use Rattle.std.specs.Prelude.{ℕ, suc, ◌+◌, ◌-◌, ◌*◌}
pub use Rattle.semantics.specs.Definitions.Layout.{channels, max_components, max_branches, max_actions, hall_bytes, waiting_kind, transaction_kind, output_kind, fork_kind, leaf_kind, leaf_head, leaf_body, no_record, write_offset, action_bytes}

-- a component that is no transaction: its kind, and a term or a channel
abbrev pub idle_size : ℕ
idle_size = 2

-- where a component's term or channel stands
abbrev pub component_body : ℕ
component_body = 1

-- a transaction's kind, term and snapshot; its nodes follow
abbrev pub transaction_head : ℕ
transaction_head = idle_size + channels

-- a fork, without its sides
abbrev pub fork_size : ℕ
fork_size = 1

-- a leaf: its kind, its term, its log's length, its log
abbrev pub leaf_size : ℕ
leaf_size = suc leaf_body

abbrev pub leaf_term : ℕ
leaf_term = 1

abbrev pub leaf_log_length : ℕ
leaf_log_length = 2

abbrev pub leaf_log : ℕ
leaf_log = suc leaf_head

abbrev pub log_size : ℕ
log_size = max_actions

-- what a read adds to its channel in a log; a write adds `write_offset`
abbrev pub read_offset : ℕ
read_offset = 0

-- where each component begins, and behind the last of them the used length
abbrev pub index_size : ℕ
index_size = suc max_components

-- the nodes of a tree of as many branches as there may be: a fork for each leaf but one
abbrev pub max_nodes : ℕ
max_nodes = 2 * max_branches - 1
