-- The limits and the numbers of the stored form (document 01), each with a name for the definitions to use. Kinds of
-- records and choices and the numbers of refusals stand where they are read. The one-step run, the converse's steps and
-- the conditions, moves and rows of the checks write their numbers out, so that a wrong number here does not go into
-- them too.
-- Assumes nothing.
use Rattle.std.specs.Prelude.{ℕ}

-- ---- limits

-- a byte's largest value
abbrev pub max_byte : ℕ
max_byte = 255

-- how many channels (trays) there are: they are numbered from 0
abbrev pub channels : ℕ
channels = 16

-- a channel's largest count
abbrev pub max_count : ℕ
max_count = 255

-- the terms of a table
abbrev pub max_terms : ℕ
max_terms = 200

-- the components (stations) of a configuration, and the width of a process
abbrev pub max_components : ℕ
max_components = 64

-- the branches of an expression, and of a transaction's remaining terms in all
abbrev pub max_branches : ℕ
max_branches = 8

-- the length of an expression, and the actions of a log
abbrev pub max_actions : ℕ
max_actions = 16

-- a counter of the tally stays here
abbrev pub counter_top : ℕ
counter_top = 4294967295

-- the longest input whose run is printed
abbrev pub max_input : ℕ
max_input = 16384

-- ---- the stored configuration (hall)

-- all of its bytes
abbrev pub hall_bytes : ℕ
hall_bytes = 11344

-- kinds of components: waiting, transaction (attempt), output (putting)
abbrev pub waiting_kind : ℕ
waiting_kind = 20

abbrev pub transaction_kind : ℕ
transaction_kind = 21

abbrev pub output_kind : ℕ
output_kind = 24

-- kinds of a transaction's nodes
abbrev pub fork_kind : ℕ
fork_kind = 22

abbrev pub leaf_kind : ℕ
leaf_kind = 23

-- a leaf's term and the length of its log, before the log's bytes; and with the log's 16 bytes all that follows a
-- leaf's kind
abbrev pub leaf_head : ℕ
leaf_head = 2

abbrev pub leaf_body : ℕ
leaf_body = 18

-- stands at a leaf for a retry that no record has
abbrev pub no_record : ℕ
no_record = 255

-- a log byte is the channel for a read, and this much more for a write
abbrev pub write_offset : ℕ
write_offset = 16

-- no log byte reaches this: the offset of writes, and the channels once more
abbrev pub action_bytes : ℕ
action_bytes = 32
