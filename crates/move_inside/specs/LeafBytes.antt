-- What the rules make of a leaf's bytes: d is a decoded table, s has the bytes, the leaf begins at an offset.
-- Assumes nothing.
use Rattle.std.specs.Prelude.{ℕ, ◌+◌, ◌≤◌, ◌<◌, List, ◌∷◌, ◌++◌, length, get_or, take, drop, set}
use Rattle.table_terms.specs.Decoded.{max_terms, first_at, second_at}
use Rattle.hall_layout.specs.Layout.{fork_kind, fork_size, leaf_size, leaf_term, leaf_log_length, leaf_log, log_size}

-- a leaf's term, and how many actions its log has
abbrev pub term_at : List ℕ → ℕ → ℕ
term_at s at = get_or s (at + leaf_term) 0

abbrev pub size_at : List ℕ → ℕ → ℕ
size_at s at = get_or s (at + leaf_log_length) 0

-- ---- ARDOK and AWR

-- the leaf goes on with its record's second field, and its log has one more action
unfoldable pub logged : (d s : List ℕ) → (at action : ℕ) → List ℕ
logged d s at action =
    set (set (set s (at + leaf_term) (second_at d (term_at s at))) (at + leaf_log_length) (size_at s at + 1))
    (at + (leaf_log + size_at s at)) action

-- the term has a record, and the log has room
pub record CanLogAction (s : List ℕ) (at : ℕ) : Type 0 where
  pub inside : at + leaf_size ≤ length s
  pub term : term_at s at < max_terms
  pub room : size_at s at < log_size

-- ---- AOI

-- a leaf's bytes with another term
abbrev pub renamed : ℕ → List ℕ → List ℕ
renamed b bytes = set bytes leaf_term b

-- a fork of two leaves that differ from the one there in their terms, which are the fields of its own
unfoldable pub fork_bytes : (d s : List ℕ) → ℕ → List ℕ
fork_bytes d s at =
    let bytes = take leaf_size (drop at s) in
    fork_kind ∷ (renamed (first_at d (term_at s at)) bytes ++ renamed (second_at d (term_at s at)) bytes)

pub record CanSplit (s : List ℕ) (at : ℕ) : Type 0 where
  pub inside : at + leaf_size ≤ length s
  pub term : term_at s at < max_terms

-- ---- AOF and AOE

-- a fork and the leaf that is its left side
abbrev pub left_size : ℕ
left_size = fork_size + leaf_size

-- the left side of the fork at an offset, a leaf
abbrev pub left_bytes : List ℕ → ℕ → List ℕ
left_bytes s at = take leaf_size (drop (at + fork_size) s)
