-- The decoded table: what its bytes hold.
--
-- The tokens of the 16 channels stand first. Term number i has five bytes behind them: its kind, two fields and its
-- measures. A field is a channel or the number of a subterm, as the record's body has it; a field that the kind lacks
-- may be anything.
-- Assumes nothing.
use Rattle.std.specs.Prelude.{ℕ, ◌+◌, ◌*◌, ◌<◌, ◌≡◌, List, length, get_or, take, set}
use Rattle.std.proofs.Math.Option.{some}
use Rattle.std.proofs.Math.ListN.{get_elem?}
pub use Rattle.semantics.specs.Definitions.Layout.{channels, max_terms}
use Rattle.semantics.specs.Definitions.Terms.{end_t, retry_t, rd_t, wt_t, or_else_t, Program, nil_t, put_t, take_t, repeat_t, par_t, atom_t, Term, process, expression, number, width, branches, path_length}
use Rattle.semantics.specs.Checks.AcceptedTables.{program_number, GoodTable}
use Rattle.semantics.specs.Definitions.Table.{nil_k, put_k, take_k, repeat_k, par_k, atom_k, end_k, retry_k, rd_k, wt_k, or_else_k}
use Rattle.table_records.specs.Shapes.{kind_byte}

-- ---- the layout

-- a term's bytes, and the place of each
abbrev pub term_bytes : ℕ
term_bytes = 5

abbrev pub kind_place : ℕ
kind_place = 0

abbrev pub first_place : ℕ
first_place = 1

abbrev pub second_place : ℕ
second_place = 2

abbrev pub breadth_place : ℕ
breadth_place = 3

abbrev pub length_place : ℕ
length_place = 4

-- all of its bytes: the tokens of each channel, and those of each term that a table may have
abbrev pub decoded_bytes : ℕ
decoded_bytes = channels + term_bytes * max_terms

-- the tokens of the channels
abbrev pub tokens_in : List ℕ → List ℕ
tokens_in d = take channels d

-- where byte j of term number i stands
abbrev pub place_of : (i j : ℕ) → ℕ
place_of i j = channels + term_bytes * i + j

abbrev pub kind_at : List ℕ → ℕ → ℕ
kind_at d i = get_or d (place_of i kind_place) 0

abbrev pub first_at : List ℕ → ℕ → ℕ
first_at d i = get_or d (place_of i first_place) 0

abbrev pub second_at : List ℕ → ℕ → ℕ
second_at d i = get_or d (place_of i second_place) 0

abbrev pub breadth_at : List ℕ → ℕ → ℕ
breadth_at d i = get_or d (place_of i breadth_place) 0

abbrev pub length_at : List ℕ → ℕ → ℕ
length_at d i = get_or d (place_of i length_place) 0

-- a record, and measures, stored at number i
abbrev pub with_record : List ℕ → (i k l r : ℕ) → List ℕ
with_record d i k l r = set (set (set d (place_of i kind_place) k) (place_of i first_place) l) (place_of i second_place) r

abbrev pub with_measures : List ℕ → (i b l : ℕ) → List ℕ
with_measures d i b l = set (set d (place_of i breadth_place) b) (place_of i length_place) l

-- ---- what the bytes of a term say

-- kind k with fields l and r is the record of term t, number i: its channel and the numbers of its subterms, which
-- are smaller
abbrev pub RecordOf : (i k l r : ℕ) → Term → Type 0
RecordOf i k l r (process (nil_t n)) = k ≡ kind_byte nil_k
RecordOf i k l r (process (put_t n a)) = (k ≡ kind_byte put_k) × (l ≡ a)
RecordOf i k l r (process (take_t n a P)) = (k ≡ kind_byte take_k) × (l ≡ a) × (r ≡ program_number P) × (r < i)
RecordOf i k l r (process (repeat_t n a P)) = (k ≡ kind_byte repeat_k) × (l ≡ a) × (r ≡ program_number P) × (r < i)
RecordOf i k l r (process (par_t n P Q)) =
    (k ≡ kind_byte par_k) × (l ≡ program_number P) × (l < i) × (r ≡ program_number Q) × (r < i)
RecordOf i k l r (process (atom_t n M)) = (k ≡ kind_byte atom_k) × (l ≡ number M) × (l < i)
RecordOf i k l r (expression (end_t n)) = k ≡ kind_byte end_k
RecordOf i k l r (expression (retry_t n)) = k ≡ kind_byte retry_k
RecordOf i k l r (expression (rd_t n a M)) = (k ≡ kind_byte rd_k) × (l ≡ a) × (r ≡ number M) × (r < i)
RecordOf i k l r (expression (wt_t n a M)) = (k ≡ kind_byte wt_k) × (l ≡ a) × (r ≡ number M) × (r < i)
RecordOf i k l r (expression (or_else_t n M N)) =
    (k ≡ kind_byte or_else_k) × (l ≡ number M) × (l < i) × (r ≡ number N) × (r < i)

abbrev pub RecordAt : List ℕ → ℕ → Term → Type 0
RecordAt d i t = RecordOf i (kind_at d i) (first_at d i) (second_at d i) t

-- a term's measures: a process's width; an expression's branches and length
unfoldable pub breadth : Term → ℕ
breadth (process P) = width P
breadth (expression M) = branches M

unfoldable pub term_length : Term → ℕ
term_length (process P) = 0
term_length (expression M) = path_length M

abbrev pub MeasuresAt : List ℕ → ℕ → Term → Type 0
MeasuresAt d i t = (breadth_at d i ≡ breadth t) × (length_at d i ≡ term_length t)

-- ---- the decoded table of the terms ts

pub record Decoded (ts : List Term) (d : List ℕ) : Type 0 where
  pub sized : length d ≡ decoded_bytes
  pub good : GoodTable ts
  pub records : (i : ℕ) (t : Term) → get_elem? ts i ≡ some t → RecordAt d i t
  pub measures : (i : ℕ) (t : Term) → get_elem? ts i ≡ some t → MeasuresAt d i t

-- number i is a process's, of some table that d decodes
pub record AProcess (d : List ℕ) (i : ℕ) : Type 0 where
  pub terms : List Term
  pub tree : Program
  pub decoded : Decoded terms d
  pub at : get_elem? terms i ≡ some (process tree)
