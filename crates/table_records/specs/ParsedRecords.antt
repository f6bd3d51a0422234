-- What parsing answers at an offset of a table's bytes: one of four cases, and what each says of the bytes.
-- Assumes nothing.
use Rattle.std.specs.Prelude.{ℕ, ◌+◌, ◌≤◌, ◌<◌, ◌≡◌, ◌⊎◌, List, length, get_or, Result, Ok, Err}
use Rattle.semantics.specs.Definitions.Table.{nil_k}
use Rattle.table_records.specs.declared.Record.{Record}
use Rattle.table_records.specs.declared.NoRecord.{NoRecord}
use Rattle.table_records.specs.declared.NoRecord.TheVariants.{End, UnknownKind, CutShort}
use Rattle.table_records.specs.Shapes.{kind_byte, last_kind, body_of}

-- a byte is that of a kind
pub record IsKind (k : ℕ) : Type 0 where
  pub low : kind_byte nil_k ≤ k
  pub high : k ≤ last_kind

-- a record of kind k begins at an offset; another is the one behind it
pub record RecordBegins (s : List ℕ) (at k next : ℕ) : Type 0 where
  pub inside : at < length s
  pub known : IsKind k
  pub kind : k ≡ get_or s at 0
  pub behind : next ≡ at + 1 + length (body_of k)

-- a whole record stands at an offset
pub record WholeRecord (s : List ℕ) (at : ℕ) (x : Record) : Type 0 where
  pub known : IsKind x.kind
  pub kind : x.kind ≡ get_or s at 0
  pub first : x.first ≡ get_or s (at + 1) 0
  pub second : x.second ≡ get_or s (at + 2) 0
  pub behind : x.next ≡ at + 1 + length (body_of x.kind)
  pub inside : x.next ≤ length s

-- a kind's byte whose body runs past the end
pub record ShortRecord (s : List ℕ) (at : ℕ) : Type 0 where
  pub inside : at < length s
  pub known : IsKind (get_or s at 0)
  pub cut : length s < at + 1 + length (body_of (get_or s at 0))

abbrev pub ParsedRecordIs : List ℕ → ℕ → Result Record NoRecord → Type 0
ParsedRecordIs s at (Err End) = length s ≤ at
ParsedRecordIs s at (Err UnknownKind) = (at < length s) × ((get_or s at 0 ≡ 0) ⊎ (last_kind < get_or s at 0))
ParsedRecordIs s at (Err CutShort) = ShortRecord s at
ParsedRecordIs s at (Ok x) = WholeRecord s at x
