-- The claims about accepted tables and about the stored form of configurations, as types. Their proofs:
-- theorems/proofs/GoodTable and theorems/proofs/RoundTrip.
-- Assumes nothing.
use Rattle.std.specs.Prelude.{ℕ, ◌≤◌, ◌≡◌, ◌↔◌, length}
use Rattle.std.proofs.Math.Option.{some}
use mathlib.Core.List.{List, ◌++◌, map, flatten}
use Rattle.semantics.specs.Definitions.Layout.{max_components}
use Rattle.semantics.specs.Definitions.Basics.{Bytes}
use Rattle.semantics.specs.Definitions.Terms.{Program, Term, width}
use Rattle.semantics.specs.Definitions.Table.{Table, accepted, read_table}
use Rattle.semantics.specs.Definitions.Configuration.{Configuration, opens, opening}
use Rattle.semantics.specs.Definitions.Stored.{ByteCounts, WellFormed, component_bytes, bytes_of, configuration_of, hall_bytes}
use Rattle.semantics.specs.Checks.AcceptedTables.{GoodTable, ProgramIn}

-- The terms of every accepted table are good: at most 200, numbered by their places, made of one another, within the
-- limits.
abbrev pub AcceptedIsGood : Type 0
AcceptedIsGood = (bs : List ℕ) (t : Table) → read_table bs ≡ accepted t → GoodTable t.terms

-- Width bounds what opens: every process opens into at most so many components.
abbrev pub WidthBoundsOpening : Type 0
WidthBoundsOpening = (P : Program) → length (opens P) ≤ width P

-- The start of every accepted table is one of its terms, of width at most 64.
abbrev pub StartIsTerm : Type 0
StartIsTerm = (bs : List ℕ) (t : Table) → read_table bs ≡ accepted t →
    ProgramIn t.terms t.start × (width t.start ≤ max_components)

-- The tokens of every accepted table are 16 counts, each at most 255 where the table is given as bytes.
abbrev pub TokensAreCounts : Type 0
TokensAreCounts = (bs : List ℕ) (t : Table) → Bytes bs → read_table bs ≡ accepted t → ByteCounts t.tokens

-- A well-formed configuration is read back from its bytes.
abbrev pub ReadBack : Type 0
ReadBack = (ts : List Term) (h : Configuration) → GoodTable ts → WellFormed ts h →
    configuration_of ts (bytes_of h) ≡ some h

-- Different well-formed configurations have different bytes.
abbrev pub BytesDiffer : Type 0
BytesDiffer = (ts : List Term) (h g : Configuration) → GoodTable ts → WellFormed ts h → WellFormed ts g →
    bytes_of h ≡ bytes_of g → h ≡ g

-- What is read from 11,344 bytes is well formed, and those are its bytes.
abbrev pub ReadIsWellFormed : Type 0
ReadIsWellFormed = (ts : List Term) (bs : List ℕ) (h : Configuration) → GoodTable ts → Bytes bs →
    length bs ≡ hall_bytes → configuration_of ts bs ≡ some h → WellFormed ts h × (bytes_of h ≡ bs)

-- Well formed means the same of bytes and of configurations: 11,344 bytes are read exactly where they are a well-formed
-- configuration's bytes.
abbrev pub WellFormedAgrees : Type 0
WellFormedAgrees = (ts : List Term) (bs : List ℕ) → GoodTable ts → Bytes bs → length bs ≡ hall_bytes →
    ((h : Configuration) × (configuration_of ts bs ≡ some h)) ↔
    ((h : Configuration) × WellFormed ts h × (bytes_of h ≡ bs))

-- A well-formed configuration fits: its counts and components take at most 11,344 bytes, so its stored form has exactly
-- 11,344, each at most 255.
abbrev pub StoredFits : Type 0
StoredFits = (ts : List Term) (h : Configuration) → GoodTable ts → WellFormed ts h →
    (length (h.counts ++ flatten (map component_bytes h.components)) ≤ hall_bytes) ×
    (length (bytes_of h) ≡ hall_bytes) × Bytes (bytes_of h)

-- Opening an accepted table, given as bytes, gives a well-formed configuration.
abbrev pub OpeningIsWellFormed : Type 0
OpeningIsWellFormed = (bs : List ℕ) (t : Table) → Bytes bs → read_table bs ≡ accepted t →
    WellFormed t.terms (opening t)
