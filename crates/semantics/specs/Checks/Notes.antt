-- Only a block ever has a note, and a note has a count for each tray (document 01, "The one-step run", the state). The
-- type of a one-step run's stations lets any of them have any note; no run makes such a state.
-- Assumes nothing.
use Rattle.std.specs.Prelude.{ℕ, ◌≡◌, List, length}
use Rattle.std.proofs.Math.Option.{Option, none, some}
use Rattle.calculus.specs.Syntax.{State}
use Rattle.semantics.specs.Definitions.Basics.{All, Bytes}
use Rattle.semantics.specs.Definitions.Table.{Table, accepted, read_table}
use Rattle.semantics.specs.Definitions.Configuration.{Idle, taking, repeating, block, output}
use Rattle.semantics.specs.Definitions.Moves.{Entry}
use Rattle.semantics.specs.Definitions.Run.{Counters}
use Rattle.semantics.specs.Definitions.AtomicRun.{Atomic, atomic_start, atomic_run}

abbrev pub MayHave : Idle → Option State → Type 0
MayHave c none = Unit {0}
MayHave (block n M) (some m) = length m ≡ 16
MayHave (taking n a P) (some m) = ⊥
MayHave (repeating n a P) (some m) = ⊥
MayHave (output a) (some m) = ⊥

-- no station of the state has a note but a block
abbrev pub BlocksAlone : Atomic State → Type 0
BlocksAlone s = All (λ x. MayHave x.station x.note) s.stations

-- after any choices, whether the engine would do them or not, from any tally
unfoldable pub NotesAtBlocks : Type 0
NotesAtBlocks =
    (bs : List ℕ) (t : Table) → Bytes bs → read_table bs ≡ accepted t → (c : Counters) (es : List Entry) →
    BlocksAlone (atomic_run (atomic_start t c) es)
