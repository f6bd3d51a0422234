-- Opening in bytes: what stands in a lent hall when the components (stations) of a process are written, and when a
-- whole table is opened.
--
-- d is a decoded table; i is the number of a process.
-- Assumes nothing.
use Rattle.std.specs.Prelude.{ℕ, ◌+◌, ◌*◌, ◌≤◌, ◌≡◌, List, map, length}
use Rattle.std.proofs.Math.Option.{some}
use Rattle.std.proofs.Math.ListN.{get_elem?}
use Rattle.semantics.specs.Definitions.Terms.{Program, Term, process, width}
use Rattle.semantics.specs.Definitions.Table.{Table}
use Rattle.semantics.specs.Definitions.Configuration.{Idle, idle, opens, opening}
use Rattle.semantics.specs.Definitions.Stored.{bytes_of}
use Rattle.table_terms.specs.Decoded.{tokens_in, Decoded}
use Rattle.buffer.specs.Splice.{written}
use Rattle.hall_layout.specs.Layout.{idle_size}
use Rattle.hall_laws.specs.Positions.{all_bytes}

-- the bytes of components
unfoldable pub idle_bytes : List Idle → List ℕ
idle_bytes cs = all_bytes (map idle cs)

-- and of those that a process opens into
unfoldable pub components_bytes : Program → List ℕ
unfolding idle_bytes
components_bytes P = idle_bytes (opens P)

-- process number i is one of some table that d decodes, and its components fit into the hall from an offset on: each
-- takes two bytes, and there are at most as many as the process is wide
pub record CanWriteComponents (d : List ℕ) (i : ℕ) (hall : List ℕ) (from : ℕ) : Type 0 where
  pub terms : List Term
  pub tree : Program
  pub decoded : Decoded terms d
  pub at : get_elem? terms i ≡ some (process tree)
  pub fits : from + idle_size * width tree ≤ length hall

-- of any table that d decodes, the components of process number i stand in the hall from an offset on, up to another,
-- and all else is as it was before
pub record ComponentsWritten (d : List ℕ) (i : ℕ) (before : List ℕ) (from : ℕ) (after : List ℕ) (to : ℕ) : Type 0 where
  pub found : (ts : List Term) (P : Program) → Decoded ts d → get_elem? ts i ≡ some (process P) →
      (to ≡ from + length (components_bytes P)) × (after ≡ written before from (components_bytes P) (length (components_bytes P)))

-- of any table that d decodes, process number i opens into so many components
pub record ComponentsCounted (d : List ℕ) (i : ℕ) (n : ℕ) : Type 0 where
  pub found : (ts : List Term) (P : Program) → Decoded ts d → get_elem? ts i ≡ some (process P) → n ≡ length (opens P)

-- the hall is the opening of any table that d decodes, with its tokens and with process number i as its start
pub record OpeningWritten (d : List ℕ) (i : ℕ) (hall : List ℕ) : Type 0 where
  pub found : (t : Table) → Decoded t.terms d → t.tokens ≡ tokens_in d →
      get_elem? t.terms i ≡ some (process t.start) → hall ≡ bytes_of (opening t)
