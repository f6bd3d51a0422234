-- The kinds by their bytes: each of 1 to 13 is one kind's.
-- Assumes nothing.
use Prim.Native.Nat.{ℕ, zero, suc}
use native.Mathlib.Omega.{arith}
use mathlib.Core.Path.{refl}
use lib.ListN.{get_or}
use Rattle.semantics.specs.Definitions.Table.{nil_k, kinds, kind_by_number}
use Rattle.theorems.proofs.Lists.{found_at, found_get_d}
use Rattle.table_records.specs.Shapes.{kind_byte}
use Rattle.table_records.specs.ParsedRecords.{IsKind}
use Rattle.table_records.proofs.Shapes.{same_at}
use Rattle.table_laws.specs.Refusals.{KindAt}

pub kind_at : (k : ℕ) → IsKind k → KindAt k
unfolding kind_by_number kinds
kind_at zero h = absurd (omega arith)
kind_at (suc k) h =
    let K = found_at kinds k (omega arith) in
    let e = same_at (λ i. kind_byte (get_or kinds i nil_k)) suc 0 13 refl k (omega arith) (omega arith) in
    let g = found_get_d kinds k K.0 nil_k K.1 in record { kind = K.0; named = K.1; byte = rw (← g) (omega arith) }
