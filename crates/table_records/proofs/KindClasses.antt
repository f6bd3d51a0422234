-- A kind's class is that of the term that its records add.
-- Assumes nothing.
use Prim.Native.Nat.{ℕ}
use mathlib.Core.Path.{◌≡◌}
use mathlib.Core.Option.{some}
use Rattle.semantics.specs.Definitions.Table.{Kind, kind_by_number, adds}
use Rattle.table_records.specs.Shapes.{class_from, class_of}

pub class_of_kind_holds : (k : ℕ) (K : Kind) → kind_by_number k ≡ some K → class_of k ≡ class_from (adds K)
unfolding class_of
class_of_kind_holds k K named = rw named
