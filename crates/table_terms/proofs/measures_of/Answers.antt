-- `measures_of` meets its contract: the measures of a term without parts, or the walk's answer. Assumes nothing.
use native.Mathlib.Omega.{arith}
use mathlib.Core.Logic.{⊎_elim}
use Rattle.table_terms.proofs.TermMeasures.{low_measured, high_measured}
use Rattle.table_terms.proofs.measures_of.Goals as goal
use Rattle.table_terms.proofs.measures_of.Goals.{in_default, in_default-2, in-5}

pub returns : goal.returns
returns c =
    rw (c.breadth_in.ensures, c.length_in.ensures)
    (elim c.match-kind_at.branch [
      | in_default w ↦ rw w.p-is (low_measured _ _ _ c.requires _ c.kind_at.ensures (λ h. ⊎_elim (λ e. omega arith) (λ e. omega arith) h) (omega arith))
      | in_default-2 w ↦ rw w.p-is (high_measured _ _ _ c.requires _ c.kind_at.ensures (λ h. ⊎_elim (λ e. omega arith) (λ e. omega arith) h) (omega arith))
      | in-5 w ↦ rw w.p-is w.walk-p.ensures
    ])
