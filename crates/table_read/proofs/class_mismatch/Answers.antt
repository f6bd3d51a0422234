-- `table_read::class_mismatch` meets its contract: at each need the law of its case.
-- Assumes nothing.
use mathlib.Core.Path.{◌≡◌, ap, ◌∙◌}
use Rattle.std.specs.Prelude.{Some}
use Rattle.table_records.specs.declared.Field.TheVariants.{Reference}
use Rattle.std.proofs.Common.{rules}
use Rattle.table_records.specs.Shapes.{fails_at}
use Rattle.semantics.specs.Definitions.Table.{class_mismatch}
use Rattle.table_read.proofs.RecordTests.{reference_inside, class_tested}
use Rattle.table_read.proofs.class_mismatch.Goals as goal

pub kind_at-kind-requires : goal.kind_at-kind-requires
kind_at-kind-requires c =
    let w = c.in-Some-Reference in
    let refers : w.field-0 ≡ Reference w.class = rw w.is at w.field-0-is in
    reference_inside _ _ _ (w.is ∙ ap Some refers) _ _ c.from.ensures c.requires

pub returns-in-Some-Reference : goal.returns-in-Some-Reference
returns-in-Some-Reference c =
    let w = c.in-Some-Reference in
    let refers : w.field-0 ≡ Reference w.class = rw w.is at w.field-0-is in
    class_tested _ _ _ (w.is ∙ ap Some refers) _ _ c.from.ensures _ c.kind_at-kind.ensures _ c.class_of.ensures _ c.ne.ensures

pub returns-in_default : goal.returns-in_default
unfolding fails_at class_mismatch
returns-in_default c = record { found = λ ts y e. search rules }

pub returns-in_default-2 : goal.returns-in_default-2
unfolding fails_at class_mismatch
returns-in_default-2 c = record { found = λ ts y e. search rules }
