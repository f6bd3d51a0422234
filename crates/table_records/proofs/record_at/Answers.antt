-- `table_records::record_at` meets its contract: the tests on the way to each return say what stands at the offset.
-- Assumes nothing.
use Rattle.table_records.proofs.Shapes.{begins_alone, begins_with_one, begins_with_two}
use Rattle.table_records.proofs.record_at.Goals as goal

pub record_up_to-requires : goal.record_up_to-requires
record_up_to-requires c = search begins_alone

pub record_up_to-requires-then-is_none-2 : goal.record_up_to-requires-then-is_none-2
record_up_to-requires-then-is_none-2 c = search begins_with_one

pub record_up_to-requires-2 : goal.record_up_to-requires-2
record_up_to-requires-2 c = search begins_with_two
