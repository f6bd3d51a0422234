-- `table_read::too_many_terms` meets its contract: at each return the law of its case.
-- Assumes nothing.
use Rattle.table_read.proofs.RecordTests.{term_room, other_room}
use Rattle.table_read.proofs.too_many_terms.Goals as goal

pub returns-then-is_some : goal.returns-then-is_some
returns-then-is_some c = search term_room

pub returns-else-is_some : goal.returns-else-is_some
returns-else-is_some c = search other_room
