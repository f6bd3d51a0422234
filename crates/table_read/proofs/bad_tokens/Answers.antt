-- `table_read::bad_tokens` meets its contract: at each return the law of its case.
-- Assumes nothing.
use Rattle.table_read.proofs.RecordTests.{count_zero, given_before}
use Rattle.table_read.proofs.bad_tokens.Goals as goal

pub returns-then-count-eq0 : goal.returns-then-count-eq0
returns-then-count-eq0 c = search count_zero

pub returns-else-count-eq0 : goal.returns-else-count-eq0
returns-else-count-eq0 c = search given_before
