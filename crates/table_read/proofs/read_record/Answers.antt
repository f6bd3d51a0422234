-- `table_read::read_record` meets its contract: at each need the law of its case.
-- Assumes nothing.
use Rattle.table_read.proofs.RecordRead.{at_end_holds, at_unknown, at_short}
use Rattle.table_read.proofs.read_record.Goals as goal

pub returns-in-Err-End : goal.returns-in-Err-End
returns-in-Err-End c = search at_end_holds

pub returns-in-Err-UnknownKind : goal.returns-in-Err-UnknownKind
returns-in-Err-UnknownKind c = search at_unknown

pub returns-in-Err-CutShort : goal.returns-in-Err-CutShort
returns-in-Err-CutShort c = search at_short
