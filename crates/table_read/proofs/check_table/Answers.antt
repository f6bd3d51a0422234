-- `table_read::check_table` meets its contract: at each need the law of its case.
-- Assumes nothing.
use Rattle.std.proofs.lemmas.Result.{err_from_is_err_and}
use Rattle.table_read.proofs.TableRead.{ok_verdict, refused_verdict}
use Rattle.theorems.proofs.Theorems.{promised, on_tables}
use Rattle.table_read.proofs.check_table.Goals as goal

pub returns-in_err-read_table-clause-verdict : goal.returns-in_err-read_table-clause-verdict
returns-in_err-read_table-clause-verdict c =
    let p = err_from_is_err_and c.from_residual.result c.from_residual.ensures.1 in
    rw (p.1, p.2) (refused_verdict _ _ _ c.read_table.ensures _ c.in_err-read_table.was)

pub returns-in_err-read_table-clause-promised : goal.returns-in_err-read_table-clause-promised
returns-in_err-read_table-clause-promised c = promised on_tables

pub returns-clause-verdict : goal.returns-clause-verdict
returns-clause-verdict c = ok_verdict _ _ _ c.read_table.ensures _ c.in_ok-read_table.was

pub returns-clause-promised : goal.returns-clause-promised
returns-clause-promised c = promised on_tables
