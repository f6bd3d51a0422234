-- `check_hall` meets its contract, return by return. Assumes nothing.
use Rattle.std.proofs.lemmas.Result.{err_from_is_err_and}
use Rattle.call_check.proofs.Verdicts.{passed, turned_down}
use Rattle.theorems.proofs.Theorems.{promised, on_halls}
use Rattle.call_check.proofs.check_hall.Goals as goal

pub returns-in_err-admit-clause-promised : goal.returns-in_err-admit-clause-promised
returns-in_err-admit-clause-promised c = promised on_halls

pub returns-in_err-admit-clause-verdict : goal.returns-in_err-admit-clause-verdict
returns-in_err-admit-clause-verdict c =
    let refused = err_from_is_err_and c.from_residual.result c.from_residual.ensures.1 in
    rw (refused.1, refused.2) (search (turned_down, c.in_err-admit.ensures))

pub returns-clause-promised : goal.returns-clause-promised
returns-clause-promised c = promised on_halls

pub returns-clause-verdict : goal.returns-clause-verdict
returns-clause-verdict c = search (passed, c.in_ok-admit.ensures)
