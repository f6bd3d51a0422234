-- `suggest` meets its contract, return by return. Assumes nothing.
use Rattle.std.proofs.lemmas.Result.{err_from_is_err_and}
use Rattle.call_suggest.proofs.Suggestions.{suggestion_turned_down, suggestion_told}
use Rattle.theorems.proofs.Theorems.{promised, on_suggestions}
use Rattle.call_suggest.proofs.suggest.Goals as goal

pub returns-in_err-admit-clause-promised : goal.returns-in_err-admit-clause-promised
returns-in_err-admit-clause-promised c = promised on_suggestions

pub returns-in_err-admit-clause-result_value : goal.returns-in_err-admit-clause-result_value
returns-in_err-admit-clause-result_value c =
    let p = err_from_is_err_and c.from_residual.result c.from_residual.ensures.1 in
    rw (p.1, p.2) (search (suggestion_turned_down, c.in_err-admit.ensures))

pub returns-clause-promised : goal.returns-clause-promised
returns-clause-promised c = promised on_suggestions

pub returns-clause-result_value : goal.returns-clause-result_value
returns-clause-result_value c = search (suggestion_told, c.in_ok-admit.ensures)
