-- `opening_turn` meets its contract, return by return. Assumes nothing.
use Rattle.std.proofs.lemmas.Result.{err_from_is_err_and}
use Rattle.call_admit.proofs.AcceptedTables.{start_process}
use Rattle.call_turn.proofs.Turns.{turn_refused, turn_shown}
use Rattle.theorems.proofs.Theorems.{promised, on_turns}
use Rattle.call_turn.proofs.opening_turn.Goals as goal

pub returns-in_err-accepted-clause-promised : goal.returns-in_err-accepted-clause-promised
returns-in_err-accepted-clause-promised c = promised on_turns

pub returns-in_err-accepted-clause-value : goal.returns-in_err-accepted-clause-value
returns-in_err-accepted-clause-value c =
    let refused = err_from_is_err_and c.from_residual.result c.from_residual.ensures.1 in
    rw (refused.1, refused.2) (search (turn_refused, c.in_err-accepted.ensures))

pub show_turn-requires : goal.show_turn-requires
show_turn-requires c = search (start_process, c.in_ok-accepted.ensures)

pub returns-clause-promised : goal.returns-clause-promised
returns-clause-promised c = promised on_turns

pub returns-clause-value : goal.returns-clause-value
returns-clause-value c = search (turn_shown, c.in_ok-accepted.ensures)
