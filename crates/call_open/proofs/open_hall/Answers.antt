-- `open_hall` meets its contract, return by return. Assumes nothing.
use Rattle.std.proofs.lemmas.Result.{err_from_is_err_and}
use Rattle.call_admit.proofs.AcceptedTables.{start_process}
use Rattle.call_open.proofs.Openings.{by_the_table, by_the_length, opened}
use Rattle.theorems.proofs.Theorems.{promised, on_openings}
use Rattle.call_open.proofs.open_hall.Goals as goal

pub returns-in_err-accepted-clause-hall_after : goal.returns-in_err-accepted-clause-hall_after
returns-in_err-accepted-clause-hall_after c =
    let refused = err_from_is_err_and c.from_residual.result c.from_residual.ensures.1 in
    rw (refused.1, refused.2) (search (by_the_table, c.in_err-accepted.ensures))

pub returns-in_err-accepted-clause-promised : goal.returns-in_err-accepted-clause-promised
returns-in_err-accepted-clause-promised c = promised on_openings

pub returns-then-hall-ne-HALL_SIZE-clause-hall_after : goal.returns-then-hall-ne-HALL_SIZE-clause-hall_after
returns-then-hall-ne-HALL_SIZE-clause-hall_after c = search (by_the_length, c.in_ok-accepted.ensures)

pub returns-then-hall-ne-HALL_SIZE-clause-promised : goal.returns-then-hall-ne-HALL_SIZE-clause-promised
returns-then-hall-ne-HALL_SIZE-clause-promised c = promised on_openings

pub write_opening-requires-clause-a_process : goal.write_opening-requires-clause-a_process
write_opening-requires-clause-a_process c = search (start_process, c.in_ok-accepted.ensures)

pub returns-clause-hall_after : goal.returns-clause-hall_after
returns-clause-hall_after c = search (opened, c.in_ok-accepted.ensures)

pub returns-clause-promised : goal.returns-clause-promised
returns-clause-promised c = promised on_openings
