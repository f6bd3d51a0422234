-- `step` meets its contract: by its kind where the hall is admitted, and turned down otherwise. Assumes nothing.
use Rattle.std.proofs.lemmas.Result.{err_from_is_err_and}
use Rattle.call_admit.proofs.Admissions.{number_told}
use Rattle.call_step.proofs.Steps.{stepped_turned_down, stepped_unknown, named_written, stepped_named}
use Rattle.theorems.proofs.Theorems.{promised, on_steps}
use Rattle.call_step.proofs.step.Goals as goal

pub returns-in_err-admit-clause-decided : goal.returns-in_err-admit-clause-decided
returns-in_err-admit-clause-decided c =
    let p = err_from_is_err_and c.from_residual.result c.from_residual.ensures.1 in
    rw (p.1, p.2) (number_told c.in_err-admit.field-0.0.reason)

pub returns-in_err-admit-clause-equation : goal.returns-in_err-admit-clause-equation
returns-in_err-admit-clause-equation c =
    let p = err_from_is_err_and c.from_residual.result c.from_residual.ensures.1 in
    rw (p.1, p.2) (search (stepped_turned_down, c.in_err-admit.ensures))

pub returns-in_err-admit-clause-promised : goal.returns-in_err-admit-clause-promised
returns-in_err-admit-clause-promised c = promised on_steps

pub returns-in_err-entry-clause-decided : goal.returns-in_err-entry-clause-decided
returns-in_err-entry-clause-decided c =
    let residual = c.from_residual-in_err-entry in
    let p = err_from_is_err_and residual.result residual.ensures.1 in
    rw (p.1, p.2) (number_told c.in_err-entry.field-0.0.reason)

pub returns-in_err-entry-clause-equation : goal.returns-in_err-entry-clause-equation
returns-in_err-entry-clause-equation c =
    let residual = c.from_residual-in_err-entry in
    let p = err_from_is_err_and residual.result residual.ensures.1 in
    let e = c.in_err-entry.ensures in
    rw (p.1, p.2, e.0) (search (stepped_unknown, e.1, e.2, c.in_ok-admit.ensures))

pub returns-in_err-entry-clause-promised : goal.returns-in_err-entry-clause-promised
returns-in_err-entry-clause-promised c = promised on_steps

pub step_held-requires-clause-one_entry : goal.step_held-requires-clause-one_entry
step_held-requires-clause-one_entry c = search (named_written, c.in_ok-entry.ensures)

pub returns-clause-equation : goal.returns-clause-equation
returns-clause-equation c = search (stepped_named, c.in_ok-entry.ensures, c.in_ok-admit.ensures)

pub returns-clause-promised : goal.returns-clause-promised
returns-clause-promised c = promised on_steps
