-- `admit` meets its contract: the table decides, or the hall behind it. Assumes nothing.
use Rattle.std.proofs.lemmas.Result.{err_from_is_err_and}
use Rattle.call_admit.proofs.AdmissionTests.{by_the_table, few_terms, by_the_hall}
use Rattle.call_admit.proofs.admit.Goals as goal

pub returns-in_err-accepted : goal.returns-in_err-accepted
returns-in_err-accepted c =
    let refused = err_from_is_err_and c.from_residual.result c.from_residual.ensures.1 in
    rw (refused.1, refused.2) (search (by_the_table, c.in_err-accepted.ensures))

pub admit_hall-requires : goal.admit_hall-requires
admit_hall-requires c = search (few_terms, c.in_ok-accepted.ensures)

pub returns : goal.returns
returns c = search (by_the_hall, c.in_ok-accepted.ensures)
