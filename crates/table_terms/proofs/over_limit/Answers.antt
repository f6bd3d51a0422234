-- `table_terms::over_limit` meets its contract: at each return the law of its case.
-- Assumes nothing.
use Rattle.table_terms.proofs.Limits.{no_term, width_tested, branches_over, length_tested}
use Rattle.table_terms.proofs.over_limit.Goals as goal
use Rattle.table_terms.proofs.over_limit.Goals.{in_default-via-in-Some+in_default, in_default-via-in_default}

pub returns-in-Some-Process : goal.returns-in-Some-Process
returns-in-Some-Process c = search width_tested

pub returns-then-m-gt-MAX_BRANCHES : goal.returns-then-m-gt-MAX_BRANCHES
returns-then-m-gt-MAX_BRANCHES c = elim c.in_default.branch [
  | in_default-via-in-Some+in_default w ↦ search branches_over
  | in_default-via-in_default w ↦ search no_term
]

pub returns-else-m-gt-MAX_BRANCHES : goal.returns-else-m-gt-MAX_BRANCHES
returns-else-m-gt-MAX_BRANCHES c = elim c.in_default.branch [
  | in_default-via-in-Some+in_default w ↦ search length_tested
  | in_default-via-in_default w ↦ search no_term
]
