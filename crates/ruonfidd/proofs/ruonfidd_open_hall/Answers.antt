-- `ruonfidd_open_hall` meets its contract: what its call answers is told.
-- Assumes nothing.
use Rattle.theorems.proofs.Theorems.{promised}
use Rattle.answers.proofs.Theorems.{told_openings}
use Rattle.ruonfidd.proofs.Exports.{opening_told}
use Rattle.ruonfidd.proofs.ruonfidd_open_hall.Goals as goal

pub returns-clause-promised : goal.returns-clause-promised
returns-clause-promised c = promised told_openings

pub returns-clause-opening_answered : goal.returns-clause-opening_answered
returns-clause-opening_answered c = search opening_told
