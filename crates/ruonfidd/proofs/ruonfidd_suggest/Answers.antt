-- `ruonfidd_suggest` meets its contract: what its call answers is told.
-- Assumes nothing.
use Rattle.theorems.proofs.Theorems.{promised}
use Rattle.answers.proofs.Theorems.{told_suggestions}
use Rattle.ruonfidd.proofs.ruonfidd_suggest.Goals as goal

pub returns-clause-promised : goal.returns-clause-promised
returns-clause-promised c = promised told_suggestions
