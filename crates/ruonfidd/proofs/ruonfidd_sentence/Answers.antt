-- `ruonfidd_sentence` meets its contract: what its call answers is told.
-- Assumes nothing.
use Rattle.theorems.proofs.Theorems.{promised}
use Rattle.answers.proofs.Theorems.{told_sentences}
use Rattle.ruonfidd.proofs.Exports.{sentence_told}
use Rattle.ruonfidd.proofs.ruonfidd_sentence.Goals as goal

pub returns-clause-promised : goal.returns-clause-promised
returns-clause-promised c = promised told_sentences

pub returns-clause-sentence_answered : goal.returns-clause-sentence_answered
returns-clause-sentence_answered c = search sentence_told
