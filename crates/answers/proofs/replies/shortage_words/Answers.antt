-- The two bytes of a shortage meet their contract.
-- Assumes nothing.
use Rattle.answers.proofs.Cases.{enough_words, short_words}
use Rattle.answers.proofs.replies.shortage_words.Goals as goal

pub returns-in-None : goal.returns-in-None
returns-in-None c = search enough_words

pub returns-in-Some : goal.returns-in-Some
returns-in-Some c = search short_words
