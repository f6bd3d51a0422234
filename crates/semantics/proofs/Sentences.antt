-- The worked sentences and calls follow from the definitions, by computation.
-- Assumes nothing.
use mathlib.Core.Path.{refl}
use Rattle.semantics.specs.Checks.Sentences.{SentencesWorked, SentenceInBytes, CallsWorked}

pub sentences_worked : SentencesWorked
unfolding SentencesWorked
sentences_worked = refl

pub sentence_in_bytes : SentenceInBytes
unfolding SentenceInBytes
sentence_in_bytes = refl

pub calls_worked : CallsWorked
unfolding CallsWorked
calls_worked = refl
