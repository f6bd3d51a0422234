-- `tell_suggestion` meets its contract: what a suggestion answers is told as numbers.
-- Assumes nothing.
use Rattle.answers.proofs.Cases.{suggestion_made, suggestion_still, suggestion_refused}
use Rattle.answers.proofs.suggestions.tell_suggestion.Goals as goal

pub returns-in-Some : goal.returns-in-Some
returns-in-Some c = search suggestion_made

pub returns-in-None : goal.returns-in-None
returns-in-None c = search suggestion_still

pub returns-in-Err : goal.returns-in-Err
returns-in-Err c = search suggestion_refused
