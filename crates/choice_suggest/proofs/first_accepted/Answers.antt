-- `first_accepted` meets its contract. Assumes nothing.
use Rattle.choice_suggest.proofs.Suggestions.{no_position_yet, position_suggested, next_position, all_quiet}
use Rattle.choice_suggest.proofs.first_accepted.Goals as goal

pub loop-position-init : goal.loop-position-init
loop-position-init c = search no_position_yet

pub returns-then-is_some : goal.returns-then-is_some
returns-then-is_some c = search position_suggested

pub loop-position-preserved : goal.loop-position-preserved
loop-position-preserved c = search next_position

pub returns : goal.returns
returns c = search all_quiet
