-- `first_at` meets its contract. Assumes nothing.
use Rattle.choice_suggest.proofs.Suggestions.{kind_inside_at, act_suggested, idle_quiet, inside_at}
use Rattle.choice_suggest.proofs.first_at.Goals as goal

pub returns-then-is_ok : goal.returns-then-is_ok
returns-then-is_ok c = search act_suggested

pub bounds-hall-index : goal.bounds-hall-index
bounds-hall-index c = search kind_inside_at

pub returns-then-hall-index-ne-KIND_TRANSACTION : goal.returns-then-hall-index-ne-KIND_TRANSACTION
returns-then-hall-index-ne-KIND_TRANSACTION c = search idle_quiet

pub returns : goal.returns
returns c = search inside_at
