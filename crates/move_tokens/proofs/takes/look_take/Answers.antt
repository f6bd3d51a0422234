-- `look_take` meets its contract. Assumes nothing.
use Rattle.move_tokens.proofs.TokenTakes.{looked_inside, looked_channel, can_ask_room, empty_looked, crowded_looked, take_looked}
use Rattle.move_tokens.proofs.takes.look_take.Goals as goal

pub first_at-requires : goal.first_at-requires
first_at-requires c = search looked_inside

pub second_at-requires : goal.second_at-requires
second_at-requires c = search looked_inside

pub kind_at-requires : goal.kind_at-requires
kind_at-requires c = search looked_inside

pub bounds-hall-channel : goal.bounds-hall-channel
bounds-hall-channel c = search looked_channel

pub returns-then-count-eq0 : goal.returns-then-count-eq0
returns-then-count-eq0 c = search (empty_looked, crowded_looked, take_looked)

pub is_crowded-requires : goal.is_crowded-requires
is_crowded-requires c = search can_ask_room

pub returns-then-is_crowded : goal.returns-then-is_crowded
returns-then-is_crowded c = search (empty_looked, crowded_looked, take_looked)

pub returns : goal.returns
returns c = search (empty_looked, crowded_looked, take_looked)
