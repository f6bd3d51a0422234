-- `put` meets its contract. Assumes nothing.
use native.Mathlib.Omega.{arith}
use Rattle.move_tokens.proofs.TokenPuts.{put_position, put_body, put_channel, put_room, can_replace_output, token_put}
use Rattle.move_tokens.proofs.puts.put.Goals as goal

pub offset_bounds-index-position : goal.offset_bounds-index-position
offset_bounds-index-position c = omega (arith, put_position _ _ _ _ c.requires)

pub bounds-index-position : goal.bounds-index-position
bounds-index-position c = omega (arith, put_position _ _ _ _ c.requires)

pub overflow_add-begin : goal.overflow_add-begin
overflow_add-begin c = omega (arith, put_body _ _ _ _ c.requires)

pub bounds-hall-begin : goal.bounds-hall-begin
bounds-hall-begin c = search put_body

pub bounds-hall-channel : goal.bounds-hall-channel
bounds-hall-channel c = search put_channel

pub overflow_add-hall : goal.overflow_add-hall
overflow_add-hall c = omega (arith, put_room _ _ _ _ c.requires _ c.from-channel.ensures)

pub bounds-hall-channel-2 : goal.bounds-hall-channel-2
bounds-hall-channel-2 c = search put_channel

pub replace_component-requires : goal.replace_component-requires
replace_component-requires c = search can_replace_output

pub returns : goal.returns
returns c = search token_put
