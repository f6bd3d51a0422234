-- `take_by` meets its contract. Assumes nothing.
use Rattle.move_tokens.proofs.TokenTakes.{take_position, take_body_inside, take_term_inside, laid_counted, laid_inside, take_channel_inside, take_some, can_replace_take, token_taken}
use native.Mathlib.Omega.{arith}
use Rattle.move_tokens.proofs.takes.take_by.Goals as goal

pub offset_bounds-index-position : goal.offset_bounds-index-position
offset_bounds-index-position c = omega (arith, take_position _ _ _ _ _ c.requires.can_take)

pub bounds-index-position : goal.bounds-index-position
bounds-index-position c = omega (arith, take_position _ _ _ _ _ c.requires.can_take)

pub overflow_add-term : goal.overflow_add-term
overflow_add-term c = omega (arith, take_body_inside _ _ _ _ _ c.requires.can_take)

pub bounds-hall-begin : goal.bounds-hall-begin
bounds-hall-begin c = search take_body_inside

pub first_at-requires : goal.first_at-requires
first_at-requires c = search take_term_inside

pub bounds-hall-channel : goal.bounds-hall-channel
bounds-hall-channel c = search take_channel_inside

pub overflow_sub-hall : goal.overflow_sub-hall
overflow_sub-hall c = let some = take_some _ _ _ _ _ _ _ _ c.from.ensures c.first_at.ensures c.from-channel.ensures c.requires.can_take in omega arith

pub bounds-hall-channel-2 : goal.bounds-hall-channel-2
bounds-hall-channel-2 c = search take_channel_inside

pub slice_bounds-replace_component-end : goal.slice_bounds-replace_component-end
slice_bounds-replace_component-end c = laid_inside _ _ _ _ _ c.requires.can_take _ _ c.write_successors-end.ensures

pub slice_bounds-replace_component-end-2 : goal.slice_bounds-replace_component-end-2
slice_bounds-replace_component-end-2 c = laid_counted _ _ _ _ _ c.requires.can_take _ _ c.write_successors-end.ensures

pub replace_component-requires : goal.replace_component-requires
replace_component-requires c = can_replace_take _ _ _ _ _ _ _ _ c.from.ensures c.first_at.ensures c.from-channel.ensures c.requires.can_take _ _ c.write_successors-end.ensures

pub returns : goal.returns
returns c = search token_taken
