-- `take` meets its contract. Assumes nothing.
use Rattle.move_tokens.proofs.TokenTakes.{take_position, take_body_inside, take_term_inside, continuation_inside, can_write_many, can_write_few}
use native.Mathlib.Omega.{arith}
use borrow.Author.Rules.{rules}
use Rattle.move_tokens.proofs.takes.take.Goals as goal

pub offset_bounds-index-position : goal.offset_bounds-index-position
offset_bounds-index-position c = omega (arith, take_position _ _ _ _ _ c.requires)

pub bounds-index-position : goal.bounds-index-position
bounds-index-position c = omega (arith, take_position _ _ _ _ _ c.requires)

pub overflow_add-begin : goal.overflow_add-begin
overflow_add-begin c = omega (arith, take_body_inside _ _ _ _ _ c.requires)

pub bounds-hall-begin : goal.bounds-hall-begin
bounds-hall-begin c = search take_body_inside

pub second_at-requires : goal.second_at-requires
second_at-requires c = search take_term_inside

pub kind_at-requires : goal.kind_at-requires
kind_at-requires c = search continuation_inside

pub take_by-requires-clause-can_write_successors : goal.take_by-requires-clause-can_write_successors
take_by-requires-clause-can_write_successors c =
    can_write_many _ _ _ _ _ c.requires _ _ _ c.from-term.ensures c.second_at.ensures c.from-continuation.ensures _ (search rules)

pub take_by-requires-else-kind_at-eq-PAR-clause-can_write_successors : goal.take_by-requires-else-kind_at-eq-PAR-clause-can_write_successors
take_by-requires-else-kind_at-eq-PAR-clause-can_write_successors c =
    can_write_few _ _ _ _ _ c.requires _ _ _ c.from-term.ensures c.second_at.ensures c.from-continuation.ensures _ c.kind_at.ensures c.if-kind_at-eq-PAR.false _ (search rules)
