-- `show_turn` meets its contract. Assumes nothing.
use native.Mathlib.Omega.{arith}
use mathlib.Core.Path.{refl}
use Rattle.hall_open.proofs.Opening.{process_fits}
use Rattle.hall_open.proofs.ShownTurns.{can_show, room_shown, past_shown, nothing_shown, component_shown}
use borrow.Author.Rules.{rules}
use Rattle.hall_open.proofs.turns.show_turn.Goals as goal

pub make_turns-before-requires-clause-can_write_components : goal.make_turns-before-requires-clause-can_write_components
make_turns-before-requires-clause-can_write_components c = process_fits _ _ _ _ c.requires (omega arith)

pub returns-then-before-eq0 : goal.returns-then-before-eq0
returns-then-before-eq0 c = search past_shown

pub turn-made-requires : goal.turn-made-requires
turn-made-requires c = can_show _ _ _ _ _ _ _ _ _ _ _ c.make_turns-before.ensures c.requires (omega arith) (search rules)

pub returns-then-made-at : goal.returns-then-made-at
returns-then-made-at c = search nothing_shown

pub bounds-laid-at : goal.bounds-laid-at
bounds-laid-at c = let room = room_shown _ _ _ _ _ _ _ _ _ _ _ c.make_turns-before.ensures c.requires (omega arith) (search rules) in omega arith

pub overflow_add-station : goal.overflow_add-station
overflow_add-station c = let room = room_shown _ _ _ _ _ _ _ _ _ _ _ c.make_turns-before.ensures c.requires (omega arith) (search rules) in record { fits = omega arith }

pub bounds-laid-at-2 : goal.bounds-laid-at-2
bounds-laid-at-2 c = let room = room_shown _ _ _ _ _ _ _ _ _ _ _ c.make_turns-before.ensures c.requires (omega arith) (search rules) in omega arith

pub returns : goal.returns
returns c = let room = room_shown _ _ _ _ _ _ _ _ _ _ _ c.make_turns-before.ensures c.requires (omega arith) (search rules) in
    component_shown _ _ _ _ _ _ _ _ _ _ _ c.make_turns-before.ensures (search rules) _ _ _ _ _ _ c.turn-made.ensures (search rules) (omega arith) _ refl _ refl
