-- `occupant_at` meets its contract. Assumes nothing.
use Rattle.choice_act.proofs.Occupancy.{kind_inside, body_inside, body_fits, nothing_read, transaction_read, output_read, waiting_term, block_read, take_read}
use Rattle.choice_act.proofs.occupants.occupant_at.Goals as goal

pub returns-then-index-position : goal.returns-then-index-position
returns-then-index-position c = search nothing_read

pub bounds-hall-begin : goal.bounds-hall-begin
bounds-hall-begin c = search kind_inside

pub returns-then-kind-eq-KIND_TRANSACTION : goal.returns-then-kind-eq-KIND_TRANSACTION
returns-then-kind-eq-KIND_TRANSACTION c = search transaction_read

pub overflow_add-body : goal.overflow_add-body
overflow_add-body c = search body_fits

pub bounds-hall-begin-2 : goal.bounds-hall-begin-2
bounds-hall-begin-2 c = search body_inside

pub returns-then-kind-eq-KIND_OUTPUT : goal.returns-then-kind-eq-KIND_OUTPUT
returns-then-kind-eq-KIND_OUTPUT c = search output_read

pub kind_at-requires : goal.kind_at-requires
kind_at-requires c = search waiting_term

pub returns-then-kind_at-eq-ATOM : goal.returns-then-kind_at-eq-ATOM
returns-then-kind_at-eq-ATOM c = search block_read

pub returns : goal.returns
returns c = search take_read
