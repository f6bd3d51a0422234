-- `write_opening` meets its contract: the counts, then the components, then zeros. Assumes nothing.
use native.Mathlib.Omega.{arith}
use mathlib.Core.Path.{refl}
use Rattle.hall_open.proofs.Opening.{process_fits, components_inside, opening_written}
use Rattle.hall_open.proofs.write_opening.Goals as goal

pub write_components-end-requires : goal.write_components-end-requires
write_components-end-requires c = process_fits _ _ _ _ c.requires.a_process (omega arith)

pub overflow_sub-rest : goal.overflow_sub-rest
overflow_sub-rest c = let h = components_inside _ _ _ _ _ c.requires.a_process c.write_components-end.ensures (omega arith) in omega arith

pub clear-requires : goal.clear-requires
clear-requires c = let h = components_inside _ _ _ _ _ c.requires.a_process c.write_components-end.ensures (omega arith) in omega arith

pub returns : goal.returns
returns c = opening_written _ _ _ _ _ _ _ _ refl c.requires.hall_len c.write_at.ensures c.write_components-end.ensures c.clear.ensures (omega arith)
