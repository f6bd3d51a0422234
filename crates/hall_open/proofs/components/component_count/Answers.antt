-- `component_count` meets its contract. Assumes nothing.
use native.Mathlib.Omega.{arith}
use Rattle.hall_open.proofs.Opening.{process_fits, opened_counted}
use Rattle.hall_open.proofs.components.component_count.Goals as goal

pub write_components-requires : goal.write_components-requires
write_components-requires c = process_fits _ _ _ _ c.requires (omega arith)

pub returns : goal.returns
returns c = search opened_counted
