-- `needs_of` meets its contract: before each turn the needs are those of the actions so far. Assumes nothing.
use mathlib.Core.Path.{◌≡◌}
use lib.ListN.{take}
use Rattle.move_logs.specs.Needs.{needs_of}
use Rattle.move_logs.proofs.needs_of.Given as goal

abbrev pub invariant-loop-action : goal.invariant-loop-action
invariant-loop-action l = l.need ≡ needs_of (take l.action-index l.log)
