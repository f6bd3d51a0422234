-- `term_kind` meets its contract. Assumes nothing.
use Rattle.hall_check.proofs.ComponentScans.{kind_there, kind_none}
use Rattle.hall_check.proofs.term_kind.Goals as goal

pub returns-then-i-n : goal.returns-then-i-n
returns-then-i-n c = search kind_there

pub returns : goal.returns
returns c = search kind_none
