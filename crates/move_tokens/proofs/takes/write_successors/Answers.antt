-- `write_successors` meets its contract. Assumes nothing.
use Rattle.move_tokens.proofs.TokenTakes.{write_successors_inside, continuation_fits, behind_fits, take_laid, repeat_laid}
use Rattle.move_tokens.proofs.takes.write_successors.Goals as goal

pub second_at-requires : goal.second_at-requires
second_at-requires c = search write_successors_inside

pub write_components-end-requires : goal.write_components-end-requires
write_components-end-requires c = continuation_fits _ _ _ c.from-i.ensures _ c.requires _ _ c.second_at.ensures
    c.from.ensures

pub kind_at-requires : goal.kind_at-requires
kind_at-requires c = search write_successors_inside

pub write_idle-requires : goal.write_idle-requires
write_idle-requires c = behind_fits _ _ _ c.from-i.ensures _ c.requires _ _ c.second_at.ensures
    c.from.ensures _ _ c.write_components-end.ensures

pub returns-then-repeats : goal.returns-then-repeats
returns-then-repeats c = search repeat_laid

pub returns : goal.returns
returns c = search take_laid
