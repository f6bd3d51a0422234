-- `tell_turn` meets its contract: what a turn answers is told as numbers.
-- Assumes nothing.
use Rattle.answers.proofs.TurnCases.{turn_laid_holds, turn_laid_nothing, turn_past, turn_turned_down}
use Rattle.answers.proofs.turns.tell_turn.Goals as goal

pub returns-in-Some-laid : goal.returns-in-Some-laid
returns-in-Some-laid c = search turn_laid_holds

pub returns-in-None-laid : goal.returns-in-None-laid
returns-in-None-laid c = search turn_laid_nothing

pub returns-in-None : goal.returns-in-None
returns-in-None c = search turn_past

pub returns-in-Err : goal.returns-in-Err
returns-in-Err c = search turn_turned_down
