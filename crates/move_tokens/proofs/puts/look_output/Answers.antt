-- `look_output` meets its contract. Assumes nothing.
use Rattle.move_tokens.proofs.TokenPuts.{output_inside, full_looked, put_looked}
use Rattle.move_tokens.proofs.puts.look_output.Goals as goal

pub bounds-hall-from : goal.bounds-hall-from
bounds-hall-from c = search output_inside

pub returns-then-hall-from : goal.returns-then-hall-from
returns-then-hall-from c = search full_looked

pub returns : goal.returns
returns c = search put_looked
