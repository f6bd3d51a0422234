use Rattle.std.proofs.Common.{arith}
use Rattle.program_measures.proofs.MeasuredTables.{walkable}
use Rattle.program_measures.proofs.print_terms.Goals as goal

-- each number that the loop passes is that of a term
pub print_term-requires : goal.print_term-requires
print_term-requires g c = walkable _ _ c.requires _ (omega arith)
