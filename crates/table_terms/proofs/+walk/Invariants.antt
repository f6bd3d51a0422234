-- The measure of the walk over a term is the term's number, which falls at each call. Assumes nothing.
use Rattle.table_terms.proofs.+walk.Given as goal

abbrev pub decreases-walk : goal.decreases-walk
decreases-walk l = l.at
