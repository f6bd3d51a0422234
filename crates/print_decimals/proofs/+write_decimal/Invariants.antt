-- The measure of writing a number's digits is the number, which falls to its tenth. Assumes nothing.
use Rattle.print_decimals.proofs.+write_decimal.Given as goal

abbrev pub decreases-write_decimal : goal.decreases-write_decimal
decreases-write_decimal l = l.n
