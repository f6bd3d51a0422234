-- Writing a number's digits meets its contract. Assumes nothing.
use Rattle.std.proofs.Common.{rules}
use Rattle.print_decimals.proofs.Digits.{one_fits, one_written, tenth_fits, last_fits, last_written}
use Rattle.print_decimals.proofs.+write_decimal.Goals as goal

pub write_byte-requires : goal.write_byte-requires
write_byte-requires t c = search one_fits

pub returns-then-n-lt10 : goal.returns-then-n-lt10
returns-then-n-lt10 t c = search one_written

pub write_decimal-end-requires : goal.write_decimal-end-requires
write_decimal-end-requires t c = (search rules, search (tenth_fits, rules))

pub write_byte-requires-2 : goal.write_byte-requires-2
write_byte-requires-2 t c = search (last_fits, rules)

pub returns : goal.returns
returns t c = search (last_written, rules)
