-- Writing a signed number meets its contract.
-- Assumes nothing.
use Rattle.std.proofs.Common.{rules}
use Rattle.print_decimals.proofs.SignedNumbers.{sign_room, sign_written, no_sign, digits_room, signed_written}
use Rattle.print_decimals.proofs.Page.signed.Goals as goal
use Rattle.print_decimals.proofs.Page.signed.Goals.{then-n-lt0, else-n-lt0}

pub byte-requires : goal.byte-requires
byte-requires c = search (sign_room, rules)

pub decimal-requires : goal.decimal-requires
decimal-requires c = elim c.if-n-lt0.branch [
  | then-n-lt0 w ↦ digits_room c.args.self.now c.args.n c.ranges.n c.requires c.if-n-lt0.self (search (sign_written, rules)) _ _ c.from.ensures c.unsigned_abs.ensures.value
  | else-n-lt0 w ↦ digits_room c.args.self.now c.args.n c.ranges.n c.requires c.if-n-lt0.self (search (no_sign, rules)) _ _ c.from.ensures c.unsigned_abs.ensures.value
]

pub returns : goal.returns
returns c = elim c.if-n-lt0.branch [
  | then-n-lt0 w ↦ search (signed_written, sign_written, rules)
  | else-n-lt0 w ↦ search (signed_written, no_sign, rules)
]
