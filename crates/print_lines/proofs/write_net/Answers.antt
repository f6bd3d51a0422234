-- Writing a net behind a space meets its contract.
-- Assumes nothing.
use Rattle.std.proofs.Common.{rules}
use Rattle.print_lines.proofs.LinePieces.{space_fits, net_fits, net_written}
use Rattle.print_lines.proofs.write_net.Goals as goal

pub byte-requires : goal.byte-requires
byte-requires c = search space_fits

pub signed-requires : goal.signed-requires
signed-requires c = search (net_fits, rules)

pub returns : goal.returns
returns c = search (net_written, rules)
