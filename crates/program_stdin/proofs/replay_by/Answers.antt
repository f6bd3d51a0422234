-- The text of what was read is that of all that the reader has. Assumes nothing.
use Rattle.std.proofs.Common.{length}
use Rattle.program_stdin.proofs.WrittenParts.{written_part, replayed}
use Rattle.program_stdin.proofs.replay_by.Goals as goal

pub returns : goal.returns
returns g c =
    let text = written_part _ _ _ _ c.report-length.ensures.equation in
    replayed c.write_all.result _ _ _ (length c.args.bytes.now) _ _ c.in_ok-n.ensures.bytes text
    c.write_all.ensures.bytes c.requires
