-- Each read goes on where the last one ended. Assumes nothing.
use borrow.Author.Rules.{rules}
use borrow.Rule.Slice.PartMut.{put_mid}
use Rattle.std.proofs.Common.{◌≡◌, ◌-◌, length, arith}
use Rattle.std.proofs.KnownBytes.{Consumes-trans}
use Rattle.program_stdin.proofs.FullReads.{read_on}
use Rattle.program_stdin.proofs.read_full.Goals as goal

pub loop-n-preserved : goal.loop-n-preserved
loop-n-preserved g c =
    let as_long : length (put_mid c.loop-n.n (length c.loop-n.buffer - c.loop-n.n) c.loop-n.buffer c.read.new.buf) ≡ length c.loop-n.buffer = search rules in record {
      inside = omega (arith, c.in_ok-some.ensures.bound.0, c.read.auto.buf);
      as_long = search rules;
      consumed =
          rw (read_on c.loop-n.n _ c.in_ok-some.some c.loop-n.buffer c.read.new.buf c.loop-n.invariant.inside c.in_ok-some.ensures.bound.0)
          (Consumes-trans _ _ _ _ _ c.loop-n.invariant.consumed c.in_ok-some.ensures.bytes.0);
    }
