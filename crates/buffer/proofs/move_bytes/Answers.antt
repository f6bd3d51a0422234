-- `move_bytes` meets its contract: `copy_within` writes as many elements as there are. Assumes nothing.
use Prim.Native.Nat.{ℕ, ◌+◌, ◌-◌}
use native.Mathlib.Omega.{arith}
use mathlib.Core.Path.{◌≡◌, ap, ◌∙◌}
use lib.ListN.{drop}
use Rattle.buffer.specs.Splice.{written}
use Rattle.buffer.proofs.move_bytes.Goals as goal

pub returns-else-n-le-CHUNK : goal.returns-else-n-le-CHUNK
unfolding written
returns-else-n-le-CHUNK c =
    let m : c.args.from + c.args.n - c.args.from ≡ c.args.n = omega arith in
    c.copy_within.ensures.after ∙ ap (λ (k : ℕ). written c.args.s.now c.args.to (drop c.args.from c.args.s.now) k) m
