-- `clear` meets its contract: the part is filled with zeros. Assumes nothing.
use Prim.Native.Nat.{ℕ, ◌+◌, ◌-◌}
use native.Mathlib.Omega.{arith}
use mathlib.Core.Path.{◌≡◌, ◌∙◌, ap, sym}
use lib.ListN.{length, take, drop, replicate, length-take, length-drop, length-replicate}
use Rattle.std.proofs.lemmas.Slice.{put_mid-paste}
use Rattle.buffer.specs.Splice.{written}
use Rattle.buffer.proofs.clear.Goals as goal

pub returns : goal.returns
unfolding written
returns c =
    let k = c.args.at + c.args.n - c.args.at in
    let part : length (take k (drop c.args.at c.args.s.now)) ≡ c.args.n = simp (length-take, length-drop) (omega arith) in
    let filled : c.fill.new.self ≡ replicate c.args.n 0 =
    c.fill.ensures.after (λ y same. same) ∙ ap (λ (m : ℕ). replicate m 0) part in
    put_mid-paste _ _ _ _ (replicate c.args.n 0) _ filled (omega arith) (sym (length-replicate c.args.n 0))
