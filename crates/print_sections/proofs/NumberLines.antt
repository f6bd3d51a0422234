-- Lines of one, two or three numbers, and how long they are.
-- Assumes nothing.
use Prim.Native.Nat.{ℕ, zero, suc, ◌+◌, ◌-◌, ◌≤◌, ◌<◌}
use native.Mathlib.Omega.{arith}
use mathlib.Core.Path.{◌≡◌}
use mathlib.Core.Bool.{Bool, true, false, cond}
use mathlib.Core.List.{[], ◌∷◌, flatten}
use lib.ListN.{length, length-append}
use lib.IntN.{pos, negsuc}
use lib.Dec.{ltb}
use Rattle.semantics.specs.Definitions.Run.{net}
use Rattle.semantics.specs.Definitions.Report.{decimal, signed, line, channel_line}
use Rattle.print_lines.specs.Lines.{number_line}
use Rattle.theorems.proofs.Decimals.{decimal_short}

module _ (letter a b c : ℕ) where
  pub one_length : length (number_line letter (a ∷ [])) ≡ 3 + length (decimal a)
  unfolding number_line line flatten
  one_length = simp length-append (omega arith)

  pub two_length : length (number_line letter (a ∷ b ∷ [])) ≡ 4 + length (decimal a) + length (decimal b)
  unfolding number_line line flatten
  two_length = simp length-append (omega arith)

  pub three_length : length (number_line letter (a ∷ b ∷ c ∷ []))
      ≡ 5 + length (decimal a) + length (decimal b) + length (decimal c)
  unfolding number_line line flatten
  three_length = simp length-append (omega arith)

-- ---- a byte, and a net

pub byte_short : (n : ℕ) → n < 256 → length (decimal n) ≤ 3
byte_short n l = decimal_short 2 n (omega arith)

pub net_short : (f l : ℕ) → f < 256 → l < 256 → length (signed (net f l)) ≤ 4
unfolding signed net
net_short zero l p q = let n = byte_short l q in let z : l + 0 ≡ l = omega arith in rw z (omega arith)
net_short (suc f) l p q = go (ltb l (suc f))
  where
    go : (b : Bool) → length (signed (cond b (negsuc (suc f - suc l)) (pos (l - suc f)))) ≤ 4
    go true = let n = byte_short (suc (suc f - suc l)) (omega arith) in omega arith
    go false = let n = byte_short (l - suc f) (omega arith) in omega arith

pub channel_length : (i f l : ℕ) → i < 16 → f < 256 → l < 256 → length (channel_line i f l) ≤ 18
unfolding channel_line line flatten
channel_length i f l p q r =
    let a = decimal_short 1 i (omega arith) in
    let b = byte_short f q in
    let c = net_short f l q r in
    let d = byte_short l r in simp length-append (omega arith)
