-- Laws of what a log's bytes write and of the bytes that this becomes: one for each turn of the code.
-- Assumes nothing.
use Prim.Native.Nat.{ℕ, ◌+◌, ◌*◌, ◌-◌, ◌≤◌, ◌<◌}
use native.Mathlib.Omega.{arith}
use mathlib.Core.Path.{◌≡◌, refl, sym, ap, ◌∙◌}
use mathlib.Core.Bool.{Bool, true, false, cond}
use mathlib.Core.List.{List, [], ◌∷◌, ◌++◌}
use lib.Dec.{ltb}
use lib.ListN.{length, get_or, take, set, replicate, length-append}
use borrow.Author.Tests.{lt-ltb, le-ltb}
use Rattle.semantics.specs.Definitions.Basics.{padded}
use Rattle.semantics.specs.Definitions.Layout.{max_actions, write_offset, output_kind}
use Rattle.move_logs.specs.Writes.{writes_of, outputs_size, output_bytes}
use Rattle.move_logs.specs.Values.{OutputsAre}
use Rattle.move_logs.proofs.PaddedLists.{padded_two}
use Rattle.move_logs.proofs.Needs.{one_more}

-- ---- one action more

-- a read
writes_read : (bs : List ℕ) (b : ℕ) → b < write_offset → writes_of (bs ++ (b ∷ [])) ≡ writes_of bs
unfolding writes_of
writes_read [] b h = rw (lt-ltb b write_offset h)
writes_read (c ∷ bs) b h = go (ltb c write_offset) (writes_read bs b h)
  where
    go : (t : Bool) → writes_of (bs ++ (b ∷ [])) ≡ writes_of bs →
        cond t (writes_of (bs ++ (b ∷ []))) ((c - write_offset) ∷ writes_of (bs ++ (b ∷ [])))
        ≡ cond t (writes_of bs) ((c - write_offset) ∷ writes_of bs)
    go true e = e
    go false e = ap (◌∷◌ (c - write_offset)) e

-- a write
writes_write : (bs : List ℕ) (b : ℕ) → write_offset ≤ b →
    writes_of (bs ++ (b ∷ [])) ≡ writes_of bs ++ ((b - write_offset) ∷ [])
unfolding writes_of
writes_write [] b h = rw (le-ltb b write_offset h)
writes_write (c ∷ bs) b h = go (ltb c write_offset) (writes_write bs b h)
  where
    w : List ℕ
    w = (b - write_offset) ∷ []

    go : (t : Bool) → writes_of (bs ++ (b ∷ [])) ≡ writes_of bs ++ w →
        cond t (writes_of (bs ++ (b ∷ []))) ((c - write_offset) ∷ writes_of (bs ++ (b ∷ [])))
        ≡ cond t (writes_of bs) ((c - write_offset) ∷ writes_of bs) ++ w
    go true e = e
    go false e = ap (◌∷◌ (c - write_offset)) e

-- ---- bytes

output_append : (xs ys : List ℕ) → output_bytes (xs ++ ys) ≡ output_bytes xs ++ output_bytes ys
unfolding output_bytes
output_append [] ys = refl
output_append (x ∷ xs) ys = ap (λ (l : List ℕ). output_kind ∷ x ∷ l) (output_append xs ys)

pub output_length : (xs : List ℕ) → length (output_bytes xs) ≡ length xs * 2
unfolding output_bytes
output_length [] = refl
output_length (x ∷ xs) = let e = output_length xs in omega arith

-- ---- turns: the first i bytes of a log were seen

-- bytes and a number that are the outputs of these channels
abbrev pub OutputsSoFar : List ℕ → ℕ → List ℕ → Type 0
OutputsSoFar bytes count ws = OutputsAre (record { bytes = bytes; count = count }) ws

-- one more output
abbrev more : List ℕ → ℕ → ℕ → List ℕ
more bytes count a = set (set bytes (count * 2) output_kind) (count * 2 + 1) a

outputs_more : (bytes : List ℕ) (count : ℕ) (ws : List ℕ) (a : ℕ) → OutputsSoFar bytes count ws → length ws < max_actions →
    OutputsSoFar (more bytes count a) (count + 1) (ws ++ (a ∷ []))
unfolding output_bytes
outputs_more bytes count ws a h l =
    let n = h.counted in
    let k : length (output_bytes ws) ≡ count * 2 = output_length ws ∙ ap (λ (j : ℕ). j * 2) (sym n) in
    let p = padded_two outputs_size (output_bytes ws) output_kind a (count * 2) k (omega arith) in
    record { counted = rw (n, length-append ws (a ∷ [])) refl; bytes = rw (h.bytes, output_append ws (a ∷ [])) p }

pub outputs_start : OutputsSoFar (replicate outputs_size 0) 0 (writes_of [])
unfolding output_bytes padded writes_of
outputs_start = record { counted = refl; bytes = refl }

module _ (log : List ℕ) (i : ℕ) (bytes : List ℕ) (count b : ℕ) (sofar : OutputsSoFar bytes count (writes_of (take i log)))
    (byte : b ≡ get_or log i 0) (further : i < length log) where
  next : take (i + 1) log ≡ take i log ++ (b ∷ [])
  next = rw byte (one_more log i (omega arith))

  pub outputs_read : b < write_offset → OutputsSoFar bytes count (writes_of (take (i + 1) log))
  outputs_read h = rw (next, writes_read (take i log) b h) sofar

  pub outputs_written : write_offset ≤ b → length log ≤ max_actions → count ≤ i →
      OutputsSoFar (more bytes count (b - write_offset)) (count + 1) (writes_of (take (i + 1) log))
  outputs_written h k l =
      let n = sofar.counted in
      let p = outputs_more bytes count (writes_of (take i log)) (b - write_offset) sofar (omega arith) in
      rw (next, writes_write (take i log) b h) p
