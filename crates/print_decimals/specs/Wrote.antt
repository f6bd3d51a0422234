-- Bytes written from an offset on.
-- Assumes nothing.
use Rattle.std.specs.Prelude.{ℕ, ◌+◌, ◌≡◌, List, length}
use Rattle.buffer.specs.Splice.{written}

-- v stands from an offset on, up to another, and all else is as it was
pub record Wrote (before : List ℕ) (from : ℕ) (v : List ℕ) (after : List ℕ) (to : ℕ) : Type 0 where
  pub end : to ≡ from + length v
  pub bytes : after ≡ written before from v (length v)
