-- The bytes of a log, each held against its limit.
-- Assumes nothing.
use Prim.Native.Nat.{ℕ, ◌+◌, ◌-◌, ◌≤◌, ◌<◌}
use native.Mathlib.Omega.{arith}
use mathlib.Core.Path.{◌≡◌, refl, sym, ◌∙◌}
use mathlib.Core.Bool.{Bool, true, false, cond, ◌&&◌}
use mathlib.Core.List.{List}
use lib.ListN.{length, get_or, take, drop}
use lib.Dec.{leb, ltb}
use borrow.Author.Tests.{ltb-true, ltb-false, lt-ltb, le-ltb, le-leb, lt-leb}
use Rattle.hall_layout.specs.Layout.{action_bytes, log_size}
use Rattle.hall_laws.specs.ReadParts.{is_log}
use Rattle.hall_laws.proofs.ReadLeaves.{limit_at, log_from, log_start, log_next, log_end}
use Rattle.hall_nodes.specs.NodeTests.{zeros_place, place_limit}

pub limit_of_action : (place : ℕ) → place < zeros_place → action_bytes - 1 ≡ place_limit place
unfolding place_limit
limit_of_action place h = rw (lt-ltb place zeros_place h)

pub limit_of_zero : (place : ℕ) → zeros_place ≤ place → 0 ≡ place_limit place
unfolding place_limit
limit_of_zero place h = rw (le-ltb place zeros_place h)

-- the limit at the place of byte number i of a log of this size: what may stand there is below the next number
limit_there : (size i : ℕ) → size ≤ log_size → i < log_size → place_limit (zeros_place - size + i) + 1 ≡ limit_at size i
unfolding limit_at place_limit
limit_there size i h l = go (ltb i size) refl
  where
    go : (b : Bool) → ltb i size ≡ b → place_limit (zeros_place - size + i) + 1 ≡ cond b action_bytes 1
    go true e = let m = ltb-true i size e in rw (lt-ltb (zeros_place - size + i) zeros_place (omega arith))
    go false e = let m = ltb-false i size e in rw (le-ltb (zeros_place - size + i) zeros_place (omega arith))

-- none of the first i bytes was wrong, and the rest is in order: so are all
module _ (s : List ℕ) (at size : ℕ) where
  unfoldable pub LogSoFar : (fits : Bool) (i : ℕ) → Type 0
  LogSoFar fits i = is_log size (take log_size (drop at s)) ≡ (fits && log_from s at size i)

  pub log_begun : LogSoFar true 0
  unfolding LogSoFar
  log_begun = log_start s at size

  -- a byte at most its limit is below the next number
  within_limit : (b limit above : ℕ) → limit + 1 ≡ above → leb b limit ≡ ltb b above
  within_limit b limit above n = go (ltb b above) refl
    where
      go : (t : Bool) → ltb b above ≡ t → leb b limit ≡ t
      go true e = let m = ltb-true b above e in le-leb b limit (omega arith)
      go false e = let m = ltb-false b above e in lt-leb b limit (omega arith)

  -- k is the byte's number as an index
  pub log_turn : (i k limit : ℕ) (fits : Bool) → LogSoFar fits i → k ≡ i → limit ≡ place_limit (zeros_place - size + i) →
      size ≤ log_size → at + log_size ≤ length s → i < log_size → LogSoFar (fits && leb (get_or s (at + k) 0) limit) (i + 1)
  unfolding LogSoFar
  log_turn i k limit fits h same p m n l =
      let above : limit + 1 ≡ limit_at size i = rw p (limit_there size i m l) in
      h ∙ rw (log_next s at size i l n, same, within_limit (get_or s (at + i) 0) limit (limit_at size i) above)
      (go fits (ltb (get_or s (at + i) 0) (limit_at size i)) (log_from s at size (i + 1)))
    where
      go : (a b r : Bool) → (a && (b && r)) ≡ ((a && b) && r)
      go true b r = refl
      go false b r = refl

  pub log_done : (i : ℕ) (fits : Bool) → LogSoFar fits i → log_size ≤ i → fits ≡ is_log size (take log_size (drop at s))
  unfolding LogSoFar
  log_done i fits h l = sym (h ∙ rw (log_end s at size i l) (go fits))
    where
      go : (b : Bool) → (b && true) ≡ b
      go true = refl
      go false = refl
