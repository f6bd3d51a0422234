-- Laws of what a log's bytes need: one for each turn of the code, and how often each channel is needed.
-- Assumes nothing.
use Prim.Native.Nat.{ℕ, ◌+◌, ◌-◌, ◌≤◌, ◌<◌}
use native.Mathlib.Omega.{arith}
use native.Mathlib.Numerals.{add-one}
use native.Mathlib.Decide.{ℕ_discrete}
use mathlib.Core.Path.{◌≡◌, refl, ◌∙◌}
use mathlib.Core.Logic.{◌≢◌}
use mathlib.Core.Bool.{Bool, true, false, cond}
use mathlib.Core.List.{List, [], ◌∷◌, ◌++◌}
use lib.Dec.{ltb, eqb}
use lib.ListN.{length, get_or, take, drop, set, replicate, length-drop, length-set}
use lib.Seq.{take-suc, take_all, get_or-set_same, get_or-set_other}
use borrow.Author.Tests.{lt-ltb, le-ltb, ltb-true, ltb-false}
use Rattle.calculus.specs.State.{same, occurrences}
use Rattle.calculus.proofs.States.{same_self, same_other}
use Rattle.semantics.specs.Definitions.Layout.{channels}
use Rattle.buffer.proofs.Written.{get_d_zeros}
use Rattle.move_logs.specs.Needs.{also_needed, needing, needs_from, needs_of}

-- ---- one action more

-- the bytes of a log as the code cuts them out
pub log_is : (s : List ℕ) (at size : ℕ) → take size (take (length s - at) (drop at s)) ≡ take size (drop at s)
log_is s at size =
    let e : length (drop at s) ≤ length s - at = rw (length-drop at s) (omega arith) in
    rw (take_all (length s - at) (drop at s) e) refl

-- the bytes of one action more
pub one_more : (log : List ℕ) (i : ℕ) → i < length log → take (i + 1) log ≡ take i log ++ (get_or log i 0 ∷ [])
one_more log i h = rw (add-one i) (take-suc log i 0 h)

needs_snoc : (need bs : List ℕ) (b : ℕ) → needs_from need (bs ++ (b ∷ [])) ≡ needing (needs_from need bs) b
unfolding needs_from
needs_snoc need [] b = refl
needs_snoc need (c ∷ bs) b = needs_snoc (needing need c) bs b

-- a read
pub also_needed_holds : (bs : List ℕ) (a : ℕ) → a < channels → also_needed (needs_of bs) a ≡ needs_of (bs ++ (a ∷ []))
unfolding needs_of needing
also_needed_holds bs a h = rw (needs_snoc (replicate channels 0) bs a, lt-ltb a channels h)

-- a write
pub none_needed : (bs : List ℕ) (b : ℕ) → channels ≤ b → needs_of bs ≡ needs_of (bs ++ (b ∷ []))
unfolding needs_of needing
none_needed bs b h = rw (needs_snoc (replicate channels 0) bs b, le-ltb b channels h)

-- ---- how often each channel is needed

also_count : (need : List ℕ) (b a : ℕ) → b < length need → get_or (also_needed need b) a 0 ≡ get_or need a 0 + same a b
unfolding also_needed
also_count need b a h = elim (ℕ_discrete a b) [ yes e ↦ equal e | no e ↦ other e ]
  where
    equal : a ≡ b → get_or (set need b (get_or need b 0 + 1)) a 0 ≡ get_or need a 0 + same a b
    equal e = rw (e, same_self b) (get_or-set_same need b (get_or need b 0 + 1) 0 h)

    other : a ≢ b → get_or (set need b (get_or need b 0 + 1)) a 0 ≡ get_or need a 0 + same a b
    other e = let z = same_other a b e in let g = get_or-set_other need b a (get_or need b 0 + 1) 0 e in omega arith

needing_count : (need : List ℕ) (b a : ℕ) → length need ≡ channels → a < channels →
    get_or (needing need b) a 0 ≡ get_or need a 0 + same a b
unfolding needing
needing_count need b a l h = go (ltb b channels) refl
  where
    go : (t : Bool) → ltb b channels ≡ t → get_or (cond t (also_needed need b) need) a 0 ≡ get_or need a 0 + same a b
    go true e = let k = ltb-true b channels e in also_count need b a (omega arith)
    go false e = let k = ltb-false b channels e in let z = same_other a b (λ q. omega arith) in omega arith

needing_length : (need : List ℕ) (b : ℕ) → length (needing need b) ≡ length need
unfolding needing also_needed
needing_length need b = go (ltb b channels)
  where
    go : (t : Bool) → length (cond t (set need b (get_or need b 0 + 1)) need) ≡ length need
    go true = length-set need b (get_or need b 0 + 1)
    go false = refl

needs_length : (need bs : List ℕ) → length (needs_from need bs) ≡ length need
unfolding needs_from
needs_length need [] = refl
needs_length need (b ∷ bs) = needs_length (needing need b) bs ∙ needing_length need b

from_count : (need bs : List ℕ) (a : ℕ) → length need ≡ channels → a < channels →
    get_or (needs_from need bs) a 0 ≡ get_or need a 0 + occurrences a bs
unfolding needs_from occurrences
from_count need [] a l h = omega arith
from_count need (b ∷ bs) a l h =
    let p = from_count (needing need b) bs a (needing_length need b ∙ l) h in
    let q = needing_count need b a l h in omega arith

-- as often as it stands among the bytes
pub needs_count : (bs : List ℕ) (a : ℕ) → a < channels → get_or (needs_of bs) a 0 ≡ occurrences a bs
unfolding needs_of
needs_count bs a h =
    let z = get_d_zeros channels a in
    let p = from_count (replicate channels 0) bs a refl h in omega arith

pub needs_sixteen : (bs : List ℕ) → length (needs_of bs) ≡ channels
unfolding needs_of
needs_sixteen bs = needs_length (replicate channels 0) bs

pub snoc_count : (bs : List ℕ) (b a : ℕ) → a < channels →
    get_or (needs_of (bs ++ (b ∷ []))) a 0 ≡ get_or (needs_of bs) a 0 + same a b
unfolding needs_of
snoc_count bs b a h = rw (needs_snoc (replicate channels 0) bs b) (needing_count (needs_of bs) b a (needs_sixteen bs) h)

same_one : (a b : ℕ) → same a b ≤ 1
unfolding same
same_one a b = go (eqb a b)
  where
    go : (t : Bool) → cond t 1 0 ≤ 1
    go true = omega arith
    go false = omega arith

occurrences_few : (a : ℕ) (bs : List ℕ) → occurrences a bs ≤ length bs
unfolding occurrences
occurrences_few a [] = omega arith
occurrences_few a (b ∷ bs) = let p = occurrences_few a bs in let q = same_one a b in omega arith

pub needs_few : (bs : List ℕ) (a : ℕ) → a < channels → get_or (needs_of bs) a 0 ≤ length bs
needs_few bs a h = let p = needs_count bs a h in let q = occurrences_few a bs in omega arith

-- ---- turns: the first i bytes of a log were seen

pub needs_start : replicate channels 0 ≡ needs_of []
unfolding needs_of needs_from
needs_start = refl

-- of 16 bytes and one more no channel is needed more often than a byte can say
pub needs_fit : (bs need : List ℕ) (a w : ℕ) → need ≡ needs_of bs → length bs ≤ 16 → w ≡ a → a < channels → get_or need w 0 + 1 < 256
needs_fit bs need a w e k q l = let p = needs_few bs a l in rw (e, q) (omega arith)

-- one action more, at its place as an index
pub also_read : (bs need : List ℕ) (a w : ℕ) → need ≡ needs_of bs → w ≡ a → a < channels →
    set need w (get_or need w 0 + 1) ≡ needs_of (bs ++ (a ∷ []))
unfolding also_needed
also_read bs need a w e q h = rw (q, e) (also_needed_holds bs a h)

pub also_written : (bs need : List ℕ) (a : ℕ) → need ≡ needs_of bs → channels ≤ a → need ≡ needs_of (bs ++ (a ∷ []))
also_written bs need a e h = e ∙ none_needed bs a h

module _ (log : List ℕ) (i : ℕ) (need : List ℕ) (b : ℕ) (sofar : need ≡ needs_of (take i log))
    (byte : b ≡ get_or log i 0) (further : i < length log) where
  pub needs_read : (w : ℕ) → w ≡ b → b < channels → set need w (get_or need w 0 + 1) ≡ needs_of (take (i + 1) log)
  needs_read w q h = rw (one_more log i further, ← byte) (also_read (take i log) need b w sofar q h)

  pub needs_write : channels ≤ b → need ≡ needs_of (take (i + 1) log)
  needs_write h = rw (one_more log i further, ← byte) (also_written (take i log) need b sofar h)
