-- Laws of what reads are short of at stored counts: found channel by channel from what is needed, and as the definitions say.
-- Assumes nothing.
use Prim.Native.Nat.{ℕ, ◌+◌, ◌-◌, ◌≤◌, ◌<◌}
use native.Mathlib.Omega.{arith}
use native.Mathlib.Decide.{dec_lt}
use mathlib.Core.Path.{◌≡◌, refl, sym, ◌∙◌}
use mathlib.Core.Bool.{Bool, true, false, cond}
use mathlib.Core.List.{List, [], ◌∷◌, ◌++◌}
use lib.Dec.{ltb}
use lib.ListN.{get_or, drop}
use lib.Seq.{get_or-take, get_or-drop}
use borrow.Author.Tests.{ltb-true, ltb-false}
use Rattle.std.specs.Prelude.{Option, Some, None}
use Rattle.calculus.specs.State.{count, same, occurrences, Included}
use Rattle.calculus.proofs.States.{same_other}
use Rattle.semantics.specs.Definitions.Layout.{channels, write_offset}
use Rattle.semantics.specs.Definitions.Shortage.{enough, short}
use Rattle.theorems.proofs.Shortages.{found_is}
use Rattle.answers.specs.declared.replies.Short.{Short}
use Rattle.answers.specs.Answers.{shortage_of}
use Rattle.move_logs.specs.Needs.{reads_of, counts_in, short_at, needs_of, within_at}
use Rattle.move_logs.specs.Values.{LowestFound}
use Rattle.move_logs.proofs.Needs.{needs_count, none_needed}
use Rattle.move_logs.proofs.NeedsAndCounts.{covered}

-- ---- reads

-- a channel is read as often as it stands among the bytes, and nothing else is read
reads_count : (bs : List ℕ) (a : ℕ) → a < channels → occurrences a (reads_of bs) ≡ occurrences a bs
unfolding occurrences reads_of
reads_count [] a h = refl
reads_count (b ∷ bs) a h = go (ltb b write_offset) refl (reads_count bs a h)
  where
    go : (t : Bool) → ltb b write_offset ≡ t → occurrences a (reads_of bs) ≡ occurrences a bs →
        occurrences a (cond t (b ∷ reads_of bs) (reads_of bs)) ≡ same a b + occurrences a bs
    go true e rest = omega arith
    go false e rest =
        let k = ltb-false b write_offset e in let z = same_other a b (λ q. omega arith) in omega arith

reads_none : (bs : List ℕ) (a : ℕ) → channels ≤ a → occurrences a (reads_of bs) ≡ 0
unfolding occurrences reads_of
reads_none [] a h = refl
reads_none (b ∷ bs) a h = go (ltb b write_offset) refl (reads_none bs a h)
  where
    go : (t : Bool) → ltb b write_offset ≡ t → occurrences a (reads_of bs) ≡ 0 → occurrences a (cond t (b ∷ reads_of bs) (reads_of bs)) ≡ 0
    go true e rest = let k = ltb-true b write_offset e in let z = same_other a b (λ q. omega arith) in omega arith
    go false e rest = rest

-- the needs of bytes are their reads, channel by channel
needs_reads : (bs : List ℕ) (a : ℕ) → a < channels → get_or (needs_of bs) a 0 ≡ occurrences a (reads_of bs)
needs_reads bs a h = needs_count bs a h ∙ sym (reads_count bs a h)

-- ---- counts

counts_read : (s : List ℕ) (k a : ℕ) → a < channels → count (counts_in s k) a ≡ get_or s (k + a) 0
counts_read s k a h = get_or-take channels (drop k s) a 0 h ∙ get_or-drop k s a 0

-- ---- enough

-- where every channel has what is needed of it nothing is short
all_enough : (bs s : List ℕ) (k : ℕ) → ((a : ℕ) → a < channels → get_or (needs_of bs) a 0 ≤ get_or s (k + a) 0) →
    shortage_of None ≡ short_at bs s k
unfolding shortage_of short_at Included
all_enough bs s k f = sym (found_is (reads_of bs) (counts_in s k) enough (λ a. elim (dec_lt a channels) [
  | yes h ↦ (let n = needs_reads bs a h in let c = counts_read s k a h in let l = f a h in omega arith)
  | no h ↦ (let z = reads_none bs a (omega arith) in omega arith)
]))

-- where counts suffice nothing is short
pub within_enough : (need s : List ℕ) (k : ℕ) (r : Bool) → r ≡ within_at need s k → r ≡ true → LowestFound None need s k
within_enough need s k r is e =
    let w : within_at need s k ≡ true = sym is ∙ e in
    record { found = λ bs q. all_enough bs s k (λ a h. rw (← q) (covered need s k a w h)) }

-- ---- turns: the channels below i have what is needed of them

pub record EnoughBelow (need s : List ℕ) (k i : ℕ) : Type 0 where
  pub each : (a : ℕ) → a < i → get_or need a 0 ≤ get_or s (k + a) 0

pub none_below : (need s : List ℕ) (k : ℕ) → EnoughBelow need s k 0
none_below need s k = record { each = λ a h. absurd (omega arith) }

module _ (need s : List ℕ) (k i : ℕ) (below : EnoughBelow need s k i) where
  pub enough_next : get_or need i 0 ≤ get_or s (k + i) 0 → EnoughBelow need s k (i + 1)
  enough_next l = record { each = λ a h. elim (dec_lt a i) [ yes x ↦ below.each a x | no x ↦ here a (omega arith) ] }
    where
      here : (a : ℕ) → a ≡ i → get_or need a 0 ≤ get_or s (k + a) 0
      here a q = rw q l

  pub short_here : i < channels → get_or s (k + i) 0 < get_or need i 0 →
      LowestFound (Some (record { channel = i; by = get_or need i 0 - get_or s (k + i) 0 })) need s k
  unfolding shortage_of short_at
  short_here h l = record {
    found = λ bs is.
        let needed : get_or need i 0 ≡ occurrences i (reads_of bs) = rw is (needs_reads bs i h) in
        let there = counts_read s k i h in
        sym (found_is (reads_of bs) (counts_in s k) (short i (get_or need i 0 - get_or s (k + i) 0)) (record {
          lacks = omega arith;
          exact = omega arith;
          none_lower = λ b x.
              let y : get_or need b 0 ≡ occurrences b (reads_of bs) = rw is (needs_reads bs b (omega arith)) in
              let z = counts_read s k b (omega arith) in
              let v = below.each b x in omega arith;
        }));
  }

  pub short_nowhere : channels ≤ i → LowestFound None need s k
  short_nowhere u = record { found = λ bs is. all_enough bs s k (λ a x. rw (← is) (below.each a (omega arith))) }

-- needs that are the same are short of the same
pub lowest_same : (r : Option Short) (need all s : List ℕ) (k : ℕ) → LowestFound r need s k → need ≡ all → LowestFound r all s k
lowest_same r need all s k l e = rw (← e) l

-- what bytes with a write more are short of they are without it
pub lowest_found : (r : Option Short) (bs s : List ℕ) (k : ℕ) → LowestFound r (needs_of (bs ++ (16 ∷ []))) s k → shortage_of r ≡ short_at bs s k
lowest_found r bs s k l = l.found bs (sym (none_needed bs 16 (omega arith)))

pub lowest_with : (r : Option Short) (bs s : List ℕ) (k a : ℕ) → LowestFound r (needs_of (bs ++ (a ∷ []))) s k → shortage_of r ≡ short_at (bs ++ (a ∷ [])) s k
lowest_with r bs s k a l = l.found (bs ++ (a ∷ [])) refl
