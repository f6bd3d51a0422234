-- Laws of the test of reads against counts: what is left of the counts when the reads are taken, turn by turn.
-- Assumes nothing.
use Prim.Native.Nat.{ℕ, zero, suc, ◌+◌, ◌-◌, ◌%◌, ◌≤◌, ◌<◌}
use native.Mathlib.Omega.{arith}
use native.Mathlib.Decide.{ℕ_discrete, dec_lt}
use mathlib.Core.Path.{◌≡◌, refl, sym, ap, ◌∙◌}
use mathlib.Core.Logic.{◌≢◌}
use mathlib.Core.Bool.{Bool, true, false, cond}
use mathlib.Core.List.{List, [], ◌∷◌, ◌++◌}
use lib.Dec.{ltb, leb}
use lib.ListN.{length, get_or, take, drop, set, length-drop}
use lib.Seq.{length-take-le, get_or-take, get_or-drop, get_or-set_same, get_or-set_other, set-get_or}
use borrow.Author.Tests.{lt-ltb, le-ltb, ltb-true, ltb-false, le-leb, lt-leb}
use Rattle.calculus.specs.State.{occurrences}
use Rattle.calculus.proofs.States.{same_self, same_other}
use Rattle.semantics.specs.Definitions.Layout.{channels}
use Rattle.move_logs.specs.Needs.{needs_of, taken_by, within_at}
use Rattle.move_logs.proofs.NeedsAndCounts.{covered, all_covered}
use Rattle.move_logs.proofs.Needs.{one_more, snoc_count, none_needed, needs_count}

-- of each channel, so many are left of the counts at an offset when what these bytes need is taken from them
pub record Leaves (left s : List ℕ) (k : ℕ) (bs : List ℕ) : Type 0 where
  pub each : (a : ℕ) → a < channels → get_or left a 0 + get_or (needs_of bs) a 0 ≡ get_or s (k + a) 0

-- a read takes one, a write none
pub taken_one : (b : ℕ) → b < channels → 1 ≡ taken_by b
unfolding taken_by
taken_one b h = rw (lt-ltb b channels h)

pub taken_none : (b : ℕ) → channels ≤ b → 0 ≡ taken_by b
unfolding taken_by
taken_none b h = rw (le-ltb b channels h)

-- fewer bytes name a channel no more often
fewer : (a : ℕ) (xs : List ℕ) (m : ℕ) → occurrences a (take m xs) ≤ occurrences a xs
unfolding occurrences
fewer a xs zero = omega arith
fewer a [] (suc m) = omega arith
fewer a (x ∷ xs) (suc m) = let p = fewer a xs m in omega arith

module _ (s : List ℕ) (k : ℕ) where
  pub leaves_start : (left : List ℕ) → left ≡ take channels (drop k s) → Leaves left s k []
  unfolding occurrences
  leaves_start left e = record { each = go }
    where
      go : (a : ℕ) → a < channels → get_or left a 0 + get_or (needs_of []) a 0 ≡ get_or s (k + a) 0
      go a h =
          let z = needs_count [] a h in
          let g : get_or left a 0 ≡ get_or s (k + a) 0 = rw e (get_or-take channels (drop k s) a 0 h ∙ get_or-drop k s a 0) in
          omega arith

  pub left_length : (left : List ℕ) → left ≡ take channels (drop k s) → k + channels ≤ length s → length left ≡ channels
  left_length left e h =
      let l : channels ≤ length (drop k s) = rw (length-drop k s) (omega arith) in
      rw e (length-take-le channels (drop k s) l)

  module _ (left bs : List ℕ) (b : ℕ) (l : Leaves left s k bs) where
    leaves_read : b < channels → length left ≡ channels → get_or left b 0 ≢ 0 →
        Leaves (set left b (get_or left b 0 - 1)) s k (bs ++ (b ∷ []))
    leaves_read h e n = record { each = λ a f. elim (ℕ_discrete a b) [ yes q ↦ equal a q | no q ↦ other a f q ] }
      where
        equal : (a : ℕ) → a ≡ b → get_or (set left b (get_or left b 0 - 1)) a 0 + get_or (needs_of (bs ++ (b ∷ []))) a 0 ≡ get_or s (k + a) 0
        equal a q = rw q (
            let p = l.each b h in
            let c = snoc_count bs b b h in
            let o = same_self b in
            let g = get_or-set_same left b (get_or left b 0 - 1) 0 (omega arith) in
            let m : get_or left b 0 ≢ 0 = n in omega arith)

        other : (a : ℕ) → a < channels → a ≢ b → get_or (set left b (get_or left b 0 - 1)) a 0 + get_or (needs_of (bs ++ (b ∷ []))) a 0 ≡ get_or s (k + a) 0
        other a f q =
            let p = l.each a f in
            let c = snoc_count bs b a f in
            let z = same_other a b q in
            let g = get_or-set_other left b a (get_or left b 0 - 1) 0 q in omega arith

    leaves_write : channels ≤ b → Leaves left s k (bs ++ (b ∷ []))
    leaves_write h = record { each = λ a f. rw (← (none_needed bs b h)) (l.each a f) }

    -- none is left, and more is needed
    leaves_none : b < channels → get_or left b 0 ≡ 0 → (more : List ℕ) →
        get_or (needs_of bs) b 0 < get_or (needs_of more) b 0 → false ≡ within_at (needs_of more) s k
    leaves_none h z more f = go (within_at (needs_of more) s k) refl
      where
        go : (t : Bool) → within_at (needs_of more) s k ≡ t → false ≡ t
        go false e = refl
        go true e = let c = covered (needs_of more) s k b e h in let p = l.each b h in absurd (omega arith)

  leaves_enough : (left bs : List ℕ) → Leaves left s k bs → true ≡ within_at (needs_of bs) s k
  leaves_enough left bs l = sym (all_covered (needs_of bs) s k (λ a h. let p = l.each a h in omega arith))

-- ---- turns: the first i bytes of a log were seen

module _ (s log : List ℕ) (k i : ℕ) (left : List ℕ) (b : ℕ) (sofar : Leaves left s k (take i log))
    (byte : b ≡ get_or log i 0) (further : i < length log) where
  left_read : (n : ℕ) → n ≡ get_or left b 0 → n ≢ 0 → b < channels → length left ≡ channels →
      Leaves (set left b (n - 1)) s k (take (i + 1) log)
  left_read n e z h l = rw (one_more log i (omega arith), ← byte, e)
      (leaves_read s k left (take i log) b sofar h l (λ q. z (e ∙ q)))

  left_write : channels ≤ b → Leaves left s k (take (i + 1) log)
  left_write h = rw (one_more log i (omega arith), ← byte) (leaves_write s k left (take i log) b sofar h)

  none_left : (last : ℕ) → get_or left b 0 ≡ 0 → b < channels → false ≡ within_at (needs_of (log ++ (last ∷ []))) s k
  none_left last z h =
      let bs = take i log in
      let p = needs_count bs b h in
      let q = needs_count log b h in
      let r = needs_count (take (i + 1) log) b h in
      let m : get_or (needs_of (take (i + 1) log)) b 0 ≡ get_or (needs_of bs) b 0 + 1 =
      rw (one_more log i (omega arith), ← byte) (snoc_count bs b b h ∙ rw (same_self b)) in
      let f = fewer b log (i + 1) in
      let g = snoc_count log last b h in
      leaves_none s k left bs b sofar h z (log ++ (last ∷ [])) (omega arith)

  -- a read takes one from its channel, and a write none from the channel that it names
  module _ (t w n : ℕ) (takes : t ≡ taken_by b) (index : w ≡ b) (count : n ≡ get_or left (w % channels) 0) where
    pub left_turn : t ≤ n → length left ≡ channels → Leaves (set left (w % channels) (n - t)) s k (take (i + 1) log)
    unfolding taken_by
    left_turn h l = go (ltb b channels) refl takes
      where
        go : (r : Bool) → ltb b channels ≡ r → t ≡ cond r 1 0 →
            Leaves (set left (w % channels) (n - t)) s k (take (i + 1) log)
        go true e f =
            let o = ltb-true b channels e in
            let c : w % channels ≡ b = omega arith in
            rw (c, f) (left_read n (count ∙ rw c) (λ z. omega arith) o l)
        go false e f =
            let o = ltb-false b channels e in
            let c : n - t ≡ get_or left (w % channels) 0 = omega arith in
            rw (c, set-get_or left (w % channels) 0) (left_write (omega arith))

    pub left_none : (last : ℕ) → n < t → false ≡ within_at (needs_of (log ++ (last ∷ []))) s k
    unfolding taken_by
    left_none last h = go (ltb b channels) refl takes
      where
        go : (r : Bool) → ltb b channels ≡ r → t ≡ cond r 1 0 → false ≡ within_at (needs_of (log ++ (last ∷ []))) s k
        go true e f =
            let o = ltb-true b channels e in
            let c : w % channels ≡ b = omega arith in
            none_left last (ap (λ (x : ℕ). get_or left x 0) (sym c) ∙ sym count ∙ omega arith) o
        go false e f = absurd (omega arith)

-- ---- the last action

module _ (s : List ℕ) (k : ℕ) (bs left : List ℕ) (b t w n : ℕ) (l : Leaves left s k bs) (full : length left ≡ channels)
    (takes : t ≡ taken_by b) (index : w ≡ b) (count : n ≡ get_or left (w % channels) 0) where
  pub left_end : leb t n ≡ within_at (needs_of (bs ++ (b ∷ []))) s k
  unfolding taken_by
  left_end = go (ltb b channels) refl takes
    where
      go : (r : Bool) → ltb b channels ≡ r → t ≡ cond r 1 0 → leb t n ≡ within_at (needs_of (bs ++ (b ∷ []))) s k
      go false e f =
          let o = ltb-false b channels e in
          le-leb t n (omega arith) ∙ leaves_enough s k left (bs ++ (b ∷ [])) (leaves_write s k left bs b l o)
      go true e f =
          let o = ltb-true b channels e in
          let c : w % channels ≡ b = omega arith in
          let there : n ≡ get_or left b 0 = count ∙ ap (λ (x : ℕ). get_or left x 0) c in
          elim (dec_lt 0 n) [
            | yes p ↦ le-leb t n (omega arith) ∙ leaves_enough s k (set left b (get_or left b 0 - 1)) (bs ++ (b ∷ []))
                (leaves_read s k left bs b l o full (λ z. omega arith))
            | no p ↦ (
                let m = snoc_count bs b b o in
                let q = same_self b in
                lt-leb t n (omega arith) ∙ leaves_none s k left bs b l o (omega arith) (bs ++ (b ∷ [])) (omega arith))
          ]
