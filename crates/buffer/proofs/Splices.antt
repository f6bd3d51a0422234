-- Laws of `spliced`: what stands at each offset, the three ways of moving a tail, and what a splice makes of a list
-- in three parts.
-- Assumes nothing.
use Prim.Native.Nat.{ℕ, zero, suc, ◌+◌, ◌-◌, ◌≤◌, ◌<◌}
use native.Mathlib.Omega.{arith}
use mathlib.Core.Path.{◌≡◌, refl, sym, ◌∙◌}
use mathlib.Core.Bool.{Bool, true, false}
use mathlib.Core.List.{List, [], ◌∷◌, ◌++◌}
use lib.Dec.{ltb}
use lib.ListN.{length, get_or, take, drop, replicate, length-append, length-take, length-drop, length-replicate, get_or-append}
use lib.Seq.{length-take-le, get_or-append-add, get_or-take, get_or-drop, ext_get_or}
use borrow.Author.Tests.{ltb-true, ltb-false}
use Rattle.buffer.specs.Splice.{written, fit, spliced, CanShift}
use Rattle.buffer.proofs.Written.{get_d_zeros, written_length, written_before, written_inside, written_behind}

-- ---- elements

-- zeros behind a list show nowhere
pub get_d_padded : (l : List ℕ) (n i : ℕ) → get_or (l ++ replicate n 0) i 0 ≡ get_or l i 0
get_d_padded [] n i = get_d_zeros n i
get_d_padded (x ∷ l) n zero = refl
get_d_padded (x ∷ l) n (suc i) = get_d_padded l n i

-- an index lies before a part, in it or behind it
by_part : (P : ℕ → Type 0) (a n : ℕ) → ((i : ℕ) → i < a → P i) → ((i : ℕ) → i < n → P (a + i)) → ((i : ℕ) → P (a + n + i)) → (i : ℕ) → P i
by_part P a n before inside behind i = go (ltb i a) refl (ltb i (a + n)) refl
  where
    go : (x : Bool) → ltb i a ≡ x → (y : Bool) → ltb i (a + n) ≡ y → P i
    go true p y q = before i (ltb-true i a p)
    go false p true q =
        let l = ltb-false i a p in
        let m = ltb-true i (a + n) q in
        let z : a + (i - a) ≡ i = omega arith in rw (← z) (inside (i - a) (omega arith))
    go false p false q =
        let l = ltb-false i (a + n) q in
        let z : a + n + (i - (a + n)) ≡ i = omega arith in rw (← z) (behind (i - (a + n)))

-- ---- spliced

pub spliced_length : (s : List ℕ) (a b : ℕ) (v : List ℕ) → length (spliced s a b v) ≡ length s
unfolding spliced fit
spliced_length s a b v = simp (length-take, length-append, length-replicate) (omega arith)

spliced_at : (s : List ℕ) (a b : ℕ) (v : List ℕ) (i : ℕ) → i < length s → get_or (spliced s a b v) i 0 ≡ get_or (take a s ++ (v ++ drop b s)) i 0
unfolding spliced fit
spliced_at s a b v i h = get_or-take (length s) _ i 0 h ∙ get_d_padded (take a s ++ (v ++ drop b s)) (length s) i

pub spliced_before : (s : List ℕ) (a b : ℕ) (v : List ℕ) (i : ℕ) → a ≤ length s → i < a → get_or (spliced s a b v) i 0 ≡ get_or s i 0
spliced_before s a b v i h k =
    let l : i < length (take a s) = rw (length-take-le a s h) k in
    spliced_at s a b v i (omega arith) ∙ get_or-append (take a s) (v ++ drop b s) 0 i l ∙ get_or-take a s i 0 k

pub spliced_inside : (s : List ℕ) (a b : ℕ) (v : List ℕ) (i : ℕ) → a + length v ≤ length s → i < length v → get_or (spliced s a b v) (a + i) 0 ≡ get_or v i 0
spliced_inside s a b v i h k =
    let e = length-take-le a s (omega arith) in
    let p = get_or-append-add (take a s) (v ++ drop b s) i 0 in
    spliced_at s a b v (a + i) (omega arith) ∙ (rw e at p) ∙ get_or-append v (drop b s) 0 i k

-- what stood from b on stands behind what was put in
pub spliced_behind : (s : List ℕ) (a b : ℕ) (v : List ℕ) (i : ℕ) → a + length v + i < length s → get_or (spliced s a b v) (a + length v + i) 0 ≡ get_or s (b + i) 0
spliced_behind s a b v i h =
    let e = length-take-le a s (omega arith) in
    let p = get_or-append-add (take a s) (v ++ drop b s) (length v + i) 0 in
    let q = get_or-append-add v (drop b s) i 0 in
    let z : a + length v + i ≡ a + (length v + i) = omega arith in
    spliced_at s a b v (a + length v + i) h ∙ rw z ((rw e at p) ∙ q ∙ get_or-drop b s i 0)

-- a list of the same length with these elements is the spliced one
pub is_spliced : (s : List ℕ) (a b : ℕ) (v r : List ℕ) → a + length v ≤ length s → length r ≡ length s →
    ((i : ℕ) → i < a → get_or r i 0 ≡ get_or s i 0) →
    ((i : ℕ) → i < length v → get_or r (a + i) 0 ≡ get_or v i 0) →
    ((i : ℕ) → a + length v + i < length s → get_or r (a + length v + i) 0 ≡ get_or s (b + i) 0) →
    r ≡ spliced s a b v
is_spliced s a b v r h l before inside behind =
    let same = by_part (λ i. i < length s → get_or r i 0 ≡ get_or (spliced s a b v) i 0) a (length v)
    (λ i k m. before i k ∙ sym (spliced_before s a b v i (omega arith) k))
    (λ i k m. inside i k ∙ sym (spliced_inside s a b v i h k))
    (λ i m. behind i m ∙ sym (spliced_behind s a b v i m)) in
    ext_get_or 0 r (spliced s a b v) (l ∙ sym (spliced_length s a b v)) (λ i k. same i (rw l at k))

-- ---- the three ways of moving a tail

-- down, with zeros where it stood
down : (s : List ℕ) (b e used : ℕ) → CanShift s b e used → e < b →
    written (written s e (drop b s) (used - b)) (e + (used - b)) (replicate (b - e) 0) (b - e) ≡ spliced s e b []
down s b e used room lower =
    let m = used - b in
    let inner = written s e (drop b s) m in
    let z : List ℕ = replicate (b - e) 0 in
    let c = room.clear in
    let o = room.ordered in
    let h = room.held in
    let ld : length (drop b s) ≡ length s - b = length-drop b s in
    let lz : length z ≡ b - e = length-replicate (b - e) 0 in
    let li : length inner ≡ length s = written_length s e (drop b s) m (omega arith) (omega arith) in
    is_spliced s e b [] (written inner (e + m) z (b - e)) (omega arith) (written_length inner (e + m) z (b - e) (omega arith) (omega arith) ∙ li)
    (λ i k. written_before inner (e + m) z (b - e) i (omega arith) (omega arith) ∙ written_before s e (drop b s) m i (omega arith) k)
    (λ i k. absurd (omega arith))
    (by_part (λ i. e + 0 + i < length s → get_or (written inner (e + m) z (b - e)) (e + 0 + i) 0 ≡ get_or s (b + i) 0) m (b - e)
    (λ i k l. let q : e + 0 + i ≡ e + i = omega arith in
    rw q (written_before inner (e + m) z (b - e) (e + i) (omega arith) (omega arith)
    ∙ written_inside s e (drop b s) m i (omega arith) (omega arith) k ∙ get_or-drop b s i 0))
    (λ i k l. let q : e + 0 + (m + i) ≡ e + m + i = omega arith in
    rw q (written_inside inner (e + m) z (b - e) i (omega arith) (omega arith) k ∙ get_d_zeros (b - e) i ∙ sym (c (b + (m + i)) (omega arith))))
    (λ i l. let q : e + 0 + (m + (b - e) + i) ≡ e + m + (b - e) + i = omega arith in
    let w : e + m + (b - e) + i ≡ e + m + (b - e + i) = omega arith in
    let g = written_behind s e (drop b s) m (b - e + i) (omega arith) (omega arith) in
    rw q (written_behind inner (e + m) z (b - e) i (omega arith) (omega arith) ∙ (rw (← w) at g) ∙ c _ (omega arith) ∙ sym (c _ (omega arith)))))

pub shifted_down : (s inner outer : List ℕ) (b e used : ℕ) → inner ≡ written s e (drop b s) (used - b) →
    outer ≡ written inner (e + (used - b)) (replicate (b - e) 0) (b - e) → CanShift s b e used → e < b → outer ≡ spliced s e b []
shifted_down s inner outer b e used p q room lower = q ∙ rw p (down s b e used room lower)

-- up, over zeros
up : (s : List ℕ) (b e used : ℕ) → CanShift s b e used → b < e → written s e (drop b s) (used - b) ≡ spliced s e b []
up s b e used room higher =
    let m = used - b in
    let c = room.clear in
    let o = room.ordered in
    let h = room.held in
    let f = room.fits in
    let ld : length (drop b s) ≡ length s - b = length-drop b s in
    is_spliced s e b [] (written s e (drop b s) m) (omega arith) (written_length s e (drop b s) m f (omega arith))
    (λ i k. written_before s e (drop b s) m i (omega arith) k)
    (λ i k. absurd (omega arith))
    (by_part (λ i. e + 0 + i < length s → get_or (written s e (drop b s) m) (e + 0 + i) 0 ≡ get_or s (b + i) 0) m 0
    (λ i k l. let q : e + 0 + i ≡ e + i = omega arith in rw q (written_inside s e (drop b s) m i (omega arith) (omega arith) k ∙ get_or-drop b s i 0))
    (λ i k l. absurd (omega arith))
    (λ i l. let q : e + 0 + (m + 0 + i) ≡ e + m + i = omega arith in
    rw q (written_behind s e (drop b s) m i (omega arith) (omega arith) ∙ c _ (omega arith) ∙ sym (c _ (omega arith)))))

pub shifted_up : (s t : List ℕ) (b e used : ℕ) → t ≡ written s e (drop b s) (used - b) → CanShift s b e used → b < e → t ≡ spliced s e b []
shifted_up s t b e used p room higher = p ∙ up s b e used room higher

-- not at all
pub shifted_none : (s : List ℕ) (b e used : ℕ) → CanShift s b e used → b ≤ e → e ≤ b → s ≡ spliced s e b []
shifted_none s b e used room low high =
    let o = room.ordered in
    let h = room.held in
    is_spliced s e b [] s (omega arith) refl
    (λ i k. refl)
    (λ i k. absurd (omega arith))
    (λ i k. let q : e + 0 + i ≡ b + i = omega arith in rw q)

-- ---- a splice

-- the tail moved, then the new part written before it
from_shifted : (s : List ℕ) (a b : ℕ) (v : List ℕ) (used : ℕ) → CanShift s b (a + length v) used →
    written (spliced s (a + length v) b []) a v (length v) ≡ spliced s a b v
from_shifted s a b v used room =
    let t = spliced s (a + length v) b [] in
    let f = room.fits in
    let lt : length t ≡ length s = spliced_length s (a + length v) b [] in
    is_spliced s a b v (written t a v (length v)) (omega arith) (written_length t a v (length v) (omega arith) (omega arith) ∙ lt)
    (λ i k. written_before t a v (length v) i (omega arith) k ∙ spliced_before s (a + length v) b [] i (omega arith) (omega arith))
    (λ i k. written_inside t a v (length v) i (omega arith) (omega arith) k)
    (λ i k. let q : a + length v + i ≡ a + length v + 0 + i = omega arith in
    written_behind t a v (length v) i (omega arith) (omega arith) ∙ rw q (spliced_behind s (a + length v) b [] i (omega arith)))

pub spliced_from : (s t r : List ℕ) (a b : ℕ) (v : List ℕ) (used : ℕ) → t ≡ spliced s (a + length v) b [] → r ≡ written t a v (length v) →
    CanShift s b (a + length v) used → r ≡ spliced s a b v
spliced_from s t r a b v used p q room = q ∙ rw p (from_shifted s a b v used room)

-- a list in three parts with zeros behind: the middle part gives way to v
pub spliced_mid : (s x y z : List ℕ) (n a b : ℕ) (v : List ℕ) → s ≡ x ++ (y ++ (z ++ replicate n 0)) → length x ≡ a → a + length y ≡ b →
    a + length v + length z ≤ length s →
    spliced s a b v ≡ x ++ (v ++ (z ++ replicate (length s - (a + length v + length z)) 0))
spliced_mid s x y z n a b v parts la lb fits =
    let k = length s - (a + length v + length z) in
    let r = x ++ (v ++ (z ++ replicate k 0)) in
    let lr : length r ≡ length s = simp (length-append, length-replicate) (omega arith) in
    let at_x : (u : List ℕ) (i : ℕ) → get_or (x ++ u) (a + i) 0 ≡ get_or u i 0 = λ u i. rw (← la) (get_or-append-add x u i 0) in
    let behind : (i : ℕ) → get_or s (b + i) 0 ≡ get_or z i 0 = λ i.
    let q : b + i ≡ a + (length y + i) = omega arith in
    rw (parts, q, at_x, get_or-append-add y (z ++ replicate n 0) i 0) (get_d_padded z n i) in
    sym (is_spliced s a b v r (omega arith) lr
    (λ i h. let l : i < length x = omega arith in rw parts (get_or-append x _ 0 i l ∙ sym (get_or-append x _ 0 i l)))
    (λ i h. at_x (v ++ (z ++ replicate k 0)) i ∙ get_or-append v _ 0 i h)
    (λ i h. let q : a + length v + i ≡ a + (length v + i) = omega arith in
    rw (q, at_x, get_or-append-add v (z ++ replicate k 0) i 0, get_d_padded z k i) (sym (behind i))))
