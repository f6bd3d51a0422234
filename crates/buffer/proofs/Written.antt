-- Laws of `written`: what stands at each offset, loops that write element by element or chunk by chunk, and parts
-- written one behind another.
-- Assumes nothing.
use Prim.Native.Nat.{ℕ, zero, suc, ◌+◌, ◌-◌, ◌≤◌, ◌<◌}
use native.Mathlib.Omega.{arith}
use native.Mathlib.Numerals.{add-one}
use mathlib.Core.Path.{◌≡◌, refl, sym, ap, ◌∙◌}
use mathlib.Core.List.{List, [], ◌∷◌, ◌++◌, append_assoc, append-nil}
use lib.ListN.{length, get_or, take, drop, set, replicate, length-append, length-drop, length-replicate, get_or-append}
use Rattle.std.proofs.lemmas.Slice.{put_mid-paste, take-put_mid}
use borrow.Rule.Slice.PartMut.{put_mid}
use lib.Seq.{paste-zero, paste-suc, length-paste, length_paste_head, take-length, drop-length, length-take-le, take-take, take-paste, drop-paste, get_or-append-add, get_or-take, get_or-drop, drop-drop}
use Rattle.buffer.specs.Splice.{written}

-- ---- zeros

pub get_d_zeros : (n i : ℕ) → ◌≡◌ {A = ℕ} (get_or (replicate n 0) i 0) 0
get_d_zeros zero i = refl
get_d_zeros (suc n) zero = refl
get_d_zeros (suc n) (suc i) = get_d_zeros n i

-- ---- one element

pub written_none : (s : List ℕ) (at : ℕ) (v : List ℕ) → s ≡ written s at v 0
unfolding written
written_none s at v = paste-zero s at v

pub written_length : (s : List ℕ) (at : ℕ) (v : List ℕ) (n : ℕ) → at + n ≤ length s → n ≤ length v → length (written s at v n) ≡ length s
unfolding written
written_length s at v n h k = length-paste s at v n h k

-- one more element, behind those written
pub written_next : (s : List ℕ) (at : ℕ) (v : List ℕ) (i : ℕ) → at + i < length s → i < length v →
    set (written s at v i) (at + i) (get_or v i 0) ≡ written s at v (i + 1)
unfolding written
written_next s at v i h k = rw (add-one i) (paste-suc s at v i 0 h k)

pub written_before : (s : List ℕ) (at : ℕ) (v : List ℕ) (n i : ℕ) → at ≤ length s → i < at → get_or (written s at v n) i 0 ≡ get_or s i 0
unfolding written
written_before s at v n i h k =
    let l : i < length (take at s) = rw (length-take-le at s h) k in
    rw (append_assoc, get_or-append (take at s) (take n v ++ drop (at + n) s) 0 i l) (get_or-take at s i 0 k)

pub written_inside : (s : List ℕ) (at : ℕ) (v : List ℕ) (n i : ℕ) → at ≤ length s → n ≤ length v → i < n → get_or (written s at v n) (at + i) 0 ≡ get_or v i 0
unfolding written
written_inside s at v n i h k l =
    let e = length-take-le at s h in
    let m : i < length (take n v) = rw (length-take-le n v k) l in
    let p = get_or-append-add (take at s) (take n v ++ drop (at + n) s) i 0 in
    let q = get_or-append (take n v) (drop (at + n) s) 0 i m in
    rw append_assoc ((rw e at p) ∙ q ∙ get_or-take n v i 0 l)

pub written_behind : (s : List ℕ) (at : ℕ) (v : List ℕ) (n i : ℕ) → at ≤ length s → n ≤ length v → get_or (written s at v n) (at + n + i) 0 ≡ get_or s (at + n + i) 0
unfolding written
written_behind s at v n i h k =
    let e = length_paste_head s at v n h k in
    let p = get_or-append-add (take at s ++ take n v) (drop (at + n) s) i 0 in
    (rw e at p) ∙ get_or-drop (at + n) s i 0

-- ---- a chunk

-- what stands behind, untouched
drop_written : (s : List ℕ) (at : ℕ) (v : List ℕ) (n k : ℕ) → at ≤ length s → n ≤ length v → drop (at + n + k) (written s at v n) ≡ drop (at + n + k) s
unfolding written
drop_written s at v n k h l =
    sym (drop-drop k (at + n) (written s at v n)) ∙ ap (λ (r : List ℕ). drop k r) (drop-paste s at v n h l) ∙ drop-drop k (at + n) s

-- the chunk z has p, the n elements of s from `from` on, written from its start on; q, what it holds then, is written
-- to any place in s
pub by_chunk : (s z p q : List ℕ) (from to n : ℕ) → from + n ≤ length s → p ≡ take (from + n - from) (drop from s) → q ≡ take n (put_mid 0 n z p) →
    put_mid to (to + n - to) s q ≡ written s to (drop from s) n
unfolding written
by_chunk s z p q from to n h e f =
    let m : from + n - from ≡ n = omega arith in
    let v = take n (drop from s) in
    let d = length-drop from s in
    let l : length v ≡ n = length-take-le n (drop from s) (omega arith) in
    let part : p ≡ v = rw m at e in
    let read : q ≡ v = f ∙ ap (λ (r : List ℕ). take n (put_mid 0 n z r)) part ∙ take-put_mid 0 n z v n (omega arith) (omega arith) in
    let twice : take n v ≡ v = take-take n n (drop from s) (omega arith) in
    put_mid-paste to (to + n - to) s q v n read (omega arith) (omega arith) ∙ ap (λ (r : List ℕ). take to s ++ r ++ drop (to + n) s) twice

-- ---- parts

-- two elements
pub two_written : (s : List ℕ) (at a b : ℕ) → at + 2 ≤ length s → set (set s at a) (at + 1) b ≡ written s at (a ∷ b ∷ []) 2
two_written s at a b h =
    let v : List ℕ = a ∷ b ∷ [] in
    let z : at + 0 ≡ at = omega arith in
    let first : set s at a ≡ written s at v 1 =
    ap (λ (l : List ℕ). set l at a) (written_none s at v) ∙ (rw z at (written_next s at v 0 (omega arith) (omega arith))) in
    rw first (written_next s at v 1 (omega arith) (omega arith))

-- a part, and another behind it, are their join
pub written_twice : (s v w : List ℕ) (at : ℕ) → at ≤ length s →
    written (written s at v (length v)) (at + length v) w (length w) ≡ written s at (v ++ w) (length (v ++ w))
unfolding written
written_twice s v w at h =
    let n = length v in
    let l = length-append v w in
    let p = take-paste s at v n (omega arith) (omega arith) in
    let t : at + n + length w ≡ at + length (v ++ w) = omega arith in
    let behind : drop (at + n + length w) (written s at v n) ≡ drop (at + length (v ++ w)) s =
    drop_written s at v n (length w) (omega arith) (omega arith) ∙ ap (λ (k : ℕ). drop k s) t in
    rw (p, behind) (simp take-length (ap (λ (k : List ℕ). k ++ drop (at + length (v ++ w)) s) (append_assoc (take at s) v w)))

-- all of a list
pub written_whole : (s v : List ℕ) → length v ≡ length s → written s 0 v (length v) ≡ v
unfolding written
written_whole s v h =
    let z : 0 + length v ≡ length s = omega arith in
    rw (z, drop-length, take-length) (append-nil v)

-- a part from the start on, a part behind it, and zeros behind that to the end
pub filled : (s v w : List ℕ) → length (v ++ w) ≤ length s →
    let n = length s - length (v ++ w) in
    written (written (written s 0 v (length v)) (0 + length v) w (length w)) (0 + length (v ++ w)) (replicate n 0) n ≡ (v ++ w) ++ replicate n 0
filled s v w h =
    let u = v ++ w in
    let n = length s - length u in
    let z : List ℕ = replicate n 0 in
    let lz : length z ≡ n = length-replicate n 0 in
    let l = length-append u z in
    let twice = written_twice s u z 0 (omega arith) in
    rw (written_twice s v w 0 (omega arith)) ((rw lz at twice) ∙ written_whole s (u ++ z) (omega arith))
