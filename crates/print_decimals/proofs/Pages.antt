-- Bytes written one behind another, on a slice and on a page.
-- Assumes nothing.
use Prim.Native.Nat.{ℕ, ◌+◌, ◌-◌, ◌≤◌, ◌<◌}
use native.Mathlib.Omega.{arith}
use mathlib.Core.Path.{◌≡◌, refl, ap, ◌∙◌}
use mathlib.Core.List.{List, [], ◌∷◌, ◌++◌}
use lib.ListN.{length, set, length-append}
use Rattle.std.proofs.lemmas.Slice.{put_mid-paste}
use borrow.Rule.Slice.PartMut.{put_mid}
use Rattle.buffer.specs.Splice.{written}
use Rattle.buffer.proofs.Written.{written_none, written_next, written_length, written_twice}
use Rattle.print_decimals.specs.declared.Page.{Page}
use Rattle.print_decimals.specs.Wrote.{Wrote}
use Rattle.print_decimals.specs.Page.{Begun, HasRoom, Room, Appended, Printed}

-- ---- on a slice

pub wrote_byte : (s : List ℕ) (at b : ℕ) → at < length s → Wrote s at (b ∷ []) (set s at b) (at + 1)
wrote_byte s at b l =
    let z : at + 0 ≡ at = omega arith in
    let w = written_next s at (b ∷ []) 0 (omega arith) (omega arith) in
    record { end = refl; bytes = rw (← written_none s at (b ∷ []), z) at w }

pub wrote_text : (s : List ℕ) (at : ℕ) (v w : List ℕ) → w ≡ v → Wrote s at v (put_mid at (at + length v - at) s w) (at + length v)
unfolding written
wrote_text s at v w e = record { end = refl; bytes = put_mid-paste at (at + length v - at) s w v (length v) e (omega arith) refl }

pub wrote_more : (s s₁ s₂ : List ℕ) (at i j : ℕ) (v w : List ℕ) → at ≤ length s → Wrote s at v s₁ i → Wrote s₁ i w s₂ j → Wrote s at (v ++ w) s₂ j
wrote_more s s₁ s₂ at i j v w l x y =
    let p = x.end in
    let q = y.end in
    record {
      end = let n = length-append v w in omega arith;
      bytes = y.bytes ∙ rw (x.bytes, x.end) (written_twice s v w at l);
    }

pub wrote_length : (s s₁ : List ℕ) (at i : ℕ) (v : List ℕ) → at + length v ≤ length s → Wrote s at v s₁ i → length s₁ ≡ length s
wrote_length s s₁ at i v l x = ap length x.bytes ∙ written_length s at v (length v) l (omega arith)

-- ---- on a page

pub appended_none : (p : Page) → Appended p [] p
appended_none p = record { same = refl; wrote = record { end = omega arith; bytes = written_none p.out.now p.end [] } }

module _ (p : Page) (v w : List ℕ) (room : Room p (v ++ w)) where
  pub first_room : Room p v
  first_room = let a = length-append v w in let r = room.fits in record { fits = omega arith }

  module _ (q : Page) (x : Appended p v q) where
    pub second_room : Room q w
    second_room =
        let a = length-append v w in
        let r = room.fits in
        let l = wrote_length p.out.now q.out.now p.end q.end v (omega arith) x.wrote in
        let e = x.wrote.end in record { fits = omega arith }

    pub appended_both : (r : Page) → Appended q w r → Appended p (v ++ w) r
    appended_both r y = record {
      same = y.same ∙ x.same;
      wrote = wrote_more p.out.now q.out.now r.out.now p.end q.end r.end v w (let f = room.fits in omega arith) x.wrote y.wrote;
    }

-- ---- texts of bounded length

pub room_for : (n : ℕ) (p : Page) (v : List ℕ) → HasRoom n p → length v ≤ n → Room p v
room_for n p v r l = let f = r.fits in record { fits = omega arith }

pub printed_none : (m : ℕ) (p : Page) → Printed m p [] p
printed_none m p = record { wrote = appended_none p; short = omega arith }

module _ (m k : ℕ) (p : Page) (v : List ℕ) (q : Page) (room : HasRoom (m + k) p) (x : Printed m p v q) where
  pub printed_room : HasRoom k q
  printed_room =
      let f = room.fits in
      let s = x.short in
      let e = x.wrote.wrote.end in
      let l = wrote_length p.out.now q.out.now p.end q.end v (omega arith) x.wrote.wrote in record { fits = omega arith }

  pub printed_more : (w : List ℕ) (r : Page) → Printed k q w r → Printed (m + k) p (v ++ w) r
  printed_more w r y =
      let a = length-append v w in
      let s = x.short in
      let t = y.short in
      record {
        wrote = appended_both p v w (room_for (m + k) p (v ++ w) room (omega arith)) q x.wrote r y.wrote;
        short = omega arith;
      }

-- of at most so many bytes, and so of at most more
pub printed_wider : (m k : ℕ) (p : Page) (v : List ℕ) (q : Page) → m ≤ k → Printed m p v q → Printed k p v q
printed_wider m k p v q l x = let o = x.short in record { wrote = x.wrote; short = omega arith }

-- ---- a page from its beginning on

module _ (name : ℕ) (s : List ℕ) (p : Page) (x : Begun name s p) where
  pub begun_room : (n : ℕ) → n ≤ length s → HasRoom n p
  begun_room n l = let e = x.empty in let h = ap length x.holds in record { fits = omega arith }

  -- what the slice has afterwards
  pub page_written : (v : List ℕ) (q : Page) → Appended p v q → Wrote s 0 v q.out.now q.end
  page_written v q y = rw (← x.holds, ← x.empty) y.wrote
