-- The lines of channels, one behind another.
-- Assumes nothing.
use Prim.Native.Nat.{ℕ, suc, ◌+◌, ◌*◌, ◌≤◌, ◌<◌}
use native.Mathlib.Omega.{arith}
use native.Mathlib.Numerals.{add-one}
use mathlib.Core.Path.{◌≡◌, refl, sym, ◌∙◌}
use mathlib.Core.Logic.{◌⊎◌, inl, inr}
use mathlib.Core.Bool.{false, ◌&&◌}
use mathlib.Core.List.{List, [], ◌∷◌, ◌++◌, append_assoc, append-nil}
use lib.ListN.{length, get_or, take}
use lib.Seq.{take-suc, length-take-le}
use lib.Dec.{eqb}
use borrow.Author.Tests.{eq-eqb, ne_eqb}
use mir.Syntax.{w8}
use mir.Val.{Fits}
use Rattle.semantics.specs.Definitions.Report.{channel_line, channel_lines}
use Rattle.print_decimals.specs.declared.Page.{Page}
use Rattle.print_decimals.specs.Page.{HasRoom, Room, Appended, Printed}
use Rattle.print_decimals.proofs.Pages.{room_for, printed_none, printed_room, printed_more}
use Rattle.print_sections.specs.Limits.{channel_most, channels_most}
use Rattle.print_sections.specs.Printed.{channel_text}
use Rattle.print_sections.proofs.NumberLines.{channel_length}

-- ---- one channel

module _ (p : Page) (i f l : ℕ) where
  pub empty_channel : f ≡ 0 → l ≡ 0 → Printed channel_most p (channel_text i f l) p
  unfolding channel_text
  empty_channel d e = rw (eq-eqb f 0 d, eq-eqb l 0 e) (printed_none channel_most p)

  module _ (inside : i < 16) (room : HasRoom channel_most p) (u : Fits w8 f) (v : Fits w8 l) where
    short : length (channel_line i f l) ≤ channel_most
    short = channel_length i f l inside (omega (arith, u.fits)) (omega (arith, v.fits))

    pub channel_fits : Room p (channel_line i f l)
    channel_fits = room_for channel_most p _ room short

    some : ((f ≡ 0) × (l ≡ 0 → ⊥)) ⊎ (f ≡ 0 → ⊥) → (eqb f 0 && eqb l 0) ≡ false
    some (inl (d, e)) = rw (eq-eqb f 0 d, ne_eqb l 0 e)
    some (inr d) = rw (ne_eqb f 0 d)

    pub channel_printed : ((f ≡ 0) × (l ≡ 0 → ⊥)) ⊎ (f ≡ 0 → ⊥) → (q : Page) → Appended p (channel_line i f l) q →
        Printed channel_most p (channel_text i f l) q
    unfolding channel_text
    channel_printed e q w = rw (some e) (record { wrote = w; short = short })

-- ---- all of them

-- the lines of one channel more
lines_snoc : (i : ℕ) (fs ls : List ℕ) (f l : ℕ) → length fs ≡ length ls →
    channel_lines i (fs ++ (f ∷ [])) (ls ++ (l ∷ [])) ≡ channel_lines i fs ls ++ channel_text (i + length fs) f l
unfolding channel_lines channel_text channel_line
lines_snoc i [] [] f l e = let z : i + 0 ≡ i = omega arith in rw (z, append-nil) refl
lines_snoc i [] (x ∷ ls) f l e = absurd (omega arith)
lines_snoc i (x ∷ fs) [] f l e = absurd (omega arith)
lines_snoc i (x ∷ fs) (y ∷ ls) f l e =
    let z : i + suc (length fs) ≡ suc i + length fs = omega arith in
    rw (z, lines_snoc (suc i) fs ls f l (omega arith)) (sym (append_assoc (channel_text i x y) _ _))

lines_next : (fs ls : List ℕ) (i : ℕ) → i < length fs → i < length ls →
    channel_lines 0 (take (i + 1) fs) (take (i + 1) ls)
    ≡ channel_lines 0 (take i fs) (take i ls) ++ channel_text i (get_or fs i 0) (get_or ls i 0)
lines_next fs ls i p q =
    let a = length-take-le i fs (omega arith) in
    let b = length-take-le i ls (omega arith) in
    let n = lines_snoc 0 (take i fs) (take i ls) (get_or fs i 0) (get_or ls i 0) (a ∙ sym b) in
    let z : 0 + length (take i fs) ≡ i = omega arith in
    rw (add-one i, take-suc fs i 0 p, take-suc ls i 0 q) (rw z at n)

pub record ChannelsSoFar (p : Page) (fs ls : List ℕ) (q : Page) (i : ℕ) : Type 0 where
  pub room : HasRoom channels_most p
  pub printed : Printed (channel_most * i) p (channel_lines 0 (take i fs) (take i ls)) q

module _ (p : Page) (fs ls : List ℕ) where
  pub no_channel : HasRoom channels_most p → ChannelsSoFar p fs ls p 0
  unfolding channel_lines
  no_channel r = record { room = r; printed = printed_none 0 p }

  module _ (q : Page) (i : ℕ) (x : ChannelsSoFar p fs ls q i) where
    room_here : i < 16 → HasRoom (channel_most * i + channel_most) p
    room_here l = let r = x.room.fits in record { fits = omega arith }

    pub next_room : i < 16 → HasRoom channel_most q
    next_room l = printed_room (channel_most * i) channel_most p _ q (room_here l) x.printed

    pub channel_more : 16 ≤ length fs → 16 ≤ length ls → i < 16 → (r : Page) →
        Printed channel_most q (channel_text i (get_or fs i 0) (get_or ls i 0)) r → ChannelsSoFar p fs ls r (i + 1)
    channel_more f g l r y =
        let z : channel_most * i + channel_most ≡ channel_most * (i + 1) = omega arith in
        record {
          room = x.room;
          printed =
              rw (lines_next fs ls i (omega arith) (omega arith), ← z)
              (printed_more (channel_most * i) channel_most p _ q (room_here l) x.printed _ r y);
        }

    pub all_channels : 16 ≤ i → i ≤ 16 → Printed channels_most p (channel_lines 0 (take 16 fs) (take 16 ls)) q
    all_channels l m = let z : i ≡ 16 = omega arith in rw z at x.printed
