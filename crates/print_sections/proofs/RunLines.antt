-- The lines of a run's numbers and of its counters.
-- Assumes nothing.
use Prim.Native.Nat.{ℕ, ◌≤◌}
use native.Mathlib.Omega.{arith}
use mathlib.Core.Path.{◌≡◌}
use mathlib.Core.List.{[], ◌∷◌}
use lib.ListN.{length}
use mir.Syntax.{w8, w32, w64}
use mir.Val.{Fits}
use Rattle.semantics.specs.Definitions.Report.{run_line, counters_line}
use Rattle.answers.specs.declared.tallies.Counters.{Counters}
use Rattle.answers.specs.Answers.{counters_of}
use Rattle.theorems.proofs.Decimals.{decimal_short}
use Rattle.print_decimals.specs.declared.Page.{Page}
use Rattle.print_decimals.specs.Page.{HasRoom, Room, Appended, Printed}
use Rattle.print_decimals.proofs.Pages.{room_for}
use Rattle.print_lines.specs.Lines.{number_line}
use Rattle.print_sections.specs.Limits.{run_most, counters_most}
use Rattle.print_sections.proofs.NumberLines.{three_length, byte_short}

-- ---- the line of the run

module _ (s : Page) (n p d x : ℕ) (e : x ≡ n) (u : Fits w8 n) (v : Fits w64 p) (w : Fits w64 d) where
  run_short : length (number_line 82 (x ∷ p ∷ d ∷ [])) ≤ run_most
  run_short =
      let l = three_length 82 x p d in
      let a = byte_short x (omega (arith, u.fits)) in
      let b = decimal_short 19 p (omega (arith, v.fits)) in
      let c = decimal_short 19 d (omega (arith, w.fits)) in omega arith

  pub run_fits : HasRoom run_most s → Room s (number_line 82 (x ∷ p ∷ d ∷ []))
  run_fits room = room_for run_most s _ room run_short

  pub run_printed : (r : Page) → Appended s (number_line 82 (x ∷ p ∷ d ∷ [])) r → Printed run_most s (run_line n p d) r
  unfolding run_line number_line
  run_printed r y = rw (← e) (record { wrote = y; short = run_short })

-- ---- the line of the counters

module _ (s : Page) (a b c : ℕ) (u : Fits w32 a) (v : Fits w32 b) (w : Fits w32 c) where
  counters_short : length (number_line 67 (a ∷ b ∷ c ∷ [])) ≤ counters_most
  counters_short =
      let l = three_length 67 a b c in
      let i = decimal_short 9 a (omega (arith, u.fits)) in
      let j = decimal_short 9 b (omega (arith, v.fits)) in
      let k = decimal_short 9 c (omega (arith, w.fits)) in omega arith

  pub counters_fit : HasRoom counters_most s → Room s (number_line 67 (a ∷ b ∷ c ∷ []))
  counters_fit room = room_for counters_most s _ room counters_short

  pub counters_printed : (t : Counters) → a ≡ t.commits → b ≡ t.failed → c ≡ t.retries → (r : Page) →
      Appended s (number_line 67 (a ∷ b ∷ c ∷ [])) r → Printed counters_most s (counters_line (counters_of t)) r
  unfolding counters_line number_line
  counters_printed t e f g r y = rw (← e, ← f, ← g) (record { wrote = y; short = counters_short })
