-- The lines of a run together.
-- Assumes nothing.
use Prim.Native.Nat.{ℕ, ◌+◌, ◌≤◌}
use native.Mathlib.Omega.{arith}
use mathlib.Core.Path.{◌≡◌, sym, ap, ◌∙◌}
use mathlib.Core.List.{List, ◌++◌, map, flatten}
use lib.ListN.{length, take}
use Rattle.semantics.specs.Definitions.Configuration.{Configuration}
use Rattle.semantics.specs.Definitions.Run as run
use Rattle.semantics.specs.Definitions.Report.{run_line, counters_line, channel_lines, component_line, lines}
use Rattle.hall_layout.specs.Layout.{channels}
use Rattle.answers.specs.Answers.{outcome_number, counters_of}
use Rattle.answers.specs.declared.runs.RunAnswer.{RunAnswer}
use Rattle.hall_held.proofs.Holds.{hall_length, counts_here}
use Rattle.print_decimals.specs.declared.Page.{Page}
use Rattle.print_decimals.specs.Page.{HasRoom, Printed}
use Rattle.print_decimals.proofs.Pages.{printed_room, printed_more}
use Rattle.print_sections.specs.Limits.{run_most, counters_most, channels_most, components_most, lines_most}
use Rattle.print_sections.specs.Printed.{CanPrintComponents, ComponentsPrinted}
use Rattle.print_sections.specs.Totals.{run_answer_of, LinesPrinted}

pub hall_long : (s starts : List ℕ) (n : ℕ) → CanPrintComponents s starts n → channels ≤ length s
hall_long s starts n st = let l = hall_length st.holds in omega arith

lines_are : (f : Configuration) (a : run.RunAnswer) (c : List ℕ) →
    channel_lines 0 f.counts a.configuration.counts ≡ c →
    lines f a
    ≡ run_line a.number a.place a.done
    ++ (counters_line a.counters ++ (c ++ flatten (map component_line a.configuration.components)))
unfolding lines
lines_are f a c e =
    ap (λ x. run_line a.number a.place a.done
    ++ (counters_line a.counters ++ (x ++ flatten (map component_line a.configuration.components)))) e

module _ (s starts : List ℕ) (n : ℕ) (first : List ℕ) (o : RunAnswer) (p : Page) (room : HasRoom lines_most p) where
  pub run_fits : HasRoom run_most p
  run_fits = let r = room.fits in record { fits = omega arith }

  module _ (m : ℕ) (g : m ≡ outcome_number o.outcome) (q : Page) (a : Printed run_most p (run_line m o.place o.done) q) where
    behind_run : HasRoom (counters_most + (channels_most + components_most)) q
    behind_run = printed_room run_most (counters_most + (channels_most + components_most)) p _ q room a

    pub counters_fit : HasRoom counters_most q
    counters_fit = let r = behind_run.fits in record { fits = omega arith }

    module _ (r : Page) (b : Printed counters_most q (counters_line (counters_of o.counters)) r) where
      behind_counters : HasRoom (channels_most + components_most) r
      behind_counters = printed_room counters_most (channels_most + components_most) q _ r behind_run b

      pub channels_fit : HasRoom channels_most r
      channels_fit = let f = behind_counters.fits in record { fits = omega arith }

      module _ (t : Page) (c : Printed channels_most r (channel_lines 0 (take channels first) (take channels s)) t) where
        pub components_fit : HasRoom components_most t
        components_fit = printed_room channels_most components_most r _ t behind_counters c

        pub lines_printed : (u : Page) → ComponentsPrinted s starts n t u → LinesPrinted s starts n first o p u
        lines_printed u d = record {
          found = λ ts f l e x.
              let cd = printed_more channels_most components_most r _ t behind_counters c _ u (d.found ts l x) in
              let bcd = printed_more counters_most (channels_most + components_most) q _ r behind_run b _ u cd in
              let abcd = printed_more run_most (counters_most + (channels_most + components_most)) p _ q room a _ u bcd in
              let counts =
              ap (λ y. channel_lines 0 y l.counts) e ∙ ap (channel_lines 0 (take channels first)) (sym (counts_here x)) in
              rw (lines_are f (run_answer_of o l) _ counts, ← g) abcd;
        }
