-- The text of an input.
-- Assumes nothing.
use Prim.Native.Nat.{ℕ, ◌-◌, ◌≤◌, ◌<◌}
use native.Mathlib.Omega.{arith}
use mathlib.Core.Path.{◌≡◌, refl, sym, ◌∙◌}
use mathlib.Core.List.{List, [], ◌∷◌}
use lib.ListN.{length, get_or, take, drop, replicate, length-replicate, length-drop, take-append-drop}
use lib.Seq.{length-take-le, take_all}
use mir.Syntax.{w8}
use mir.Val.{Fits}
use Rattle.semantics.specs.Definitions.Layout.{max_input}
use Rattle.semantics.specs.Definitions.Basics.{Bytes}
use Rattle.semantics.specs.Definitions.Table.{TableAnswer, accepted, refused_at, read_table}
use Rattle.semantics.specs.Definitions.Report.{printed_run}
use Rattle.semantics.specs.Checks.PrintedRun.{PrintedLong, PrintedRefused, PrintedAsCalls}
use Rattle.theorems.proofs.Lists.{all_left}
use Rattle.theorems.proofs.PrintedRun.{printed_long, printed_refused, printed_as_calls}
use Rattle.hall_layout.specs.Layout.{hall_bytes}
use Rattle.hall_held.proofs.Holds.{slice_bytes}
use Rattle.print_decimals.specs.Wrote.{Wrote}
use Rattle.print_decimals.specs.declared.Page.{Page}
use Rattle.print_decimals.specs.Page.{Begun, HasRoom, Room, Appended, Printed}
use Rattle.print_decimals.proofs.Pages.{room_for, begun_room, page_written}
use Rattle.print_sections.specs.Limits.{lines_most}
use Rattle.print_report.specs.Tables.{TableUpTo}
use Rattle.print_report.specs.Runs.{RunTextPrinted}

pub long_fits : (p : Page) → HasRoom lines_most p → Room p (108 ∷ 111 ∷ 110 ∷ 103 ∷ 10 ∷ [])
long_fits p r = room_for lines_most p _ r (omega arith)

pub long_printed : (input : List ℕ) (p q : Page) → max_input < length input → Appended p (108 ∷ 111 ∷ 110 ∷ 103 ∷ 10 ∷ []) q →
    Printed lines_most p (printed_run input) q
unfolding PrintedLong
long_printed input p q l x = rw (printed_long input l) (record { wrote = x; short = omega arith })

pub hall_size : hall_bytes ≡ length {A = ℕ} (replicate hall_bytes 0)
hall_size = sym (length-replicate {A = ℕ} hall_bytes 0)

-- what code takes for the table is as long as it says
pub table_size_holds : (input : List ℕ) (end : ℕ) → TableUpTo input end → end ≡ length (take end input)
table_size_holds input end x = sym (length-take-le end input x.inside)

module _ (input : List ℕ) (short : length input ≤ max_input) (bytes : (i : ℕ) → Fits w8 (get_or input i 0)) (end : ℕ)
    (x : TableUpTo input end) (p q : Page) where
  -- the choices are what is behind the table, all of it
  pub run_printed :
      RunTextPrinted (take end input) (take (length input - end) (drop end input)) (replicate hall_bytes 0) p q →
      Printed lines_most p (printed_run input) q
  unfolding PrintedRefused PrintedAsCalls
  run_printed y = go (read_table (take end input)) refl
    where
      rest : take (length input - end) (drop end input) ≡ drop end input
      rest = take_all (length input - end) (drop end input) (let l = length-drop end input in omega arith)

      table_bytes : Bytes (take end input)
      table_bytes =
          all_left (λ b. b ≤ 255) (take end input) (drop end input)
          (rw (take-append-drop end input) (slice_bytes input bytes))

      go : (a : TableAnswer) → read_table (take end input) ≡ a → Printed lines_most p (printed_run input) q
      go (refused_at n i) e = rw (printed_refused input short (take end input) x.part n i e) (y.refused n i e)
      go (accepted t) e =
          let z : length (take end input) ≡ end = length-take-le end input x.inside in
          let calls =
          printed_as_calls input short (take end input) x.part t (table_bytes, e) (replicate hall_bytes 0)
          (sym hall_size) in
          y.done t (printed_run input) e (rw rest (rw z at calls))

module _ (name : ℕ) (s : List ℕ) (p : Page) (b : Begun name s p) where
  pub output_fits : 1024 ≤ length s → HasRoom lines_most p
  output_fits l = begun_room name s p b lines_most (omega arith)

  -- the output is still the one that was lent; what it has afterwards, and how long the text is
  module _ (v : List ℕ) (q : Page) (x : Printed lines_most p v q) where
    pub same_output : name ≡ q.out.ghost_name
    same_output = sym (x.wrote.same ∙ b.same)

    pub output_written : (n : ℕ) → n ≡ q.end → Wrote s 0 v q.out.now n
    output_written n g = rw g (page_written name s p b v q x.wrote)

    pub output_short : (n : ℕ) → n ≡ q.end → n ≤ lines_most
    output_short n g = let w = page_written name s p b v q x.wrote in let e = w.end in let l = x.short in omega arith
