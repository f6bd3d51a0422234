-- What the code of this crate prints of a run, in the terms of the definitions.
--
-- s has the bytes of a hall behind the run, first has the counts before it.
-- Assumes nothing.
use Rattle.std.specs.Prelude.{ℕ, ◌≡◌, List, length, take}
use Rattle.std.proofs.Math.Option.{some}
use Rattle.semantics.specs.Definitions.Table.{Table, accepted, refused_at, read_table}
use Rattle.semantics.specs.Definitions.Configuration.{Configuration}
use Rattle.semantics.specs.Definitions.Stored.{configuration_of}
use Rattle.semantics.specs.Definitions.Report.{run_line, lines}
use Rattle.semantics.specs.Checks.PrintedRun.{PrintsCalls}
use Rattle.hall_layout.specs.Layout.{channels, hall_bytes}
use Rattle.answers.specs.declared.runs.RunAnswer.{RunAnswer}
use Rattle.print_decimals.specs.declared.Page.{Page}
use Rattle.print_decimals.specs.Page.{Printed}
use Rattle.print_sections.specs.Limits.{lines_most}
use Rattle.print_sections.specs.Totals.{run_answer_of}

-- behind whichever first configuration has these counts, whichever configuration the hall stores behind an accepted
-- table
pub record HallPrinted (table s first : List ℕ) (a : RunAnswer) (p q : Page) : Type 0 where
  pub found : (t : Table) (f l : Configuration) → read_table table ≡ accepted t → f.counts ≡ take channels first →
      length s ≡ hall_bytes → configuration_of t.terms s ≡ some l → Printed lines_most p (lines f (run_answer_of a l)) q

-- a table opened in a hall, and a run over choices: the table's refusal alone, or the text of both calls
pub record RunTextPrinted (table choices hall : List ℕ) (p q : Page) : Type 0 where
  pub refused : (n i : ℕ) → read_table table ≡ refused_at n i → Printed lines_most p (run_line n i 0) q
  pub done : (t : Table) (text : List ℕ) → read_table table ≡ accepted t → PrintsCalls table choices t hall text →
      Printed lines_most p text q
