-- The text of a printed run (document 01, "The printed run"), line by line, as a relation between a text and a run's
-- answer; and the claims that the text printed is the one that it allows. Proved in theorems/proofs/PrintedLines.
-- Letters are written as their ASCII numbers: R 82, C 67, T 84, P 80, W 87, A 65; space 32, newline 10.
-- Assumes nothing.
use Rattle.std.specs.Prelude.{ℕ, suc, ◌+◌, ◌≤◌, ◌≡◌, ◌⊎◌, ◌↔◌, ◌≢◌, List, [], ◌∷◌, ◌++◌, length, drop, ℤ, pos, negsuc}
use Rattle.calculus.specs.Syntax.{Name, State}
use Rattle.semantics.specs.Definitions.Terms.{Expression, Program}
use Rattle.semantics.specs.Definitions.Table.{Table, refused_at, read_table}
use Rattle.semantics.specs.Definitions.Configuration.{taking, repeating, block, output, Tree, Component, idle, transaction, Configuration, opening, preorder}
use Rattle.semantics.specs.Definitions.Run.{Counters, RunAnswer, run}
use Rattle.semantics.specs.Definitions.Report.{printed_run}
use Rattle.semantics.specs.Claims.Correspondence.{AcceptsTable}
use Rattle.semantics.specs.Checks.Decimals.{SignedOf}
use Rattle.semantics.specs.Checks.PrintedRun.{TablePart}

-- ---- a line

-- the rest of a line behind its letter: a space before each number, and a newline behind the last
pub data Numbers : List ℤ → List ℕ → Type 0 where
  newline : Numbers [] (10 ∷ [])
  space : {z : ℤ} {zs : List ℤ} {word rest : List ℕ} → SignedOf z word → Numbers zs rest →
      Numbers (z ∷ zs) (32 ∷ (word ++ rest))

-- a letter with these numbers
pub data Line (letter : ℕ) (zs : List ℤ) : List ℕ → Type 0 where
  begins : {rest : List ℕ} → Numbers zs rest → Line letter zs (letter ∷ rest)

-- ---- the trays

-- the last count minus the first
pub data NetOf (first last : ℕ) : ℤ → Type 0 where
  gained : (k : ℕ) → first + k ≡ last → NetOf first last (pos k)
  lost : (k : ℕ) → last + suc k ≡ first → NetOf first last (negsuc k)

-- from tray number i on: `T tray first net last` for each whose first or last count is not 0
pub data TrayLines : ℕ → (first last : State) → List ℕ → Type 0 where
  no_more : {i : ℕ} → TrayLines i [] [] []
  passed_over : {i : ℕ} {fs ls : State} {rest : List ℕ} → TrayLines (suc i) fs ls rest →
      TrayLines i (0 ∷ fs) (0 ∷ ls) rest
  told : {i f l : ℕ} {fs ls : State} {net : ℤ} {line rest : List ℕ} → (f ≢ 0) ⊎ (l ≢ 0) → NetOf f l net →
      Line 84 (pos i ∷ pos f ∷ net ∷ pos l ∷ []) line → TrayLines (suc i) fs ls rest →
      TrayLines i (f ∷ fs) (l ∷ ls) (line ++ rest)

-- ---- the stations

-- `P tray` of one that puts, `W term` of one that waits, `A term nodes` of an attempt
pub data StationLine : Component → List ℕ → Type 0 where
  puts : {a : Name} {line : List ℕ} → Line 80 (pos a ∷ []) line → StationLine (idle (output a)) line
  takes : {n : ℕ} {a : Name} {P : Program} {line : List ℕ} → Line 87 (pos n ∷ []) line →
      StationLine (idle (taking n a P)) line
  repeats : {n : ℕ} {a : Name} {P : Program} {line : List ℕ} → Line 87 (pos n ∷ []) line →
      StationLine (idle (repeating n a P)) line
  waits : {n : ℕ} {M : Expression} {line : List ℕ} → Line 87 (pos n ∷ []) line → StationLine (idle (block n M)) line
  attempts : {n : ℕ} {M : Expression} {s : State} {t : Tree} {line : List ℕ} →
      Line 65 (pos n ∷ pos (length (preorder t)) ∷ []) line → StationLine (transaction n M s t) line

-- one for each, in order
pub data StationLines : List Component → List ℕ → Type 0 where
  no_station : StationLines [] []
  station : {c : Component} {cs : List Component} {line rest : List ℕ} → StationLine c line → StationLines cs rest →
      StationLines (c ∷ cs) (line ++ rest)

-- ---- the run

-- `R number place done`, `C commits failed retries`, the trays, the stations, and nothing else
pub record RunPrinted (first : Configuration) (a : RunAnswer) (text : List ℕ) : Type 0 where
  pub run : List ℕ
  pub run_line_holds : Line 82 (pos a.number ∷ pos a.place ∷ pos a.done ∷ []) run
  pub tally : List ℕ
  pub tally_line :
      Line 67 (pos a.counters.commits ∷ pos a.counters.failed ∷ pos a.counters.retries ∷ []) tally
  pub trays : List ℕ
  pub tray_lines : TrayLines 0 first.counts a.configuration.counts trays
  pub stations : List ℕ
  pub station_lines : StationLines a.configuration.components stations
  pub all : text ≡ run ++ (tally ++ (trays ++ stations))

-- ---- the claims

-- an input whose table is refused has its R line with done 0, in one text alone
unfoldable pub RefusedAsStated : Type 0
unfolding printed_run
RefusedAsStated =
    (bs : List ℕ) → length bs ≤ 16384 → (table : List ℕ) → TablePart bs table →
    (n p : ℕ) → read_table table ≡ refused_at n p → (text : List ℕ) →
    (printed_run bs ≡ text) ↔ Line 82 (pos n ∷ pos p ∷ pos 0 ∷ []) text

-- one whose table is accepted has the lines of the run over the choices behind it, from the hall just opened and a
-- tally of zeros, in one text alone
unfoldable pub RunAsStated : Type 0
unfolding printed_run opening run
RunAsStated =
    (bs : List ℕ) → length bs ≤ 16384 → (table : List ℕ) → TablePart bs table → (t : Table) → AcceptsTable table t →
    (text : List ℕ) →
    let tally : Counters = record { commits = 0; failed = 0; retries = 0 } in
    (printed_run bs ≡ text) ↔ RunPrinted (opening t) (run (opening t) tally (drop (length table) bs)) text
