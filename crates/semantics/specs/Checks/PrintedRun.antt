-- What is claimed of the printed run (document 01, "The printed run"): for an accepted table it is that of opening a
-- hall and then running the choices on it, as calls on bytes. Proved in theorems/proofs/PrintedRun.
-- Assumes nothing.
use Rattle.std.specs.Prelude.{ℕ, suc, ◌+◌, ◌≤◌, ◌<◌, ◌≡◌, ◌≢◌, List, [], ◌∷◌, ◌++◌, length, take, drop}
use Rattle.std.proofs.Math.Option.{some}
use Rattle.semantics.specs.Definitions.Table.{Kind, kind_by_number, fields, Table, accepted, refused_at, read_table}
use Rattle.semantics.specs.Definitions.Configuration.{Configuration}
use Rattle.semantics.specs.Definitions.Stored.{hall_bytes, configuration_of}
use Rattle.semantics.specs.Definitions.Run.{Counters}
use Rattle.semantics.specs.Definitions.Calls.{opened, open_hall, RunCall, run_call}
use Rattle.semantics.specs.Definitions.Report.{run_line, lines, printed_run}
use Rattle.semantics.specs.Claims.Correspondence.{AcceptsTable}

-- ---- the table of an input

-- so many bytes go up to the end of the first start record, which is found by stepping over records
pub data TableEnds : List ℕ → ℕ → Type 0 where
  at_start : {bs : List ℕ} → TableEnds (13 ∷ bs) 2
  after_record : {k n : ℕ} {bs : List ℕ} (K : Kind) → kind_by_number k ≡ some K → k ≢ 13 →
      TableEnds (drop (length (fields K)) bs) n → TableEnds (k ∷ bs) (suc (length (fields K)) + n)

-- the table is what goes up to there, or all of the input where no start record is found
pub data TablePart (bs : List ℕ) : List ℕ → Type 0 where
  up_to_start : (n : ℕ) → TableEnds bs n → TablePart bs (take n bs)
  all_of_it : ((n : ℕ) → TableEnds bs n → ⊥) → TablePart bs bs

-- every input has one, and one only
unfoldable pub TableFound : Type 0
TableFound =
    (bs : List ℕ) → (table : List ℕ) × TablePart bs table × ((other : List ℕ) → TablePart bs other → other ≡ table)

-- an accepted table in front of any choices is the one that is found
unfoldable pub AcceptedIsFound : Type 0
AcceptedIsFound =
    (table : List ℕ) (t : Table) → read_table table ≡ accepted t →
    (choices : List ℕ) → TablePart (table ++ choices) table

-- ---- what is printed

-- above 16,384 bytes `long` alone, in ASCII
unfoldable pub PrintedLong : Type 0
unfolding printed_run
PrintedLong = (bs : List ℕ) → 16384 < length bs → printed_run bs ≡ 108 ∷ 111 ∷ 110 ∷ 103 ∷ 10 ∷ []

-- for a refused table its number and place, with done 0, and nothing else
unfoldable pub PrintedRefused : Type 0
unfolding printed_run run_line
PrintedRefused =
    (bs : List ℕ) → length bs ≤ 16384 → (table : List ℕ) → TablePart bs table →
    (n p : ℕ) → read_table table ≡ refused_at n p → printed_run bs ≡ run_line n p 0

-- a hall opened in a buffer and a run over choices on it, as calls on bytes, and the text of both: number, place, done
-- and tally of the run, counts and stations as they are read back from the hall's bytes
pub record PrintsCalls (table choices : List ℕ) (t : Table) (buffer text : List ℕ) : Type 0 where
  pub tally : Counters
  pub opens : (open_hall table buffer).answer ≡ opened tally
  pub ran : RunCall
  pub runs : run_call table (record { hall = (open_hall table buffer).hall; counters = tally }) choices ≡ ran
  pub first : Configuration
  pub first_read : configuration_of t.terms (open_hall table buffer).hall ≡ some first
  pub last : Configuration
  pub last_read : configuration_of t.terms ran.buffers.hall ≡ some last
  pub prints :
      text
      ≡ lines first
      (record {
        number = ran.number;
        place = ran.place;
        done = ran.done;
        configuration = last;
        counters = ran.buffers.counters;
      })

-- for an accepted table, whatever stood in the hall before it was opened
unfoldable pub PrintedAsCalls : Type 0
unfolding printed_run
PrintedAsCalls =
    (bs : List ℕ) → length bs ≤ 16384 → (table : List ℕ) → TablePart bs table → (t : Table) → AcceptsTable table t →
    (buffer : List ℕ) → length buffer ≡ hall_bytes → PrintsCalls table (drop (length table) bs) t buffer (printed_run bs)
