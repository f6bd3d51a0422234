-- Worked rows for Checks/Branches and Checks/Fuels: expressions with their branches, their length and their paths
-- written out, processes with their widths, the first readable path at given counts; lists that are an expression's
-- branches and lists that are not; inputs whose answers would be others if reading them or printing their numbers ended
-- too early, and what is answered with too few turns. Proved in proofs/MeasureExamples.
-- Assumes nothing.
use Rattle.std.specs.Prelude.{ℕ, ◌^◌, ◌≡◌, List, [], ◌∷◌, ◌++◌}
use Prim.Native.String.{String}
use Rattle.std.proofs.Math.Option.{Option, none, some}
use Rattle.calculus.specs.Syntax.{rd, wt, Log, State}
use Rattle.semantics.specs.Definitions.Basics.{All}
use Rattle.semantics.specs.Definitions.Terms.{Expression, end_t, retry_t, rd_t, wt_t, or_else_t, Program, nil_t, put_t, take_t, repeat_t, par_t, atom_t, width, branches, path_length}
use Rattle.semantics.specs.Definitions.Logs.{paths, first_readable}
use Rattle.semantics.specs.Definitions.Table.{refused_at, empty_table, read_table}
use Rattle.semantics.specs.Definitions.Configuration.{output, leaf, fork, idle}
use Rattle.semantics.specs.Definitions.Report.{decimal, printed_run}
use Rattle.semantics.specs.Definitions.Sentence.{ascii}
use Rattle.semantics.specs.Checks.Branches.{in_end, in_retry, on_left, on_right, Branch, Told, AllBranches}
use Rattle.semantics.specs.Checks.Fuels.{read_or, tree_or, components_or, table_size_or, digits_or}
use Rattle.semantics.specs.Checks.Examples.{numbers, times, leaf_of}
use Rattle.semantics.specs.Checks.EdgeExamples.{TableRow, table_seen, fits, stored_table, FormRow, form_in, sound, tree, forks}

-- ---- expressions

pub record Measured : Type 0 where
  pub branches : ℕ
  pub length : ℕ
  pub paths : List Log

pub record MeasureRow : Type 0 where
  pub term : Expression
  pub expected : Measured

unfoldable pub measured : Expression → Measured
unfolding branches path_length paths
measured M = record { branches = branches M; length = path_length M; paths = paths M }

-- a term's number is not looked at: each is 0 here
abbrev e : Expression
e = end_t 0

abbrev again : Expression
again = retry_t 0

abbrev read : ℕ → Expression → Expression
read a M = rd_t 0 a M

abbrev write : ℕ → Expression → Expression
write a M = wt_t 0 a M

abbrev or : Expression → Expression → Expression
or M N = or_else_t 0 M N

unfoldable pub measures : List MeasureRow
measures =
    row e 1 0 ([] ∷ []) ∷
    row again 1 0 [] ∷
    row (read 3 (write 4 (read 3 e))) 1 3 ((rd 3 ∷ wt 4 ∷ rd 3 ∷ []) ∷ []) ∷
    row (write 5 again) 1 1 [] ∷
    -- what stands before an orElse is on each of its branches, once
    row (read 2 (or (read 0 e) (write 1 (read 1 e)))) 2 3 ((rd 2 ∷ rd 0 ∷ []) ∷ (rd 2 ∷ wt 1 ∷ rd 1 ∷ []) ∷ []) ∷
    row (write 2 (or e (read 0 e))) 2 2 ((wt 2 ∷ []) ∷ (wt 2 ∷ rd 0 ∷ []) ∷ []) ∷
    row (read 1 (write 2 (or e e))) 2 2 ((rd 1 ∷ wt 2 ∷ []) ∷ (rd 1 ∷ wt 2 ∷ []) ∷ []) ∷
    row (read 0 (or e (read 0 again))) 2 2 ((rd 0 ∷ []) ∷ []) ∷
    -- two branches with the same actions are two
    row (or e e) 2 0 ([] ∷ [] ∷ []) ∷
    row (or (read 6 e) (or (read 6 e) (read 6 e))) 3 1 ((rd 6 ∷ []) ∷ (rd 6 ∷ []) ∷ (rd 6 ∷ []) ∷ []) ∷
    -- one that finishes in retry is a branch, may be the longest, and is no path
    row (or (write 0 (write 1 again)) e) 2 2 ([] ∷ []) ∷
    row (or (read 0 e) (write 1 (write 2 again))) 2 2 ((rd 0 ∷ []) ∷ []) ∷
    row (or again again) 2 0 [] ∷
    -- the longer side is the left one, the right one, neither
    row (or (read 0 (read 1 e)) (write 2 e)) 2 2 ((rd 0 ∷ rd 1 ∷ []) ∷ (wt 2 ∷ []) ∷ []) ∷
    row (or (write 2 e) (read 0 (read 1 e))) 2 2 ((wt 2 ∷ []) ∷ (rd 0 ∷ rd 1 ∷ []) ∷ []) ∷
    row (or (read 0 (write 1 e)) (write 1 (read 0 e))) 2 2 ((rd 0 ∷ wt 1 ∷ []) ∷ (wt 1 ∷ rd 0 ∷ []) ∷ []) ∷
    -- an orElse on both sides of another, and below one that stands behind a read
    row (or (or (read 0 e) (write 1 e)) (or (write 2 again) (read 3 (write 3 e)))) 4 2
    ((rd 0 ∷ []) ∷ (wt 1 ∷ []) ∷ (rd 3 ∷ wt 3 ∷ []) ∷ []) ∷
    row (or (read 4 (or (or e again) (write 5 (or (read 6 e) (write 7 e))))) (read 8 e)) 5 3
    ((rd 4 ∷ []) ∷ (rd 4 ∷ wt 5 ∷ rd 6 ∷ []) ∷ (rd 4 ∷ wt 5 ∷ wt 7 ∷ []) ∷ (rd 8 ∷ []) ∷ []) ∷
    []
  where
    row : Expression → (branches length : ℕ) → List Log → MeasureRow
    row M b l ps = record { term = M; expected = record { branches = b; length = l; paths = ps } }

-- ---- the first readable path

pub record FirstRow : Type 0 where
  pub counts : State
  pub term : Expression
  pub expected : Option Log

unfoldable pub firsts : List FirstRow
unfolding numbers
firsts =
    -- of three, at counts that allow all, all but the first, the last alone
    row "1 1 0" (some (rd 0 ∷ [])) ∷
    row "0 1 0" (some (rd 1 ∷ wt 0 ∷ [])) ∷
    row "0 0 1" (some (rd 2 ∷ wt 1 ∷ [])) ∷
    -- a path that reads a tray twice, at one token and at two; and none
    twice "1 0 0" none ∷
    twice "2 0 0" (some (rd 0 ∷ rd 0 ∷ [])) ∷
    -- an empty path is readable at any counts, and a branch that says retry is passed over
    record { counts = numbers "0 0 0"; term = or again (or e (write 1 e)); expected = some [] } ∷
    []
  where
    row : String → Option Log → FirstRow
    row counts o =
        let M = or (read 0 e) (or (read 1 (write 0 e)) (read 2 (write 1 e))) in
        record { counts = numbers counts; term = M; expected = o }

    twice : String → Option Log → FirstRow
    twice counts o = record { counts = numbers counts; term = or (read 0 (read 0 e)) (read 1 again); expected = o }

-- ---- widths

pub record WidthRow : Type 0 where
  pub term : Program
  pub expected : ℕ

unfoldable pub process_widths : List WidthRow
process_widths =
    row nothing 1 ∷
    row put 1 ∷
    -- what follows a take, and what is in a block, is not counted
    row (take_t 0 1 (beside put put)) 1 ∷
    row (repeat_t 0 1 (beside put put)) 1 ∷
    row (atom_t 0 (or (read 0 e) e)) 1 ∷
    -- side by side, nil on either side, and the same term twice
    row (beside put put) 2 ∷
    row (beside nothing nothing) 2 ∷
    row (beside put nothing) 2 ∷
    row (beside nothing (beside (take_t 0 1 put) nothing)) 3 ∷
    row (beside (beside put put) (beside put (beside put put))) 5 ∷
    []
  where
    row : Program → ℕ → WidthRow
    row P n = record { term = P; expected = n }

    nothing : Program
    nothing = nil_t 0

    put : Program
    put = put_t 0 3

    beside : Program → Program → Program
    beside P Q = par_t 0 P Q

-- ---- read and printed to the end

-- a number, and its digits
pub record DigitRow : Type 0 where
  pub number : ℕ
  pub expected : List ℕ

unfoldable pub digit_rows : List DigitRow
unfolding ascii
digit_rows =
    row 0 "0" ∷
    row 9 "9" ∷
    row 10 "10" ∷
    row 100 "100" ∷
    row 255 "255" ∷
    row 16384 "16384" ∷
    row 4294967295 "4294967295" ∷
    row 99999999999999999999 "99999999999999999999" ∷
    []
  where
    row : ℕ → String → DigitRow
    row n text = record { number = n; expected = ascii text }

-- tables of records of one byte, up to the start record: nil nine times, and nil with ends between
unfoldable pub short_records : List TableRow
unfolding numbers times fits
short_records = fits (times 9 (1 ∷ []) ++ numbers "13 8") [] ∷ fits (times 30 (1 ∷ 7 ∷ []) ++ numbers "13 58") [] ∷ []

-- such a table and choices behind it: the place of the refused one is counted from the first choice on
unfoldable pub TableThenChoices : Type 0
unfolding numbers times ascii printed_run
TableThenChoices = printed_run (times 9 (1 ∷ []) ++ numbers "2 5 13 9 1 0 1 0") ≡ ascii "R 14 2 1\nC 0 0 0\nT 5 0 1 1\n"

-- a tree of eight leaves one below the other: each fork's left side, or its right side, is a leaf
unfoldable pub deep_trees : List FormRow
unfolding leaf_of sound tree forks times
deep_trees =
    sound (tree (forks 7 (leaf_of 0 0 "") (leaf_of 0 0 ""))) "2 0 0 2 0 2 2 0 4 2 0 6 2 0 8 2 0 10 2 0 12" ∷
    sound (tree (times 7 (22 ∷ []) ++ times 8 (leaf_of 0 0 ""))) "2 0 6" ∷
    []

-- given too few turns, what stands at zero shows
pub record RunningOut : Type 0 where
  pub in_a_table : read_or (λ r at bs. refused_at 77 at) 2 empty_table 0 (1 ∷ 1 ∷ 1 ∷ []) ≡ refused_at 77 2
  pub in_a_tree :
      tree_or (λ bs. some (leaf e [], bs)) 1 [] (22 ∷ 22 ∷ []) ≡ some (fork (leaf e []) (leaf e []), 22 ∷ [])
  pub in_a_hall : components_or (λ bs. some []) 1 [] (24 ∷ 3 ∷ 99 ∷ []) ≡ some (idle (output 3) ∷ [])
  pub in_an_input : table_size_or (λ bs. some 77) 2 (1 ∷ 1 ∷ 1 ∷ []) ≡ some 79
  pub in_a_number : digits_or (λ n. 7 ∷ []) 20 (10 ^ 20) ≡ 7 ∷ times 20 (48 ∷ [])

-- ---- the branches of rd 0.end orElse retry

abbrev pub two_branches : Expression
two_branches = or (read 0 e) again

abbrev pub left_branch : Told
left_branch = record { way = on_left ∷ []; actions = rd 0 ∷ []; finish = in_end }

abbrev pub right_branch : Told
right_branch = record { way = on_right ∷ []; actions = []; finish = in_retry }

-- they are these two, and no list that has them in another order, one of them twice, one of them alone, or one besides
pub record BranchRows : Type 0 where
  pub these : AllBranches two_branches (left_branch ∷ right_branch ∷ [])
  pub in_order_holds : ¬ AllBranches two_branches (right_branch ∷ left_branch ∷ [])
  pub once : ¬ AllBranches two_branches (left_branch ∷ left_branch ∷ right_branch ∷ [])
  pub not_left_out : ¬ AllBranches two_branches (left_branch ∷ [])
  pub none_besides :
      (δ : Log) → ¬ AllBranches two_branches
      (left_branch ∷ right_branch ∷ record { way = on_right ∷ on_right ∷ []; actions = δ; finish = in_end } ∷ [])
  -- a read is not passed over, and retry is no end
  pub with_its_actions : ¬ Branch two_branches (on_left ∷ []) [] in_end
  pub as_it_finishes : ¬ Branch two_branches (on_right ∷ []) [] in_end

pub record MeasureExamples : Type 0 where
  pub measures : All (λ r. measured r.term ≡ r.expected) measures
  pub firsts : All (λ r. first_readable r.counts r.term ≡ r.expected) firsts
  pub process_widths_holds : All (λ r. width r.term ≡ r.expected) process_widths
  pub digit_rows_holds : All (λ r. decimal r.number ≡ r.expected) digit_rows
  pub short_records_holds : All (λ r. table_seen r.table ≡ r.expected) short_records
  pub table_then_choices : TableThenChoices
  pub running_out : RunningOut
  pub branch_rows : BranchRows
  pub deep_trees_holds : All (λ r. form_in (read_table stored_table) r.bytes ≡ r.expected) deep_trees
