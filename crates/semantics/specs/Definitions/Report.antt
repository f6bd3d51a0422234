-- The printed run as a function from input bytes to output bytes (document 01, "The printed run").
-- Assumes nothing.
use Rattle.std.specs.Prelude.{ℕ, zero, suc, ◌+◌, ◌/◌, ◌%◌, Bool, true, false, cond, ◌&&◌, List, [], ◌∷◌, ◌++◌, map, length, take, drop, ltb, eqb, ℤ, pos, negsuc}
use Rattle.std.proofs.Math.Option.{Option, none, some, bind}
use Rattle.calculus.specs.Syntax.{State}
use Rattle.semantics.specs.Definitions.Layout.{max_input}
use mathlib.Core.List.{flatten}
use Rattle.semantics.specs.Definitions.Table.{kind_by_number, fields, TableAnswer, accepted, refused_at, read_table}
use Rattle.semantics.specs.Definitions.Configuration.{taking, repeating, block, output, Component, idle, transaction, Configuration, opening, nodes}
use Rattle.semantics.specs.Definitions.Run.{Counters, fresh_counters, RunAnswer, net, run}

-- ---- numbers and lines in ASCII

-- a number's decimal digits, at most as many as the first argument says
unfoldable pub digits : ℕ → ℕ → List ℕ
digits zero n = []
digits (suc f) n = cond (ltb n 10) ((48 + n) ∷ []) (digits f (n / 10) ++ ((48 + n % 10) ∷ []))

-- every number printed is below 10 ^ 20
unfoldable pub decimal : ℕ → List ℕ
unfolding digits
decimal n = digits 20 n

-- a signed number: a minus sign where it is negative, no sign elsewhere
unfoldable pub signed : ℤ → List ℕ
unfolding decimal
signed (pos n) = decimal n
signed (negsuc n) = 45 ∷ decimal (suc n)

-- a letter, then each word behind a space, then a newline
unfoldable pub line : ℕ → List (List ℕ) → List ℕ
unfolding flatten
line letter words = (letter ∷ flatten (map (◌∷◌ 32) words)) ++ (10 ∷ [])

-- ---- the lines

-- `R number place done`
unfoldable pub run_line : (number place done : ℕ) → List ℕ
unfolding line decimal
run_line n p d = line 82 (decimal n ∷ decimal p ∷ decimal d ∷ [])

-- `C commits failed retries`
unfoldable pub counters_line : Counters → List ℕ
unfolding line decimal
counters_line c = line 67 (decimal c.commits ∷ decimal c.failed ∷ decimal c.retries ∷ [])

-- `T tray first net last`
unfoldable pub channel_line : (channel first last : ℕ) → List ℕ
unfolding line decimal signed net
channel_line i f l = line 84 (decimal i ∷ decimal f ∷ signed (net f l) ∷ decimal l ∷ [])

-- one for each tray from tray i on, but not for a tray that was and is empty
unfoldable pub channel_lines : ℕ → (first last : State) → List ℕ
unfolding channel_line
channel_lines i [] ls = []
channel_lines i (f ∷ fs) [] = []
channel_lines i (f ∷ fs) (l ∷ ls) = cond (eqb f 0 && eqb l 0) [] (channel_line i f l) ++ channel_lines (suc i) fs ls

-- the line of a station: `P tray`, `W term`, `A term nodes`
unfoldable pub component_line : Component → List ℕ
unfolding line decimal nodes
component_line (idle (taking n a P)) = line 87 (decimal n ∷ [])
component_line (idle (repeating n a P)) = line 87 (decimal n ∷ [])
component_line (idle (block n M)) = line 87 (decimal n ∷ [])
component_line (idle (output a)) = line 80 (decimal a ∷ [])
component_line (transaction n M s t) = line 65 (decimal n ∷ decimal (nodes t) ∷ [])

-- ---- the report

unfoldable pub lines : Configuration → RunAnswer → List ℕ
unfolding run_line counters_line channel_lines component_line flatten
lines first a =
    let last = a.configuration in
    run_line a.number a.place a.done ++ (counters_line a.counters ++
    (channel_lines 0 first.counts last.counts ++ flatten (map component_line last.components)))

-- a refused table has its R line and nothing else. The paper has one more case, a hall that does not open: the program
-- lends opening a hall of the right size, so behind an accepted table there is no such case.
unfoldable pub report : List ℕ → TableAnswer → List ℕ
unfolding lines run_line opening run fresh_counters
report choices (refused_at n p) = run_line n p 0
report choices (accepted t) = lines (opening t) (run (opening t) fresh_counters choices)

-- ---- the input's two parts

-- how many bytes there are up to the end of the first start record (kind 13, of two bytes), going from record to record
unfoldable pub table_size : ℕ → List ℕ → Option ℕ
unfolding fields kind_by_number bind
table_size zero bs = none
table_size (suc f) [] = none
table_size (suc f) (k ∷ bs) =
    cond (eqb k 13) (some 2)
    (bind (kind_by_number k) (λ K.
    let size = length (fields K) in bind (table_size f (drop size bs)) (λ n. some (suc size + n))))

unfoldable pub split_report : List ℕ → Option ℕ → List ℕ
unfolding report read_table
split_report bs none = report [] (read_table bs)
split_report bs (some n) = report (drop n bs) (read_table (take n bs))

-- an input that is too long is not read at all: the line `long` is all that is printed
unfoldable pub sized_report : List ℕ → Bool → List ℕ
unfolding split_report table_size
sized_report bs true = 108 ∷ 111 ∷ 110 ∷ 103 ∷ 10 ∷ []
sized_report bs false = split_report bs (table_size (suc (length bs)) bs)

unfoldable pub printed_run : List ℕ → List ℕ
unfolding sized_report
printed_run bs = sized_report bs (ltb max_input (length bs))
