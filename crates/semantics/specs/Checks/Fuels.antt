-- The definitions that count turns down from a number, so that they are seen to end, never run out of it. For each: the
-- same clauses with anything whatever in the place of what is answered at zero, and the claim that with as much as is
-- given, or with more, the answer is that of the definition. So what stands at zero is answered to no input, and no
-- answer depends on how much is given. Proved in theorems/proofs/Fuels.
-- Assumes nothing.
use Rattle.std.specs.Prelude.{ℕ, zero, suc, ◌+◌, ◌/◌, ◌%◌, ◌^◌, ◌≤◌, ◌<◌, ◌≡◌, cond, List, [], ◌∷◌, ◌++◌, length, drop, leb, ltb, eqb}
use Rattle.std.proofs.Math.Option.{Option, none, some, bind}
use Rattle.std.proofs.Math.ListN.{get_elem?}
use Rattle.semantics.specs.Definitions.Layout.{channels, max_components, max_branches}
use Rattle.semantics.specs.Definitions.Basics.{All, Bytes, only_if, zeros}
use Rattle.semantics.specs.Definitions.Terms.{Term}
use Rattle.semantics.specs.Definitions.Table.{kind_by_number, fields, TableSoFar, Table, TableAnswer, refused_at, read_record, then_read, empty_table, read_from, read_table}
use Rattle.semantics.specs.Definitions.Configuration.{taking, repeating, block, output, Tree, Component, idle, transaction, Configuration, branches_of, opening, nodes}
use Rattle.semantics.specs.Definitions.Stored.{split_bytes, node_kind, node_from, tree_from, waiting_component, transaction_on, transaction_c, component_kind, component_from, components_from, configuration_of}
use Rattle.semantics.specs.Definitions.Run.{Counters, fresh_counters, RunAnswer, run}
use Rattle.semantics.specs.Definitions.Report.{digits, decimal, table_size, split_report, printed_run}
use Rattle.semantics.specs.Claims.Correspondence.{AcceptsTable}

-- ---- reading a table

unfoldable pub read_or : (TableSoFar → ℕ → List ℕ → TableAnswer) → ℕ → TableSoFar → ℕ → List ℕ → TableAnswer
unfolding read_record then_read
read_or z zero r at bs = z r at bs
read_or z (suc f) r at bs = then_read (read_record r at bs) (λ s w. read_or z f s (at + w) (drop w bs))

-- one turn more than there are bytes is enough
unfoldable pub TableReadToItsEnd : Type 0
unfolding read_from read_or empty_table read_table
TableReadToItsEnd =
    (bs : List ℕ) (f : ℕ) → suc (length bs) ≤ f → (read_from f empty_table 0 bs ≡ read_table bs) ×
    ((z : TableSoFar → ℕ → List ℕ → TableAnswer) → read_or z f empty_table 0 bs ≡ read_table bs)

-- ---- reading a tree of nodes

unfoldable pub tree_or : (List ℕ → Option (Tree × List ℕ)) → ℕ → List Term → List ℕ → Option (Tree × List ℕ)
unfolding node_from node_kind
tree_or z zero ts bs = z bs
tree_or z (suc f) ts [] = none
tree_or z (suc f) ts (k ∷ bs) = node_from ts (λ x. tree_or z f ts x) (node_kind k) bs

-- an attempt from the byte behind its kind, its tree read by a given reader
unfoldable pub attempt_by : (List ℕ → Option (Tree × List ℕ)) → List Term → ℕ → List ℕ → Option (Component × List ℕ)
unfolding bind only_if split_bytes waiting_component transaction_on branches_of
attempt_by read ts n bs =
    bind (split_bytes channels bs) (λ s.
    bind (read s.1) (λ t.
    bind (transaction_on (waiting_component (get_elem? ts n)) s.0 t.0) (λ c.
    only_if (leb (branches_of t.0) max_branches) (c, t.1))))

unfoldable pub TreesReadToTheirEnd : Type 0
unfolding tree_from tree_or attempt_by component_from
TreesReadToTheirEnd =
    (ts : List Term) (n : ℕ) (bs : List ℕ) (f : ℕ) → suc (length bs) ≤ f →
    (attempt_by (tree_from f ts) ts n bs ≡ component_from ts transaction_c n bs) ×
    ((z : List ℕ → Option (Tree × List ℕ)) → attempt_by (tree_or z f ts) ts n bs ≡ component_from ts transaction_c n bs)

-- ---- reading the components of a hall

unfoldable pub components_or : (List ℕ → Option (List Component)) → ℕ → List Term → List ℕ → Option (List Component)
unfolding bind only_if component_from component_kind zeros
components_or z zero ts bs = z bs
components_or z (suc f) ts [] = some []
components_or z (suc f) ts (zero ∷ bs) = only_if (zeros bs) []
components_or z (suc f) ts (suc k ∷ []) = none
components_or z (suc f) ts (suc k ∷ n ∷ bs) =
    bind (component_from ts (component_kind (suc k)) n bs) (λ c.
    bind (components_or z f ts c.1) (λ cs. some (c.0 ∷ cs)))

-- a configuration, its components read by a given reader
unfoldable pub configuration_by : (List ℕ → Option (List Component)) → List ℕ → Option Configuration
unfolding bind only_if split_bytes
configuration_by read bs =
    bind (split_bytes channels bs) (λ c.
    bind (read c.1) (λ cs.
    only_if (leb (length cs) max_components) (record { counts = c.0; components = cs })))

unfoldable pub HallsReadToTheirEnd : Type 0
unfolding components_from components_or configuration_by configuration_of
HallsReadToTheirEnd =
    (ts : List Term) (bs : List ℕ) (f : ℕ) → suc (length bs) ≤ f →
    (configuration_by (components_from f ts) bs ≡ configuration_of ts bs) ×
    ((z : List ℕ → Option (List Component)) → configuration_by (components_or z f ts) bs ≡ configuration_of ts bs)

-- ---- where the table of an input ends

unfoldable pub table_size_or : (List ℕ → Option ℕ) → ℕ → List ℕ → Option ℕ
unfolding fields kind_by_number bind
table_size_or z zero bs = z bs
table_size_or z (suc f) [] = none
table_size_or z (suc f) (k ∷ bs) =
    cond (eqb k 13) (some 2)
    (bind (kind_by_number k) (λ K.
    let size = length (fields K) in bind (table_size_or z f (drop size bs)) (λ n. some (suc size + n))))

unfoldable pub InputsSplitAtTheTablesEnd : Type 0
unfolding table_size table_size_or split_report printed_run
InputsSplitAtTheTablesEnd =
    (bs : List ℕ) (f : ℕ) → length bs ≤ 16384 → suc (length bs) ≤ f →
    (split_report bs (table_size f bs) ≡ printed_run bs) ×
    ((z : List ℕ → Option ℕ) → split_report bs (table_size_or z f bs) ≡ printed_run bs)

-- ---- a number's digits

unfoldable pub digits_or : (ℕ → List ℕ) → ℕ → ℕ → List ℕ
digits_or z zero n = z n
digits_or z (suc f) n = cond (ltb n 10) ((48 + n) ∷ []) (digits_or z f (n / 10) ++ ((48 + n % 10) ∷ []))

-- of every number below 10 ^ 20
unfoldable pub DigitsPrintedToTheLast : Type 0
unfolding digits digits_or decimal
DigitsPrintedToTheLast =
    (n f : ℕ) → n < 10 ^ 20 → 20 ≤ f →
    (digits f n ≡ decimal n) × ((z : ℕ → List ℕ) → digits_or z f n ≡ decimal n)

-- ---- and every number that is printed is far below that

-- the numbers in a component's line
abbrev pub line_numbers : Component → List ℕ
line_numbers (idle (taking n a P)) = n ∷ []
line_numbers (idle (repeating n a P)) = n ∷ []
line_numbers (idle (block n M)) = n ∷ []
line_numbers (idle (output a)) = a ∷ []
line_numbers (transaction n M s t) = n ∷ nodes t ∷ []

abbrev pub CountersFit : Counters → Type 0
CountersFit c = (c.commits ≤ 4294967295) × (c.failed ≤ 4294967295) × (c.retries ≤ 4294967295)

-- the numbers in the lines of a run; trays are numbered below 16, and a net lies between two counts
pub record LinesFit (first : Configuration) (a : RunAnswer) : Type 0 where
  pub number : a.number ≤ 20
  pub place : a.place ≤ 16384
  pub done : a.done ≤ 16384
  pub counters : CountersFit a.counters
  pub first_counts : (length first.counts ≡ 16) × Bytes first.counts
  pub last_counts : (length a.configuration.counts ≡ 16) × Bytes a.configuration.counts
  pub each : All (λ c. Bytes (line_numbers c)) a.configuration.components

-- what an input of at most 16,384 bytes has printed, its table refused or accepted. Every number of a sentence is
-- handed in as a byte (Claims/Sentences, AllBytes).
unfoldable pub PrintedNumbersFit : Type 0
unfolding read_table opening run fresh_counters
PrintedNumbersFit =
    ((table : List ℕ) (n p : ℕ) → length table ≤ 16384 → read_table table ≡ refused_at n p → (n ≤ 9) × (p ≤ 16384)) ×
    ((table choices : List ℕ) (t : Table) → AcceptsTable table t → length choices ≤ 16384 →
    LinesFit (opening t) (run (opening t) fresh_counters choices))
