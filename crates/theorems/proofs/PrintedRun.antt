-- The printed run is that of opening a hall and running choices, as calls.
-- Assumes nothing.
use Prim.Native.Nat.{ℕ, zero, suc, ◌+◌, ◌≤◌, ◌<◌}
use native.Mathlib.Omega.{arith}
use mathlib.Core.Path.{◌≡◌, refl, sym, ap, ◌∙◌}
use mathlib.Core.Logic.{◌≢◌}
use mathlib.Core.Bool.{Bool, true, false, cond}
use mathlib.Core.Option.{Option, none, some, bind}
use mathlib.Core.List.{List, [], ◌∷◌, ◌++◌}
use lib.ListN.{length, take, drop, length-drop}
use lib.Seq.{take_at, drop-append-le, drop-length}
use lib.Dec.{eqb, ltb}
use borrow.Author.Tests.{eqb-true, eqb-false, eq-eqb, ne_eqb, ltb-false, lt-ltb, le-ltb}
use Rattle.semantics.specs.Definitions.Basics.{first_of}
use Rattle.semantics.specs.Definitions.Terms.{Program}
use Rattle.semantics.specs.Definitions.Table.{Kind, kind_by_number, fields, TableSoFar, Table, TableAnswer, accepted, refused_at, Content}
use Rattle.semantics.specs.Definitions.Table.{term_record, tokens_record, start_record, nothing, record_content, Test, tests, RecordAnswer, stop, more, table_end}
use Rattle.semantics.specs.Definitions.Table.{record_passed, record_tested, record_of_kind, read_record, then_read, read_from, empty_table, read_table}
use Rattle.semantics.specs.Definitions.Configuration.{opening}
use Rattle.semantics.specs.Definitions.Stored.{WellFormed, hall_bytes, bytes_of, configuration_of}
use Rattle.semantics.specs.Definitions.Run.{fresh_counters, run}
use Rattle.semantics.specs.Definitions.Calls.{opened, open_sized, open_tested, open_hall, run_result}
use Rattle.semantics.specs.Definitions.Report.{report, table_size, split_report, sized_report, printed_run}
use Rattle.semantics.specs.Checks.PrintedRun.{TableEnds, at_start, after_record, TablePart, up_to_start, all_of_it, TableFound, AcceptedIsFound, PrintedLong, PrintedRefused, PrintedAsCalls}
use Rattle.theorems.proofs.GoodTable.{accepted_is_good}
use Rattle.semantics.specs.Checks.AcceptedTables.{kind_byte}
use Rattle.theorems.proofs.RecordShapes.{kind_number, ContentReason, said_reason}
use Rattle.theorems.proofs.RoundTrip.{read_back, opening_is_well_formed}
use Rattle.theorems.proofs.WellFormedKept.{well_formed_step}
use Rattle.theorems.proofs.Runs.{runs_keep}
use Rattle.theorems.proofs.CallsAsOne.{run_tells, stored_run}

-- ---- where the table ends

-- the steps over records go as far as the relation says
size_of : (f : ℕ) (bs : List ℕ) (n : ℕ) → TableEnds bs n → length bs < f → table_size f bs ≡ some n
unfolding table_size bind
size_of zero bs n x h = absurd (omega arith)
size_of (suc f) bs n at_start h = refl
size_of (suc f) bs n (after_record {k = k} {n = m} {bs = rest} K e ne x) h =
    rw (ne_eqb k 13 ne, e, size_of f (drop (length (fields K)) rest) m x (simp length-drop (omega arith))) refl

-- and where they go, the relation says so
ends_at : (f : ℕ) (bs : List ℕ) (n : ℕ) → table_size f bs ≡ some n → TableEnds bs n
unfolding table_size bind
ends_at zero bs n e = let z : ◌≡◌ {A = ℕ} 0 1 = cc in absurd (omega arith)
ends_at (suc f) [] n e = let z : ◌≡◌ {A = ℕ} 0 1 = cc in absurd (omega arith)
ends_at (suc f) (k ∷ bs) n e = from (eqb k 13) refl e (λ size m. ends_at f (drop size bs) m)
  where
    rest : ℕ → Option ℕ
    rest size = bind (table_size f (drop size bs)) (λ m. some (suc size + m))

    over : (K : Kind) → kind_by_number k ≡ some K → k ≢ 13 → (o : Option ℕ) → table_size f (drop (length (fields K)) bs) ≡ o →
        bind o (λ m. some (suc (length (fields K)) + m)) ≡ some n →
        ((size m : ℕ) → table_size f (drop size bs) ≡ some m → TableEnds (drop size bs) m) → TableEnds (k ∷ bs) n
    over K named ne none p q later = let z : ◌≡◌ {A = ℕ} 0 1 = cc in absurd (omega arith)
    over K named ne (some m) p q later =
        let z : suc (length (fields K)) + m ≡ n = cc in
        rw (← z) (after_record K named ne (later (length (fields K)) m p))

    by_kind : (o : Option Kind) → kind_by_number k ≡ o → k ≢ 13 → bind o (λ K. rest (length (fields K))) ≡ some n →
        ((size m : ℕ) → table_size f (drop size bs) ≡ some m → TableEnds (drop size bs) m) → TableEnds (k ∷ bs) n
    by_kind none named ne q later = let z : ◌≡◌ {A = ℕ} 0 1 = cc in absurd (omega arith)
    by_kind (some K) named ne q later = over K named ne (table_size f (drop (length (fields K)) bs)) refl q later

    from : (b : Bool) → eqb k 13 ≡ b → cond b (some 2) (bind (kind_by_number k) (λ K. rest (length (fields K)))) ≡ some n →
        ((size m : ℕ) → table_size f (drop size bs) ≡ some m → TableEnds (drop size bs) m) → TableEnds (k ∷ bs) n
    from true p q later = let z : 2 ≡ n = cc in rw (← z, eqb-true k 13 p) at_start
    from false p q later = by_kind (kind_by_number k) refl (eqb-false k 13 p) q later

-- what the steps find is the table
part_of : (bs : List ℕ) → Option ℕ → List ℕ
part_of bs none = bs
part_of bs (some n) = take n bs

part_found : (bs : List ℕ) (o : Option ℕ) → table_size (suc (length bs)) bs ≡ o → TablePart bs (part_of bs o)
unfolding part_of
part_found bs none e =
    all_of_it
    (λ n x. let s = size_of (suc (length bs)) bs n x (omega arith) in let z : ◌≡◌ {A = ℕ} 0 1 = cc in omega arith)
part_found bs (some n) e = up_to_start n (ends_at (suc (length bs)) bs n e)

-- and nothing else is
part_size : (bs table : List ℕ) → TablePart bs table → part_of bs (table_size (suc (length bs)) bs) ≡ table
unfolding part_of
part_size bs table (up_to_start n x) = rw (size_of (suc (length bs)) bs n x (omega arith)) refl
part_size bs table (all_of_it none_ends) = by_size (table_size (suc (length bs)) bs) refl
  where
    by_size : (o : Option ℕ) → table_size (suc (length bs)) bs ≡ o → part_of bs o ≡ bs
    by_size none e = refl
    by_size (some n) e = absurd (none_ends n (ends_at (suc (length bs)) bs n e))

pub table_found : TableFound
unfolding TableFound
table_found bs =
    let size = table_size (suc (length bs)) bs in
    (part_of bs size, part_found bs size refl, λ other x. sym (part_size bs other x))

-- ---- an accepted table is found in front of any choices

-- a record that passed its tests has its whole body
whole_body : (r : TableSoFar) (K : Kind) (bs : List ℕ) → first_of (λ t. t.holds) (tests r K bs) ≡ none →
    length (fields K) ≤ length bs
unfolding first_of tests
whole_body r K bs e = ltb-false _ _ (fails (ltb (length bs) (length (fields K))) _ _ e)
  where
    fails : (b : Bool) (t : Test) (o : Option Test) → cond b (some t) o ≡ none → b ≡ false
    fails true t o e = let z : ◌≡◌ {A = ℕ} 0 1 = cc in absurd (omega arith)
    fails false t o e = refl

module _ (cs : List ℕ) where
  AnswerEnds : List ℕ → TableAnswer → Type 0
  AnswerEnds bs (accepted t) = TableEnds (bs ++ cs) (length bs)
  AnswerEnds bs (refused_at n p) = Unit {0}

  TurnEnds : List ℕ → RecordAnswer → Type 0
  TurnEnds bs (stop a) = AnswerEnds bs a
  TurnEnds bs (more r w) = TableEnds (drop w bs ++ cs) (length (drop w bs)) → TableEnds (bs ++ cs) (length bs)

  -- over a record that is no start record
  record_ends : (k : ℕ) (rest : List ℕ) (K : Kind) → kind_by_number k ≡ some K → k ≢ 13 → length (fields K) ≤ length rest →
      TableEnds (drop (length (fields K)) rest ++ cs) (length (drop (length (fields K)) rest)) →
      TableEnds (k ∷ (rest ++ cs)) (suc (length rest))
  record_ends k rest K named ne whole x =
      let size = length (fields K) in
      let n : suc size + length (drop size rest) ≡ suc (length rest) = simp length-drop (omega arith) in
      rw (← n)
      (after_record {n = length (drop size rest)} {bs = rest ++ cs} K named ne
      (rw (drop-append-le size rest cs whole) x))

  closed_ends : (r : TableSoFar) (P : Program) (k at : ℕ) (rest : List ℕ) → k ≡ 13 → 1 ≤ length rest →
      AnswerEnds (k ∷ rest) (table_end r P at (drop 1 rest))
  unfolding table_end AnswerEnds
  closed_ends r P k at [] e h = absurd (omega arith)
  closed_ends r P k at (x ∷ []) e h = rw e at_start
  closed_ends r P k at (x ∷ y ∷ ys) e h = tt

  passed_ends : (r : TableSoFar) (k place at : ℕ) (rest : List ℕ) (K : Kind) → kind_by_number k ≡ some K →
      length (fields K) ≤ length rest → (c : Content) → ContentReason K rest c →
      TurnEnds (k ∷ rest) (record_passed r place c (suc (length (fields K))) at (drop (length (fields K)) rest))
  unfolding record_passed TurnEnds AnswerEnds
  passed_ends r k place at rest K named whole (term_record u) y =
      let n = kind_number k K named in record_ends k rest K named (λ z. omega arith) whole
  passed_ends r k place at rest K named whole (tokens_record a m) y =
      let n = kind_number k K named in
      record_ends k rest K named (λ z. let w : kind_byte K ≡ 12 = y.0 in omega arith) whole
  passed_ends r k place at rest K named whole (start_record P) y =
      rw y.1 (closed_ends r P k at rest (kind_number k K named ∙ y.0) (rw y.1 at whole))
  passed_ends r k place at rest K named whole nothing y = tt

  turn_ends : (r : TableSoFar) (at : ℕ) (bs : List ℕ) → TurnEnds bs (read_record r at bs)
  unfolding read_record record_of_kind record_tested TurnEnds AnswerEnds
  turn_ends r at [] = tt
  turn_ends r at (k ∷ rest) = by_kind (kind_by_number k) refl
    where
      by_test : (K : Kind) → kind_by_number k ≡ some K → (o : Option Test) → first_of (λ t. t.holds) (tests r K rest) ≡ o →
          TurnEnds (k ∷ rest) (record_tested r at K rest o)
      by_test K named (some t) e = tt
      by_test K named none e =
          passed_ends r k at _ rest K named (whole_body r K rest e) (record_content r.terms rest K)
          (said_reason r.terms rest K)

      by_kind : (o : Option Kind) → kind_by_number k ≡ o → TurnEnds (k ∷ rest) (record_of_kind r at rest o)
      by_kind none e = tt
      by_kind (some K) e = by_test K e _ refl

  from_ends : (f : ℕ) (r : TableSoFar) (at : ℕ) (bs : List ℕ) → AnswerEnds bs (read_from f r at bs)
  unfolding read_from then_read TurnEnds AnswerEnds
  from_ends zero r at bs = tt
  from_ends (suc f) r at bs = go (read_record r at bs) (turn_ends r at bs) (λ s w. from_ends f s (at + w) (drop w bs))
    where
      lifted : (w : ℕ) (a : TableAnswer) →
          (TableEnds (drop w bs ++ cs) (length (drop w bs)) → TableEnds (bs ++ cs) (length bs)) →
          AnswerEnds (drop w bs) a → AnswerEnds bs a
      lifted w (accepted t) g x = g x
      lifted w (refused_at n p) g x = tt

      go : (x : RecordAnswer) → TurnEnds bs x →
          ((s : TableSoFar) (w : ℕ) → AnswerEnds (drop w bs) (read_from f s (at + w) (drop w bs))) →
          AnswerEnds bs (then_read x (λ s w. read_from f s (at + w) (drop w bs)))
      go (stop a) e later = e
      go (more s w) e later = lifted w (read_from f s (at + w) (drop w bs)) e (later s w)

pub accepted_is_found : AcceptedIsFound
unfolding AcceptedIsFound read_table AnswerEnds
accepted_is_found table t reads choices =
    let x : TableEnds (table ++ choices) (length table) =
    rw reads at (from_ends choices (suc (length table)) empty_table 0 table) in
    rw (take_at table choices (length table) refl) at (up_to_start (length table) x)

-- ---- the text

-- what is behind the first n elements is behind as many as there are of them
drop_length_take : (n : ℕ) (bs : List ℕ) → drop (length (take n bs)) bs ≡ drop n bs
drop_length_take zero bs = refl
drop_length_take (suc n) [] = refl
drop_length_take (suc n) (b ∷ bs) = drop_length_take n bs

-- the text goes by the table that is found and the choices behind it
pub split_text : (bs table : List ℕ) → TablePart bs table → length bs ≤ 16384 →
    printed_run bs ≡ report (drop (length table) bs) (read_table table)
unfolding printed_run sized_report split_report part_of
split_text bs table x h =
    rw (le-ltb 16384 (length bs) h)
    (split (table_size (suc (length bs)) bs)
    ∙ ap (λ u. report (drop (length u) bs) (read_table u)) (part_size bs table x))
  where
    split : (o : Option ℕ) → split_report bs o ≡ report (drop (length (part_of bs o)) bs) (read_table (part_of bs o))
    split none = rw drop-length refl
    split (some n) = rw (drop_length_take n bs) refl

pub printed_long : PrintedLong
unfolding PrintedLong printed_run sized_report
printed_long bs h = rw (lt-ltb 16384 (length bs) h) refl

pub printed_refused : PrintedRefused
unfolding PrintedRefused report
printed_refused bs h table x n p e = split_text bs table x h ∙ ap (report (drop (length table) bs)) e

-- opening an accepted table in a buffer of a hall's size
opening_gives : (table : List ℕ) (t : Table) → read_table table ≡ accepted t →
    (buffer : List ℕ) → length buffer ≡ hall_bytes →
    open_hall table buffer ≡ record { answer = opened fresh_counters; hall = bytes_of (opening t) }
unfolding open_hall open_tested open_sized
opening_gives table t reads buffer size =
    ap (open_tested buffer) reads
    ∙ ap (open_sized t buffer) (ap (λ n. eqb n hall_bytes) size ∙ eq-eqb hall_bytes hall_bytes refl)

pub printed_as_calls : PrintedAsCalls
unfolding PrintedAsCalls report run_result
printed_as_calls bs h table x t accepts buffer size =
    let reads = accepts.1 in
    let good = accepted_is_good table t reads in
    let w = opening_is_well_formed table t accepts.0 reads in
    let choices = drop (length table) bs in
    let o = opening_gives table t reads buffer size in
    let a = run (opening t) fresh_counters choices in
    let runs = run_tells (opening t) fresh_counters choices in
    record {
      tally = fresh_counters;
      opens = ap (λ x. x.answer) o;
      ran = run_result a;
      runs = stored_run table t reads _ (opening t) (ap (λ x. x.hall) o) w choices;
      first = opening t;
      first_read = ap (λ x. configuration_of t.terms x.hall) o ∙ read_back t.terms (opening t) good w;
      last = a.configuration;
      last_read =
          read_back t.terms a.configuration good
          (runs_keep (WellFormed t.terms) (λ h e r g w q. well_formed_step e good w q) runs.0 w);
      prints = split_text bs table x h ∙ ap (report choices) reads;
    }
