-- The text of a run: for a hall that it left behind, and for a table that is opened.
-- Assumes nothing.
use Prim.Native.Nat.{ℕ, suc}
use native.Mathlib.Omega.{arith}
use mathlib.Core.Path.{◌≡◌, refl, sym, ap, ◌∙◌}
use mathlib.Core.Bool.{Bool, true, false}
use mathlib.Core.Option.{Option, none, some, bind}
use mathlib.Core.List.{List}
use lib.ListN.{length, take, drop}
use lib.Seq.{take-take}
use lib.Dec.{leb}
use borrow.Author.Tests.{eq-eqb}
use Rattle.std.specs.Prelude.{Ok, Err}
use Rattle.semantics.specs.Definitions.Basics.{only_if}
use Rattle.semantics.specs.Definitions.Terms.{Term}
use Rattle.semantics.specs.Definitions.Table.{Table, accepted, refused_at, read_table}
use Rattle.semantics.specs.Definitions.Configuration.{Component, Configuration}
use Rattle.semantics.specs.Definitions.Stored.{split_bytes, components_from, configuration_of}
use Rattle.semantics.specs.Definitions.Run as run
use Rattle.semantics.specs.Definitions.Calls.{admitted, form_tested, size_tested, table_tested, admission, not_opened, open_tested, open_hall, RunCall, run_call}
use Rattle.semantics.specs.Definitions.Report.{run_line, lines}
use Rattle.hall_layout.specs.Layout.{channels, hall_bytes}
use Rattle.answers.specs.declared.tallies.Counters.{Counters}
use Rattle.answers.specs.declared.refusals.Refusal.{Refusal}
use Rattle.answers.specs.declared.runs.RunAnswer.{RunAnswer}
use Rattle.answers.specs.Answers.{reason_number, counters_of, run_call_of, open_answer_of, opening_of, buffers_of}
use Rattle.hall_layout.specs.declared.Index.{Index}
use Rattle.call_admit.specs.Admissions.{TableAndHallHeld, AdmissionIs}
use Rattle.call_admit.proofs.Admissions.{admitted_hall, refused_hall}
use Rattle.print_decimals.specs.declared.Page.{Page}
use Rattle.print_decimals.specs.Page.{Printed}
use Rattle.print_decimals.proofs.Pages.{printed_wider}
use Rattle.print_sections.specs.Limits.{run_most, lines_most}
use Rattle.print_sections.specs.Printed.{CanPrintComponents}
use Rattle.print_sections.specs.Totals.{LinesPrinted}
use Rattle.print_report.specs.Runs.{HallPrinted, RunTextPrinted}

-- ---- a hall that is admitted

admission_is : (table s : List ℕ) (t : Table) (l : Configuration) → read_table table ≡ accepted t →
    length s ≡ hall_bytes → configuration_of t.terms s ≡ some l → admission table s ≡ admitted t l
unfolding admission table_tested size_tested form_tested
admission_is table s t l reads size stored = rw (reads, eq-eqb (length s) 11344 size, stored) refl

module _ (d table s : List ℕ) where
  module _ (index : Index) (w : AdmissionIs (Ok index) d s (admission table s)) where
    pub admitted_standing : CanPrintComponents s index.starts index.components
    admitted_standing = admitted_hall d table s index w
        (λ t h q x. record { terms = t.terms; configuration = h; holds = x.holds })

    pub admitted_printed : (first : List ℕ) (o : RunAnswer) (p q : Page) → LinesPrinted s index.starts index.components first o p q →
        HallPrinted table s first o p q
    admitted_printed first o p q x = record {
      found = λ t f l reads c size stored.
          let held : TableAndHallHeld t l d s index = rw (admission_is table s t l reads size stored) at w in
          x.found t.terms f l c held.holds;
    }

  pub never_refused : (e : Refusal) → AdmissionIs (Err e) d s (admission table s) → (first : List ℕ) (o : RunAnswer)
      (p q : Page) → HallPrinted table s first o p q
  never_refused e w first o p q = record {
    found = λ t f l reads c size stored.
        let r = refused_hall d table s e w in
        let m = admission_is table s t l reads size stored in
        let z : ◌≡◌ {A = ℕ} 0 1 = cc in absurd (omega arith);
  }

-- ---- the counts of a configuration that is read

counts_read : (ts : List Term) (s : List ℕ) (h : Configuration) → configuration_of ts s ≡ some h →
    h.counts ≡ take channels s
unfolding configuration_of split_bytes bind only_if
counts_read ts s h e = whole (leb channels (length s)) e
  where
    few : (b : Bool) (cs : List Component) → only_if b (record { counts = take channels s; components = cs }) ≡ some h →
        h.counts ≡ take channels s
    few true cs e =
        let q : record { counts = take channels s; components = cs } ≡ h = cc in
        ap (λ (g : Configuration). g.counts) (sym q)
    few false cs e = let z : ◌≡◌ {A = ℕ} 0 1 = cc in absurd (omega arith)

    each : (m : Option (List Component)) →
        bind m (λ cs. only_if (leb (length cs) 64) (record { counts = take channels s; components = cs })) ≡ some h →
        h.counts ≡ take channels s
    each none e = let z : ◌≡◌ {A = ℕ} 0 1 = cc in absurd (omega arith)
    each (some cs) e = few (leb (length cs) 64) cs e

    whole : (b : Bool) →
        bind {A = List ℕ × List ℕ} (only_if b (take channels s, drop channels s)) (λ c.
        bind (components_from (suc (length s)) ts c.1) (λ cs.
        only_if (leb (length cs) 64) (record { counts = c.0; components = cs }))) ≡ some h →
        h.counts ≡ take channels s
    whole true e = each (components_from (suc (length s)) ts (drop channels s)) e
    whole false e = let z : ◌≡◌ {A = ℕ} 0 1 = cc in absurd (omega arith)

-- ---- a table that is opened

open_refused : (table hall : List ℕ) (n p : ℕ) → read_table table ≡ refused_at n p →
    (open_hall table hall).answer ≡ not_opened n p
unfolding open_hall open_tested
open_refused table hall n p e = rw e refl

answer_of : RunCall → Configuration → run.RunAnswer
answer_of c h =
    record { number = c.number; place = c.place; done = c.done; configuration = h; counters = c.buffers.counters }

module _ (table choices hall₀ hall₁ : List ℕ) (p q : Page) where
  pub opened_printed : (c : Counters) → opening_of (Ok c) hall₁ ≡ open_hall table hall₀ → (first : List ℕ) →
      first ≡ take channels hall₁ → (ans : RunAnswer) (hall₂ : List ℕ) →
      run_call_of ans hall₂ ≡ run_call table (buffers_of hall₁ c) choices → length hall₂ ≡ hall_bytes →
      HallPrinted table hall₂ first ans p q → RunTextPrinted table choices hall₀ p q
  unfolding open_answer_of answer_of
  opened_printed c w first f ans hall₂ ran size x = record {
    refused = λ n i r.
        let opens = ap (λ y. y.answer) w ∙ open_refused table hall₀ n i r in
        let z : ◌≡◌ {A = ℕ} 0 1 = cc in absurd (omega arith);
    done = λ t text reads y.
        let opens = ap (λ y. y.answer) w ∙ y.opens in
        let tally : counters_of c ≡ y.tally = cc in
        let bytes : hall₁ ≡ (open_hall table hall₀).hall = ap (λ y. y.hall) w in
        let call : run_call_of ans hall₂ ≡ y.ran =
        ran
        ∙ ap (λ t. run_call table (record { hall = hall₁; counters = t }) choices) tally
        ∙ ap (λ h. run_call table (record { hall = h; counters = y.tally }) choices) bytes ∙ y.runs in
        let counts : y.first.counts ≡ take channels first =
        counts_read t.terms _ y.first y.first_read ∙ ap (take channels) (sym bytes)
        ∙ sym (take-take channels channels hall₁ (omega arith)) ∙ ap (take channels) (sym f) in
        let stored : configuration_of t.terms hall₂ ≡ some y.last =
        ap (λ k. configuration_of t.terms k.buffers.hall) call ∙ y.last_read in
        let v = x.found t y.first y.last reads counts size stored in
        rw (y.prints ∙ ap (λ k. lines y.first (answer_of k y.last)) (sym call)) v;
  }

  pub refused_printed : (e : Refusal) → opening_of (Err e) hall₁ ≡ open_hall table hall₀ → (n : ℕ) →
      n ≡ reason_number e.reason → Printed run_most p (run_line n e.place 0) q → RunTextPrinted table choices hall₀ p q
  unfolding open_answer_of
  refused_printed e w n g x = record {
    refused = λ m i reads.
        let opens = ap (λ y. y.answer) w ∙ open_refused table hall₀ m i reads in
        let u : n ≡ m = cc in
        let v : e.place ≡ i = cc in
        rw (← u, ← v) (printed_wider run_most lines_most p _ q (omega arith) x);
    done = λ t text reads y.
        let opens = ap (λ y. y.answer) w ∙ y.opens in
        let z : ◌≡◌ {A = ℕ} 0 1 = cc in absurd (omega arith);
  }
