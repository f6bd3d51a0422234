-- Accepted tables are good: the terms, the start and the tokens of a table that is accepted.
-- Each test that a record passes gives one property of the term that it adds; the properties of earlier terms stay.
-- Assumes nothing.
use Prim.Native.Nat.{ℕ, zero, suc, ◌+◌, ◌≤◌, ◌<◌}
use native.Mathlib.Omega.{arith}
use mathlib.Core.Path.{◌≡◌, refl, ◌∙◌}
use mathlib.Core.Logic.{inl, inr}
use mathlib.Core.Bool.{Bool, true, false, not, cond, ◌||◌, true≢false}
use mathlib.Core.Option.{Option, none, some}
use mathlib.Core.List.{List, [], ◌∷◌, ◌++◌}
use lib.ListN.{length, drop, get_elem?, length-append, length-set}
use lib.Dec.{ltb}
use borrow.Author.Tests.{leb-false}
use Rattle.calculus.specs.Syntax.{State}
use Rattle.semantics.specs.Definitions.Basics.{first_of, All}
use Rattle.semantics.specs.Definitions.Terms.{Expression, end_t, retry_t, rd_t, wt_t, or_else_t, Program, nil_t, put_t, take_t, repeat_t, par_t, atom_t, Term, process, expression, number, width, branches, path_length}
use Rattle.semantics.specs.Definitions.Table.{Kind, nil_k, put_k, take_k, repeat_k, par_k, atom_k, end_k, retry_k, rd_k, wt_k, or_else_k, tokens_k, start_k, kind_by_number, TableSoFar, Table, TableAnswer, accepted, refused_at, is_program, is_expression, Field, Content, term_record, tokens_record, start_record, nothing, of_program, of_expression, record_content, fields, adds, any_field, too_many_terms, channel_out_of_range, class_mismatch, over_limit, Test, tests, RecordAnswer, stop, more, table_end, record_passed, record_tested, record_of_kind, read_record, then_read, read_from, empty_table, read_table}
use Rattle.semantics.specs.Checks.AcceptedTables.{program_number, term_number, ProgramIn, ExpressionIn, SubtermsIn, ChannelBelow, MeasuresWithinLimits, GoodTable}
use Rattle.semantics.specs.Checks.StoredForm.{AcceptedIsGood, StartIsTerm, TokensAreCounts}
use Rattle.theorems.proofs.ByteReads.{or_false}
use Rattle.theorems.proofs.Lists.{none_found, all_drop, all_replicate, all_set, all_every, found_stays, found_snoc}

-- ---- one term more

-- subterms that are entries stay entries where more terms follow
pub subterms_stay : (ts us : List Term) (t : Term) → SubtermsIn ts t → SubtermsIn (ts ++ us) t
subterms_stay ts us (process (nil_t n)) h = tt
subterms_stay ts us (process (put_t n a)) h = tt
subterms_stay ts us (process (take_t n a P)) h = found_stays ts us (program_number P) (process P) h
subterms_stay ts us (process (repeat_t n a P)) h = found_stays ts us (program_number P) (process P) h
subterms_stay ts us (process (par_t n P Q)) h =
    (found_stays ts us (program_number P) (process P) h.0, found_stays ts us (program_number Q) (process Q) h.1)
subterms_stay ts us (process (atom_t n M)) h = found_stays ts us (number M) (expression M) h
subterms_stay ts us (expression (end_t n)) h = tt
subterms_stay ts us (expression (retry_t n)) h = tt
subterms_stay ts us (expression (rd_t n a M)) h = found_stays ts us (number M) (expression M) h
subterms_stay ts us (expression (wt_t n a M)) h = found_stays ts us (number M) (expression M) h
subterms_stay ts us (expression (or_else_t n M N)) h =
    (found_stays ts us (number M) (expression M) h.0, found_stays ts us (number N) (expression N) h.1)

-- a property of places and terms that the old entries and the new one have
pub each_snoc : (ts : List Term) (u : Term) (p : ℕ → Term → Type 0) → ((n : ℕ) (t : Term) → get_elem? ts n ≡ some t → p n t) → p (length ts) u →
    (n : ℕ) (t : Term) → get_elem? (ts ++ (u ∷ [])) n ≡ some t → p n t
each_snoc ts u p old new n t e = elim (found_snoc ts u n t e) [ inl h ↦ old n t h | inr h ↦ rw (← h.0, ← h.1) new ]

-- what a term needs to come behind the terms ts, but for its limits
pub record NextTerm (ts : List Term) (u : Term) : Type 0 where
  pub room : length ts < 200
  pub place : term_number u ≡ length ts
  pub parts : SubtermsIn ts u
  pub below : ChannelBelow u

-- a good list of terms stays good with such a term behind it, if the term is within the limits
pub good_snoc : (ts : List Term) (u : Term) → GoodTable ts → NextTerm ts u → MeasuresWithinLimits u → GoodTable (ts ++ (u ∷ []))
good_snoc ts u g x w = record {
  few = rw length-append (let h = x.room in omega arith);
  numbered = λ n t e. each_snoc ts u (λ n t. term_number t ≡ n) g.numbered x.place n t e;
  subterms = λ n t e. each_snoc ts u (λ n t. SubtermsIn (ts ++ (u ∷ [])) t) (λ n t h. subterms_stay ts (u ∷ []) t (g.subterms n t h))
      (subterms_stay ts (u ∷ []) u x.parts) n t e;
  channel = λ n t e. each_snoc ts u (λ n t. ChannelBelow t) g.channel x.below n t e;
  limits = λ n t e. each_snoc ts u (λ n t. MeasuresWithinLimits t) g.limits w n t e;
}

pub empty_good : GoodTable []
empty_good = record {
  few = omega arith;
  numbered = λ n t e. absurd (none_found n t e);
  subterms = λ n t e. absurd (none_found n t e);
  channel = λ n t e. absurd (none_found n t e);
  limits = λ n t e. absurd (none_found n t e);
}

-- ---- what the tests on a record give

-- what is said of a reference to the class that was asked for has a property that all have that may be said
pub of_a_program : (p : Content → Type 0) (o : Option Term) (says : Program → Content) → not (is_program o) ≡ false →
    ((P : Program) → o ≡ some (process P) → p (says P)) → p (of_program o says)
unfolding is_program of_program
of_a_program p none says e h = absurd (true≢false e)
of_a_program p (some (process P)) says e h = h P refl
of_a_program p (some (expression M)) says e h = absurd (true≢false e)

pub of_an_expression : (p : Content → Type 0) (o : Option Term) (says : Expression → Content) → not (is_expression o) ≡ false →
    ((M : Expression) → o ≡ some (expression M) → p (says M)) → p (of_expression o says)
unfolding is_expression of_expression
of_an_expression p none says e h = absurd (true≢false e)
of_an_expression p (some (process P)) says e h = absurd (true≢false e)
of_an_expression p (some (expression M)) says e h = h M refl

-- a reference to it is to an entry at its own number
program_in : (ts : List Term) → GoodTable ts → (n : ℕ) (P : Program) → get_elem? ts n ≡ some (process P) → ProgramIn ts P
unfolding term_number
program_in ts g n P p = rw (g.numbered n (process P) p) p

expression_in : (ts : List Term) → GoodTable ts → (n : ℕ) (M : Expression) → get_elem? ts n ≡ some (expression M) → ExpressionIn ts M
unfolding term_number
expression_in ts g n M p = rw (g.numbered n (expression M) p) p

-- where no test of a list is found to hold, each fails
none_holds : (ts : List Test) → first_of (λ t. t.holds) ts ≡ none → All (λ t. t.holds ≡ false) ts
unfolding first_of
none_holds [] e = tt
none_holds (t ∷ ts) e = go t.holds refl e (none_holds ts)
  where
    go : (b : Bool) → t.holds ≡ b → cond b (some t) (first_of (λ t. t.holds) ts) ≡ none →
        (first_of (λ t. t.holds) ts ≡ none → All (λ t. t.holds ≡ false) ts) → All (λ t. t.holds ≡ false) (t ∷ ts)
    go true p q k = let z : ◌≡◌ {A = ℕ} 0 1 = cc in absurd (omega arith)
    go false p q k = (p, k q)

-- a record that passed the tests on its fields
pub record Passing (r : TableSoFar) (K : Kind) (bs : List ℕ) : Type 0 where
  pub whole : ltb (length bs) (length (fields K)) ≡ false
  pub room : too_many_terms r.terms (adds K) ≡ false
  pub channels : any_field channel_out_of_range (fields K) bs ≡ false
  pub classes : any_field (class_mismatch r.terms) (fields K) bs ≡ false

-- and that of its limits
passing : (r : TableSoFar) (K : Kind) (bs : List ℕ) → first_of (λ t. t.holds) (tests r K bs) ≡ none →
    Passing r K bs × (over_limit (record_content r.terms bs K) ≡ false)
unfolding tests
passing r K bs e =
    let h = none_holds (tests r K bs) e in
    (record { whole = h.0; room = h.1.0; channels = h.1.1.0; classes = h.1.1.1.1.0 }, h.1.1.1.1.1.0)

-- what a record says is sound: a next term, a count with the property B, a start among the terms
unfoldable pub Sound : (ℕ → Type 0) → List Term → Content → Type 0
Sound B ts (term_record u) = NextTerm ts u
Sound B ts (tokens_record a n) = B n
Sound B ts (start_record P) = ProgramIn ts P
Sound B ts nothing = ⊥

-- the first and the second of two tests that both fail
pub first_fails : (a b : Bool) → (a || b) ≡ false → a ≡ false
first_fails a b e = (or_false a b e).0

pub second_fails : (a b c : Bool) → (a || (b || c)) ≡ false → b ≡ false
second_fails a b c e = (or_false b c (or_false a (b || c) e).1).0

pub channel_below : (a : ℕ) (b : Bool) → (ltb 15 a || b) ≡ false → a < 16
channel_below a b e = leb-false 16 a (first_fails (ltb 15 a) b e)

pub within_limits : (u : Term) → over_limit (term_record u) ≡ false → MeasuresWithinLimits u
unfolding over_limit
within_limits (process P) e = let h = leb-false 65 (width P) e in omega arith
within_limits (expression M) e =
    let h = or_false (ltb 8 (branches M)) (ltb 16 (path_length M)) e in
    let b = leb-false 9 (branches M) h.0 in
    let l = leb-false 17 (path_length M) h.1 in (omega arith, omega arith)

next_term : (ts : List Term) (u : Term) (F : Field) → too_many_terms ts (some F) ≡ false → term_number u ≡ length ts → SubtermsIn ts u → ChannelBelow u → NextTerm ts u
unfolding too_many_terms
next_term ts u F m e s c = record { room = leb-false 200 (length ts) m; place = e; parts = s; below = c }

module _ (B : ℕ → Type 0) (ts : List Term) (σ : State) (g : GoodTable ts) where
  abbrev pub so_far : TableSoFar
  so_far = record { terms = ts; tokens = σ }

  -- a record that passed them is sound
  pub sound : (K : Kind) (bs : List ℕ) → All B bs → Passing so_far K bs → Sound B ts (record_content ts bs K)
  unfolding Sound record_content fields any_field channel_out_of_range class_mismatch term_number
  sound nil_k bs b h = next_term ts _ _ h.room refl tt tt
  sound put_k [] b h = absurd (true≢false h.whole)
  sound put_k (a ∷ bs) b h = next_term ts _ _ h.room refl tt (channel_below a _ h.channels)
  sound take_k [] b h = absurd (true≢false h.whole)
  sound take_k (a ∷ []) b h = absurd (true≢false h.whole)
  sound take_k (a ∷ i ∷ bs) b h =
      of_a_program (Sound B ts) (get_elem? ts i) _ (first_fails _ _ h.classes)
      (λ P e. next_term ts _ _ h.room refl (program_in ts g i P e) (channel_below a _ h.channels))
  sound repeat_k [] b h = absurd (true≢false h.whole)
  sound repeat_k (a ∷ []) b h = absurd (true≢false h.whole)
  sound repeat_k (a ∷ i ∷ bs) b h =
      of_a_program (Sound B ts) (get_elem? ts i) _ (first_fails _ _ h.classes)
      (λ P e. next_term ts _ _ h.room refl (program_in ts g i P e) (channel_below a _ h.channels))
  sound par_k [] b h = absurd (true≢false h.whole)
  sound par_k (i ∷ []) b h = absurd (true≢false h.whole)
  sound par_k (i ∷ j ∷ bs) b h =
      of_a_program (Sound B ts) (get_elem? ts i) _ (first_fails _ _ h.classes)
      (λ P e. of_a_program (Sound B ts) (get_elem? ts j) _ (second_fails (not (is_program (get_elem? ts i))) _ false h.classes)
      (λ Q f. next_term ts _ _ h.room refl (program_in ts g i P e, program_in ts g j Q f) tt))
  sound atom_k [] b h = absurd (true≢false h.whole)
  sound atom_k (i ∷ bs) b h =
      of_an_expression (Sound B ts) (get_elem? ts i) _ (first_fails _ _ h.classes)
      (λ M e. next_term ts _ _ h.room refl (expression_in ts g i M e) tt)
  sound end_k bs b h = next_term ts _ _ h.room refl tt tt
  sound retry_k bs b h = next_term ts _ _ h.room refl tt tt
  sound rd_k [] b h = absurd (true≢false h.whole)
  sound rd_k (a ∷ []) b h = absurd (true≢false h.whole)
  sound rd_k (a ∷ i ∷ bs) b h =
      of_an_expression (Sound B ts) (get_elem? ts i) _ (first_fails _ _ h.classes)
      (λ M e. next_term ts _ _ h.room refl (expression_in ts g i M e) (channel_below a _ h.channels))
  sound wt_k [] b h = absurd (true≢false h.whole)
  sound wt_k (a ∷ []) b h = absurd (true≢false h.whole)
  sound wt_k (a ∷ i ∷ bs) b h =
      of_an_expression (Sound B ts) (get_elem? ts i) _ (first_fails _ _ h.classes)
      (λ M e. next_term ts _ _ h.room refl (expression_in ts g i M e) (channel_below a _ h.channels))
  sound or_else_k [] b h = absurd (true≢false h.whole)
  sound or_else_k (i ∷ []) b h = absurd (true≢false h.whole)
  sound or_else_k (i ∷ j ∷ bs) b h =
      of_an_expression (Sound B ts) (get_elem? ts i) _ (first_fails _ _ h.classes)
      (λ M e. of_an_expression (Sound B ts) (get_elem? ts j) _ (second_fails (not (is_expression (get_elem? ts i))) _ false h.classes)
      (λ N f. next_term ts _ _ h.room refl (expression_in ts g i M e, expression_in ts g j N f) tt))
  sound tokens_k [] b h = absurd (true≢false h.whole)
  sound tokens_k (a ∷ []) b h = absurd (true≢false h.whole)
  sound tokens_k (a ∷ n ∷ bs) b h = b.1.0
  sound start_k [] b h = absurd (true≢false h.whole)
  sound start_k (i ∷ bs) b h =
      of_a_program (Sound B ts) (get_elem? ts i) _ (first_fails _ _ h.classes) (λ P e. program_in ts g i P e)

-- ---- record by record

-- what has been read so far is good: its terms are, and its tokens are 16 counts with the property B
record ReadingGood (B : ℕ → Type 0) (r : TableSoFar) : Type 0 where
  terms : GoodTable r.terms
  channel_counts : length r.tokens ≡ 16
  counts : All B r.tokens

record TableGood (B : ℕ → Type 0) (t : Table) : Type 0 where
  terms : GoodTable t.terms
  start : ProgramIn t.terms t.start
  channel_counts : length t.tokens ≡ 16
  counts : All B t.tokens

-- what an answer, and a turn, promises
AnswerGood : (ℕ → Type 0) → TableAnswer → Type 0
AnswerGood B (accepted t) = TableGood B t
AnswerGood B (refused_at n p) = Unit {0}

TurnGood : (ℕ → Type 0) → RecordAnswer → Type 0
TurnGood B (stop x) = AnswerGood B x
TurnGood B (more r w) = ReadingGood B r

module _ (B : ℕ → Type 0) where
  closed_good : (r : TableSoFar) (P : Program) (at : ℕ) (bs : List ℕ) → ReadingGood B r → ProgramIn r.terms P → AnswerGood B (table_end r P at bs)
  unfolding table_end AnswerGood
  closed_good r P at [] g s = record { terms = g.terms; start = s; channel_counts = g.channel_counts; counts = g.counts }
  closed_good r P at (b ∷ bs) g s = tt

  passed_good : (r : TableSoFar) (at : ℕ) (c : Content) (w next : ℕ) (bs : List ℕ) → ReadingGood B r → Sound B r.terms c → over_limit c ≡ false →
      TurnGood B (record_passed r at c w next bs)
  unfolding record_passed TurnGood Sound
  passed_good r at (term_record u) w next bs g s l = record { terms = good_snoc r.terms u g.terms s (within_limits u l); channel_counts = g.channel_counts; counts = g.counts }
  passed_good r at (tokens_record a n) w next bs g s l =
      record { terms = g.terms; channel_counts = length-set r.tokens a n ∙ g.channel_counts; counts = all_set B r.tokens a n g.counts s }
  passed_good r at (start_record P) w next bs g s l = closed_good r P next bs g s
  passed_good r at nothing w next bs g s l = absurd s

  tested_good : (r : TableSoFar) (at : ℕ) (K : Kind) (bs : List ℕ) (o : Option Test) → first_of (λ t. t.holds) (tests r K bs) ≡ o →
      ReadingGood B r → All B bs → TurnGood B (record_tested r at K bs o)
  unfolding record_tested TurnGood AnswerGood
  tested_good r at K bs (some t) e g b = tt
  tested_good r at K bs none e g b =
      let h = passing r K bs e in passed_good r at _ _ _ _ g (sound B r.terms r.tokens g.terms K bs b h.0) h.1

  turn_good : (r : TableSoFar) (at : ℕ) (bs : List ℕ) → ReadingGood B r → All B bs → TurnGood B (read_record r at bs)
  unfolding read_record TurnGood AnswerGood
  turn_good r at [] g b = tt
  turn_good r at (k ∷ bs) g b = go (kind_by_number k)
    where
      go : (o : Option Kind) → TurnGood B (record_of_kind r at bs o)
      go none = tt
      go (some K) = tested_good r at K bs _ refl g b.1

  after_good : (x : RecordAnswer) (next : TableSoFar → ℕ → TableAnswer) → TurnGood B x → ((s : TableSoFar) (w : ℕ) → ReadingGood B s → AnswerGood B (next s w)) →
      AnswerGood B (then_read x next)
  unfolding then_read TurnGood
  after_good (stop a) next g k = g
  after_good (more r w) next g k = k r w g

  -- whatever has been read so far, the answer on the rest keeps its promise
  from_good : (f : ℕ) (r : TableSoFar) (at : ℕ) (bs : List ℕ) → ReadingGood B r → All B bs → AnswerGood B (read_from f r at bs)
  unfolding read_from AnswerGood
  from_good zero r at bs g b = tt
  from_good (suc f) r at bs g b =
      after_good (read_record r at bs) _ (turn_good r at bs g b) (λ s w h. from_good f s (at + w) (drop w bs) h (all_drop B w bs b))

  table_good : B 0 → (bs : List ℕ) (t : Table) → All B bs → read_table bs ≡ accepted t → TableGood B t
  unfolding read_table empty_table AnswerGood
  table_good z bs t b e = rw e at (from_good (suc (length bs)) empty_table 0 bs nothing b)
    where
      nothing : ReadingGood B empty_table
      nothing = record { terms = empty_good; channel_counts = refl; counts = all_replicate B 16 0 z }

-- ---- the claims

pub accepted_is_good : AcceptedIsGood
accepted_is_good bs t e = (table_good (λ n. Unit {0}) tt bs t (all_every _ (λ n. tt) bs) e).terms

pub start_is_term : StartIsTerm
start_is_term bs t e =
    let g = table_good (λ n. Unit {0}) tt bs t (all_every _ (λ n. tt) bs) e in
    (g.start, g.terms.limits (program_number t.start) (process t.start) g.start)

pub tokens_are_counts : TokensAreCounts
tokens_are_counts bs t b e = let g = table_good (λ n. n ≤ 255) (omega arith) bs t b e in (g.channel_counts, g.counts)
