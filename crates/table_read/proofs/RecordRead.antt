-- Reading a record: a law for each way that it ends, and what each call on the way asks.
-- Assumes nothing.
use Prim.Native.Nat.{ℕ, zero, suc, ◌+◌, ◌≤◌, ◌<◌}
use native.Mathlib.Omega.{arith}
use mathlib.Core.Path.{◌≡◌, refl, sym, ap, ◌∙◌}
use mathlib.Core.Bool.{Bool, true, false, cond}
use mathlib.Core.List.{List, [], ◌∷◌, ◌++◌}
use lib.ListN.{length, set, drop, length-append, drop_of_length-le}
use lib.Seq.{drop-cons}
use lib.Dec.{ltb}
use borrow.Author.Tests.{lt-ltb, le-ltb, ltb-true, ltb-false}
use Rattle.std.specs.Prelude.{Result, Ok, Err}
use Rattle.semantics.specs.Definitions.Layout.{channels, max_terms}
use Rattle.semantics.specs.Definitions.Terms.{Term}
use Rattle.semantics.specs.Definitions.Table.{Kind, tokens_k, start_k, fields, TableSoFar, refused_at, Content, term_record, tokens_record, over_limit, bad_tokens, stop, table_end, record_passed}
use Rattle.theorems.proofs.GoodTable.{good_snoc, within_limits}
use Rattle.table_records.specs.declared.Record.{Record}
use Rattle.table_records.specs.declared.NoRecord.{NoRecord}
use Rattle.table_records.specs.declared.NoRecord.TheVariants.{End, UnknownKind, CutShort}
use Rattle.table_records.specs.Shapes.{kind_byte, body_of}
use Rattle.table_records.specs.ParsedRecords.{ParsedRecordIs, WholeRecord}
use Rattle.table_records.proofs.Shapes.{body_of_kind, body_few}
use Rattle.table_terms.specs.Decoded.{decoded_bytes, tokens_in, with_record, with_measures, RecordOf, Decoded}
use Rattle.table_terms.specs.TermMeasures.{TermAt, CanMeasure, MeasuresOf, LimitTested}
use Rattle.table_terms.proofs.Stores.{tokens_set, tokens_decoded, record_length, record_measurable, term_tokens, term_decoded}
use Rattle.table_laws.specs.Refusals.{KindAt, content, refusal}
use Rattle.table_laws.proofs.KindBytes.{kind_at}
use Rattle.table_laws.proofs.RecordsRead.{after_tests, end_turn, unknown_turn, short_turn, whole_turn}
use Rattle.table_laws.proofs.Contents.{fields_refused, FieldsPass, fields_pass, fields_then, NewTerm, Describes, as_term, as_tokens, as_start, describes}
use Rattle.answers.specs.declared.refusals.Reason.{Reason}
use Rattle.answers.specs.declared.refusals.Reason.TheVariants as reason
use Rattle.answers.specs.declared.refusals.Reason.TheVariants.{UnknownRecord, RecordCutShort, OverLimit, BadTokens, WrongEnd}
use Rattle.answers.specs.declared.refusals.Refusal.{Refusal}
use Rattle.answers.specs.Answers.{reason_number}
use Rattle.table_read.specs.declared.AfterRecord.{AfterRecord}
use Rattle.table_read.specs.declared.AfterRecord.TheVariants.{More, Done}
use Rattle.table_read.specs.RecordTests.{DecodedSoFar, test_number, FieldsTested}
use Rattle.table_read.specs.RecordRead.{AfterRecordIs, reading_of, RecordRead, refused, start_applied, TokensApplied, CanApplyTerm, TermApplied}

-- ---- no whole record

-- why there is none, and the refusal
module _ (s : List ℕ) (at n : ℕ) (d : List ℕ) (p : Result Record NoRecord) (w : ParsedRecordIs s at p) (q : NoRecord) (is : p ≡ Err q) (x : Refusal) where
  pub at_end_holds : q ≡ End → x ≡ record { reason = WrongEnd; place = at } → RecordRead s at n d (Err x) d
  unfolding reason_number
  at_end_holds e o = record { found = λ ts y count. rw (end_turn (reading_of ts d) s at (rw (is, e) at w), o) (refl, refl) }

  pub at_unknown : q ≡ UnknownKind → x ≡ record { reason = UnknownRecord; place = at } → RecordRead s at n d (Err x) d
  unfolding reason_number
  at_unknown e o = record { found = λ ts y count. let v = rw (is, e) at w in rw (unknown_turn (reading_of ts d) s at v.0 v.1, o) (refl, refl) }

  pub at_short : q ≡ CutShort → x ≡ record { reason = RecordCutShort; place = at } → RecordRead s at n d (Err x) d
  unfolding reason_number
  at_short e o = record { found = λ ts y count. rw (short_turn (reading_of ts d) s at (rw (is, e) at w), o) (refl, refl) }

-- ---- a record whose fields passed: what each function answers

-- the table's end, accepted
abbrev accepted_with : (n p : ℕ) → Result AfterRecord Refusal
accepted_with n p = Ok (Done (record { terms = n; start = p }))

module _ (s : List ℕ) (n : ℕ) (x : Record) where
  pub start_followed : x.next < length s → refused WrongEnd x.next ≡ start_applied s n x
  start_followed h = rw (lt-ltb _ _ h)

  pub start_last : length s ≤ x.next → accepted_with n x.first ≡ start_applied s n x
  start_last h = rw (le-ltb _ _ h)

module _ (d : List ℕ) (at n : ℕ) (x : Record) where
  module _ (b : Bool) (e : b ≡ bad_tokens (tokens_in d) (tokens_record x.first x.second)) where
    pub tokens_bad : b ≡ true → TokensApplied d at n x (refused BadTokens at) d
    tokens_bad h = record { fails = b; tested = e; answer = rw h; stored = rw h }

    pub tokens_given : b ≡ false → (a : ℕ) → a ≡ x.first → (d' : List ℕ) → d' ≡ set d a x.second → TokensApplied d at n x (Ok (More x.next n)) d'
    tokens_given h a p d' o = record { fails = b; tested = e; answer = rw h; stored = rw (h, ← p) o }

  module _ (d₁ : List ℕ) (o : d₁ ≡ with_record d n x.kind x.first x.second) where
    pub term_can_measure : CanApplyTerm d n x → CanMeasure d₁ n n
    term_can_measure h = rw o h.measurable

    pub ready_sized : CanApplyTerm d n x → length d₁ ≡ decoded_bytes
    ready_sized h = rw o (record_length d n x.kind x.first x.second ∙ h.sized)

    module _ (b l : ℕ) (f : MeasuresOf d₁ n n b l) (t : Bool) (e : LimitTested x.kind b l t) where
      pub term_over : t ≡ true → TermApplied d at n x (refused OverLimit at) d₁
      term_over h = record {
        with_record_holds = d₁;
        recorded = o;
        breadth = b;
        length = l;
        measured = f;
        fails = t;
        tested = e;
        answer = rw h;
        stored = rw h;
      }

      pub term_kept : t ≡ false → (d₂ : List ℕ) → d₂ ≡ with_measures d₁ n b l → TermApplied d at n x (Ok (More x.next (n + 1))) d₂
      term_kept h d₂ i = record {
        with_record_holds = d₁;
        recorded = o;
        breadth = b;
        length = l;
        measured = f;
        fails = t;
        tested = e;
        answer = rw h;
        stored = rw h i;
      }

-- ---- a whole record

-- a refusal has a number
some_number : (e : Reason) → reason_number e ≡ 0 → ⊥
unfolding reason_number
some_number reason.UnknownRecord h = omega arith
some_number reason.RecordCutShort h = omega arith
some_number reason.TooManyTerms h = omega arith
some_number reason.ChannelOutOfRange h = omega arith
some_number reason.ForwardReference h = omega arith
some_number reason.ClassMismatch h = omega arith
some_number reason.OverLimit h = omega arith
some_number reason.BadTokens h = omega arith
some_number reason.WrongEnd h = omega arith
some_number reason.WrongLength h = omega arith
some_number reason.Malformed h = omega arith
some_number reason.UnknownKind h = omega arith
some_number reason.CutShort h = omega arith
some_number reason.NoComponent h = omega arith
some_number reason.WrongComponent h = omega arith
some_number reason.NoNode h = omega arith
some_number reason.NoRule h = omega arith
some_number reason.EmptyChannel h = omega arith
some_number reason.TooManyComponents h = omega arith
some_number reason.FullChannel h = omega arith
some_number reason.ShortBuffer h = omega arith

after_refused : (q : ℕ) → (q ≡ 0 → ⊥) → (x : TableSoFar) (at : ℕ) (c : Content) (w next : ℕ) (rest : List ℕ) →
    after_tests q x at c w next rest ≡ stop (refused_at q at)
unfolding after_tests
after_refused zero h x at c w next rest = absurd (h refl)
after_refused (suc q) h x at c w next rest = refl

-- r is what the tests on its fields answer
module _ {T : Type 0} (s : List ℕ) (at n : ℕ) (d : List ℕ) (y : Record) (w : WholeRecord s at y) (r : Result T Reason) (tested : FieldsTested d n y (test_number r)) where
  abbrev k : ℕ
  k = y.kind

  abbrev l : ℕ
  l = y.first

  abbrev r2 : ℕ
  r2 = y.second

  abbrev next : ℕ
  next = y.next

  abbrev at_kind : KindAt k
  at_kind = kind_at k w.known

  abbrev K : Kind
  K = at_kind.kind

  -- a test on the fields failed
  pub fields_refusal : (e : Reason) → r ≡ Err e → (x : Refusal) → x ≡ record { reason = e; place = at } → RecordRead s at n d (Err x) d
  unfolding refusal
  fields_refusal e h o p = record {
    found = λ ts x count.
        rw (
          whole_turn (reading_of ts d) s at y w K at_kind.named,
          fields_refused ts K l r2 (reason_number e) _ (rw h at tested.found ts at_kind x count) (some_number e),
          after_refused (reason_number e) (some_number e) (reading_of ts d) at (content ts K l r2) (suc (length (fields K))) next (drop next s),
          p,
        ) (refl, refl);
  }

  module _ (u : T) (none : r ≡ Ok u) where
    pass : (ts : List Term) → Decoded ts d → length ts ≡ n → FieldsPass ts K l r2
    pass ts x count = fields_pass ts K l r2 0 (rw none at tested.found ts at_kind x count) refl

    body : length (body_of k) ≡ length (fields K)
    body = ap length (body_of_kind k K at_kind.named)

    few : length (fields K) ≤ 2
    few = body_few k (length (fields K)) (sym body)

    described : (ts : List Term) → Decoded ts d → length ts ≡ n → Describes ts k l r2 (content ts K l r2)
    described ts x count = describes ts x.good l r2 (tokens_in d) k K at_kind.byte few (pass ts x count)

    -- what the record says decides, by the tests 7 and 8
    abbrev Decided : (ts : List Term) → Content → Result AfterRecord Refusal → List ℕ → Type 0
    Decided ts c x d' =
        AfterRecordIs s at x
        (after_tests (cond (over_limit c) 7 (cond (bad_tokens (tokens_in d) c) 8 0)) (reading_of ts d) at c (suc (length (fields K))) next (drop next s))
        d'

    by_content : (x : Result AfterRecord Refusal) (d' : List ℕ) →
        ((ts : List Term) → Decoded ts d → length ts ≡ n → (c : Content) → Describes ts k l r2 c → Decided ts c x d') →
        RecordRead s at n d x d'
    unfolding refusal
    by_content x d' f = record {
      found = λ ts v count.
          rw (
            whole_turn (reading_of ts d) s at y w K at_kind.named,
            fields_then ts K l r2 (pass ts v count) _,
          ) (f ts v count (content ts K l r2) (described ts v count));
    }

    -- the start
    pub start_applied_holds : k ≡ kind_byte start_k → (x : Result AfterRecord Refusal) → x ≡ start_applied s n y → RecordRead s at n d x d
    unfolding after_tests record_passed table_end over_limit bad_tokens reason_number
    start_applied_holds h x e = rw e (go (ltb next (length s)) refl)
      where
        go : (b : Bool) → ltb next (length s) ≡ b → RecordRead s at n d (cond b (refused WrongEnd next) (accepted_with n l)) d
        go true p = by_content (refused WrongEnd next) d
            (λ ts v count c z.
            let a = as_start ts k l r2 c z h in
            let g : next < length s = ltb-true next (length s) p in rw (a.1, drop-cons s next 0 g) (refl, refl))
        go false p = by_content (accepted_with n l) d
            (λ ts v count c z.
            let a = as_start ts k l r2 c z h in
            rw (a.1, drop_of_length-le s (ltb-false next (length s) p)) (record { decoded = v; counted = count; tokens = refl; start = sym a.2.number; at = a.2.at }))

    -- tokens
    pub tokens_applied : k ≡ kind_byte tokens_k → (x : Result AfterRecord Refusal) (d' : List ℕ) → TokensApplied d at n y x d' → RecordRead s at n d x d'
    unfolding after_tests over_limit record_passed reason_number
    tokens_applied h x d' z = rw (z.answer, z.stored) (go z.fails z.tested)
      where
        given : (ts : List Term) → Decoded ts d → length ts ≡ n → (c : Content) → (c ≡ tokens_record l r2) × (l < channels) →
            false ≡ bad_tokens (tokens_in d) (tokens_record l r2) → Decided ts c (Ok (More next n)) (set d l r2)
        given ts v count c x e =
            rw (x.0, ← e)
            (record {
              behind = omega (arith, w.behind, body);
              some_bytes = omega arith;
              inside = w.inside;
              decoded = tokens_decoded d l r2 x.1 ts v;
              counted = count;
              tokens = sym (tokens_set d l r2 x.1);
            })

        go : (b : Bool) → b ≡ bad_tokens (tokens_in d) (tokens_record l r2) →
            RecordRead s at n d (cond b (refused BadTokens at) (Ok (More next n))) (cond b d (set d l r2))
        go true e = by_content (refused BadTokens at) d (λ ts v count c z. let a = as_tokens ts k l r2 c z h in rw (a.0, ← e) (refl, refl))
        go false e = by_content (Ok (More next n)) (set d l r2) (λ ts v count c z. given ts v count c (as_tokens ts k l r2 c z h) e)

    pub channel_inside : k ≡ kind_byte tokens_k → DecodedSoFar d n → l < channels
    channel_inside h x =
        (as_tokens x.terms k l r2 (content x.terms K l r2) (described x.terms x.decoded x.counted) h).1

    -- a term, stored as number n
    module _ (h : k ≡ kind_byte start_k → ⊥) (g : k ≡ kind_byte tokens_k → ⊥) where
      -- the record of the term, where its measures are to be found
      abbrev recorded : List ℕ
      recorded = with_record d n k l r2

      record_of : (ts : List Term) → length ts ≡ n → (u : Term) → NewTerm ts k l r2 u → RecordOf n k l r2 u
      record_of ts count u x = rw count at x.fields

      there : (ts : List Term) → Decoded ts d → length ts ≡ n → (u : Term) → NewTerm ts k l r2 u → TermAt recorded n n ts u
      there ts v count u x =
          record_measurable d n k l r2 v.sized (rw count at x.next.room) ts u v count (record_of ts count u x) x.next.parts

      pub can_apply_term : DecodedSoFar d n → CanApplyTerm d n y
      can_apply_term x =
          let z = as_term x.terms k l r2 (content x.terms K l r2) (described x.terms x.decoded x.counted) h g in
          let room = z.2.next.room in
          record {
            inside = omega (arith, x.counted);
            sized = x.decoded.sized;
            measurable = record { terms = x.terms; tree = z.0; there = there x.terms x.decoded x.counted z.0 z.2 };
          }

      module _ (b m : ℕ) (f : MeasuresOf recorded n n b m) where
        over : (t : Bool) → LimitTested k b m t → (ts : List Term) → Decoded ts d → length ts ≡ n → (u : Term) → NewTerm ts k l r2 u →
            t ≡ over_limit (term_record u)
        over t e ts v count u x =
            let z = f.found ts u (there ts v count u x) in e.found n l r2 u (record_of ts count u x) z.0 z.1

        kept : (ts : List Term) → Decoded ts d → length ts ≡ n → (c : Content) → (u : Term) × (c ≡ term_record u) × NewTerm ts k l r2 u →
            LimitTested k b m false → Decided ts c (Ok (More next (n + 1))) (with_measures recorded n b m)
        unfolding after_tests record_passed bad_tokens
        kept ts v count c x e =
            let u = x.0 in
            let q = over false e ts v count u x.2 in
            let z = f.found ts u (there ts v count u x.2) in
            let room : n < max_terms = rw count at x.2.next.room in
            let good = good_snoc ts u v.good x.2.next (within_limits u (sym q)) in
            let grown : length (ts ++ (u ∷ [])) ≡ length ts + 1 = length-append ts (u ∷ []) in
            rw (x.1, ← q)
            (record {
              behind = omega (arith, w.behind, body);
              some_bytes = omega arith;
              inside = w.inside;
              decoded = term_decoded d n k l r2 v.sized room b m ts u v count (record_of ts count u x.2) good z.0 z.1;
              counted = omega arith;
              tokens = sym (term_tokens d n k l r2 v.sized room b m);
            })

        tested_read : (t : Bool) → LimitTested k b m t →
            RecordRead s at n d (cond t (refused OverLimit at) (Ok (More next (n + 1)))) (cond t recorded (with_measures recorded n b m))
        unfolding after_tests reason_number
        tested_read true e = by_content (refused OverLimit at) recorded
            (λ ts v count c z. let x = as_term ts k l r2 c z h g in rw (x.1, ← (over true e ts v count x.0 x.2)) (refl, refl))
        tested_read false e = by_content (Ok (More next (n + 1))) (with_measures recorded n b m)
            (λ ts v count c z. kept ts v count c (as_term ts k l r2 c z h g) e)

      pub term_applied : (x : Result AfterRecord Refusal) (d' : List ℕ) → TermApplied d at n y x d' → RecordRead s at n d x d'
      term_applied x d' z =
          rw (z.answer, z.stored, z.recorded) (tested_read z.breadth z.length (rw z.recorded at z.measured) z.fails z.tested)
