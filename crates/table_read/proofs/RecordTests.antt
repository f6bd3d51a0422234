-- The tests on a record: a law for each way that each ends, and what each call on the way asks.
-- Assumes nothing.
use Prim.Native.Nat.{ℕ, ◌<◌}
use native.Mathlib.Omega.{arith}
use mathlib.Core.Path.{◌≡◌, refl, sym, ◌∙◌}
use mathlib.Core.Bool.{Bool, true, false, not, cond, ◌||◌, true≢false, false≢true}
use mathlib.Core.List.{List, [], ◌∷◌}
use mathlib.Core.Option.{some}
use lib.ListN.{length, get_or, get_elem?}
use lib.Seq.{get_or-take}
use lib.Dec.{leb, eqb}
use borrow.Author.Tests.{leb-false, ne_eqb}
use Rattle.semantics.specs.Definitions.Layout.{channels, max_terms}
use Rattle.semantics.specs.Definitions.Terms.{Term, process, expression}
use Rattle.semantics.specs.Definitions.Table.{Kind, tokens_k, start_k, fields, adds, tokens_record, is_program, is_expression, any_field, too_many_terms, channel_out_of_range, forward_reference, class_mismatch, bad_tokens}
use Rattle.semantics.specs.Definitions.Table as fields
use Rattle.theorems.proofs.Lists.{found_at}
use Rattle.std.specs.Prelude.{Option, Some, is_some}
use Rattle.std.specs.Option.{option_eq}
use Rattle.answers.specs.declared.refusals.Reason.TheVariants.{TooManyTerms, ChannelOutOfRange, ForwardReference, ClassMismatch}
use Rattle.answers.specs.Answers.{reason_number}
use Rattle.table_records.specs.declared.Class.{Class}
use Rattle.table_records.specs.declared.Class.TheVariants.{Process, Expression}
use Rattle.table_records.specs.declared.Field.{Field}
use Rattle.table_records.specs.declared.Field.TheVariants.{Reference}
use Rattle.table_records.specs.declared.Record.{Record}
use Rattle.table_records.specs.declared.Shape.{Shape}
use Rattle.table_records.specs.contracts.ClassPartialEq.TheImpl.{eq-value}
use Rattle.table_records.specs.Shapes.{fails_at, term_class, class_from, class_of, shape_of}
use Rattle.table_records.proofs.Shapes.{shape_class}
use Rattle.table_records.proofs.KindClasses.{class_of_kind_holds}
use Rattle.table_records.proofs.FieldTests.{both_fields}
use Rattle.table_terms.specs.Decoded.{tokens_in, kind_at, Decoded}
use Rattle.table_terms.proofs.TermKinds.{record_class}
use Rattle.table_laws.specs.Refusals.{KindAt, field_refusal}
use Rattle.table_read.specs.RecordTests.{DecodedSoFar, TermLimitTested, CanTestClass, ClassTested, FieldsTested}

-- ---- 3

-- c is the class of a record
module _ (n : ℕ) (c : Option Class) (b : Bool) (e : b ≡ is_some c) where
  pub other_room : b ≡ false → TermLimitTested c n b
  unfolding too_many_terms
  other_room h = record { found = λ ts K count s. h ∙ go ts K (sym (rw (e, s) at h)) }
    where
      go : (ts : List Term) (K : Kind) → false ≡ is_some (class_from (adds K)) → false ≡ too_many_terms ts (adds K)
      go ts tokens_k s = refl
      go ts start_k s = refl
      go ts K s = absurd (false≢true s)

  pub term_room : b ≡ true → TermLimitTested c n (leb max_terms n)
  unfolding too_many_terms
  term_room h = record { found = λ ts K count s. rw (← count) (go ts K (sym (rw (e, s) at h))) }
    where
      go : (ts : List Term) (K : Kind) → true ≡ is_some (class_from (adds K)) → leb max_terms (length ts) ≡ too_many_terms ts (adds K)
      go ts tokens_k s = absurd (true≢false s)
      go ts start_k s = absurd (true≢false s)
      go ts K s = refl

-- ---- 6

-- as the code compares two classes
abbrev same_class : Class → Class → Bool
same_class = eq-value.it

earlier_below : (ts : List Term) (x : Class) (byte : ℕ) → fails_at (forward_reference ts) (Some (Reference x)) byte ≡ false → byte < length ts
unfolding fails_at forward_reference
earlier_below ts Process byte e = leb-false (length ts) byte e
earlier_below ts Expression byte e = leb-false (length ts) byte e

-- a field that refers to a term takes the terms of its class
class_matches : (ts : List Term) (x : Class) (byte : ℕ) (t : Term) → get_elem? ts byte ≡ some t →
    not (option_eq same_class (Some (term_class t)) (Some x)) ≡ fails_at (class_mismatch ts) (Some (Reference x)) byte
unfolding fails_at class_mismatch is_program is_expression
class_matches ts Process byte (process P) e = rw e
class_matches ts Process byte (expression M) e = rw e
class_matches ts Expression byte (process P) e = rw e
class_matches ts Expression byte (expression M) e = rw e

-- f refers to a term of class x, at number i
module _ (d : List ℕ) (f : Option Field) (x : Class) (g : f ≡ Some (Reference x)) (byte i : ℕ) (p : i ≡ byte) where
  pub reference_inside : CanTestClass d f byte → i < max_terms
  reference_inside t =
      let l = earlier_below t.terms x byte (rw g at t.earlier) in let few = t.decoded.good.few in omega arith

  pub class_tested : (k : ℕ) → k ≡ kind_at d i → (c : Option Class) → c ≡ class_of k → (b : Bool) → b ≡ not (option_eq same_class c (Some x)) → ClassTested d f byte b
  class_tested k q c class b z = record {
    found = λ ts y e.
        let l : fails_at (forward_reference ts) (Some (Reference x)) byte ≡ false = rw g at e in
        let t = found_at ts byte (earlier_below ts x byte l) in
        z ∙ rw (g, class, q, p, record_class byte _ _ _ t.0 (y.records byte t.0 t.1)) (class_matches ts x byte t.0 t.1);
  }

-- ---- 8

module _ (d : List ℕ) (a n : ℕ) where
  pub count_zero : n ≡ 0 → eqb n 0 ≡ bad_tokens (tokens_in d) (tokens_record a n)
  unfolding bad_tokens
  count_zero e = rw e

  pub given_before : (n ≡ 0 → ⊥) → a < channels → (x : ℕ) → x ≡ a → (t : ℕ) → t ≡ get_or d x 0 → not (eqb t 0) ≡ bad_tokens (tokens_in d) (tokens_record a n)
  unfolding bad_tokens
  given_before h l x p t q = rw (ne_eqb n 0 h, get_or-take channels d a 0 l, q, p)

-- ---- 3 to 6 in number order

-- a test that passed
pub passes : (b t : Bool) → b ≡ t → b ≡ false → t ≡ false
passes b t e h = sym e ∙ h

-- what the test of a class asks
pub earlier : (d : List ℕ) (n : ℕ) → DecodedSoFar d n → (f : Option Field) (byte : ℕ) (b : Bool) →
    ((ts : List Term) → length ts ≡ n → b ≡ fails_at (forward_reference ts) f byte) → b ≡ false → CanTestClass d f byte
earlier d n x f byte b e h = record { terms = x.terms; decoded = x.decoded; earlier = passes b _ (e x.terms x.counted) h }

-- y is the shape of the record's kind
module _ (d : List ℕ) (n : ℕ) (x : Record) (k : ℕ) (same : x.kind ≡ k) (y : Shape) (p : y ≡ shape_of k) where
  shape : y ≡ shape_of x.kind
  shape = rw same p

  -- a test on the first field, on the second, on both
  abbrev first_fails : (fields.Field → ℕ → Bool) → Bool
  first_fails fails = fails_at fails y.first x.first

  abbrev second_fails : (fields.Field → ℕ → Bool) → Bool
  second_fails fails = fails_at fails y.second x.second

  on_both : (fails : fields.Field → ℕ → Bool) (K : KindAt x.kind) →
      any_field fails (fields K.kind) (x.first ∷ x.second ∷ []) ≡ (first_fails fails || second_fails fails)
  on_both fails K = both_fields fails x.first x.second x.kind K.kind K.named y shape

  class : (K : KindAt x.kind) → y.class ≡ class_from (adds K.kind)
  class K = shape_class x.kind y shape ∙ class_of_kind_holds x.kind K.kind K.named

  module _ (b3 : Bool) (e3 : TermLimitTested y.class n b3) where
    in_order_holds : (ts : List Term) (K : KindAt x.kind) → length ts ≡ n →
        field_refusal ts K.kind x.first x.second 0
        ≡ cond b3 3
        (cond (first_fails channel_out_of_range || second_fails channel_out_of_range) 4
        (cond (first_fails (forward_reference ts) || second_fails (forward_reference ts)) 5
        (cond (first_fails (class_mismatch ts) || second_fails (class_mismatch ts)) 6 0)))
    unfolding field_refusal
    in_order_holds ts K count = rw (← (e3.found ts K.kind count (class K)), on_both channel_out_of_range K, on_both (forward_reference ts) K, on_both (class_mismatch ts) K)

    pub refused_3 : b3 ≡ true → FieldsTested d n x (reason_number TooManyTerms)
    unfolding reason_number
    refused_3 h3 = record { found = λ ts K z count. rw (in_order_holds ts K count, h3) }

    module _ (h3 : b3 ≡ false) (a4 : Bool) (p4 : a4 ≡ first_fails channel_out_of_range) where
      pub refused_4 : a4 ≡ true → FieldsTested d n x (reason_number ChannelOutOfRange)
      unfolding reason_number
      refused_4 h = record { found = λ ts K z count. rw (in_order_holds ts K count, h3, ← p4, h) }

      module _ (h4 : a4 ≡ false) (b4 : Bool) (q4 : b4 ≡ second_fails channel_out_of_range) where
        pub refused_4_second : b4 ≡ true → FieldsTested d n x (reason_number ChannelOutOfRange)
        unfolding reason_number
        refused_4_second h = record { found = λ ts K z count. rw (in_order_holds ts K count, h3, ← p4, h4, ← q4, h) }

        module _ (g4 : b4 ≡ false) (a5 : Bool) (p5 : (ts : List Term) → length ts ≡ n → a5 ≡ first_fails (forward_reference ts)) where
          pub refused_5 : a5 ≡ true → FieldsTested d n x (reason_number ForwardReference)
          unfolding reason_number
          refused_5 h = record { found = λ ts K z count. rw (in_order_holds ts K count, h3, ← p4, h4, ← q4, g4, ← (p5 ts count), h) }

          module _ (h5 : a5 ≡ false) (b5 : Bool) (q5 : (ts : List Term) → length ts ≡ n → b5 ≡ second_fails (forward_reference ts)) where
            pub refused_5_second : b5 ≡ true → FieldsTested d n x (reason_number ForwardReference)
            unfolding reason_number
            refused_5_second h = record { found = λ ts K z count. rw (in_order_holds ts K count, h3, ← p4, h4, ← q4, g4, ← (p5 ts count), h5, ← (q5 ts count), h) }

            module _ (g5 : b5 ≡ false) (a6 : Bool) (r6 : ClassTested d y.first x.first a6) where
              p6 : (ts : List Term) → Decoded ts d → length ts ≡ n → a6 ≡ first_fails (class_mismatch ts)
              p6 ts z count = r6.found ts z (passes a5 _ (p5 ts count) h5)

              pub refused_6 : a6 ≡ true → FieldsTested d n x (reason_number ClassMismatch)
              unfolding reason_number
              refused_6 h = record {
                found = λ ts K z count.
                    rw (in_order_holds ts K count, h3, ← p4, h4, ← q4, g4, ← (p5 ts count), h5, ← (q5 ts count), g5, ← (p6 ts z count), h);
              }

              module _ (h6 : a6 ≡ false) (b6 : Bool) (s6 : ClassTested d y.second x.second b6) where
                q6 : (ts : List Term) → Decoded ts d → length ts ≡ n → b6 ≡ second_fails (class_mismatch ts)
                q6 ts z count = s6.found ts z (passes b5 _ (q5 ts count) g5)

                pub refused_6_second : b6 ≡ true → FieldsTested d n x (reason_number ClassMismatch)
                unfolding reason_number
                refused_6_second h = record {
                  found = λ ts K z count.
                      rw (in_order_holds ts K count, h3, ← p4, h4, ← q4, g4, ← (p5 ts count), h5, ← (q5 ts count), g5, ← (p6 ts z count), h6, ← (q6 ts z count), h);
                }

                pub none_refused : b6 ≡ false → FieldsTested d n x 0
                none_refused h = record {
                  found = λ ts K z count.
                      rw (in_order_holds ts K count, h3, ← p4, h4, ← q4, g4, ← (p5 ts count), h5, ← (q5 ts count), g5, ← (p6 ts z count), h6, ← (q6 ts z count), h);
                }
