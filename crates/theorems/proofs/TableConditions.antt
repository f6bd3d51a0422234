-- Which number and place a table is refused with: those of the first condition of 1 to 9 on the first record that meets
-- one; and it is accepted exactly where it ends with a start record and no record before it meets any.
-- Each test on a record decides its condition where none before it holds, and a record that passes 2 to 6 is one as
-- printed; a turn of reading then has its reason, and each record that is reached is read with enough left to read on.
-- Assumes nothing.
use Prim.Native.Nat.{ℕ, zero, suc, ◌+◌, ◌≤◌, ◌<◌}
use native.Mathlib.Omega.{arith}
use native.Mathlib.Decide.{dec_lt}
use mathlib.Core.Path.{◌≡◌, refl, sym, ap, ◌∙◌, subst}
use mathlib.Core.Logic.{◌⊎◌, inl, inr, ◌≢◌}
use mathlib.Core.Bool.{Bool, true, false, cond, not, ◌||◌}
use mathlib.Core.Option.{Option, none, some}
use mathlib.Core.List.{List, [], ◌∷◌, ◌++◌}
use lib.ListN.{length, get_or, drop, set, get_elem?, length-drop}
use lib.Seq.{drop-drop}
use lib.Dec.{leb, ltb, eqb}
use borrow.Author.Tests.{leb-true, leb-false, lt-leb, eqb-true, eqb-false}
use Rattle.calculus.specs.State.{count}
use Rattle.semantics.specs.Definitions.Basics.{first_of}
use Rattle.semantics.specs.Definitions.Terms.{Program, Term, process, expression, width, branches, path_length}
use Rattle.semantics.specs.Definitions.Table.{Kind, kind_by_number, Field, channel_f, program_f, expression_f, amount_f, fields, TableSoFar, Table, TableAnswer, accepted, refused_at, is_program, is_expression, Content, term_record, tokens_record, start_record, nothing, record_content, adds, any_field, too_many_terms, channel_out_of_range, forward_reference, class_mismatch, over_limit, bad_tokens, Test, tests, RecordAnswer, stop, more, table_end, record_passed, record_tested, record_of_kind, read_record, then_read, read_from, empty_table, read_table}
use Rattle.semantics.specs.Checks.Conditions.{Body, BodyByte, RecordAsStated, start13, ReadAsStated, TableCondition, kind_unknown, body_short, terms_many, channel_over, forward_reference_holds, class_expression, class_process, width_over, paths_over, tokens_none, tokens_again, byte_follows, start_missing, NoCondition, Reached, at_first, after_term, after_tokens, TableRefused, TableAccepted, TableNumbers, MissingAtLength}
use Rattle.theorems.proofs.Lists.{none_found, found_below, none_past}
use Rattle.semantics.specs.Checks.AcceptedTables.{kind_byte}
use Rattle.theorems.proofs.RecordShapes.{kind_number, kind_within, kind_positive, kind_without, ContentReason, said_reason, AddsReason, adds_reason, says_something, body_of, body_is, read_as_stated, Fits, no_field, a_channel, a_program, an_expression, an_amount, printed_as_read}

-- ---- a test on all fields

module _ (fails : Field → ℕ → Bool) where
  abbrev FieldFails : List Field → List ℕ → Bool → Type 0
  FieldFails fs bs true =
      (i : ℕ) × (F : Field) × (b : ℕ) × (get_elem? fs i ≡ some F) × (get_elem? bs i ≡ some b) × (fails F b ≡ true)
  FieldFails fs bs false =
      (i : ℕ) (F : Field) (b : ℕ) → get_elem? fs i ≡ some F → get_elem? bs i ≡ some b → fails F b ≡ false

  -- the test passes where some field fails, and only there
  field_fails : (fs : List Field) (bs : List ℕ) → FieldFails fs bs (any_field fails fs bs)
  unfolding any_field
  field_fails [] bs = λ i F b e g. absurd (none_found i F e)
  field_fails (f ∷ fs) [] = λ i F b e g. absurd (none_found i b g)
  field_fails (f ∷ fs) (b ∷ bs) = go (fails f b) refl (any_field fails fs bs) (field_fails fs bs)
    where
      go : (x : Bool) → fails f b ≡ x → (y : Bool) → FieldFails fs bs y → FieldFails (f ∷ fs) (b ∷ bs) (x || y)
      go true e y h = (0, f, b, refl, refl, e)
      go false e true h = (suc h.0, h.1, h.2, h.3, h.4, h.5)
      go false e false h = λ i F c g k. here i F c g k
        where
          here : (i : ℕ) (F : Field) (c : ℕ) → get_elem? (f ∷ fs) i ≡ some F → get_elem? (b ∷ bs) i ≡ some c →
              fails F c ≡ false
          here zero F c g k = let p : f ≡ F = cc in let q : b ≡ c = cc in rw (← p, ← q) e
          here (suc i) F c g k = h i F c g k

-- ---- the conditions of a record

-- their numbers
pub condition_number : (r : TableSoFar) (n o : ℕ) (bs : List ℕ) → TableCondition r n o bs → (1 ≤ n) × (n ≤ 9)
condition_number r n o bs (kind_unknown e) = omega arith
condition_number r n o bs (body_short fs e f) = omega arith
condition_number r n o bs (terms_many e f g) = omega arith
condition_number r n o bs (channel_over b e f) = omega arith
condition_number r n o bs (forward_reference_holds b e f) = omega arith
condition_number r n o bs (class_expression b M e f) = omega arith
condition_number r n o bs (class_process b P e f) = omega arith
condition_number r n o bs (width_over e f) = omega arith
condition_number r n o bs (paths_over e f) = omega arith
condition_number r n o bs tokens_none = omega arith
condition_number r n o bs (tokens_again e) = omega arith
condition_number r n o bs byte_follows = omega arith
condition_number r n o bs start_missing = omega arith

-- their places
offset_of : ℕ → List ℕ → ℕ
offset_of n [] = 0
offset_of n (k ∷ bs) = cond (eqb n 9) 2 0

condition_offset : (r : TableSoFar) (n o : ℕ) (bs : List ℕ) → TableCondition r n o bs → o ≡ offset_of n bs
unfolding offset_of
condition_offset r n o bs (kind_unknown e) = refl
condition_offset r n o bs (body_short fs e f) = refl
condition_offset r n o bs (terms_many e f g) = refl
condition_offset r n o bs (channel_over b e f) = refl
condition_offset r n o bs (forward_reference_holds b e f) = refl
condition_offset r n o bs (class_expression b M e f) = refl
condition_offset r n o bs (class_process b P e f) = refl
condition_offset r n o bs (width_over e f) = refl
condition_offset r n o bs (paths_over e f) = refl
condition_offset r n o bs tokens_none = refl
condition_offset r n o bs (tokens_again e) = refl
condition_offset r n o bs byte_follows = refl
condition_offset r n o bs start_missing = refl

-- what 8 says of a record
tokens_mean : (r : TableSoFar) (o k : ℕ) (bs : List ℕ) → TableCondition r 8 o (k ∷ bs) → (k ≡ 12) ×
    ((get_or bs 1 0 ≡ 0) ⊎ (count r.tokens (get_or bs 0 0) ≢ 0))
tokens_mean r o k bs tokens_none = (refl, inl refl)
tokens_mean r o k bs (tokens_again e) = (refl, inr e)

tokens_hold : (r : TableSoFar) (k : ℕ) (bs : List ℕ) → k ≡ 12 → 2 ≤ length bs → (get_or bs 1 0 ≡ 0) ⊎
    (count r.tokens (get_or bs 0 0) ≢ 0) → TableCondition r 8 0 (k ∷ bs)
tokens_hold r k [] e l h = absurd (omega arith)
tokens_hold r k (a ∷ []) e l h = absurd (omega arith)
tokens_hold r k (a ∷ n ∷ bs) e l (inl h) = rw (e, h) tokens_none
tokens_hold r k (a ∷ n ∷ bs) e l (inr h) = rw e (tokens_again h)

-- what 9 says of a record
follow_means : (r : TableSoFar) (o k : ℕ) (bs : List ℕ) → TableCondition r 9 o (k ∷ bs) → (k ≡ 13) × (2 ≤ length bs)
follow_means r o k bs byte_follows = (refl, omega arith)

-- what 7 says of a record's content
abbrev OverLimit : Content → Type 0
OverLimit (term_record (process P)) = 64 < width P
OverLimit (term_record (expression M)) = (8 < branches M) ⊎ (16 < path_length M)
OverLimit (tokens_record a n) = ⊥
OverLimit (start_record P) = ⊥
OverLimit nothing = ⊥

false_true : false ≡ true → ⊥
false_true e = let z : ◌≡◌ {A = ℕ} 0 1 = cc in omega arith

-- a record's first byte and what follows
module _ (r : TableSoFar) (k : ℕ) (bs : List ℕ) where
  -- no condition of a smaller number holds
  abbrev Clear : ℕ → Type 0
  Clear n = (m o : ℕ) → m < n → TableCondition r m o (k ∷ bs) → ⊥

  -- one condition more that does not hold
  clear_next : (n : ℕ) → Clear n → ((o : ℕ) → TableCondition r n o (k ∷ bs) → ⊥) → Clear (suc n)
  clear_next n h g m o l c =
      elim (dec_lt m n) [ yes q ↦ h m o q c | no q ↦ g o (subst (λ x. TableCondition r x o (k ∷ bs)) (omega arith) c) ]

  -- a record of which not even 9 holds meets no condition
  meets_none : Clear 9 → ((o : ℕ) → TableCondition r 9 o (k ∷ bs) → ⊥) → NoCondition r (k ∷ bs)
  meets_none clear last n o c = let z = condition_number r n o (k ∷ bs) c in clear_next 9 clear last n o (omega arith) c

-- a record of kind K
module _ (r : TableSoFar) (k : ℕ) (bs : List ℕ) (K : Kind) (named : kind_by_number k ≡ some K) where
  -- a test decides its condition
  abbrev Decides : ℕ → Bool → Type 0
  Decides n true = TableCondition r n 0 (k ∷ bs)
  Decides n false = (o : ℕ) → TableCondition r n o (k ∷ bs) → ⊥

  -- a test on numbers, and one on all fields, decides it where each answer does
  by_test : (n : ℕ) (b : Bool) → (b ≡ true → Decides n true) → (b ≡ false → Decides n false) → Decides n b
  by_test n true f g = f refl
  by_test n false f g = g refl

  by_fields : (n : ℕ) (fails : Field → ℕ → Bool) → (FieldFails fails (fields K) bs true → Decides n true) →
      (FieldFails fails (fields K) bs false → Decides n false) → Decides n (any_field fails (fields K) bs)
  by_fields n fails f g = go (any_field fails (fields K) bs) (field_fails fails (fields K) bs)
    where
      go : (b : Bool) → FieldFails fails (fields K) bs b → Decides n b
      go true h = f h
      go false h = g h

  -- the kind's body is its fields
  body : Body k (fields K)
  body = body_of k K named

  same_body : (fs : List Field) → Body k fs → fs ≡ fields K
  same_body = body_is k K named

  -- a byte that the body has as an F is one for a field F
  byte_field : (F : Field) (b : ℕ) → BodyByte k bs F b → (i : ℕ) × (get_elem? (fields K) i ≡ some F) ×
      (get_elem? bs i ≡ some b)
  byte_field F b (fs, is, i, e, f) = (i, subst (λ x. get_elem? x i ≡ some F) (same_body fs is) e, f)

  field_byte : (F : Field) (b i : ℕ) → get_elem? (fields K) i ≡ some F → get_elem? bs i ≡ some b → BodyByte k bs F b
  field_byte F b i e f = (fields K, body, i, e, f)

  -- a byte that names a kind is none that 1 speaks of
  clear_two : Clear r k bs 2
  clear_two = clear_next r k bs 1 (λ m o l c. let z = condition_number r m o (k ∷ bs) c in omega arith) known
    where
      known : (o : ℕ) → TableCondition r 1 o (k ∷ bs) → ⊥
      known o (kind_unknown h) = kind_within k K named h

  -- 2: fewer bytes follow than the kind has fields
  short_means : (o : ℕ) → TableCondition r 2 o (k ∷ bs) → length bs < length (fields K)
  short_means o (body_short fs e h) = subst (λ x. length bs < length x) (same_body fs e) h

  test_two : Decides 2 (ltb (length bs) (length (fields K)))
  test_two =
      by_test 2 (ltb (length bs) (length (fields K)))
      (λ e. body_short (fields K) body (leb-true (suc (length bs)) (length (fields K)) e))
      (λ e o c. let z = short_means o c in let y = leb-false (suc (length bs)) (length (fields K)) e in omega arith)

  -- 3: a term's record after 200 terms
  many_means : (o : ℕ) → TableCondition r 3 o (k ∷ bs) → (k ≤ 11) × (200 ≤ length r.terms)
  many_means o (terms_many e f g) = (f, g)

  test_three : (F : Option Field) → AddsReason K F → Decides 3 (too_many_terms r.terms F)
  unfolding too_many_terms
  test_three (some F) h =
      by_test 3 (leb 200 (length r.terms)) (λ e. many (leb-true 200 (length r.terms) e))
      (λ e o c. let z = many_means o c in let y = leb-false 200 (length r.terms) e in omega arith)
    where
      many : 200 ≤ length r.terms → TableCondition r 3 0 (k ∷ bs)
      many l = let z = kind_number k K named in let y = kind_positive k K named in let x : k ≤ 11 = omega arith in
          terms_many y x l
  test_three none h = λ o c. let z = many_means o c in let y = kind_number k K named in omega arith

  -- 4: a field fails where it is a channel over 15
  channel_fails : (i : ℕ) (F : Field) (b : ℕ) → get_elem? (fields K) i ≡ some F → get_elem? bs i ≡ some b →
      channel_out_of_range F b ≡ true →
      TableCondition r 4 0 (k ∷ bs)
  unfolding channel_out_of_range
  channel_fails i channel_f b e f g = channel_over b (field_byte channel_f b i e f) (leb-true 16 b g)
  channel_fails i program_f b e f g = absurd (false_true g)
  channel_fails i expression_f b e f g = absurd (false_true g)
  channel_fails i amount_f b e f g = absurd (false_true g)

  channel_fine : FieldFails channel_out_of_range (fields K) bs false → (o : ℕ) → TableCondition r 4 o (k ∷ bs) → ⊥
  unfolding channel_out_of_range
  channel_fine h o (channel_over b e l) =
      let (i, f, g) = byte_field channel_f b e in let z = leb-false 16 b (h i channel_f b f g) in omega arith

  test_four : Decides 4 (any_field channel_out_of_range (fields K) bs)
  test_four = by_fields 4 channel_out_of_range (λ h. channel_fails h.0 h.1 h.2 h.3 h.4 h.5) channel_fine

  -- 5: where it is a reference that is not to an earlier term
  reference_fails : (i : ℕ) (F : Field) (b : ℕ) → get_elem? (fields K) i ≡ some F → get_elem? bs i ≡ some b →
      forward_reference r.terms F b ≡ true →
      TableCondition r 5 0 (k ∷ bs)
  unfolding forward_reference
  reference_fails i channel_f b e f g = absurd (false_true g)
  reference_fails i program_f b e f g =
      forward_reference_holds b (inl (field_byte program_f b i e f)) (leb-true (length r.terms) b g)
  reference_fails i expression_f b e f g =
      forward_reference_holds b (inr (field_byte expression_f b i e f)) (leb-true (length r.terms) b g)
  reference_fails i amount_f b e f g = absurd (false_true g)

  reference_fine : FieldFails (forward_reference r.terms) (fields K) bs false → (o : ℕ) → TableCondition r 5 o (k ∷ bs) → ⊥
  unfolding forward_reference
  reference_fine h o (forward_reference_holds b (inl e) l) =
      let (i, f, g) =
      byte_field program_f b e in let z = leb-false (length r.terms) b (h i program_f b f g) in omega arith
  reference_fine h o (forward_reference_holds b (inr e) l) =
      let (i, f, g) =
      byte_field expression_f b e in let z = leb-false (length r.terms) b (h i expression_f b f g) in omega arith

  test_five : Decides 5 (any_field (forward_reference r.terms) (fields K) bs)
  test_five =
      by_fields 5 (forward_reference r.terms) (λ h. reference_fails h.0 h.1 h.2 h.3 h.4 h.5)
      reference_fine

  -- 6: where it is a reference to the wrong class; that it is to an earlier term is tested before
  class_fails : Clear r k bs 6 → (i : ℕ) (F : Field) (b : ℕ) → get_elem? (fields K) i ≡ some F → get_elem? bs i ≡ some b →
      class_mismatch r.terms F b ≡ true →
      TableCondition r 6 0 (k ∷ bs)
  unfolding class_mismatch is_program is_expression
  class_fails clear i channel_f b e f g = absurd (false_true g)
  class_fails clear i program_f b e f g = go (get_elem? r.terms b) refl g
    where
      go : (t : Option Term) → get_elem? r.terms b ≡ t → not (is_program t) ≡ true → TableCondition r 6 0 (k ∷ bs)
      go none q p =
          let later = forward_reference_holds b (inl (field_byte program_f b i e f)) (none_past r.terms b q) in
          absurd (clear 5 0 (omega arith) later)
      go (some (process P)) q p = absurd (false_true p)
      go (some (expression M)) q p = class_expression b M (field_byte program_f b i e f) q
  class_fails clear i expression_f b e f g = go (get_elem? r.terms b) refl g
    where
      go : (t : Option Term) → get_elem? r.terms b ≡ t → not (is_expression t) ≡ true → TableCondition r 6 0 (k ∷ bs)
      go none q p =
          let later = forward_reference_holds b (inr (field_byte expression_f b i e f)) (none_past r.terms b q) in
          absurd (clear 5 0 (omega arith) later)
      go (some (process P)) q p = class_process b P (field_byte expression_f b i e f) q
      go (some (expression M)) q p = absurd (false_true p)
  class_fails clear i amount_f b e f g = absurd (false_true g)

  class_fine : FieldFails (class_mismatch r.terms) (fields K) bs false → (o : ℕ) → TableCondition r 6 o (k ∷ bs) → ⊥
  unfolding class_mismatch is_program is_expression
  class_fine h o (class_expression b M e l) =
      let (i, f, g) = byte_field program_f b e in let z = h i program_f b f g in false_true (sym (rw l at z))
  class_fine h o (class_process b P e l) =
      let (i, f, g) = byte_field expression_f b e in let z = h i expression_f b f g in false_true (sym (rw l at z))

  test_six : Clear r k bs 6 → Decides 6 (any_field (class_mismatch r.terms) (fields K) bs)
  test_six clear =
      by_fields 6 (class_mismatch r.terms) (λ h. class_fails clear h.0 h.1 h.2 h.3 h.4 h.5) class_fine

  -- where none of 2, 5 and 6 holds the record is one as printed
  fitting : Clear r k bs 7 → (fs : List Field) (cs : List ℕ) → length fs ≤ length cs →
      ((i : ℕ) (F : Field) (b : ℕ) → get_elem? fs i ≡ some F → get_elem? cs i ≡ some b → BodyByte k bs F b) →
      Fits r.terms fs cs
  fitting clear [] cs l h = no_field
  fitting clear (F ∷ fs) [] l h = absurd (omega arith)
  fitting clear (channel_f ∷ fs) (b ∷ cs) l h = a_channel (fitting clear fs cs (omega arith) (λ i. h (suc i)))
  fitting clear (program_f ∷ fs) (b ∷ cs) l h =
      go (get_elem? r.terms b) refl (fitting clear fs cs (omega arith) (λ i. h (suc i)))
    where
      go : (t : Option Term) → get_elem? r.terms b ≡ t → Fits r.terms fs cs →
          Fits r.terms (program_f ∷ fs) (b ∷ cs)
      go none q f =
          absurd
          (clear 5 0 (omega arith) (forward_reference_holds b (inl (h 0 program_f b refl refl)) (none_past r.terms b q)))
      go (some (process P)) q f = a_program q f
      go (some (expression M)) q f =
          absurd (clear 6 0 (omega arith) (class_expression b M (h 0 program_f b refl refl) q))
  fitting clear (expression_f ∷ fs) (b ∷ cs) l h =
      go (get_elem? r.terms b) refl (fitting clear fs cs (omega arith) (λ i. h (suc i)))
    where
      go : (t : Option Term) → get_elem? r.terms b ≡ t → Fits r.terms fs cs →
          Fits r.terms (expression_f ∷ fs) (b ∷ cs)
      go none q f =
          absurd
          (clear 5 0 (omega arith) (forward_reference_holds b (inr (h 0 expression_f b refl refl)) (none_past r.terms b q)))
      go (some (process P)) q f = absurd (clear 6 0 (omega arith) (class_process b P (h 0 expression_f b refl refl) q))
      go (some (expression M)) q f = an_expression q f
  fitting clear (amount_f ∷ fs) (b ∷ cs) l h = an_amount (fitting clear fs cs (omega arith) (λ i. h (suc i)))

  whole : Clear r k bs 7 → length (fields K) ≤ length bs
  whole clear = elim (dec_lt (length bs) (length (fields K))) [
    | yes q ↦
        absurd (clear 2 0 (omega arith) (body_short (fields K) body q))
    | no q ↦ omega arith
  ]

  as_stated : Clear r k bs 7 → RecordAsStated r.terms (k ∷ bs) (suc (length (fields K))) (record_content r.terms bs K)
  as_stated clear =
      rw (kind_number k K named)
      (printed_as_read r.terms K bs (fitting clear (fields K) bs (whole clear) (λ i F b e f. field_byte F b i e f)))

  -- 7: the measures of the term that the record makes
  says_printed : (w : ℕ) (c : Content) → RecordAsStated r.terms (k ∷ bs) w c → c ≡ record_content r.terms bs K
  unfolding ReadAsStated
  says_printed w c p = let (L, e, _, f) = read_as_stated r.terms k bs w c p in let same : L ≡ K = cc in sym f ∙
      ap (record_content r.terms bs) same

  over_means : (o : ℕ) → TableCondition r 7 o (k ∷ bs) → OverLimit (record_content r.terms bs K)
  over_means o (width_over {w = w} {P = P} p g) = subst OverLimit (says_printed w (term_record (process P)) p) g
  over_means o (paths_over {w = w} {M = M} p g) = subst OverLimit (says_printed w (term_record (expression M)) p) g

  test_seven : Clear r k bs 7 → (c : Content) → record_content r.terms bs K ≡ c → Decides 7 (over_limit c)
  unfolding over_limit
  test_seven clear (term_record (process P)) f =
      by_test 7 (ltb 64 (width P)) (λ e. width_over (rw f at (as_stated clear)) (leb-true 65 (width P) e))
      (λ e o c. let z : 64 < width P = subst OverLimit f (over_means o c) in let y = leb-false 65 (width P) e in
      omega arith)
  test_seven clear (term_record (expression M)) f = go (ltb 8 (branches M)) refl (ltb 16 (path_length M)) refl
    where
      go : (a : Bool) → ltb 8 (branches M) ≡ a → (b : Bool) → ltb 16 (path_length M) ≡ b → Decides 7 (a || b)
      go true e b g = paths_over (rw f at (as_stated clear)) (inl (leb-true 9 (branches M) e))
      go false e true g = paths_over (rw f at (as_stated clear)) (inr (leb-true 17 (path_length M) g))
      go false e false g = λ o c. within (subst OverLimit f (over_means o c))
        where
          within : (8 < branches M) ⊎ (16 < path_length M) → ⊥
          within (inl z) = let y = leb-false 9 (branches M) e in omega arith
          within (inr z) = let y = leb-false 17 (path_length M) g in omega arith
  test_seven clear (tokens_record a n) f = λ o c. subst OverLimit f (over_means o c)
  test_seven clear (start_record P) f = λ o c. subst OverLimit f (over_means o c)
  test_seven clear nothing f = λ o c. subst OverLimit f (over_means o c)

  -- 8: the tokens that the record gives; that it has both bytes is tested before
  test_eight : Clear r k bs 8 → (c : Content) → ContentReason K bs c → Decides 8 (bad_tokens r.tokens c)
  unfolding bad_tokens
  test_eight clear (term_record t) h = λ o c. let z = tokens_mean r o k bs c in let y = kind_number k K named in omega arith
  test_eight clear (start_record P) h =
      λ o c. let z = tokens_mean r o k bs c in let y = kind_number k K named in omega arith
  test_eight clear nothing h = λ o c. h (let z = tokens_mean r o k bs c in let y = kind_number k K named in omega arith)
  test_eight clear (tokens_record a n) h = go (eqb n 0) refl (eqb (count r.tokens a) 0) refl
    where
      twelve : k ≡ 12
      twelve = kind_number k K named ∙ h.0

      long : 2 ≤ length bs
      long = let two = h.1 in let all = whole (λ m o l. clear m o (omega arith)) in omega arith

      fresh : eqb n 0 ≡ false → eqb (count r.tokens a) 0 ≡ true → (get_or bs 1 0 ≡ 0) ⊎
          (count r.tokens (get_or bs 0 0) ≢ 0) → ⊥
      fresh e f (inl z) = eqb-false n 0 e (h.3 ∙ z)
      fresh e f (inr z) = z (rw h.2 at (eqb-true (count r.tokens a) 0 f))

      go : (x : Bool) → eqb n 0 ≡ x → (y : Bool) → eqb (count r.tokens a) 0 ≡ y → Decides 8 (x || not y)
      go true e y f = tokens_hold r k bs twelve long (inl (sym h.3 ∙ eqb-true n 0 e))
      go false e false f =
          tokens_hold r k bs twelve long (inr (λ z. eqb-false (count r.tokens a) 0 f (ap (count r.tokens) h.2 ∙
          z)))
      go false e true f = λ o c. fresh e f (tokens_mean r o k bs c).1

  -- ---- the first test that passes

  -- tests whose numbers follow one another up to 8, each of which decides its condition where none before holds
  abbrev Sound : ℕ → List Test → Type 0
  Sound n [] = n ≡ 9
  Sound n (t ∷ ts) = (t.code ≡ n) × (Clear r k bs n → Decides n t.holds) × Sound (suc n) ts

  -- the first condition, or none up to 8
  abbrev Found : Option Test → Type 0
  Found none = Clear r k bs 9
  Found (some t) = TableCondition r t.code 0 (k ∷ bs) × Clear r k bs t.code

  -- the first test that passes finds it
  found_in : (n : ℕ) (ts : List Test) → Clear r k bs n → Sound n ts → Found (first_of (λ t. t.holds) ts)
  unfolding first_of
  found_in n [] clear s = subst (Clear r k bs) s clear
  found_in n (t ∷ ts) clear s =
      go t.holds (s.1 clear) (λ d. found_in (suc n) ts (clear_next r k bs n clear d) s.2)
    where
      go : (b : Bool) → Decides n b → (Decides n false → Found (first_of (λ u. u.holds) ts)) →
          Found (cond b (some t) (first_of (λ u. u.holds) ts))
      go true d next =
          (subst (λ m. TableCondition r m 0 (k ∷ bs)) (sym s.0) d, subst (Clear r k bs) (sym s.0) clear)
      go false d next = next d

  -- tests 2 to 8 are such tests
  found : Found (first_of (λ t. t.holds) (tests r K bs))
  unfolding tests
  found = found_in 2 (tests r K bs) clear_two (
    refl,
    (λ _. test_two),
    (
      refl,
      (λ _. test_three (adds K) (adds_reason K)),
      (
        refl,
        (λ _. test_four),
        (
          refl,
          (λ _. test_five),
          (
            refl,
            (λ clear. test_six clear),
            (
              refl,
              (λ clear. test_seven clear (record_content r.terms bs K) refl),
              (refl, (λ clear. test_eight clear (record_content r.terms bs K) (said_reason r.terms bs K)), refl),
            ),
          ),
        ),
      ),
    ),
  )

-- ---- one turn

-- what a record that passed makes of a reading
abbrev After : TableSoFar → Content → TableSoFar → Type 0
After r (term_record t) s = s ≡ record { terms = r.terms ++ (t ∷ []); tokens = r.tokens }
After r (tokens_record a n) s = s ≡ record { terms = r.terms; tokens = set r.tokens a n }
After r (start_record P) s = ⊥
After r nothing s = ⊥

-- the record at a place of the table met a condition, closes the table, or is passed
abbrev pub TurnReason : TableSoFar → ℕ → List ℕ → RecordAnswer → Type 0
TurnReason r p bs (stop (refused_at n q)) =
    (o : ℕ) × TableCondition r n o bs × ((m i : ℕ) → m < n → TableCondition r m i bs → ⊥) × (q ≡ p + o)
TurnReason r p bs (stop (accepted t)) =
    NoCondition r bs × (b : ℕ) × (P : Program) × (bs ≡ 13 ∷ b ∷ []) × (get_elem? r.terms b ≡ some (process P)) ×
    (t ≡ record { terms = r.terms; tokens = r.tokens; start = P })
TurnReason r p bs (more s w) = NoCondition r bs × (c : Content) × RecordAsStated r.terms bs w c × After r c s

-- a start record: the table ends there, or 9 holds
closed_reason : (r : TableSoFar) (p : ℕ) (bs : List ℕ) (w : ℕ) (P : Program) → RecordAsStated r.terms bs w (start_record P) →
    ((m i : ℕ) → m < 9 → TableCondition r m i bs → ⊥) → TurnReason r p bs (stop (table_end r P (p + w) (drop w bs)))
unfolding table_end
closed_reason r p bs w P (start13 {r = b} {bs = rest} e) clear = go rest clear
  where
    none_follows : (o : ℕ) → TableCondition r 9 o (13 ∷ b ∷ []) → ⊥
    none_follows o c = let z = follow_means r o 13 (b ∷ []) c in omega arith

    go : (cs : List ℕ) → ((m i : ℕ) → m < 9 → TableCondition r m i (13 ∷ b ∷ cs) → ⊥) →
        TurnReason r p (13 ∷ b ∷ cs) (stop (table_end r P (p + 2) cs))
    go [] h = (meets_none r 13 (b ∷ []) h none_follows, b, P, refl, e, refl)
    go (c ∷ cs) h = (2, byte_follows, h, refl)

module _ (r : TableSoFar) (p k : ℕ) (rest : List ℕ) where
  -- a record that is no start record and passed its tests meets no condition
  met_none : (K : Kind) → kind_by_number k ≡ some K → Clear r k rest 9 → kind_byte K ≤ 12 → NoCondition r (k ∷ rest)
  met_none K named clear l =
      meets_none r k rest clear (λ o c. let z = follow_means r o k rest c in let y = kind_number k K named in
      omega arith)

  -- a record that passed its tests
  passed_reason : (K : Kind) → kind_by_number k ≡ some K → Clear r k rest 9 → (c : Content) →
      RecordAsStated r.terms (k ∷ rest) (suc (length (fields K))) c → ContentReason K rest c →
      TurnReason r p (k ∷ rest)
      (record_passed r p c (suc (length (fields K))) (p + suc (length (fields K))) (drop (length (fields K)) rest))
  unfolding record_passed
  passed_reason K named clear (term_record t) prints is = (met_none K named clear (omega arith), term_record t, prints, refl)
  passed_reason K named clear (tokens_record a n) prints is =
      (met_none K named clear (omega arith), tokens_record a n, prints, refl)
  passed_reason K named clear (start_record P) prints is =
      closed_reason r p (k ∷ rest) (suc (length (fields K))) P prints clear
  passed_reason K named clear nothing prints is = absurd (says_something r.terms (k ∷ rest) _ prints)

  -- a record after its tests, and one with its kind
  tested_reason : (K : Kind) (named : kind_by_number k ≡ some K) (o : Option Test) → Found r k rest K named o →
      TurnReason r p (k ∷ rest) (record_tested r p K rest o)
  unfolding record_tested
  tested_reason K named (some t) f = (0, f.0, f.1, omega arith)
  tested_reason K named none f =
      passed_reason K named f (record_content r.terms rest K) (as_stated r k rest K named (λ m o l. f m o (omega arith)))
      (said_reason r.terms rest K)

  kind_reason : (o : Option Kind) → kind_by_number k ≡ o → TurnReason r p (k ∷ rest) (record_of_kind r p rest o)
  unfolding record_of_kind
  kind_reason none e = (
    0,
    kind_unknown (kind_without k e),
    (λ m i l c. let z = condition_number r m i (k ∷ rest) c in omega arith),
    omega arith,
  )
  kind_reason (some K) e = tested_reason K e (first_of (λ t. t.holds) (tests r K rest)) (found r k rest K e)

-- every turn has its reason
pub turn_reason : (r : TableSoFar) (p : ℕ) (bs : List ℕ) → TurnReason r p bs (read_record r p bs)
unfolding read_record
turn_reason r p [] = (0, start_missing, (λ m i l c. ends m i l c), omega arith)
  where
    ends : (m i : ℕ) → m < 9 → TableCondition r m i [] → ⊥
    ends m i l start_missing = omega arith
turn_reason r p (k ∷ rest) = kind_reason r p k rest (kind_by_number k) refl

-- a record of which a condition is the first that holds is refused with it
turn_refuses : (r : TableSoFar) (p : ℕ) (bs : List ℕ) (n o : ℕ) → TableCondition r n o bs →
    ((m i : ℕ) → m < n → TableCondition r m i bs → ⊥) →
    read_record r p bs ≡ stop (refused_at n (p + o))
turn_refuses r p bs n o c before = go (read_record r p bs) (turn_reason r p bs)
  where
    same_number : (m i : ℕ) → TableCondition r m i bs → ((l j : ℕ) → l < m → TableCondition r l j bs → ⊥) → m ≡ n
    same_number m i d first =
        elim (dec_lt m n) [
          | yes h ↦ absurd (before m i h d)
          | no h ↦
              elim (dec_lt n m) [ yes g ↦ absurd (first n o g c) | no g ↦ omega arith ]
        ]

    go : (t : RecordAnswer) → TurnReason r p bs t → t ≡ stop (refused_at n (p + o))
    go (stop (refused_at m q)) (i, d, first, e) =
        let u =
        same_number m i d first in let x = condition_offset r m i bs d in let y = condition_offset r n o bs c in cc
    go (stop (accepted t)) h = absurd (h.0 n o c)
    go (more s w) h = absurd (h.0 n o c)

-- a record as printed that passes is passed
turn_passes : (r : TableSoFar) (p : ℕ) (bs : List ℕ) (w : ℕ) (c : Content) → NoCondition r bs → RecordAsStated r.terms bs w c →
    read_record r p bs ≡ record_passed r p c w (p + w) (drop w bs)
unfolding ReadAsStated read_record record_of_kind record_tested
turn_passes r p [] w c passes prints = absurd (elim prints [ ])
turn_passes r p (k ∷ rest) w c passes prints = go (read_as_stated r.terms k rest w c prints)
  where
    go : (K : Kind) × (kind_by_number k ≡ some K) × (suc (length (fields K)) ≡ w) × (record_content r.terms rest K ≡ c) →
        read_record r p (k ∷ rest) ≡ record_passed r p c w (p + w) (drop w (k ∷ rest))
    go (K, named, size, says) =
        rw (named, ← size, ← says) (none_holds (first_of (λ t. t.holds) (tests r K rest)) (found r k rest K named))
      where
        none_holds : (o : Option Test) → Found r k rest K named o →
            record_tested r p K rest o ≡
            record_passed r p (record_content r.terms rest K) (suc (length (fields K))) (p + suc (length (fields K)))
            (drop (length (fields K)) rest)
        none_holds (some t) h = absurd (passes t.code 0 h.0)
        none_holds none h = refl

-- a start record on a process, with nothing behind it, closes the table
turn_closes : (r : TableSoFar) (p b : ℕ) (P : Program) → get_elem? r.terms b ≡ some (process P) →
    read_record r p (13 ∷ b ∷ []) ≡ stop (accepted (record { terms = r.terms; tokens = r.tokens; start = P }))
unfolding read_record
turn_closes r p b P e = rw (lt-leb (length r.terms) b (found_below r.terms b (process P) e), e) (rw e)

-- ---- record by record

-- reading goes on after a record, or stops at it
read_on : (f : ℕ) (r : TableSoFar) (p : ℕ) (bs : List ℕ) (s : TableSoFar) (w : ℕ) → read_record r p bs ≡ more s w →
    read_from (suc f) r p bs ≡ read_from f s (p + w) (drop w bs)
unfolding read_from then_read
read_on f r p bs s w e = rw e

read_stop : (f : ℕ) (r : TableSoFar) (p : ℕ) (bs : List ℕ) (a : TableAnswer) → read_record r p bs ≡ stop a →
    read_from (suc f) r p bs ≡ a
unfolding read_from then_read
read_stop f r p bs a e = rw e

-- a record as printed has a byte at least, and lies within its bytes
pub printed_within : (r : TableSoFar) (bs : List ℕ) (w : ℕ) (c : Content) → NoCondition r bs → RecordAsStated r.terms bs w c → (1 ≤ w) ×
    (w ≤ length bs)
unfolding ReadAsStated
printed_within r [] w c passes prints = absurd (elim prints [ ])
printed_within r (k ∷ rest) w c passes prints = go (read_as_stated r.terms k rest w c prints)
  where
    go : (K : Kind) × (kind_by_number k ≡ some K) × (suc (length (fields K)) ≡ w) × (record_content r.terms rest K ≡ c) → (1 ≤ w) ×
        (w ≤ suc (length rest))
    go (K, named, size, says) = let fits = whole r k rest K named (λ m o l. passes m o) in omega arith

module _ (bs : List ℕ) where
  -- a record that is passed leads to the next one
  reached_next : (p : ℕ) (r : TableSoFar) → Reached bs p r → (s : TableSoFar) (w : ℕ) →
      TurnReason r p (drop p bs) (more s w) → Reached bs (p + w) s
  reached_next p r reached s w (passes, term_record t, prints, is) = rw is (after_term reached passes prints)
  reached_next p r reached s w (passes, tokens_record a n, prints, is) = rw is (after_tokens reached passes prints)
  reached_next p r reached s w (passes, start_record P, prints, is) = absurd is
  reached_next p r reached s w (passes, nothing, prints, is) = absurd is

  abbrev AnswerReason : TableAnswer → Type 0
  AnswerReason (accepted t) = TableAccepted bs t
  AnswerReason (refused_at n q) = TableRefused bs n q

  -- an answer that a turn gives has its reason in the record reached
  stop_reason : (p : ℕ) (r : TableSoFar) → Reached bs p r → (a : TableAnswer) → TurnReason r p (drop p bs) (stop a) →
      AnswerReason a
  unfolding TableRefused TableAccepted
  stop_reason p r reached (refused_at n q) (o, c, before, e) = (p, r, o, reached, c, before, e)
  stop_reason p r reached (accepted t) (passes, b, P, e, at, is) = (p, r, b, P, reached, e, at, is)

  -- what is left behind a record that is passed is less
  left_less : (p : ℕ) (r : TableSoFar) (w : ℕ) (c : Content) (f : ℕ) → NoCondition r (drop p bs) →
      RecordAsStated r.terms (drop p bs) w c →
      length (drop p bs) ≤ suc f → length (drop (p + w) bs) ≤ f
  left_less p r w c f passes prints l =
      let z = printed_within r (drop p bs) w c passes prints in let a = length-drop p bs in let b =
      length-drop (p + w) bs in omega arith

  -- every answer has its reason
  answered : (f : ℕ) (r : TableSoFar) (p : ℕ) → Reached bs p r → length (drop p bs) ≤ f →
      AnswerReason (read_from (suc f) r p (drop p bs))
  unfolding read_from then_read
  answered zero r p reached l = go (read_record r p (drop p bs)) (turn_reason r p (drop p bs))
    where
      go : (t : RecordAnswer) → TurnReason r p (drop p bs) t →
          AnswerReason (then_read t (λ s w. read_from 0 s (p + w) (drop w (drop p bs))))
      go (stop a) h = stop_reason p r reached a h
      go (more s w) h = absurd (let z = printed_within r (drop p bs) w h.1 h.0 h.2 in omega arith)
  answered (suc f) r p reached l =
      go (read_record r p (drop p bs)) (turn_reason r p (drop p bs))
      (λ s w h. answered f s (p + w) (reached_next p r reached s w h))
    where
      go : (t : RecordAnswer) → TurnReason r p (drop p bs) t →
          ((s : TableSoFar) (w : ℕ) → TurnReason r p (drop p bs) (more s w) → length (drop (p + w) bs) ≤ f →
          AnswerReason (read_from (suc f) s (p + w) (drop (p + w) bs))) →
          AnswerReason (then_read t (λ s w. read_from (suc f) s (p + w) (drop w (drop p bs))))
      go (stop a) h next = stop_reason p r reached a h
      go (more s w) h next = rw (drop-drop w p bs) (next s w h (left_less p r w h.1 f h.0 h.2 l))

  -- with fuel for what is left, reading goes on from every record reached
  reading_from : TableSoFar → ℕ → Type 0
  reading_from r p = (f : ℕ) × (read_table bs ≡ read_from (suc f) r p (drop p bs)) × (length (drop p bs) ≤ f)

  reading_next : (r : TableSoFar) (p : ℕ) (s : TableSoFar) (w : ℕ) (c : Content) → NoCondition r (drop p bs) →
      RecordAsStated r.terms (drop p bs) w c →
      record_passed r p c w (p + w) (drop w (drop p bs)) ≡ more s w → reading_from r p → reading_from s (p + w)
  unfolding reading_from
  reading_next r p s w c passes prints t (zero, says, l) =
      absurd (let z = printed_within r (drop p bs) w c passes prints in omega arith)
  reading_next r p s w c passes prints t (suc f, says, l) = (
    f,
    says ∙ read_on (suc f) r p (drop p bs) s w (turn_passes r p (drop p bs) w c passes prints ∙ t) ∙
        ap (read_from (suc f) s (p + w)) (drop-drop w p bs),
    left_less p r w c f passes prints l,
  )

  reading_from_holds : (p : ℕ) (r : TableSoFar) → Reached bs p r → reading_from r p
  unfolding reading_from read_table empty_table record_passed
  reading_from_holds p r at_first = (length bs, refl, omega arith)
  reading_from_holds q s (after_term {p} {w} {r} {t} reached passes prints) =
      reading_next r p s w (term_record t) passes prints refl (reading_from_holds p r reached)
  reading_from_holds q s (after_tokens {p} {w} {r} {a} {n} reached passes prints) =
      reading_next r p s w (tokens_record a n) passes prints refl (reading_from_holds p r reached)

  -- what the conditions decide is what reading answers
  table_refused : (n q : ℕ) → TableRefused bs n q → read_table bs ≡ refused_at n q
  unfolding TableRefused reading_from
  table_refused n q (p, r, o, reached, c, before, e) =
      let from = reading_from_holds p r reached in
      from.1 ∙ read_stop from.0 r p (drop p bs) (refused_at n q) (turn_refuses r p (drop p bs) n o c before ∙
      rw e refl)

  table_accepted : (t : Table) → TableAccepted bs t → read_table bs ≡ accepted t
  unfolding TableAccepted reading_from
  table_accepted t (p, r, b, P, reached, e, at, is) =
      let from = reading_from_holds p r reached in
      from.1 ∙ read_stop from.0 r p (drop p bs) (accepted t) (ap (read_record r p) e ∙ turn_closes r p b P at ∙ rw is refl)

  further : (p w : ℕ) (r : TableSoFar) (c : Content) → NoCondition r (drop p bs) → RecordAsStated r.terms (drop p bs) w c →
      p ≤ length bs → p + w ≤ length bs
  further p w r c passes prints h =
      let z = printed_within r (drop p bs) w c passes prints in let l = length-drop p bs in omega arith

  -- a record reached begins within the table, so that one with no byte left is at its end: the place of 9 is the
  -- table's length
  pub reached_within : (p : ℕ) (r : TableSoFar) → Reached bs p r → p ≤ length bs
  reached_within p r at_first = omega arith
  reached_within q s (after_term {p} {w} {r} {t} reached passes prints) =
      further p w r (term_record t) passes prints (reached_within p r reached)
  reached_within q s (after_tokens {p} {w} {r} {a} {n} reached passes prints) =
      further p w r (tokens_record a n) passes prints (reached_within p r reached)

pub missing_at_length : MissingAtLength
unfolding MissingAtLength
missing_at_length bs p r reached e =
    let a = reached_within bs p r reached in let b = length-drop p bs in let c = ap length e in omega arith

pub table_numbers : TableNumbers
unfolding TableNumbers read_table empty_table
table_numbers bs =
    let reason : AnswerReason bs (read_table bs) = answered bs (length bs) empty_table 0 at_first (omega arith) in (
      λ n q. (λ e. subst (AnswerReason bs) e reason, table_refused bs n q),
      λ t. (λ e. subst (AnswerReason bs) e reason, table_accepted bs t),
    )
