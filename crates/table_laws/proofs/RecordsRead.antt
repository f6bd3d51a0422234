-- What is parsed at an offset makes the turn that the definition of a table's answer makes of the bytes from there.
-- Assumes nothing.
use Prim.Native.Nat.{ℕ, zero, suc, ◌+◌, ◌≤◌, ◌<◌}
use native.Mathlib.Omega.{arith}
use mathlib.Core.Path.{◌≡◌, refl, sym, ap, ◌∙◌}
use mathlib.Core.Logic.{◌⊎◌, inl, inr}
use mathlib.Core.Bool.{Bool, true, false, cond}
use mathlib.Core.Option.{some}
use mathlib.Core.List.{List, [], ◌∷◌}
use lib.ListN.{length, get_or, drop, length-drop, drop_of_length-le}
use lib.Seq.{drop-cons, drop-drop, get_or-drop}
use lib.Dec.{ltb}
use borrow.Author.Tests.{lt-ltb, le-ltb}
use Rattle.semantics.specs.Definitions.Basics.{first_of}
use Rattle.semantics.specs.Definitions.Terms.{Term}
use Rattle.semantics.specs.Definitions.Table.{Kind, nil_k, put_k, take_k, repeat_k, par_k, atom_k, end_k, retry_k, rd_k, wt_k, or_else_k, tokens_k, start_k, kind_by_number, Field, fields, TableSoFar, refused_at, Content, record_content, any_field, channel_out_of_range, forward_reference, class_mismatch, tests, RecordAnswer, stop, record_passed, record_tested, record_of_kind, read_record}
use Rattle.table_records.specs.declared.Record.{Record}
use Rattle.table_records.specs.Shapes.{last_kind, body_of}
use Rattle.table_records.specs.ParsedRecords.{ShortRecord, WholeRecord}
use Rattle.table_records.proofs.Shapes.{body_of_kind, body_few, no_kind}
use Rattle.table_laws.specs.Refusals.{content, field_refusal, refusal}
use Rattle.table_laws.proofs.KindBytes.{kind_at}

-- ---- a body's two bytes stand for all that follows the kind

said_two : (ts : List Term) (bs : List ℕ) (K : Kind) → record_content ts bs K ≡ content ts K (get_or bs 0 0) (get_or bs 1 0)
unfolding record_content
said_two ts bs nil_k = refl
said_two ts bs put_k = refl
said_two ts bs take_k = refl
said_two ts bs repeat_k = refl
said_two ts bs par_k = refl
said_two ts bs atom_k = refl
said_two ts bs end_k = refl
said_two ts bs retry_k = refl
said_two ts bs rd_k = refl
said_two ts bs wt_k = refl
said_two ts bs or_else_k = refl
said_two ts bs tokens_k = refl
said_two ts bs start_k = refl

any_two : (fails : Field → ℕ → Bool) (fs : List Field) (bs : List ℕ) → length fs ≤ 2 → length fs ≤ length bs →
    any_field fails fs bs ≡ any_field fails fs (get_or bs 0 0 ∷ get_or bs 1 0 ∷ [])
unfolding any_field
any_two fails [] bs h g = refl
any_two fails (f ∷ []) [] h g = absurd (omega arith)
any_two fails (f ∷ []) (b ∷ bs) h g = refl
any_two fails (f ∷ e ∷ []) [] h g = absurd (omega arith)
any_two fails (f ∷ e ∷ []) (b ∷ []) h g = absurd (omega arith)
any_two fails (f ∷ e ∷ []) (b ∷ c ∷ bs) h g = refl
any_two fails (f ∷ e ∷ d ∷ fs) bs h g = absurd (omega arith)

-- ---- the first test that fails decides the turn

-- the turn after a refusal's number, 0 for none
unfoldable pub after_tests : ℕ → TableSoFar → ℕ → Content → (w next : ℕ) → List ℕ → RecordAnswer
unfolding record_passed
after_tests zero x at c w next rest = record_passed x at c w next rest
after_tests (suc m) x at c w next rest = stop (refused_at (suc m) at)

module _ (x : TableSoFar) (at : ℕ) (K : Kind) (bs : List ℕ) where
  abbrev size : ℕ
  size = length (fields K)

  first_of_holds : (b2 b3 b4 b5 b6 b7 b8 : Bool) → b2 ≡ false →
      record_tested x at K bs
      (first_of (λ t. t.holds)
      (record { code = 2; holds = b2 } ∷
      record { code = 3; holds = b3 } ∷
      record { code = 4; holds = b4 } ∷
      record { code = 5; holds = b5 } ∷
      record { code = 6; holds = b6 } ∷
      record { code = 7; holds = b7 } ∷
      record { code = 8; holds = b8 } ∷ []))
      ≡ after_tests (cond b3 3 (cond b4 4 (cond b5 5 (cond b6 6 (cond b7 7 (cond b8 8 0))))))
      x at (record_content x.terms bs K) (suc size) (at + suc size) (drop size bs)
  unfolding record_tested first_of after_tests
  first_of_holds true b3 b4 b5 b6 b7 b8 h = let z : ◌≡◌ {A = ℕ} 0 1 = cc in absurd (omega arith)
  first_of_holds false true b4 b5 b6 b7 b8 h = refl
  first_of_holds false false true b5 b6 b7 b8 h = refl
  first_of_holds false false false true b6 b7 b8 h = refl
  first_of_holds false false false false true b7 b8 h = refl
  first_of_holds false false false false false true b8 h = refl
  first_of_holds false false false false false false true h = refl
  first_of_holds false false false false false false false h = refl

  record_tested_holds : size ≤ 2 → size ≤ length bs →
      record_tested x at K bs (first_of (λ t. t.holds) (tests x K bs))
      ≡ after_tests (refusal x K (get_or bs 0 0) (get_or bs 1 0))
      x at (content x.terms K (get_or bs 0 0) (get_or bs 1 0)) (suc size) (at + suc size) (drop size bs)
  unfolding tests refusal field_refusal
  record_tested_holds few h =
      first_of_holds (ltb (length bs) size) _ _ _ _ _ _ (le-ltb _ _ h)
      ∙ rw (
        any_two channel_out_of_range (fields K) bs few h,
        any_two (forward_reference x.terms) (fields K) bs few h,
        any_two (class_mismatch x.terms) (fields K) bs few h,
        said_two x.terms bs K,
      ) refl

-- ---- what stands at an offset

module _ (x : TableSoFar) (s : List ℕ) (at : ℕ) where
  pub end_turn : length s ≤ at → read_record x at (drop at s) ≡ stop (refused_at 9 at)
  unfolding read_record
  end_turn h = rw (drop_of_length-le s h)

  -- a byte, and what follows it
  byte_turn : at < length s → read_record x at (drop at s) ≡ record_of_kind x at (drop (suc at) s) (kind_by_number (get_or s at 0))
  unfolding read_record
  byte_turn h = rw (drop-cons s at 0 h)

  pub unknown_turn : at < length s → (get_or s at 0 ≡ 0) ⊎ (last_kind < get_or s at 0) → read_record x at (drop at s) ≡ stop (refused_at 1 at)
  unfolding record_of_kind kind_by_number
  unknown_turn h (inl e) = byte_turn h ∙ rw e refl
  unknown_turn h (inr g) = byte_turn h ∙ rw (no_kind (get_or s at 0) g) refl

  pub short_turn : ShortRecord s at → read_record x at (drop at s) ≡ stop (refused_at 2 at)
  unfolding record_of_kind tests record_tested first_of
  short_turn h =
      let K = kind_at (get_or s at 0) h.known in
      let l = length-drop (suc at) s in
      let b = ap length (body_of_kind (get_or s at 0) K.kind K.named) in
      byte_turn h.inside
      ∙ rw (K.named, lt-ltb (length (drop (suc at) s)) (length (fields K.kind)) (omega (arith, h.cut, h.inside))) refl

  module _ (y : Record) (w : WholeRecord s at y) (K : Kind) (named : kind_by_number y.kind ≡ some K) where
    abbrev body : ℕ
    body = length (fields K)

    same_body : length (body_of y.kind) ≡ body
    same_body = ap length (body_of_kind y.kind K named)

    pub whole_turn :
        read_record x at (drop at s)
        ≡ after_tests (refusal x K y.first y.second)
        x at (content x.terms K y.first y.second) (suc body) y.next (drop y.next s)
    unfolding record_of_kind
    whole_turn =
        byte_turn inside
        ∙ rw (← w.kind, named, record_tested_holds x at K (drop (suc at) s) few enough, byte 0, byte 1, ← w.second, ← w.first, after, place) refl
      where
        inside : at < length s
        inside = omega (arith, w.behind, w.inside)

        few : body ≤ 2
        few = body_few y.kind body (sym same_body)

        enough : body ≤ length (drop (suc at) s)
        enough = rw length-drop (omega (arith, same_body, w.behind, w.inside))

        byte : (i : ℕ) → get_or (drop (suc at) s) i 0 ≡ get_or s (at + suc i) 0
        byte i = get_or-drop (suc at) s i 0 ∙ ap (λ n. get_or s n 0) (omega arith)

        place : at + suc body ≡ y.next
        place = omega (arith, same_body, w.behind)

        after : drop body (drop (suc at) s) ≡ drop y.next s
        after = let p : suc at + body ≡ y.next = omega (arith, place) in drop-drop body (suc at) s ∙ ap (λ n. drop n s) p
