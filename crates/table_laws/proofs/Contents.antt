-- A record that passed the tests on its fields: it says a next term, whose subterms stand at its fields' numbers; or
-- tokens for one of the 16 channels; or a start among the terms. That its term can be the next one is taken from the
-- semantics.
-- Assumes nothing.
use Prim.Native.Nat.{ℕ, ◌≤◌, ◌<◌}
use native.Mathlib.Omega.{arith}
use mathlib.Core.Path.{◌≡◌, refl, sym}
use mathlib.Core.Bool.{Bool, true, false, not, cond}
use mathlib.Core.Option.{some}
use Rattle.std.specs.Prelude.{None}
use mathlib.Core.List.{List, [], ◌∷◌}
use lib.ListN.{length, get_elem?}
use borrow.Author.Tests.{le-ltb}
use Rattle.calculus.specs.Syntax.{State}
use Rattle.semantics.specs.Definitions.Layout.{channels}
use Rattle.semantics.specs.Definitions.Terms.{Program, Term, process, expression}
use Rattle.semantics.specs.Checks.AcceptedTables.{program_number, term_number, GoodTable}
use Rattle.semantics.specs.Definitions.Table.{Kind, nil_k, put_k, take_k, repeat_k, par_k, atom_k, end_k, retry_k, rd_k, wt_k, or_else_k, tokens_k, start_k, Field, fields, adds, Content, term_record, tokens_record, start_record, nothing, record_content, is_program, is_expression, any_field, too_many_terms, channel_out_of_range, forward_reference, class_mismatch}
use Rattle.theorems.proofs.Lists.{found_below, all_every}
use Rattle.theorems.proofs.GoodTable.{of_a_program, of_an_expression, NextTerm, Sound, sound, first_fails, second_fails, channel_below}
use Rattle.table_records.specs.Shapes.{kind_byte, class_of}
use Rattle.table_terms.specs.Decoded.{RecordOf}
use Rattle.table_terms.proofs.TermKinds.{record_class}
use Rattle.table_laws.specs.Refusals.{content, field_refusal}

-- ---- the tests on the fields

refused_first : (b3 b4 b5 b6 : Bool) (q then : ℕ) → q ≡ cond b3 3 (cond b4 4 (cond b5 5 (cond b6 6 0))) → (q ≡ 0 → ⊥) →
    cond b3 3 (cond b4 4 (cond b5 5 (cond b6 6 then))) ≡ q
refused_first true b4 b5 b6 q then e h = sym e
refused_first false true b5 b6 q then e h = sym e
refused_first false false true b6 q then e h = sym e
refused_first false false false true q then e h = sym e
refused_first false false false false q then e h = absurd (h e)

none_refused : (b3 b4 b5 b6 : Bool) (q : ℕ) → q ≡ 0 → q ≡ cond b3 3 (cond b4 4 (cond b5 5 (cond b6 6 0))) →
    (b3 ≡ false) × (b4 ≡ false) × (b5 ≡ false) × (b6 ≡ false)
none_refused true b4 b5 b6 q z e = absurd (omega arith)
none_refused false true b5 b6 q z e = absurd (omega arith)
none_refused false false true b6 q z e = absurd (omega arith)
none_refused false false false true q z e = absurd (omega arith)
none_refused false false false false q z e = (refl, refl, refl, refl)

module _ (ts : List Term) (K : Kind) (l r : ℕ) where
  abbrev many : Bool
  many = too_many_terms ts (adds K)

  abbrev some_field : (Field → ℕ → Bool) → Bool
  some_field fails = any_field fails (fields K) (l ∷ r ∷ [])

  -- one refused the record, whatever were to follow
  pub fields_refused : (q then : ℕ) → q ≡ field_refusal ts K l r 0 → (q ≡ 0 → ⊥) → field_refusal ts K l r then ≡ q
  unfolding field_refusal
  fields_refused q then e h = refused_first many (some_field channel_out_of_range) (some_field (forward_reference ts)) (some_field (class_mismatch ts)) q then e h

  -- none did
  pub record FieldsPass : Type 0 where
    pub room : many ≡ false
    pub channels : some_field channel_out_of_range ≡ false
    pub earlier : some_field (forward_reference ts) ≡ false
    pub classes : some_field (class_mismatch ts) ≡ false

  pub fields_pass : (q : ℕ) → q ≡ field_refusal ts K l r 0 → q ≡ 0 → FieldsPass
  unfolding field_refusal
  fields_pass q e z =
      let h = none_refused many (some_field channel_out_of_range) (some_field (forward_reference ts)) (some_field (class_mismatch ts)) q z e in
      record { room = h.0; channels = h.1; earlier = h.2; classes = h.3 }

  pub fields_then : FieldsPass → (then : ℕ) → field_refusal ts K l r then ≡ then
  unfolding field_refusal
  fields_then p then = rw (p.room, p.channels, p.earlier, p.classes) refl

-- ---- references

module _ (ts : List Term) (g : GoodTable ts) where
  record Reference (b : ℕ) (t : Term) : Type 0 where
    at : get_elem? ts b ≡ some t
    number : b ≡ term_number t
    below : b < length ts

  refers : (b : ℕ) (t : Term) → get_elem? ts b ≡ some t → Reference b t
  refers b t e = record { at = e; number = sym (g.numbered b t e); below = found_below ts b t e }

-- ---- what the record describes

module _ (ts : List Term) (k l r : ℕ) where
  pub record NewTerm (u : Term) : Type 0 where
    pub next : NextTerm ts u
    pub fields : RecordOf (length ts) k l r u

  pub record NewTokens (a n : ℕ) : Type 0 where
    pub kind : k ≡ kind_byte tokens_k
    pub channel : a ≡ l
    pub amount : n ≡ r
    pub below : l < channels

  pub record NewStart (P : Program) : Type 0 where
    pub kind : k ≡ kind_byte start_k
    pub at : get_elem? ts l ≡ some (process P)
    pub number : l ≡ program_number P

  abbrev pub Describes : Content → Type 0
  Describes (term_record u) = NewTerm u
  Describes (tokens_record a n) = NewTokens a n
  Describes (start_record P) = NewStart P
  Describes nothing = ⊥

  no_term : (u : Term) → NewTerm u → class_of k ≡ None → ⊥
  no_term u z h =
      let s = record_class (length ts) k l r u z.fields in
      let o : ◌≡◌ {A = ℕ} 0 1 = cc in omega arith

  -- by its kind
  pub as_term : (c : Content) → Describes c → (k ≡ kind_byte start_k → ⊥) → (k ≡ kind_byte tokens_k → ⊥) → (u : Term) × (c ≡ term_record u) × NewTerm u
  as_term (term_record u) z h g = (u, refl, z)
  as_term (tokens_record a n) z h g = absurd (g z.kind)
  as_term (start_record P) z h g = absurd (h z.kind)
  as_term nothing z h g = absurd z

  pub as_tokens : (c : Content) → Describes c → k ≡ kind_byte tokens_k → (c ≡ tokens_record l r) × (l < channels)
  unfolding class_of
  as_tokens (term_record u) z h = absurd (no_term u z (rw h))
  as_tokens (tokens_record a n) z h = (rw (z.channel, z.amount), z.below)
  as_tokens (start_record P) z h = absurd (omega (arith, z.kind))
  as_tokens nothing z h = absurd z

  pub as_start : (c : Content) → Describes c → k ≡ kind_byte start_k → (P : Program) × (c ≡ start_record P) × NewStart P
  unfolding class_of
  as_start (term_record u) z h = absurd (no_term u z (rw h))
  as_start (tokens_record a n) z h = absurd (omega (arith, z.kind))
  as_start (start_record P) z h = (P, refl, z)
  as_start nothing z h = absurd z

module _ (ts : List Term) (g : GoodTable ts) (l r : ℕ) where
  -- sound, it describes what it says
  abbrev Described : Kind → Content → Type 0
  Described K c = Sound (λ n. Unit {0}) ts c → Describes ts (kind_byte K) l r c

  by_kind : (K : Kind) → FieldsPass ts K l r → Described K (content ts K l r)
  unfolding Sound record_content term_number fields any_field channel_out_of_range class_mismatch
  by_kind nil_k h = λ s. record { next = s; fields = refl }
  by_kind put_k h = λ s. record { next = s; fields = (refl, refl) }
  by_kind take_k h =
      of_a_program (Described take_k) (get_elem? ts r) _ (first_fails _ _ h.classes)
      (λ P e s. let y = refers ts g r (process P) e in record { next = s; fields = (refl, refl, y.number, y.below) })
  by_kind repeat_k h =
      of_a_program (Described repeat_k) (get_elem? ts r) _ (first_fails _ _ h.classes)
      (λ P e s. let y = refers ts g r (process P) e in record { next = s; fields = (refl, refl, y.number, y.below) })
  by_kind par_k h =
      of_a_program (Described par_k) (get_elem? ts l) _ (first_fails _ _ h.classes)
      (λ P e. of_a_program (Described par_k) (get_elem? ts r) _ (second_fails (not (is_program (get_elem? ts l))) _ false h.classes)
      (λ Q f s.
      let x = refers ts g l (process P) e in
      let y = refers ts g r (process Q) f in
      record { next = s; fields = (refl, x.number, x.below, y.number, y.below) }))
  by_kind atom_k h =
      of_an_expression (Described atom_k) (get_elem? ts l) _ (first_fails _ _ h.classes)
      (λ M e s. let x = refers ts g l (expression M) e in record { next = s; fields = (refl, x.number, x.below) })
  by_kind end_k h = λ s. record { next = s; fields = refl }
  by_kind retry_k h = λ s. record { next = s; fields = refl }
  by_kind rd_k h =
      of_an_expression (Described rd_k) (get_elem? ts r) _ (first_fails _ _ h.classes)
      (λ M e s. let y = refers ts g r (expression M) e in record { next = s; fields = (refl, refl, y.number, y.below) })
  by_kind wt_k h =
      of_an_expression (Described wt_k) (get_elem? ts r) _ (first_fails _ _ h.classes)
      (λ M e s. let y = refers ts g r (expression M) e in record { next = s; fields = (refl, refl, y.number, y.below) })
  by_kind or_else_k h =
      of_an_expression (Described or_else_k) (get_elem? ts l) _ (first_fails _ _ h.classes)
      (λ M e. of_an_expression (Described or_else_k) (get_elem? ts r) _ (second_fails (not (is_expression (get_elem? ts l))) _ false h.classes)
      (λ N f s.
      let x = refers ts g l (expression M) e in
      let y = refers ts g r (expression N) f in
      record { next = s; fields = (refl, x.number, x.below, y.number, y.below) }))
  by_kind tokens_k h = λ s. record { kind = refl; channel = refl; amount = refl; below = channel_below l _ h.channels }
  by_kind start_k h =
      of_a_program (Described start_k) (get_elem? ts l) _ (first_fails _ _ h.classes)
      (λ P e s. let x = refers ts g l (process P) e in record { kind = refl; at = x.at; number = x.number })

  pub describes : (σ : State) (k : ℕ) (K : Kind) → k ≡ kind_byte K → length (fields K) ≤ 2 → FieldsPass ts K l r →
      Describes ts k l r (content ts K l r)
  describes σ k K byte few h =
      rw byte
      (by_kind K h
      (sound (λ n. Unit {0}) ts σ g K (l ∷ r ∷ []) (all_every _ (λ n. tt) (l ∷ r ∷ []))
      (record { whole = le-ltb 2 (length (fields K)) few; room = h.room; channels = h.channels; classes = h.classes })))
