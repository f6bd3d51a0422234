-- The shape of a kind: how long its body is, where its record ends, which bytes are no kind.
-- Assumes nothing.
use Prim.{Unit}
use Prim.Native.Nat.{ℕ, zero, suc, ◌+◌, ◌≤◌, ◌<◌}
use native.Mathlib.Nat.{eq-or-lt_of_le}
use native.Mathlib.Omega.{arith}
use mathlib.Core.Path.{◌≡◌, refl, ap, ◌∙◌}
use mathlib.Core.Bool.{Bool, true, false, not, true≢false, false≢true}
use mathlib.Core.Logic.{⊎_elim}
use mathlib.Core.Option.{none, some}
use mathlib.Core.Option as option
use Rattle.std.specs.Prelude.{None, is_some}
use mathlib.Core.List.{List, [], ◌∷◌}
use lib.ListN.{length, get_or, get_elem?}
use Rattle.semantics.specs.Definitions.Table.{Kind, kinds, kind_by_number, Field, fields}
use Rattle.theorems.proofs.Lists.{all_at}
use Rattle.table_records.specs.declared.Shape.{Shape}
use Rattle.table_records.specs.ParsedRecords.{RecordBegins, ShortRecord}
use Rattle.table_records.specs.Shapes.{last_kind, fields_of, body_of, field_at, class_of, shape_of}

-- ---- by the kinds from one number on

-- g at the numbers from n on, so many times
abbrev pub up_to {ℓ} : {A : Type ℓ} → (ℕ → A) → ℕ → ℕ → List A
up_to g n zero = []
up_to g n (suc m) = g n ∷ up_to g (suc n) m

pub same_at : {A : Type 0} (f g : ℕ → A) (n m : ℕ) → up_to f n m ≡ up_to g n m → (k : ℕ) → n ≤ k → k < n + m → f k ≡ g k
same_at f g n zero e k h i = absurd (omega arith)
same_at f g n (suc m) e k h i =
    ⊎_elim (λ p. rw (← p) (cc)) (λ j. same_at f g (suc n) m (cc) k j (omega arith)) (eq-or-lt_of_le h)

-- ---- bodies

pub body_of_kind : (k : ℕ) (K : Kind) → kind_by_number k ≡ some K → body_of k ≡ fields K
unfolding body_of fields_of
body_of_kind k K named = rw named

fields_few : (K : Kind) (j : ℕ) → get_elem? kinds j ≡ some K → length (fields K) ≤ 2
unfolding kinds fields
fields_few K j e = all_at (λ K. length (fields K) ≤ 2) kinds j K (omega arith) e

pub body_few : (k b : ℕ) → b ≡ length (body_of k) → b ≤ 2
unfolding body_of fields_of kind_by_number
body_few zero b p = omega arith
body_few (suc k) b p = rw p (go (get_elem? kinds k) refl)
  where
    go : (o : option.Option Kind) → get_elem? kinds k ≡ o → length (fields_of o) ≤ 2
    go none e = omega arith
    go (some K) e = fields_few K k e

-- ---- bytes of no kind

pub no_kind : (k : ℕ) → last_kind < k → kind_by_number k ≡ none
unfolding kind_by_number kinds
no_kind zero h = refl
no_kind (suc k) h = past kinds k (omega arith)
  where
    past : (K : List Kind) (n : ℕ) → length K ≤ n → get_elem? K n ≡ none
    past [] n h = refl
    past (K ∷ Ks) zero h = absurd (omega arith)
    past (K ∷ Ks) (suc n) h = past Ks n (omega arith)

-- ---- shapes

-- none of the numbers 1 to n, as a match on them tells
abbrev NoneOf : ℕ → ℕ → Type 0
NoneOf k zero = Unit {0}
NoneOf k (suc n) = NoneOf k n × (k ≡ suc n → ⊥)

beyond : (k n : ℕ) → 0 < k → NoneOf k n → n < k
beyond k zero h r = h
beyond k (suc n) h r = let g = beyond k n h r.0 in let e = r.1 in omega arith

pub no_shape : (k : ℕ) → NoneOf k last_kind → record { class = None; first = None; second = None } ≡ shape_of k
unfolding shape_of body_of class_of
no_shape zero r = refl
no_shape (suc k) r = rw (no_kind (suc k) (beyond (suc k) last_kind (omega arith) r))

pub cut_short : (s : List ℕ) (at k next : ℕ) → RecordBegins s at k next → length s < next → ShortRecord s at
cut_short s at k next x h =
    record { inside = x.inside; known = rw (← x.kind) x.known; cut = rw (← x.kind, ← x.behind) h }

-- x is the shape of kind k
module _ (k : ℕ) (x : Shape) (p : x ≡ shape_of k) where
  pub shape_class : x.class ≡ class_of k
  unfolding shape_of
  shape_class = rw p

  -- its body has no byte, one, or two
  no_byte : is_some x.first ≡ false → length (body_of k) ≡ 0
  unfolding shape_of field_at
  no_byte h = go (body_of k) (rw p at h)
    where
      go : (fs : List Field) → is_some (field_at fs 0) ≡ false → length fs ≡ 0
      go [] e = refl
      go (f ∷ fs) e = absurd (true≢false e)

  one_byte : is_some x.first ≡ true → is_some x.second ≡ false → length (body_of k) ≡ 1
  unfolding shape_of field_at
  one_byte h g = go (body_of k) (rw p at h) (rw p at g)
    where
      go : (fs : List Field) → is_some (field_at fs 0) ≡ true → is_some (field_at fs 1) ≡ false → length fs ≡ 1
      go [] h g = absurd (false≢true h)
      go (f ∷ []) h g = refl
      go (f ∷ e ∷ fs) h g = absurd (true≢false g)

  two_bytes : is_some x.second ≡ true → length (body_of k) ≡ 2
  unfolding shape_of field_at
  two_bytes h = go (body_of k) (body_few k (length (body_of k)) refl) (rw p at h)
    where
      go : (fs : List Field) → length fs ≤ 2 → is_some (field_at fs 1) ≡ true → length fs ≡ 2
      go [] n h = absurd (false≢true h)
      go (f ∷ []) n h = absurd (false≢true h)
      go (f ∷ e ∷ []) n h = refl
      go (f ∷ e ∷ d ∷ fs) n h = absurd (omega arith)

  -- the record of kind k at an offset of s
  module _ (s : List ℕ) (at : ℕ) (inside : at < length s) (kind : k ≡ get_or s at 0) (some : k ≡ 0 → ⊥) (high : k ≤ last_kind) where
    begins : (n : ℕ) → length (body_of k) ≡ n → (next : ℕ) → next ≡ at + 1 + n → RecordBegins s at k next
    begins n e next q = record { inside = inside; known = record { low = omega arith; high = high }; kind = kind; behind = rw e q }

    module _ (b : Bool) (e : is_some x.first ≡ not b) where
      pub begins_alone : b ≡ true → RecordBegins s at k (at + 1)
      begins_alone h = begins 0 (no_byte (e ∙ ap not h)) (at + 1) (omega arith)

      module _ (h : b ≡ false) (d : Bool) (f : is_some x.second ≡ not d) where
        pub begins_with_one : d ≡ true → RecordBegins s at k (at + 2)
        begins_with_one g = begins 1 (one_byte (e ∙ ap not h) (f ∙ ap not g)) (at + 2) (omega arith)

        pub begins_with_two : d ≡ false → RecordBegins s at k (at + 3)
        begins_with_two g = begins 2 (two_bytes (f ∙ ap not g)) (at + 3) (omega arith)
