-- A test on both fields of a record.
-- Assumes nothing.
use Prim.Native.Nat.{ℕ, ◌≤◌}
use native.Mathlib.Omega.{arith}
use mathlib.Core.Path.{◌≡◌, refl, ap}
use mathlib.Core.Bool.{Bool, true, false, ◌||◌}
use mathlib.Core.Option.{some}
use mathlib.Core.List.{List, [], ◌∷◌}
use lib.ListN.{length}
use Rattle.semantics.specs.Definitions.Table.{Kind, kind_by_number, Field, channel_f, program_f, expression_f, amount_f, fields, any_field}
use Rattle.table_records.specs.declared.Shape.{Shape}
use Rattle.table_records.specs.Shapes.{body_of, field_of, field_from, field_at, fails_at, shape_of}
use Rattle.table_records.proofs.Shapes.{body_of_kind, body_few}

from_code : (f : Field) → field_from (field_of f) ≡ f
from_code channel_f = refl
from_code program_f = refl
from_code expression_f = refl
from_code amount_f = refl

module _ (fails : Field → ℕ → Bool) (l r : ℕ) where
  two_fields : (fs : List Field) → length fs ≤ 2 →
      any_field fails fs (l ∷ r ∷ []) ≡ (fails_at fails (field_at fs 0) l || fails_at fails (field_at fs 1) r)
  unfolding any_field fails_at field_at
  two_fields [] h = refl
  two_fields (f ∷ []) h = rw (from_code f)
  two_fields (f ∷ e ∷ []) h = rw (from_code f, from_code e) (ap (λ b. fails f l || b) (last (fails e r)))
    where
      last : (b : Bool) → (b || false) ≡ b
      last true = refl
      last false = refl
  two_fields (f ∷ e ∷ d ∷ fs) h = absurd (omega arith)

  -- of a record of kind k, whose shape is y
  pub both_fields : (k : ℕ) (K : Kind) → kind_by_number k ≡ some K → (y : Shape) → y ≡ shape_of k →
      any_field fails (fields K) (l ∷ r ∷ []) ≡ (fails_at fails y.first l || fails_at fails y.second r)
  unfolding shape_of
  both_fields k K named y p =
      rw (p, ← (body_of_kind k K named)) (two_fields (body_of k) (body_few k (length (body_of k)) refl))
