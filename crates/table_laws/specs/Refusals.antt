-- A record by its kind and the two bytes behind it: what it says, and the number of the first test that refuses it.
-- Assumes nothing.
use Rattle.std.specs.Prelude.{ℕ, ◌≡◌, cond, List, [], ◌∷◌}
use Rattle.std.proofs.Math.Option.{some}
use Rattle.semantics.specs.Definitions.Terms.{Term}
use Rattle.semantics.specs.Definitions.Table.{Kind, kind_by_number, fields, adds, Content, TableSoFar, record_content, any_field, too_many_terms, channel_out_of_range, forward_reference, class_mismatch, over_limit, bad_tokens}
use Rattle.table_records.specs.Shapes.{kind_byte}

-- a byte of kind, with its kind
pub record KindAt (k : ℕ) : Type 0 where
  pub kind : Kind
  pub named : kind_by_number k ≡ some kind
  pub byte : k ≡ kind_byte kind

-- what the record says, after the terms ts
abbrev pub content : List Term → Kind → (l r : ℕ) → Content
content ts K l r = record_content ts (l ∷ r ∷ []) K

-- the first of the tests 3 to 6, which are on its fields; where all pass, what follows
unfoldable pub field_refusal : List Term → Kind → (l r then : ℕ) → ℕ
unfolding fields too_many_terms any_field channel_out_of_range forward_reference class_mismatch
field_refusal ts K l r then =
    cond (too_many_terms ts (adds K)) 3
    (cond (any_field channel_out_of_range (fields K) (l ∷ r ∷ [])) 4
    (cond (any_field (forward_reference ts) (fields K) (l ∷ r ∷ [])) 5
    (cond (any_field (class_mismatch ts) (fields K) (l ∷ r ∷ [])) 6 then)))

-- 7 and 8, on what it says; 0 where every test passes
unfoldable pub refusal : TableSoFar → Kind → (l r : ℕ) → ℕ
unfolding field_refusal record_content over_limit bad_tokens
refusal x K l r =
    field_refusal x.terms K l r
    (cond (over_limit (content x.terms K l r)) 7 (cond (bad_tokens x.tokens (content x.terms K l r)) 8 0))
