-- The test of a term's measures against their limits: a law for each way that it ends.
-- Assumes nothing.
use Prim.Native.Nat.{ℕ, ◌≤◌, ◌<◌}
use native.Mathlib.Omega.{arith}
use mathlib.Core.Path.{◌≡◌}
use mathlib.Core.Bool.{Bool}
use lib.Dec.{ltb}
use borrow.Author.Tests.{lt-ltb, le-ltb}
use Rattle.std.specs.Prelude.{Option, Some, None}
use Rattle.semantics.specs.Definitions.Layout.{max_components, max_branches, max_actions}
use Rattle.semantics.specs.Definitions.Terms.{Term, process, expression}
use Rattle.semantics.specs.Definitions.Table.{term_record, over_limit}
use Rattle.table_records.specs.declared.Class.{Class}
use Rattle.table_records.specs.declared.Class.TheVariants.{Process, Expression}
use Rattle.table_records.specs.Shapes.{term_class, class_of}
use Rattle.table_terms.specs.Decoded.{breadth, term_length}
use Rattle.table_terms.specs.TermMeasures.{LimitTested}
use Rattle.table_terms.proofs.TermKinds.{record_class}

-- c is the class of kind k
module _ (k b l : ℕ) (c : Option Class) (class : c ≡ class_of k) where
  -- whatever is answered of a kind that is no term's
  pub no_term : c ≡ None → (o : Bool) → LimitTested k b l o
  no_term e o = record { found = λ i x y t r p q. let s = record_class i k x y t r in let z : ◌≡◌ {A = ℕ} 0 1 = cc in absurd (omega arith) }

  module _ (x : Class) (is : c ≡ Some x) where
    pub width_tested : x ≡ Process → LimitTested k b l (ltb max_components b)
    unfolding breadth over_limit
    width_tested e = record { found = λ i y z t r p q. go t (record_class i k y z t r) p }
      where
        go : (t : Term) → class_of k ≡ Some (term_class t) → b ≡ breadth t → ltb max_components b ≡ over_limit (term_record t)
        go (process P) s p = rw p
        go (expression M) s p = let z : ◌≡◌ {A = ℕ} 0 1 = cc in absurd (omega arith)

    module _ (e : x ≡ Expression) where
      pub branches_over : max_branches < b → LimitTested k b l (ltb max_branches b)
      unfolding breadth over_limit
      branches_over g = record { found = λ i y z t r p q. go t (record_class i k y z t r) p }
        where
          go : (t : Term) → class_of k ≡ Some (term_class t) → b ≡ breadth t → ltb max_branches b ≡ over_limit (term_record t)
          go (process P) s p = let z : ◌≡◌ {A = ℕ} 0 1 = cc in absurd (omega arith)
          go (expression M) s p = rw (← p, lt-ltb max_branches b g)

      pub length_tested : b ≤ max_branches → LimitTested k b l (ltb max_actions l)
      unfolding breadth term_length over_limit
      length_tested g = record { found = λ i y z t r p q. go t (record_class i k y z t r) p q }
        where
          go : (t : Term) → class_of k ≡ Some (term_class t) → b ≡ breadth t → l ≡ term_length t → ltb max_actions l ≡ over_limit (term_record t)
          go (process P) s p q = let z : ◌≡◌ {A = ℕ} 0 1 = cc in absurd (omega arith)
          go (expression M) s p q = rw (← p, ← q, le-ltb max_branches b g)
