-- The measures of a term are made of those of its subterms, which stand at the numbers that its fields say. A law for
-- each need of the walk over a term.
-- Assumes nothing.
use Prim.Native.Nat.{ℕ, ◌+◌, ◌≤◌, ◌<◌, max}
use native.Mathlib.Omega.{arith}
use mathlib.Core.Path.{◌≡◌, refl, sym, ap₂, ◌∙◌}
use mathlib.Core.Logic.{◌⊎◌, inl, inr}
use mathlib.Core.Option.{some}
use mathlib.Core.List.{List}
use lib.ListN.{get_elem?}
use Rattle.semantics.specs.Definitions.Terms.{end_t, retry_t, rd_t, wt_t, or_else_t, nil_t, put_t, take_t, repeat_t, par_t, atom_t, Term, process, expression, width, branches, path_length}
use Rattle.semantics.specs.Checks.AcceptedTables.{SubtermsIn, MeasuresWithinLimits}
use Rattle.table_terms.specs.Decoded.{kind_at, first_at, second_at, breadth_at, length_at, RecordOf, breadth, term_length}
use Rattle.table_terms.specs.TermMeasures.{TermAt, CanMeasure, MeasuresOf}
use Rattle.theorems.proofs.Lists.{found_below}
use Rattle.semantics.specs.Definitions.Layout.{max_terms, max_components, max_actions}
use Rattle.semantics.specs.Definitions.Table.{par_k, rd_k, or_else_k}
use Rattle.table_records.specs.Shapes.{kind_byte}

-- ---- what a term is made of

-- side by side and orElse have two parts; rd and wt, which lie between, have one
abbrev Two : ℕ → Type 0
Two k = (k ≡ kind_byte par_k) ⊎ (k ≡ kind_byte or_else_k)

apart : (k : ℕ) → Two k → kind_byte rd_k ≤ k → k < kind_byte or_else_k → ⊥
apart k (inl p) h g = omega arith
apart k (inr p) h g = omega arith

module _ (ts : List Term) (i : ℕ) where
  -- an earlier term, at number b
  record Subterm (b : ℕ) (u : Term) : Type 0 where
    at : get_elem? ts b ≡ some u
    below : b < i

  record Sides (l r : ℕ) (t : Term) : Type 0 where
    left : Term
    right : Term
    first : Subterm l left
    second : Subterm r right
    sum : breadth t ≡ breadth left + breadth right
    most : term_length t ≡ max (term_length left) (term_length right)

  record Rest (r : ℕ) (t : Term) : Type 0 where
    rest : Term
    second : Subterm r rest
    same : breadth t ≡ breadth rest
    longer : term_length t ≡ 1 + term_length rest

  two_sides : (l r : ℕ) (t u v : Term) → get_elem? ts l ≡ some u → l < i → get_elem? ts r ≡ some v → r < i →
      breadth t ≡ breadth u + breadth v → term_length t ≡ max (term_length u) (term_length v) → Sides l r t
  two_sides l r t u v e h f g p q = record {
    left = u;
    right = v;
    first = record { at = e; below = h };
    second = record { at = f; below = g };
    sum = p;
    most = q;
  }

  one_rest : (r : ℕ) (t u : Term) → get_elem? ts r ≡ some u → r < i → breadth t ≡ breadth u → term_length t ≡ 1 + term_length u → Rest r t
  one_rest r t u e h p q = record { rest = u; second = record { at = e; below = h }; same = p; longer = q }

  data Parts (k l r : ℕ) (t : Term) : Type 0 where
    two : Two k → Sides l r t → Parts k l r t
    one : kind_byte rd_k ≤ k → k < kind_byte or_else_k → Rest r t → Parts k l r t
    none : k < kind_byte rd_k → (k ≡ kind_byte par_k → ⊥) → 1 ≡ breadth t → 0 ≡ term_length t → Parts k l r t

  parts_of : (k l r : ℕ) (t : Term) → RecordOf i k l r t → SubtermsIn ts t → Parts k l r t
  unfolding breadth term_length width branches path_length
  parts_of k l r (process (nil_t n)) e s = none (omega arith) (λ h. omega arith) refl refl
  parts_of k l r (process (put_t n a)) e s = none (omega arith) (λ h. omega arith) refl refl
  parts_of k l r (process (take_t n a P)) e s = none (omega arith) (λ h. omega arith) refl refl
  parts_of k l r (process (repeat_t n a P)) e s = none (omega arith) (λ h. omega arith) refl refl
  parts_of k l r (process (par_t n P Q)) e s =
      two (inl e.0) (two_sides l r _ (process P) (process Q) (rw e.1 s.0) e.2 (rw e.3 s.1) e.4 refl refl)
  parts_of k l r (process (atom_t n M)) e s = none (omega arith) (λ h. omega arith) refl refl
  parts_of k l r (expression (end_t n)) e s = none (omega arith) (λ h. omega arith) refl refl
  parts_of k l r (expression (retry_t n)) e s = none (omega arith) (λ h. omega arith) refl refl
  parts_of k l r (expression (rd_t n a M)) e s =
      one (omega arith) (omega arith) (one_rest r _ (expression M) (rw e.2 s) e.3 refl refl)
  parts_of k l r (expression (wt_t n a M)) e s =
      one (omega arith) (omega arith) (one_rest r _ (expression M) (rw e.2 s) e.3 refl refl)
  parts_of k l r (expression (or_else_t n M N)) e s =
      two (inr e.0) (two_sides l r _ (expression M) (expression N) (rw e.1 s.0) e.2 (rw e.3 s.1) e.4 refl refl)

  sides : (k l r : ℕ) (t : Term) → Parts k l r t → Two k → Sides l r t
  sides k l r t (two h x) g = x
  sides k l r t (one h g x) f = absurd (apart k f h g)
  sides k l r t (none h x p q) (inl e) = absurd (x e)
  sides k l r t (none h x p q) (inr e) = absurd (omega arith)

  rest : (k l r : ℕ) (t : Term) → Parts k l r t → kind_byte rd_k ≤ k → k < kind_byte or_else_k → Rest r t
  rest k l r t (two h x) f g = absurd (apart k h f g)
  rest k l r t (one h e x) f g = x
  rest k l r t (none h x p q) f g = absurd (omega arith)

  alone : (k l r : ℕ) (t : Term) → Parts k l r t → (Two k → ⊥) → (kind_byte rd_k ≤ k → k < kind_byte or_else_k → ⊥) → (1 ≡ breadth t) × (0 ≡ term_length t)
  alone k l r t (two h x) g f = absurd (g h)
  alone k l r t (one h e x) g f = absurd (f h e)
  alone k l r t (none h x p q) g f = (p, q)

-- a term within the limits
small : (u : Term) → MeasuresWithinLimits u → (breadth u ≤ max_components) × (term_length u ≤ max_actions)
unfolding breadth term_length
small (process P) h = (h, omega arith)
small (expression M) h = (omega (arith, h.0), h.1)

-- ---- the walk from number i

-- from a term into one of the terms before it
into : (d : List ℕ) (kept i : ℕ) (ts : List Term) (t : Term) → TermAt d kept i ts t →
    (b : ℕ) (u : Term) → get_elem? ts b ≡ some u → TermAt d kept b ts u
into d kept i ts t x b u e = record {
  good = x.good;
  records = x.records;
  measures = x.measures;
  inside = let h = found_below ts b u e in let f = x.good.few in omega arith;
  own = x.records b u e;
  subterms = x.good.subterms b u e;
  listed = λ h. e;
}

-- a subterm at number p, which a field has, as the number b: it can be walked, and the walk goes down
module _ (d : List ℕ) (kept i : ℕ) (m : CanMeasure d kept i) (p : ℕ) (u : Term) (z : Subterm m.terms i p u)
    (f : ℕ) (o : f ≡ p) (b : ℕ) (q : b ≡ f) where
  side_falls : (n : ℕ) → i ≡ n → b < n
  side_falls n e = let l = z.below in omega arith

  side : CanMeasure d kept b
  side = record { terms = m.terms; tree = u; there = into d kept i m.terms m.tree m.there b u (rw (q, o) z.at) }

-- what is stored is looked up
pub looked_up : (d : List ℕ) (kept i b l : ℕ) → i < kept → b ≡ breadth_at d i → l ≡ length_at d i → MeasuresOf d kept i b l
looked_up d kept i b l h p q = record { found = λ ts t x. let m = x.measures i t (x.listed h) h in (p ∙ m.0, q ∙ m.1) }

module _ (d : List ℕ) (kept i : ℕ) (m : CanMeasure d kept i) where
  pub inside : i < max_terms
  inside = m.there.inside

  module _ (k : ℕ) (p : k ≡ kind_at d i) where
    module _ (ts : List Term) (t : Term) (x : TermAt d kept i ts t) where
      parts_at : Parts ts i k (first_at d i) (second_at d i) t
      parts_at = parts_of ts i k (first_at d i) (second_at d i) t (rw p x.own) x.subterms

      sides_at : Two k → Sides ts i (first_at d i) (second_at d i) t
      sides_at h = sides ts i k (first_at d i) (second_at d i) t parts_at h

      rest_at : kind_byte rd_k ≤ k → k < kind_byte or_else_k → Rest ts i (second_at d i) t
      rest_at h g = rest ts i k (first_at d i) (second_at d i) t parts_at h g

      alone_at : (Two k → ⊥) → (kind_byte rd_k ≤ k → k < kind_byte or_else_k → ⊥) → (1 ≡ breadth t) × (0 ≡ term_length t)
      alone_at h g = alone ts i k (first_at d i) (second_at d i) t parts_at h g

    -- ---- no part to measure: by the tests on the way, below rd or behind wt

    module _ (h : Two k → ⊥) where
      pub low_measured : k < kind_byte rd_k → MeasuresOf d kept i 1 0
      low_measured g = record { found = λ ts t x. alone_at ts t x h (λ e f. omega arith) }

      pub high_measured : kind_byte or_else_k ≤ k → MeasuresOf d kept i 1 0
      high_measured g = record { found = λ ts t x. alone_at ts t x h (λ e f. omega arith) }

    -- ---- two parts; a and b are the numbers that the fields f and g name

    both : Two k → Sides m.terms i (first_at d i) (second_at d i) m.tree
    both h = sides_at m.terms m.tree m.there h

    module _ (h : Two k) (f : ℕ) (o : f ≡ first_at d i) (a : ℕ) (q : a ≡ f) where
      pub left_falls : (n : ℕ) → i ≡ n → a < n
      left_falls n e = side_falls d kept i m _ _ (both h).first f o a q n e

      pub left_side : CanMeasure d kept a
      left_side = side d kept i m _ _ (both h).first f o a q

      pub left_inside : a < max_terms
      left_inside = left_side.there.inside

    module _ (h : Two k) (g : ℕ) (u : g ≡ second_at d i) (b : ℕ) (v : b ≡ g) where
      pub right_falls : (n : ℕ) → i ≡ n → b < n
      right_falls n e = side_falls d kept i m _ _ (both h).second g u b v n e

      pub right_side : CanMeasure d kept b
      right_side = side d kept i m _ _ (both h).second g u b v

      pub right_inside : b < max_terms
      right_inside = right_side.there.inside

      module _ (f : ℕ) (o : f ≡ first_at d i) (a : ℕ) (q : a ≡ f)
          (bl ll : ℕ) (w : MeasuresOf d kept a bl ll) (br lr : ℕ) (y : MeasuresOf d kept b br lr) where
        found_sides : (ts : List Term) (t : Term) → TermAt d kept i ts t → (s : Sides ts i (first_at d i) (second_at d i) t) →
            ((bl ≡ breadth s.left) × (ll ≡ term_length s.left)) × ((br ≡ breadth s.right) × (lr ≡ term_length s.right))
        found_sides ts t x s = (
          w.found ts s.left (into d kept i ts t x a s.left (rw (q, o) s.first.at)),
          y.found ts s.right (into d kept i ts t x b s.right (rw (v, u) s.second.at)),
        )

        pub sum_fits : bl + br < 256
        sum_fits =
            let x = m.there in
            let s = sides_at m.terms m.tree x h in
            let n = found_sides m.terms m.tree x s in
            let l = small s.left (x.good.limits _ _ s.first.at) in
            let r = small s.right (x.good.limits _ _ s.second.at) in omega arith

        pub sides_measured : (j n : ℕ) → j ≡ bl + br → n ≡ max ll lr → MeasuresOf d kept i j n
        sides_measured j n f e = record { found = λ ts t x. go ts t x (sides_at ts t x h) }
          where
            go : (ts : List Term) (t : Term) → TermAt d kept i ts t → Sides ts i (first_at d i) (second_at d i) t →
                (j ≡ breadth t) × (n ≡ term_length t)
            go ts t x s =
                let z = found_sides ts t x s in
                (f ∙ ap₂ ◌+◌ z.0.0 z.1.0 ∙ sym s.sum, e ∙ ap₂ max z.0.1 z.1.1 ∙ sym s.most)

    -- ---- one part

    module _ (h : kind_byte rd_k ≤ k) (j : k < kind_byte or_else_k) (g : ℕ) (u : g ≡ second_at d i) (b : ℕ) (v : b ≡ g) where
      pub rest_falls : (n : ℕ) → i ≡ n → b < n
      rest_falls n e = side_falls d kept i m _ _ (rest_at m.terms m.tree m.there h j).second g u b v n e

      pub rest_side : CanMeasure d kept b
      rest_side = side d kept i m _ _ (rest_at m.terms m.tree m.there h j).second g u b v

      pub rest_inside : b < max_terms
      rest_inside = rest_side.there.inside

      module _ (br lr : ℕ) (y : MeasuresOf d kept b br lr) where
        found_rest : (ts : List Term) (t : Term) → TermAt d kept i ts t → (s : Rest ts i (second_at d i) t) →
            (br ≡ breadth s.rest) × (lr ≡ term_length s.rest)
        found_rest ts t x s = y.found ts s.rest (into d kept i ts t x b s.rest (rw (v, u) s.second.at))

        pub longer_fits : 1 + lr < 256
        longer_fits =
            let x = m.there in
            let s = rest_at m.terms m.tree x h j in
            let n = found_rest m.terms m.tree x s in
            let r = small s.rest (x.good.limits _ _ s.second.at) in omega arith

        pub rest_measured : (o n : ℕ) → o ≡ br → n ≡ 1 + lr → MeasuresOf d kept i o n
        rest_measured o n f e = record { found = λ ts t x. go ts t x (rest_at ts t x h j) }
          where
            go : (ts : List Term) (t : Term) → TermAt d kept i ts t → Rest ts i (second_at d i) t →
                (o ≡ breadth t) × (n ≡ term_length t)
            go ts t x s = let z = found_rest ts t x s in (f ∙ z.0 ∙ sym s.same, e ∙ rw z.1 (sym s.longer))
