-- What remains at a leaf, and the leaf: a law for each return of the code.
-- Assumes nothing.
use Prim.Native.Nat.{ℕ, ◌+◌, ◌≤◌, ◌<◌}
use native.Mathlib.Omega.{arith}
use mathlib.Core.Path.{◌≡◌, refl, ap, ◌∙◌}
use mathlib.Core.Bool.{Bool, true, false, cond}
use mathlib.Core.Option as math
use mathlib.Core.Option.{none, some}
use mathlib.Core.List.{List}
use Rattle.std.specs.Prelude.{Option, None, Some}
use Rattle.std.specs.Bool.{then_some}
use lib.ListN.{get_or, take, drop, get_elem?}
use borrow.Author.Tests.{eq-eqb, ne_eqb}
use Rattle.semantics.specs.Definitions.Layout.{max_terms}
use Rattle.semantics.specs.Definitions.Terms.{Expression, retry_t, Program, Term, process, expression, branches, path_length}
use Rattle.semantics.specs.Definitions.Configuration.{branches_of}
use Rattle.semantics.specs.Definitions.Stored.{leaf_expression, leaf_from}
use Rattle.theorems.proofs.Lists.{found_below, none_past}
use Rattle.table_records.specs.declared.Class.{Class}
use Rattle.table_records.specs.declared.Class.TheVariants as classes
use Rattle.table_records.specs.Shapes.{term_class, class_of}
use Rattle.table_terms.specs.Decoded.{kind_at, breadth_at, length_at, breadth, term_length, Decoded}
use Rattle.table_terms.proofs.TermKinds.{record_class}
use Rattle.hall_layout.specs.Layout.{no_record, log_size, leaf_term, leaf_log_length, leaf_log}
use Rattle.hall_laws.specs.ReadParts.{is_log}
use Rattle.hall_laws.proofs.ReadLeaves.{body_bytes, leaf_unknown, leaf_long, LeafOf, leaf_log_holds}
use Rattle.table_terms.specs.declared.Measures.{Measures}
use Rattle.hall_nodes.specs.NodeTests.{RemainingIs, RemainingRead, LeafIs, LeafRead}

-- ---- what remains

-- by the term that a leaf's byte names
by_term : (ts : List Term) (byte : ℕ) (P : math.Option Expression → Type 0) → (byte ≡ no_record → ⊥) → (get_elem? ts byte ≡ none → P none) →
    ((Q : Program) → get_elem? ts byte ≡ some (process Q) → P none) → ((M : Expression) → get_elem? ts byte ≡ some (expression M) → P (some M)) →
    P (leaf_expression ts byte)
unfolding leaf_expression
by_term ts byte P other none_there a_process an_expression = rw (ne_eqb byte no_record other) (go (get_elem? ts byte) refl)
  where
    go : (o : math.Option Term) → get_elem? ts byte ≡ o → P (cond false (some (retry_t no_record)) (elim o [ none ↦ none | some (process Q) ↦ none | some (expression M) ↦ some M ]))
    go none e = none_there e
    go (some (process Q)) e = a_process Q e
    go (some (expression M)) e = an_expression M e

-- an expression's class is no other
abbrev number_of : Option Class → ℕ
number_of None = 0
number_of (Some classes.Process) = 1
number_of (Some classes.Expression) = 2

module _ (d : List ℕ) (n byte : ℕ) where
  pub retry_remains : byte ≡ no_record → RemainingRead d n byte (Some (record { breadth = 1; length = 0 }))
  unfolding leaf_expression branches path_length
  retry_remains e = record { found = λ ts x c. rw (eq-eqb byte no_record e) (refl, refl) }

  module _ (i : ℕ) (e : i ≡ byte) where
    pub no_term : n ≤ i → (byte ≡ no_record → ⊥) → RemainingRead d n byte None
    no_term h other = record {
      found = λ ts x count. by_term ts byte (RemainingIs None) other (λ q. tt) (λ Q q. tt) (λ M q. let l = found_below ts byte _ q in absurd (omega arith));
    }

    -- the byte names a term
    module _ (few : n ≤ max_terms) (h : i < n) (k : ℕ) (q : k ≡ kind_at d i) where
      class_of_byte : (c : Option Class) → c ≡ class_of k → (ts : List Term) → Decoded ts d → (t : Term) → get_elem? ts byte ≡ some t → c ≡ Some (term_class t)
      class_of_byte c class ts x t p = rw (class, q, e) (record_class byte _ _ _ t (x.records byte t p))

      no_expression : (c : Option Class) → c ≡ class_of k → number_of c ≤ 1 → RemainingRead d n byte None
      no_expression c class other = record {
        found = λ ts x count. by_term ts byte (RemainingIs None) (λ z. omega arith) (λ p. tt) (λ Q p. tt)
            (λ M p. let z = ap number_of (class_of_byte c class ts x (expression M) p) in absurd (omega arith));
      }

      pub process_remains : Some classes.Process ≡ class_of k → RemainingRead d n byte None
      process_remains class = no_expression (Some classes.Process) class (omega arith)

      pub nothing_remains : ◌≡◌ {A = Option Class} None (class_of k) → RemainingRead d n byte None
      nothing_remains class = no_expression None class (omega arith)

      pub term_remains : Some classes.Expression ≡ class_of k → (b l : ℕ) → b ≡ breadth_at d i → l ≡ length_at d i →
          RemainingRead d n byte (Some (record { breadth = b; length = l }))
      unfolding breadth term_length
      term_remains class b l u v = record {
        found = λ ts x count. by_term ts byte (RemainingIs (Some (record { breadth = b; length = l }))) (λ z. omega arith)
            (λ p. let z = none_past ts byte p in absurd (omega arith))
            (λ Q p. let z = ap number_of (class_of_byte (Some classes.Expression) class ts x (process Q) p) in absurd (omega arith))
            (λ M o. let z = x.measures byte _ o in (rw e at u ∙ z.0, rw e at v ∙ z.1));
      }

-- ---- a leaf

module _ (d : List ℕ) (n : ℕ) (s : List ℕ) (at : ℕ) where
  pub leaf_of_no_term : RemainingRead d n (get_or s (at + leaf_term) 0) None → LeafRead d n s at None
  leaf_of_no_term w = record { found = λ ts x c. go ts (leaf_expression ts (get_or s (at + leaf_term) 0)) refl (w.found ts x c) }
    where
      go : (ts : List Term) (o : math.Option Expression) → leaf_expression ts (get_or s (at + leaf_term) 0) ≡ o → RemainingIs None o →
          LeafIs None (leaf_from ts (body_bytes ts s at))
      go ts none e k = rw (leaf_unknown ts s at e) tt
      go ts (some M) e k = absurd k

  module _ (m : Measures) (w : RemainingRead d n (get_or s (at + leaf_term) 0) (Some m)) (size : ℕ) (z : size ≡ get_or s (at + leaf_log_length) 0)
      (l : ℕ) (y : l ≡ m.length) where
    -- by the leaf's expression
    leaf_by : (o : Option ℕ) →
        ((ts : List Term) (M : Expression) → leaf_expression ts (get_or s (at + leaf_term) 0) ≡ some M → m.breadth ≡ branches M → m.length ≡ path_length M →
        LeafIs o (leaf_from ts (body_bytes ts s at))) →
        LeafRead d n s at o
    leaf_by o k = record { found = λ ts x c. go ts (leaf_expression ts (get_or s (at + leaf_term) 0)) refl (w.found ts x c) }
      where
        go : (ts : List Term) (e : math.Option Expression) → leaf_expression ts (get_or s (at + leaf_term) 0) ≡ e → RemainingIs (Some m) e →
            LeafIs o (leaf_from ts (body_bytes ts s at))
        go ts none e i = absurd i
        go ts (some M) e i = k ts M e i.0 i.1

    pub leaf_too_long : log_size < size + l → LeafRead d n s at None
    leaf_too_long k = leaf_by None (λ ts M e i j. rw (leaf_long ts s at M e (omega arith)) tt)

    module _ (x : Bool) (v : x ≡ is_log size (take log_size (drop (at + leaf_log) s))) (k : size + l ≤ log_size) where
      pub leaf_by_log : (o : Option ℕ) → o ≡ then_some x m.breadth → LeafRead d n s at o
      unfolding branches_of
      leaf_by_log o q = leaf_by o (λ ts M e i j.
          let read : LeafOf ts s at M e x (leaf_from ts (body_bytes ts s at)) =
          let holds = leaf_log_holds ts s at M e (omega arith) in rw (v, z) holds in rw q (go ts M e i x read))
        where
          go : (ts : List Term) (M : Expression) (e : leaf_expression ts (get_or s (at + leaf_term) 0) ≡ some M) → m.breadth ≡ branches M →
              (x : Bool) → LeafOf ts s at M e x (leaf_from ts (body_bytes ts s at)) →
              LeafIs (then_some x m.breadth) (leaf_from ts (body_bytes ts s at))
          go ts M e i true q = rw q.1 i
          go ts M e i false q = rw q tt
