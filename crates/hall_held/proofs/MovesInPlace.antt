-- Moves that keep every component where it is: counts stored anew, and bytes of a node stored in place.
-- Assumes nothing.
use Prim.Native.Nat.{ℕ, suc, ◌+◌, ◌-◌, ◌≤◌, ◌<◌}
use native.Mathlib.Nat.{zero-add, suc-add}
use native.Mathlib.Omega.{arith}
use mathlib.Core.Path.{◌≡◌, refl, sym, ap, ◌∙◌}
use mathlib.Core.Option.{some}
use mathlib.Core.List.{List, [], ◌∷◌, ◌++◌, map, append_assoc, append-nil, map-append}
use lib.ListN.{length, get_or, take, drop, set, get_elem?, length-append, length-drop, length-set, length-map, take-append-drop}
use lib.Seq.{take-length, length-take-le, set-append_left, set_at}
use Rattle.calculus.specs.Syntax.{Action, Log, State}
use Rattle.semantics.specs.Definitions.Basics.{padded}
use Rattle.semantics.specs.Definitions.Layout.{max_count}
use Rattle.semantics.specs.Definitions.Terms.{Expression, Term, number}
use Rattle.semantics.specs.Definitions.Configuration.{Tree, leaf, transaction, Configuration}
use Rattle.semantics.specs.Definitions.Stored.{action_byte, tree_bytes, component_bytes, bytes_of, ByteCounts, WellFormed}
use Rattle.theorems.proofs.Lists.{all_set}
use Rattle.buffer.specs.Splice.{written}
use Rattle.hall_layout.specs.Layout.{channels, transaction_kind, leaf_term, leaf_log_length, leaf_log, log_size}
use Rattle.hall_laws.specs.Positions.{Context, plug, before, behind}
use Rattle.hall_laws.proofs.Cursors.{over}
use Rattle.hall_laws.proofs.Configurations.{count_set, counts_written, transaction_bytes}
use Rattle.hall_laws.proofs.Nodes.{leaf_bytes, node_of}
use Rattle.hall_held.specs.Holds.{Holds, replaced_at, with_counts, ReplacesPart}
use Rattle.hall_held.proofs.Holds.{NodeAt, sixteen, snapshot_sixteen}
use Rattle.hall_held.proofs.Replacements.{replaced_part_in_place}

-- ---- counts

module _ {ts : List Term} {h : Configuration} {s starts : List ℕ} {n : ℕ} (x : Holds ts h s starts n) where
  other_counts : (τ : State) (s' : List ℕ) → ByteCounts τ → s' ≡ bytes_of (with_counts τ h) →
      Holds ts (with_counts τ h) s' starts n
  other_counts τ s' b e = record {
    good = x.good;
    form = record { channel_counts = b; few = x.form.few; each = x.form.each };
    bytes = e;
    counted = x.counted;
    sized = x.sized;
    index = x.index;
  }

  -- one of them
  pub count_stored : (a c : ℕ) → a < channels → c ≤ max_count →
      Holds ts (with_counts (set h.counts a c) h) (set s a c) starts n
  count_stored a c l m =
      let b = x.form.channel_counts in
      other_counts (set h.counts a c) (set s a c)
      (length-set h.counts a c ∙ b.0, all_set (λ y. y ≤ max_count) h.counts a c b.1 m)
      (rw x.bytes (sym (count_set h.components h.counts (sixteen x) a c l)))

  -- all of them
  pub counts_stored : (τ : State) (s' : List ℕ) → ByteCounts τ → s' ≡ written s 0 τ channels →
      Holds ts (with_counts τ h) s' starts n
  counts_stored τ s' b e =
      other_counts τ s' b (e ∙ rw x.bytes (sym (counts_written h.components h.counts (sixteen x) τ b.0)))

-- ---- a node of a transaction

module _ {ts : List Term} {h : Configuration} {s starts : List ℕ} {n : ℕ} (x : Holds ts h s starts n) (p m : ℕ)
    (M : Expression) (σ : State) (t : Tree) (e : get_elem? h.components p ≡ some (transaction m M σ t)) (k at : ℕ)
    (y : Context) (u : Tree) (w : NodeAt s starts p t k at y u) (v : Tree)
    (form : WellFormed ts (replaced_at p (transaction m M σ (plug y v) ∷ []) h)) where
  -- it gives way to v: a part of its bytes to other bytes
  pub node_replaces_part : (front old new back : List ℕ) → tree_bytes u ≡ front ++ (old ++ back) →
      tree_bytes v ≡ front ++ (new ++ back) → (from to : ℕ) → from ≡ at + length front → to ≡ from + length old →
      ReplacesPart ts h (transaction m M σ (plug y v)) s starts n p from to new
  node_replaces_part front old new back was is from to b f =
      let head : List ℕ = transaction_kind ∷ m ∷ (σ ++ before y) in
      let regroup : (z : List ℕ) → head ++ ((front ++ (z ++ back)) ++ behind y) ≡ (head ++ front) ++ (z ++ (back ++ behind y)) =
      λ z. simp append_assoc in
      let l : length (head ++ front) ≡ 18 + length (before y) + length front =
      let q = snapshot_sixteen x p m M σ t e in simp length-append (omega arith) in
      let place = w.begins in
      record {
        holds = x;
        component = transaction m M σ t;
        there = e;
        front = head ++ front;
        old = old;
        differ = record {
          back = back ++ behind y;
          was = ap (λ z. component_bytes (transaction m M σ z)) (node_of t k y u w.there)
              ∙ transaction_bytes m M σ y u ∙ rw was (regroup old);
          is = transaction_bytes m M σ y v ∙ rw is (regroup new);
        };
        begins = omega arith;
        ends = f;
        form = form;
      }

  -- all of its bytes to as many others, stored in its place
  pub node_stored : length (tree_bytes v) ≡ length (tree_bytes u) → (s' : List ℕ) →
      s' ≡ written s at (tree_bytes v) (length (tree_bytes v)) → Holds ts (replaced_at p (transaction m M σ (plug y v) ∷ []) h) s' starts n
  node_stored l s' q =
      replaced_part_in_place
      (node_replaces_part [] (tree_bytes u) (tree_bytes v) [] (sym (append-nil (tree_bytes u))) (sym (append-nil (tree_bytes v)))
      at (at + length (tree_bytes u)) (omega arith) refl)
      (omega arith) s' q

-- ---- stores into bytes

-- what stands there
pub stored_there : (s : List ℕ) (at : ℕ) (v rest : List ℕ) → drop at s ≡ v ++ rest → s ≡ written s at v (length v)
unfolding written
stored_there s at v rest e =
    sym (take-append-drop at s) ∙ rw (take-length v, over s at v rest e, e) (sym (append_assoc (take at s) v rest))

set_behind : (xs ys : List ℕ) (i b : ℕ) → set (xs ++ ys) (length xs + i) b ≡ xs ++ set ys i b
set_behind [] ys i b = rw zero-add
set_behind (x ∷ xs) ys i b = rw suc-add (ap (◌∷◌ x) (set_behind xs ys i b))

-- and one byte of it stored anew
pub store_inside : (s s₁ : List ℕ) (at : ℕ) (v : List ℕ) (i b : ℕ) → s₁ ≡ written s at v (length v) →
    at + length v ≤ length s → i < length v → set s₁ (at + i) b ≡ written s at (set v i b) (length (set v i b))
unfolding written
store_inside s s₁ at v i b e l m =
    let rest = drop (at + length v) s in
    let lt = length-take-le at s (omega arith) in
    let r : set (take at s ++ (v ++ rest)) (at + i) b ≡ take at s ++ set (v ++ rest) i b =
    rw lt at (set_behind (take at s) (v ++ rest) i b) in
    rw (e, take-length v, take-length (set v i b), length-set v i b, append_assoc (take at s) v rest)
    (r ∙ rw (set-append_left v rest i b m) (sym (append_assoc (take at s) (set v i b) rest)))

-- ---- a leaf

leaf_length : (M : Expression) (δ : Log) → leaf_log ≤ length (tree_bytes (leaf M δ))
unfolding tree_bytes
leaf_length M δ = omega arith

-- its term's byte
leaf_renamed : (M N : Expression) (δ : Log) → set (tree_bytes (leaf M δ)) leaf_term (number N) ≡ tree_bytes (leaf N δ)
unfolding tree_bytes
leaf_renamed M N δ = refl

-- its log's bytes with one more action
logged : (δ : Log) (α : Action) → length δ < log_size →
    set (padded log_size (map action_byte δ)) (length δ) (action_byte α) ≡ padded log_size (map action_byte (δ ++ (α ∷ [])))
unfolding padded
logged δ α l =
    let xs = map action_byte δ in
    let n = length-map δ action_byte in
    let k : 16 - length xs ≡ suc (16 - length (xs ++ (action_byte α ∷ []))) =
    let m = length-append xs (action_byte α ∷ []) in omega arith in
    rw (map-append action_byte δ (α ∷ []), k, append_assoc) (set_at xs 0 _ (action_byte α) (length δ) n)

leaf_logged : (M N : Expression) (δ : Log) (α : Action) → length δ < log_size →
    set (set (set (tree_bytes (leaf M δ)) leaf_term (number N)) leaf_log_length (length δ + 1)) (leaf_log + length δ) (action_byte α)
    ≡ tree_bytes (leaf N (δ ++ (α ∷ [])))
unfolding tree_bytes
leaf_logged M N δ α l =
    let z : 3 + length δ ≡ suc (suc (suc (length δ))) = omega arith in
    let m : length (δ ++ (α ∷ [])) ≡ length δ + 1 = length-append δ (α ∷ []) in
    rw (z, m) (ap (λ bs. 23 ∷ number N ∷ (length δ + 1) ∷ bs) (logged δ α l))

module _ {ts : List Term} {h : Configuration} {s starts : List ℕ} {n : ℕ} (x : Holds ts h s starts n) (p m : ℕ)
    (M : Expression) (σ : State) (t : Tree) (e : get_elem? h.components p ≡ some (transaction m M σ t)) (k at : ℕ)
    (y : Context) (N : Expression) (δ : Log) (w : NodeAt s starts p t k at y (leaf N δ)) (N' : Expression) where
  node_inside : at + length (tree_bytes (leaf N δ)) ≤ length s
  node_inside =
      let d = length-drop at s in
      let l : length (drop at s) ≡ length (tree_bytes (leaf N δ)) + length (behind y ++ drop (get_or starts (p + 1) 0) s) =
      ap length w.bytes ∙ length-append (tree_bytes (leaf N δ)) _ in
      let some = leaf_length N δ in omega arith

  -- ARDF: the leaf's term gives way to another
  pub term_stored : WellFormed ts (replaced_at p (transaction m M σ (plug y (leaf N' δ)) ∷ []) h) → (b : ℕ) → b ≡ number N' →
      Holds ts (replaced_at p (transaction m M σ (plug y (leaf N' δ)) ∷ []) h) (set s (at + leaf_term) b) starts n
  term_stored form b q =
      let v = tree_bytes (leaf N δ) in
      let l = leaf_length N δ in
      let o = node_inside in
      let first = store_inside s s at v leaf_term b (stored_there s at v _ w.bytes) o (omega arith) in
      let same : set v leaf_term b ≡ tree_bytes (leaf N' δ) = rw q (leaf_renamed N N' δ) in
      node_stored x p m M σ t e k at y (leaf N δ) w (leaf N' δ) form (ap length (sym same) ∙ length-set v leaf_term b) _
      (rw same at first)

  -- ARDOK and AWR: so does its term, and its log has one more action
  pub action_stored : (α : Action) → length δ < log_size →
      WellFormed ts (replaced_at p (transaction m M σ (plug y (leaf N' (δ ++ (α ∷ [])))) ∷ []) h) →
      (b l c i : ℕ) → b ≡ number N' → l ≡ length δ + 1 → c ≡ action_byte α → i ≡ at + (leaf_log + length δ) →
      Holds ts (replaced_at p (transaction m M σ (plug y (leaf N' (δ ++ (α ∷ [])))) ∷ []) h)
      (set (set (set s (at + leaf_term) b) (at + leaf_log_length) l) i c) starts n
  action_stored α few form b l c i q r o j =
      let v = tree_bytes (leaf N δ) in
      let z = leaf_bytes N δ (omega arith) in
      let g = node_inside in
      let n₁ = length-set v leaf_term b in
      let n₂ = length-set (set v leaf_term b) leaf_log_length l in
      let n₃ = length-set (set (set v leaf_term b) leaf_log_length l) (leaf_log + length δ) c in
      let first = store_inside s s at v leaf_term b (stored_there s at v _ w.bytes) g (omega arith) in
      let second = store_inside s _ at (set v leaf_term b) leaf_log_length l first (omega arith) (omega arith) in
      let third = store_inside s _ at (set (set v leaf_term b) leaf_log_length l) (leaf_log + length δ) c second
      (omega arith) (omega arith) in
      let same : set (set (set v leaf_term b) leaf_log_length l) (leaf_log + length δ) c ≡ tree_bytes (leaf N' (δ ++ (α ∷ []))) =
      rw (q, r, o) (leaf_logged N N' δ α few) in
      rw j
      (node_stored x p m M σ t e k at y (leaf N δ) w (leaf N' (δ ++ (α ∷ []))) form (ap length (sym same) ∙ n₃ ∙ n₂ ∙ n₁) _
      (rw same at third))
