-- No definition that counts its turns down runs out of them, and every number printed is small.
-- Assumes nothing.
use Prim.Native.Nat.{ℕ, zero, suc, ◌+◌, ◌*◌, ◌/◌, ◌%◌, ◌^◌, ◌≤◌, ◌<◌, min}
use native.Mathlib.Omega.{arith}
use native.Mathlib.Nat.{le_trans, pow-le-pow_right}
use mathlib.Core.Path.{◌≡◌, refl, sym, ap, ◌∙◌, fun_ext}
use mathlib.Core.Bool.{cond}
use mathlib.Core.Option.{Option, none, some, bind}
use mathlib.Core.List.{List, [], ◌∷◌, ◌++◌}
use lib.ListN.{length, drop, get_elem?, length-append, length-drop}
use lib.Dec.{leb, ltb, eqb}
use borrow.Author.Tests.{lt-ltb, le-ltb}
use Rattle.semantics.specs.Definitions.Basics.{Bytes}
use Rattle.semantics.specs.Definitions.Terms.{Term}
use Rattle.semantics.specs.Definitions.Table.{kind_by_number, fields, TableSoFar, TableAnswer, refused_at, RecordAnswer, stop, more, read_record, then_read, empty_table, read_from, read_table}
use Rattle.semantics.specs.Definitions.Configuration.{taking, repeating, block, output, Tree, fork, Component, idle, transaction, Configuration, branches_of, opening}
use Rattle.semantics.specs.Definitions.Stored.{WellFormed, ComponentOk, split_bytes, leaf_from, NodeKind, fork_n, leaf_n, other_n, node_kind, node_from, tree_from, waiting_component, transaction_on, ComponentKind, waiting_c, output_c, transaction_c, other_c, component_kind, component_from, components_from, configuration_of}
use Rattle.semantics.specs.Definitions.Moves.{rule_number, act, inside}
use Rattle.semantics.specs.Definitions.Run.{schedule, entries, Counters, fresh_counters, saturating_suc, counted_at, counted, Step, run}
use Rattle.semantics.specs.Definitions.Report.{digits, decimal, table_size, split_report, sized_report, printed_run}
use Rattle.semantics.specs.Checks.AcceptedTables.{GoodTable}
use Rattle.semantics.specs.Checks.Conditions.{TableCondition, kind_unknown, body_short, terms_many, channel_over, forward_reference_holds, class_expression, class_process, width_over, paths_over, tokens_none, tokens_again, byte_follows, start_missing, TableRefused, TableNumbers, Stops, at_end_holds, kind_neither, act_short, inside_short, node_short, act_refused, inside_refused, RunNumbers}
use Rattle.semantics.specs.Checks.Fuels.{read_or, TableReadToItsEnd, tree_or, attempt_by, TreesReadToTheirEnd, components_or, configuration_by, HallsReadToTheirEnd, table_size_or, InputsSplitAtTheTablesEnd, digits_or, DigitsPrintedToTheLast, line_numbers, CountersFit, PrintedNumbersFit}
use Rattle.theorems.proofs.Lists.{found_below, all_weaken}
use Rattle.theorems.proofs.ByteReads.{by_cases, given_some, provided_some}
use Rattle.theorems.proofs.Trees.{cut_back}
use Rattle.theorems.proofs.GoodTable.{accepted_is_good}
use Rattle.theorems.proofs.RoundTrip.{opening_is_well_formed}
use Rattle.theorems.proofs.WellFormedKept.{well_formed_step}
use Rattle.theorems.proofs.Runs.{runs_keep, tallied}
use Rattle.theorems.proofs.CallsAsOne.{run_tells}
use Rattle.theorems.proofs.Completeness.{few_nodes}
use Rattle.theorems.proofs.TableConditions.{condition_number, TurnReason, turn_reason, printed_within, reached_within, table_numbers}
use Rattle.theorems.proofs.RunConditions.{run_numbers}
use Rattle.theorems.proofs.CallConditions.{choice_range}
use Rattle.theorems.proofs.Decimals.{tenth}

-- ---- reading a table

-- each record takes a byte at least, so two readings with a turn more than there are bytes go alike
read_same : (z y : TableSoFar → ℕ → List ℕ → TableAnswer) (f g : ℕ) (r : TableSoFar) (at : ℕ) (bs : List ℕ) → length bs < f → length bs < g →
    read_or z f r at bs ≡ read_or y g r at bs
unfolding read_or then_read
read_same z y zero g r at bs h k = absurd (omega arith)
read_same z y (suc f) zero r at bs h k = absurd (omega arith)
read_same z y (suc f) (suc g) r at bs h k =
    go (read_record r at bs) (turn_reason r at bs) (λ s w. read_same z y f g s (at + w) (drop w bs))
  where
    go : (t : RecordAnswer) → TurnReason r at bs t →
        ((s : TableSoFar) (w : ℕ) → length (drop w bs) < f → length (drop w bs) < g →
        read_or z f s (at + w) (drop w bs) ≡ read_or y g s (at + w) (drop w bs)) →
        then_read t (λ s w. read_or z f s (at + w) (drop w bs)) ≡ then_read t (λ s w. read_or y g s (at + w) (drop w bs))
    go (stop a) x next = refl
    go (more s w) x next =
        let p = printed_within r bs w x.1 x.0 x.2 in
        let l = length-drop w bs in next s w (omega arith) (omega arith)

at_end : TableSoFar → ℕ → List ℕ → TableAnswer
at_end r at bs = refused_at 9 at

read_own : (f : ℕ) (r : TableSoFar) (at : ℕ) (bs : List ℕ) → read_from f r at bs ≡ read_or at_end f r at bs
unfolding read_from read_or then_read at_end
read_own zero r at bs = refl
read_own (suc f) r at bs =
    ap (then_read (read_record r at bs)) (fun_ext (λ s. fun_ext (λ w. read_own f s (at + w) (drop w bs))))

pub table_read_to_its_end : TableReadToItsEnd
unfolding TableReadToItsEnd read_table
table_read_to_its_end bs f h =
    let given = read_own (suc (length bs)) empty_table 0 bs in (
      read_own f empty_table 0 bs ∙ read_same at_end at_end f (suc (length bs)) empty_table 0 bs h (omega arith) ∙ sym given,
      λ z. read_same z at_end f (suc (length bs)) empty_table 0 bs h (omega arith) ∙ sym given,
    )

-- ---- reading a tree of nodes

-- the value that goes on, or none
bind_same {ℓ κ} : {A : Type ℓ} {B : Type κ} (o : Option A) (k m : A → Option B) → ((a : A) → o ≡ some a → k a ≡ m a) → bind o k ≡ bind o m
unfolding bind
bind_same none k m h = refl
bind_same (some a) k m h = h a refl

-- what follows a part cut off is no longer than the whole
cut_left : (n : ℕ) (bs : List ℕ) (c : List ℕ × List ℕ) → split_bytes n bs ≡ some c → length c.1 ≤ length bs
cut_left n bs c e = let h = cut_back n bs c e in let l = ap length h.1 ∙ length-append c.0 c.1 in omega arith

module _ (ts : List Term) where
  -- a reader leaves less than it was given
  Shortens : ℕ → (List ℕ → Option (Tree × List ℕ)) → Type 0
  Shortens n sub = (bs : List ℕ) (y : Tree × List ℕ) → length bs ≤ n → sub bs ≡ some y → length y.1 < length bs

  node_left : (n : ℕ) (sub : List ℕ → Option (Tree × List ℕ)) → Shortens n sub → (K : NodeKind) (bs : List ℕ) (y : Tree × List ℕ) →
      length bs ≤ n → node_from ts sub K bs ≡ some y → length y.1 ≤ length bs
  unfolding node_from Shortens
  node_left n sub short fork_n bs y h e =
      given_some (sub bs) _ y e (λ l p e'.
      given_some (sub l.1) _ y e' (λ r q e''.
      let a = short bs l h p in
      let b = short l.1 r (omega arith) q in
      let z : length r.1 ≡ length y.1 = cc in omega arith))
  node_left n sub short leaf_n bs y h e =
      given_some (split_bytes 18 bs) _ y e (λ c p e'.
      given_some (leaf_from ts c.0) _ y e' (λ t q e''.
      let a = cut_left 18 bs c p in
      let z : length c.1 ≡ length y.1 = cc in omega arith))
  node_left n sub short other_n bs y h e = let z : ◌≡◌ {A = ℕ} 0 1 = cc in absurd (omega arith)

  tree_left : (z : List ℕ → Option (Tree × List ℕ)) (f : ℕ) (bs : List ℕ) (y : Tree × List ℕ) → length bs < f →
      tree_or z f ts bs ≡ some y → length y.1 < length bs
  unfolding tree_or Shortens
  tree_left z zero bs y h e = absurd (omega arith)
  tree_left z (suc f) [] y h e = let z : ◌≡◌ {A = ℕ} 0 1 = cc in absurd (omega arith)
  tree_left z (suc zero) (k ∷ bs) y h e = absurd (omega arith)
  tree_left z (suc (suc f)) (k ∷ bs) y h e =
      let l = node_left f (λ x. tree_or z (suc f) ts x) (λ x u m. tree_left z (suc f) x u (omega arith)) (node_kind k) bs y (omega arith) e in
      omega arith

  node_same : (n : ℕ) (sub other : List ℕ → Option (Tree × List ℕ)) → Shortens n sub →
      ((bs : List ℕ) → length bs ≤ n → sub bs ≡ other bs) → (K : NodeKind) (bs : List ℕ) → length bs ≤ n →
      node_from ts sub K bs ≡ node_from ts other K bs
  unfolding node_from Shortens
  node_same n sub other short same fork_n bs h =
      bind_same (sub bs) _ _ (λ l e. let m = short bs l h e in ap (λ o. bind o (λ r. some (fork l.0 r.0, r.1))) (same l.1 (omega arith)))
      ∙ ap (λ o. bind o (λ l. bind (other l.1) (λ r. some (fork l.0 r.0, r.1)))) (same bs h)
  node_same n sub other short same leaf_n bs h = refl
  node_same n sub other short same other_n bs h = refl

  tree_same : (z y : List ℕ → Option (Tree × List ℕ)) (f g : ℕ) (bs : List ℕ) → length bs < f → length bs < g →
      tree_or z f ts bs ≡ tree_or y g ts bs
  unfolding tree_or Shortens
  tree_same z y zero g bs h k = absurd (omega arith)
  tree_same z y (suc f) zero bs h k = absurd (omega arith)
  tree_same z y (suc f) (suc g) [] h k = refl
  tree_same z y (suc f) (suc g) (b ∷ bs) h k =
      node_same (length bs) (λ x. tree_or z f ts x) (λ x. tree_or y g ts x) (λ x u m. tree_left z f x u (omega arith))
      (λ x m. tree_same z y f g x (omega arith) (omega arith)) (node_kind b) bs (omega arith)

  no_tree : List ℕ → Option (Tree × List ℕ)
  no_tree bs = none

  tree_own : (f : ℕ) (bs : List ℕ) → tree_from f ts bs ≡ tree_or no_tree f ts bs
  unfolding tree_from tree_or no_tree
  tree_own zero bs = refl
  tree_own (suc f) [] = refl
  tree_own (suc f) (k ∷ bs) = ap (λ sub. node_from ts sub (node_kind k) bs) (fun_ext (tree_own f))

  attempt_same : (read other : List ℕ → Option (Tree × List ℕ)) (n : ℕ) (bs : List ℕ) →
      ((x : List ℕ) → length x ≤ length bs → read x ≡ other x) → attempt_by read ts n bs ≡ attempt_by other ts n bs
  unfolding attempt_by
  attempt_same read other n bs same = bind_same (split_bytes 16 bs) _ _ (λ s e. rw (same s.1 (cut_left 16 bs s e)))

  -- ---- reading the components of a hall

  component_left : (K : ComponentKind) (n : ℕ) (bs : List ℕ) (y : Component × List ℕ) → component_from ts K n bs ≡ some y →
      length y.1 ≤ length bs
  unfolding component_from
  component_left waiting_c n bs y e =
      given_some (waiting_component (get_elem? ts n)) _ y e (λ c p e'. let z : length bs ≡ length y.1 = cc in omega arith)
  component_left output_c a bs y e =
      let x : (idle (output a), bs) ≡ y = (provided_some (ltb a 16) (idle (output a), bs) y e).1 in
      let z : length bs ≡ length y.1 = ap (λ u. length u.1) x in omega arith
  component_left transaction_c n bs y e =
      given_some (split_bytes 16 bs) _ y e (λ s p e'.
      given_some (tree_from (suc (length bs)) ts s.1) _ y e' (λ t q e''.
      given_some (transaction_on (waiting_component (get_elem? ts n)) s.0 t.0) _ y e'' (λ c u e'''.
      let x : (c, t.1) ≡ y = (provided_some (leb (branches_of t.0) 8) (c, t.1) y e''').1 in
      let a = cut_left 16 bs s p in
      let b = tree_left no_tree (suc (length bs)) s.1 t (omega arith) (sym (tree_own (suc (length bs)) s.1) ∙ q) in
      let z : length t.1 ≡ length y.1 = ap (λ u. length u.1) x in omega arith)))
  component_left other_c n bs y e = let z : ◌≡◌ {A = ℕ} 0 1 = cc in absurd (omega arith)

  components_same : (z y : List ℕ → Option (List Component)) (f g : ℕ) (bs : List ℕ) → length bs < f → length bs < g →
      components_or z f ts bs ≡ components_or y g ts bs
  unfolding components_or
  components_same z y zero g bs h k = absurd (omega arith)
  components_same z y (suc f) zero bs h k = absurd (omega arith)
  components_same z y (suc f) (suc g) [] h k = refl
  components_same z y (suc f) (suc g) (zero ∷ bs) h k = refl
  components_same z y (suc f) (suc g) (suc b ∷ []) h k = refl
  components_same z y (suc f) (suc g) (suc b ∷ n ∷ bs) h k =
      bind_same (component_from ts (component_kind (suc b)) n bs) _ _
      (λ c e.
      let l = component_left (component_kind (suc b)) n bs c e in
      ap (λ o. bind o (λ cs. some (c.0 ∷ cs))) (components_same z y f g c.1 (omega arith) (omega arith)))

  no_components : List ℕ → Option (List Component)
  no_components bs = none

  components_own : (f : ℕ) (bs : List ℕ) → components_from f ts bs ≡ components_or no_components f ts bs
  unfolding components_from components_or no_components
  components_own zero bs = refl
  components_own (suc f) [] = refl
  components_own (suc f) (zero ∷ bs) = refl
  components_own (suc f) (suc b ∷ []) = refl
  components_own (suc f) (suc b ∷ n ∷ bs) =
      bind_same (component_from ts (component_kind (suc b)) n bs) _ _
      (λ c e. ap (λ o. bind o (λ cs. some (c.0 ∷ cs))) (components_own f c.1))

configuration_same : (read other : List ℕ → Option (List Component)) (bs : List ℕ) →
    ((x : List ℕ) → length x ≤ length bs → read x ≡ other x) → configuration_by read bs ≡ configuration_by other bs
unfolding configuration_by
configuration_same read other bs same = bind_same (split_bytes 16 bs) _ _ (λ c e. rw (same c.1 (cut_left 16 bs c e)))

pub trees_read_to_their_end : TreesReadToTheirEnd
unfolding TreesReadToTheirEnd component_from attempt_by
trees_read_to_their_end ts n bs f h = (
  attempt_same ts (tree_from f ts) (tree_from (suc (length bs)) ts) n bs
      (λ x l. tree_own ts f x ∙ tree_same ts (no_tree ts) (no_tree ts) f (suc (length bs)) x (omega arith) (omega arith) ∙ sym (tree_own ts (suc (length bs)) x)),
  λ z. attempt_same ts (tree_or z f ts) (tree_from (suc (length bs)) ts) n bs
      (λ x l. tree_same ts z (no_tree ts) f (suc (length bs)) x (omega arith) (omega arith) ∙ sym (tree_own ts (suc (length bs)) x)),
)

pub halls_read_to_their_end : HallsReadToTheirEnd
unfolding HallsReadToTheirEnd configuration_of configuration_by
halls_read_to_their_end ts bs f h = (
  configuration_same (components_from f ts) (components_from (suc (length bs)) ts) bs
      (λ x l. components_own ts f x ∙ components_same ts (no_components ts) (no_components ts) f (suc (length bs)) x (omega arith) (omega arith) ∙ sym (components_own ts (suc (length bs)) x)),
  λ z. configuration_same (components_or z f ts) (components_from (suc (length bs)) ts) bs
      (λ x l. components_same ts z (no_components ts) f (suc (length bs)) x (omega arith) (omega arith) ∙ sym (components_own ts (suc (length bs)) x)),
)

-- ---- where the table of an input ends

size_same : (z y : List ℕ → Option ℕ) (f g : ℕ) (bs : List ℕ) → length bs < f → length bs < g → table_size_or z f bs ≡ table_size_or y g bs
unfolding table_size_or
size_same z y zero g bs h k = absurd (omega arith)
size_same z y (suc f) zero bs h k = absurd (omega arith)
size_same z y (suc f) (suc g) [] h k = refl
size_same z y (suc f) (suc g) (b ∷ bs) h k =
    ap (cond (eqb b 13) (some 2))
    (bind_same (kind_by_number b) _ _
    (λ K e.
    let l = length-drop (length (fields K)) bs in
    ap (λ o. bind o (λ n. some (suc (length (fields K)) + n))) (size_same z y f g (drop (length (fields K)) bs) (omega arith) (omega arith))))

no_size : List ℕ → Option ℕ
no_size bs = none

size_own : (f : ℕ) (bs : List ℕ) → table_size f bs ≡ table_size_or no_size f bs
unfolding table_size table_size_or no_size
size_own zero bs = refl
size_own (suc f) [] = refl
size_own (suc f) (b ∷ bs) =
    ap (cond (eqb b 13) (some 2))
    (bind_same (kind_by_number b) _ _
    (λ K e. ap (λ o. bind o (λ n. some (suc (length (fields K)) + n))) (size_own f (drop (length (fields K)) bs))))

pub inputs_split_at_the_tables_end : InputsSplitAtTheTablesEnd
unfolding InputsSplitAtTheTablesEnd printed_run sized_report
inputs_split_at_the_tables_end bs f l h =
    let given = size_own (suc (length bs)) bs in
    rw (le-ltb 16384 (length bs) l) (
      ap (split_report bs) (size_own f bs ∙ size_same no_size no_size f (suc (length bs)) bs h (omega arith) ∙ sym given),
      λ z. ap (split_report bs) (size_same z no_size f (suc (length bs)) bs h (omega arith) ∙ sym given),
    )

-- ---- a number's digits

-- the last digit, and those before it where there are any
last_digit : ℕ → List ℕ → List ℕ
last_digit n tens = cond (ltb n 10) ((48 + n) ∷ []) (tens ++ ((48 + n % 10) ∷ []))

one_digit_holds : (n : ℕ) (xs ys : List ℕ) → n < 10 → last_digit n xs ≡ last_digit n ys
unfolding last_digit
one_digit_holds n xs ys l = rw (lt-ltb n 10 l)

digits_same : (z y : ℕ → List ℕ) (f g n : ℕ) → n < 10 ^ suc f → n < 10 ^ suc g → digits_or z (suc f) n ≡ digits_or y (suc g) n
unfolding digits_or last_digit
digits_same z y zero g n h k = one_digit_holds n (z (n / 10)) (digits_or y g (n / 10)) (omega arith)
digits_same z y (suc f) zero n h k = one_digit_holds n (digits_or z (suc f) (n / 10)) (y (n / 10)) (omega arith)
digits_same z y (suc f) (suc g) n h k =
    let p : n < 10 * 10 ^ suc f = omega arith in
    let q : n < 10 * 10 ^ suc g = omega arith in
    ap (last_digit n) (digits_same z y f g (n / 10) (tenth n (10 ^ suc f) p) (tenth n (10 ^ suc g) q))

no_digits : ℕ → List ℕ
no_digits n = []

digits_own : (f n : ℕ) → digits f n ≡ digits_or no_digits f n
unfolding digits digits_or no_digits last_digit
digits_own zero n = refl
digits_own (suc f) n = ap (last_digit n) (digits_own f (n / 10))

pub digits_printed_to_the_last : DigitsPrintedToTheLast
unfolding DigitsPrintedToTheLast decimal
digits_printed_to_the_last n zero l h = absurd (omega arith)
digits_printed_to_the_last n (suc f) l h =
    let large : n < 10 ^ suc f = le_trans l (pow-le-pow_right (omega arith) h) in
    let given = digits_own 20 n in (
      digits_own (suc f) n ∙ digits_same no_digits no_digits f 19 n large l ∙ sym given,
      λ z. digits_same z no_digits f 19 n large l ∙ sym given,
    )

-- ---- the numbers that are printed

-- a condition of a record is told at a byte of the table or at its end
offset_within : (r : TableSoFar) (n o : ℕ) (bs : List ℕ) → TableCondition r n o bs → o ≤ length bs
offset_within r n o bs (kind_unknown e) = omega arith
offset_within r n o bs (body_short fs e f) = omega arith
offset_within r n o bs (terms_many e f g) = omega arith
offset_within r n o bs (channel_over b e f) = omega arith
offset_within r n o bs (forward_reference_holds b e f) = omega arith
offset_within r n o bs (class_expression b M e f) = omega arith
offset_within r n o bs (class_process b P e f) = omega arith
offset_within r n o bs (width_over e f) = omega arith
offset_within r n o bs (paths_over e f) = omega arith
offset_within r n o bs tokens_none = omega arith
offset_within r n o bs (tokens_again e) = omega arith
offset_within r n o bs byte_follows = omega arith
offset_within r n o bs start_missing = omega arith

refused_fits : (bs : List ℕ) (n q : ℕ) → TableRefused bs n q → (n ≤ 9) × (q ≤ length bs)
unfolding TableRefused
refused_fits bs n q (p, r, o, reached, c, before, e) =
    let k = condition_number r n o (drop p bs) c in
    let h = offset_within r n o (drop p bs) c in
    let g = reached_within bs p r reached in
    let l = length-drop p bs in (k.1, omega arith)

stop_fits : (h : Configuration) (n : ℕ) (bs : List ℕ) → Stops h n bs → n ≤ 20
stop_fits h n bs at_end_holds = omega arith
stop_fits h n bs (kind_neither a b) = omega arith
stop_fits h n bs act_short = omega arith
stop_fits h n bs inside_short = omega arith
stop_fits h n bs node_short = omega arith
stop_fits h n bs (act_refused {p = p} f) = (choice_range h n (act p) f.0).1
stop_fits h n bs (inside_refused {p = p} {k} f) = (choice_range h n (inside p k) f.0).1

-- a choice takes a byte at least
few_entries : (bs : List ℕ) → length (entries (schedule bs)) ≤ length bs
unfolding entries schedule
few_entries [] = omega arith
few_entries (zero ∷ bs) = omega arith
few_entries (suc zero ∷ []) = omega arith
few_entries (suc zero ∷ p ∷ bs) = let h = few_entries bs in omega arith
few_entries (suc (suc zero) ∷ []) = omega arith
few_entries (suc (suc zero) ∷ p ∷ []) = omega arith
few_entries (suc (suc zero) ∷ p ∷ k ∷ bs) = let h = few_entries bs in omega arith
few_entries (suc (suc (suc k)) ∷ bs) = omega arith

counter_fits : (n r k : ℕ) → k ≤ 4294967295 → counted_at n r k ≤ 4294967295
unfolding counted_at saturating_suc
counter_fits n r k h = by_cases (λ m. m ≤ 4294967295) (eqb r n) (min 4294967295 (suc k)) k (λ e. omega arith) (λ e. h)

counters_fit : (ss : List Step) (c : Counters) → CountersFit c → CountersFit (tallied c ss)
unfolding tallied counted
counters_fit [] c h = h
counters_fit (s ∷ ss) c h =
    counters_fit ss (counted s.rule c)
    (counter_fits 7 (rule_number s.rule) c.commits h.0, counter_fits 6 (rule_number s.rule) c.failed h.1, counter_fits 5 (rule_number s.rule) c.retries h.2)

line_fits : (ts : List Term) → GoodTable ts → (c : Component) → ComponentOk ts c → Bytes (line_numbers c)
unfolding ComponentOk
line_fits ts g (idle (taking n a P)) ok = let h = found_below ts n _ ok in let f = g.few in (omega arith, tt)
line_fits ts g (idle (repeating n a P)) ok = let h = found_below ts n _ ok in let f = g.few in (omega arith, tt)
line_fits ts g (idle (block n M)) ok = let h = found_below ts n _ ok in let f = g.few in (omega arith, tt)
line_fits ts g (idle (output a)) ok = (omega arith, tt)
line_fits ts g (transaction n M s t) ok =
    let h = found_below ts n _ ok.0 in
    let f = g.few in
    let b = few_nodes t in
    let e = ok.3 in (omega arith, (omega arith, tt))

pub printed_numbers_fit : PrintedNumbersFit
unfolding PrintedNumbersFit TableNumbers RunNumbers fresh_counters
printed_numbers_fit = (
  λ table n p l e. let h = refused_fits table n p (((table_numbers table).0 n p).0 e) in omega arith,
  λ table choices t accepts l.
      let good = accepted_is_good table t accepts.1 in
      let w = opening_is_well_formed table t accepts.0 accepts.1 in
      let a = run (opening t) fresh_counters choices in
      let stops = run_numbers table t accepts (opening t) w fresh_counters choices in
      let tells = run_tells (opening t) fresh_counters choices in
      let last : WellFormed t.terms a.configuration =
      runs_keep (WellFormed t.terms) (λ h e r g v q. well_formed_step e good v q) tells.0 w in
      record {
        number = stop_fits a.configuration a.number _ stops.reason;
        place = le_trans stops.inside_bytes l;
        done = le_trans (le_trans stops.as_many (few_entries choices)) l;
        counters = rw tells.1 (counters_fit _ fresh_counters (omega arith));
        first_counts = w.channel_counts;
        last_counts = last.channel_counts;
        each = all_weaken _ _ (line_fits t.terms good) a.configuration.components last.each;
      },
)
