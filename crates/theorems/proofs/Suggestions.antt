-- A suggestion is the first accepted entry and no other, whichever kind is looked at first; where there is none, nothing
-- runs. The claims of specs/Claims/Suggestions.
-- Assumes nothing.
use Prim.Native.Nat.{ℕ, zero, suc, ◌≤◌, ◌<◌}
use native.Mathlib.Omega.{arith}
use mathlib.Core.Path.{◌≡◌, refl, sym, ap, ap₂, subst, ◌∙◌}
use mathlib.Core.Logic.{◌↔◌}
use mathlib.Core.Bool.{Bool, true, false, cond, false≢true}
use mathlib.Core.Option.{Option, none, some}
use mathlib.Core.List.{List, [], ◌∷◌, ◌++◌, map, flatten}
use lib.ListN.{get_elem?}
use Rattle.calculus.specs.Syntax.{Log, State}
use Rattle.calculus.specs.Reduction.{Rule}
use Rattle.semantics.specs.Definitions.Layout.{max_byte}
use Rattle.semantics.specs.Definitions.Basics.{Bytes, count_up, first_of}
use Rattle.semantics.specs.Definitions.Terms.{Expression, end_t, retry_t, rd_t, wt_t, or_else_t}
use Rattle.semantics.specs.Definitions.Table.{Table}
use Rattle.semantics.specs.Definitions.Configuration.{Component, idle, transaction, leaf, fork, Configuration}
use Rattle.semantics.specs.Definitions.Moves.{Entry, act, inside, Transition, moved, refused, transition, at_position, apply_at, acts, acts_inside, ends, no_rule, move_at, inside_answer, at_leaf, is_moved, is_accepted}
use Rattle.semantics.specs.Definitions.Run.{Counters, schedule, entry_bytes, InBytes, RunAnswer, continue_run, run_from, run, Quiescent}
use Rattle.semantics.specs.Definitions.Calls.{rejected, check_hall, admission_verdict, Admission, admitted, not_admitted, admission, Buffers, run_result, run_admitted, run_call}
use Rattle.semantics.specs.Definitions.Suggestion.{entries_at, entries_below, first_accepted, SuggestAnswer, suggested, still, not_suggested, suggest_found, suggest_admitted, suggest_call}
use Rattle.semantics.specs.Checks.StatedSuggestions.{NoneAt, AnswerAsStated, act_first, inside_first, none_accepted, not_admitted_holds, SuggestionAsStated}
use Rattle.semantics.specs.Claims.Suggestions.{position_of, Before, lower_position, lower_node, FirstDone, SuggestedIsFirst, KindsApart, KindsInEitherOrder, StillIsQuiescent, StillRunsNone, RefusedAsChecked}
use Rattle.theorems.proofs.FirstElements.{Growing, mapped_grows, blocks_grow, first_some, first_alone, first_of_both, passes_alone, fails_alone, alone_passes, alone_fails, none_below, none_in, first_block, found_in}

-- ---- the kinds

not_both : {b : Bool} → b ≡ true → b ≡ false → ⊥
not_both e f = false≢true (sym f ∙ e)

module _ (h : Configuration) (p : ℕ) where
  -- at an attempt of one leaf without a rule no entry of kind 2 is accepted
  leaf_settled : (n : ℕ) (M N : Expression) (s : State) (δ : Log) →
      get_elem? h.components p ≡ some (transaction n M s (leaf N δ)) → at_leaf s N δ ≡ no_rule →
      (k : ℕ) → is_accepted h (inside p k) ≡ false
  unfolding is_accepted is_moved transition at_position apply_at acts_inside move_at inside_answer
  leaf_settled n M N s δ e q zero = rw (e, q) refl
  leaf_settled n M N s δ e q (suc k) = rw e refl

-- kind 1 is accepted of what waits or puts, and of an attempt that is one end or retry leaf; kind 2 of neither
act_excludes : (h : Configuration) (p k : ℕ) → is_accepted h (act p) ≡ true → is_accepted h (inside p k) ≡ false
unfolding is_accepted is_moved transition at_position apply_at acts ends acts_inside move_at inside_answer at_leaf
act_excludes h p k a = go (get_elem? h.components p) refl a
  where
    go : (o : Option Component) → get_elem? h.components p ≡ o → is_accepted h (act p) ≡ true → is_accepted h (inside p k) ≡ false
    go none e a = rw e refl
    go (some (idle c)) e a = rw e refl
    go (some (transaction n M s (leaf (end_t m) δ))) e a = leaf_settled h p n M (end_t m) s δ e refl k
    go (some (transaction n M s (leaf (retry_t m) δ))) e a = leaf_settled h p n M (retry_t m) s δ e refl k
    go (some (transaction n M s (leaf (rd_t m b N) δ))) e a = absurd (not_both a (rw e refl))
    go (some (transaction n M s (leaf (wt_t m b N) δ))) e a = absurd (not_both a (rw e refl))
    go (some (transaction n M s (leaf (or_else_t m N N') δ))) e a = absurd (not_both a (rw e refl))
    go (some (transaction n M s (fork l r))) e a = absurd (not_both a (rw e refl))

pub kinds_apart : KindsApart
unfolding KindsApart is_accepted is_moved
kinds_apart h f g p k r s q w = not_both (ap is_moved w) (act_excludes h p k (ap is_moved q))

-- ---- the first accepted entry

-- the nodes of a position, and the positions
pub nodes_grow : (p : ℕ) → Growing (λ n. map (inside p) (count_up 0 n)) (λ k. inside p k ∷ [])
nodes_grow p = mapped_grows (inside p)

pub positions_grow : (n : ℕ) → Growing (entries_below n) (entries_at n)
unfolding entries_below
positions_grow n = blocks_grow (entries_at n)

module _ (h : Configuration) where
  -- at a position: kind 1, or else the first node
  pub act_found : (n p : ℕ) → is_accepted h (act p) ≡ true → first_of (is_accepted h) (entries_at n p) ≡ some (act p)
  unfolding entries_at first_of
  act_found n p e = rw e refl

  pub act_passed : (n p : ℕ) → is_accepted h (act p) ≡ false →
      first_of (is_accepted h) (entries_at n p) ≡ first_of (is_accepted h) (map (inside p) (count_up 0 n))
  unfolding entries_at first_of
  act_passed n p e = rw e refl

  -- nothing in bytes is accepted at a position
  pub record QuietAt (p : ℕ) : Type 0 where
    pub outside : is_accepted h (act p) ≡ false
    pub within : (k : ℕ) → k ≤ max_byte → is_accepted h (inside p k) ≡ false

  pub none_at : (p : ℕ) → QuietAt p → first_of (is_accepted h) (entries_at (suc max_byte) p) ≡ none
  none_at p q =
      act_passed (suc max_byte) p q.outside
      ∙ none_below (is_accepted h) (nodes_grow p) (suc max_byte)
      (λ k l. fails_alone (is_accepted h) (inside p k) (q.within k (omega arith)))

  quiet_at : (p : ℕ) → first_of (is_accepted h) (entries_at (suc max_byte) p) ≡ none → QuietAt p
  quiet_at p e = go (is_accepted h (act p)) refl
    where
      go : (b : Bool) → is_accepted h (act p) ≡ b → QuietAt p
      go true z = absurd (let y = act_found (suc max_byte) p z in let z : ◌≡◌ {A = ℕ} 0 1 = cc in omega arith)
      go false z = record {
        outside = z;
        within =
            λ k l. alone_fails (is_accepted h) (inside p k)
            (none_in (is_accepted h) (nodes_grow p) (suc max_byte) (sym (act_passed (suc max_byte) p z) ∙ e) k (omega arith));
      }

-- ---- it is the first

-- an entry in bytes that is accepted, and none before it is
record IsFirst (h : Configuration) (e : Entry) : Type 0 where
  in_bytes : InBytes e
  accepted : is_accepted h e ≡ true
  none_before : (d : Entry) → InBytes d → Before d e → is_accepted h d ≡ false

position_in_bytes : (d : Entry) → InBytes d → position_of d ≤ max_byte
unfolding InBytes
position_in_bytes (act p) b = b
position_in_bytes (inside p k) b = b.0

module _ (h : Configuration) where
  -- an entry at a quiet position
  quiet_entry : (d : Entry) → InBytes d → QuietAt h (position_of d) → is_accepted h d ≡ false
  unfolding InBytes
  quiet_entry (act p) b q = q.outside
  quiet_entry (inside p k) b q = q.within k b.1

  -- where every lower position is quiet, and every lower node, no entry before is accepted
  refused_before : {d e : Entry} → Before d e → InBytes d → ((q : ℕ) → q < position_of e → QuietAt h q) →
      ((p j k : ℕ) → e ≡ inside p k → j < k → is_accepted h (inside p j) ≡ false) → is_accepted h d ≡ false
  refused_before (lower_position {d} l) b quiet lower = quiet_entry d b (quiet (position_of d) l)
  refused_before (lower_node {p} {j} {k} l) b quiet lower = lower p j k refl l

  -- an entry before which all is quiet
  first_act : (p : ℕ) → p ≤ max_byte → ((q : ℕ) → q < p → QuietAt h q) → is_accepted h (act p) ≡ true →
      IsFirst h (act p)
  unfolding InBytes
  first_act p l quiet z = record {
    in_bytes = l;
    accepted = z;
    none_before = λ d b o. refused_before o b quiet (λ p j k e. absurd (let z : ◌≡◌ {A = ℕ} 0 1 = cc in omega arith));
  }

  first_inside : (p k : ℕ) → p ≤ max_byte → k ≤ max_byte → ((q : ℕ) → q < p → QuietAt h q) →
      is_accepted h (inside p k) ≡ true → ((j : ℕ) → j < k → is_accepted h (inside p j) ≡ false) → IsFirst h (inside p k)
  unfolding InBytes
  first_inside p k l m quiet z lower = record {
    in_bytes = (l, m);
    accepted = z;
    none_before = λ d b o. refused_before o b quiet at_lower;
  }
    where
      at_lower : (q j i : ℕ) → inside p k ≡ inside q i → j < i → is_accepted h (inside q j) ≡ false
      at_lower q j i e b =
          let y : p ≡ q = cc in let z : k ≡ i = cc in rw (← y) (lower j (omega arith))

  -- what is found is the first
  found_first : (e : Entry) → first_accepted h ≡ some e → IsFirst h e
  unfolding first_accepted
  found_first e q =
      let (p, l, here, below) = found_in (is_accepted h) (positions_grow (suc max_byte)) (suc max_byte) e q in
      go p l (λ i b. quiet_at h i (below i b)) (is_accepted h (act p)) refl here
    where
      go : (p : ℕ) → p < suc max_byte → ((q : ℕ) → q < p → QuietAt h q) → (b : Bool) → is_accepted h (act p) ≡ b →
          first_of (is_accepted h) (entries_at (suc max_byte) p) ≡ some e → IsFirst h e
      go p l quiet true z here =
          let y = act_found h (suc max_byte) p z in let same : act p ≡ e = cc in rw (← same) (first_act p (omega arith) quiet z)
      go p l quiet false z here =
          let (k, m, there, lower) =
          found_in (is_accepted h) (nodes_grow p) (suc max_byte) e (sym (act_passed h (suc max_byte) p z) ∙ here) in
          let (a, same) = alone_passes (is_accepted h) (inside p k) there in
          rw (← same) (first_inside p k (omega arith) (omega arith) quiet a (λ j b. alone_fails (is_accepted h) (inside p j) (lower j b)))

  -- and the first is found
  quiet_below : (e : Entry) → IsFirst h e → (q : ℕ) → q < position_of e → q ≤ max_byte → QuietAt h q
  unfolding InBytes
  quiet_below e f q l b = record {
    outside = f.none_before (act q) b (lower_position l);
    within = λ k m. f.none_before (inside q k) (b, m) (lower_position l);
  }

  first_found : (e : Entry) → IsFirst h e → first_accepted h ≡ some e
  unfolding first_accepted InBytes
  first_found (act p) f =
      first_block (is_accepted h) (positions_grow (suc max_byte)) (suc max_byte) p (act p) (let b = f.in_bytes in omega arith)
      (λ q l. none_at h q (quiet_below (act p) f q l (let b = f.in_bytes in omega arith)))
      (act_found h (suc max_byte) p f.accepted)
  first_found (inside p k) f =
      first_block (is_accepted h) (positions_grow (suc max_byte)) (suc max_byte) p (inside p k)
      (let b = f.in_bytes.0 in omega arith)
      (λ q l. none_at h q (quiet_below (inside p k) f q l (let b = f.in_bytes.0 in omega arith)))
      (act_passed h (suc max_byte) p (go (is_accepted h (act p)) refl)
      ∙ first_block (is_accepted h) (nodes_grow p) (suc max_byte) k (inside p k) (let b = f.in_bytes.1 in omega arith)
      (λ j l. fails_alone (is_accepted h) (inside p j)
      (f.none_before (inside p j) (f.in_bytes.0, let b = f.in_bytes.1 in omega arith) (lower_node l)))
      (passes_alone (is_accepted h) (inside p k) f.accepted))
    where
      go : (b : Bool) → is_accepted h (act p) ≡ b → is_accepted h (act p) ≡ false
      go true z = absurd (not_both f.accepted (act_excludes h p k z))
      go false z = z

  -- none is found exactly where none is accepted
  none_quiescent : first_accepted h ≡ none → Quiescent h
  unfolding first_accepted Quiescent
  none_quiescent q d b =
      let c = position_in_bytes d b in
      let none_there = none_in (is_accepted h) (positions_grow (suc max_byte)) (suc max_byte) q (position_of d) (omega arith) in
      quiet_entry d b (quiet_at h (position_of d) none_there)

  quiescent_none : Quiescent h → first_accepted h ≡ none
  unfolding first_accepted Quiescent InBytes
  quiescent_none q =
      none_below (is_accepted h) (positions_grow (suc max_byte)) (suc max_byte)
      (λ p l. none_at h p (record {
        outside = q (act p) (omega arith);
        within = λ k m. q (inside p k) (omega arith, m);
      }))

-- ---- in either order

module _ (h : Configuration) where
  -- at a position, kind 1 before kind 2 and behind it
  position_either : (n p : ℕ) → first_of (is_accepted h) (entries_at n p)
      ≡ first_of (is_accepted h) (map (inside p) (count_up 0 n) ++ (act p ∷ []))
  unfolding first_some
  position_either n p = go (is_accepted h (act p)) refl
    where
      whole : first_of (is_accepted h) (map (inside p) (count_up 0 n) ++ (act p ∷ []))
          ≡ first_some (first_of (is_accepted h) (map (inside p) (count_up 0 n))) (first_of (is_accepted h) (act p ∷ []))
      whole = first_of_both (is_accepted h) (map (inside p) (count_up 0 n)) (act p ∷ [])

      go : (b : Bool) → is_accepted h (act p) ≡ b →
          first_of (is_accepted h) (entries_at n p) ≡ first_of (is_accepted h) (map (inside p) (count_up 0 n) ++ (act p ∷ []))
      go true z =
          let none_inside = none_below (is_accepted h) (nodes_grow p) n (λ k l. fails_alone (is_accepted h) (inside p k) (act_excludes h p k z)) in
          act_found h n p z ∙ sym (whole ∙ rw (none_inside, passes_alone (is_accepted h) (act p) z) refl)
      go false z =
          act_passed h n p z
          ∙ sym (whole ∙ rw (fails_alone (is_accepted h) (act p) z) (first_alone (first_of (is_accepted h) (map (inside p) (count_up 0 n)))))

-- blocks with the same first have the same first together
same_first : {A : Type 0} (passes : A → Bool) (f g : ℕ → List A) → ((n : ℕ) → first_of passes (f n) ≡ first_of passes (g n)) →
    (ns : List ℕ) → first_of passes (flatten (map f ns)) ≡ first_of passes (flatten (map g ns))
unfolding flatten
same_first passes f g e [] = refl
same_first passes f g e (n ∷ ns) =
    first_of_both passes (f n) (flatten (map f ns))
    ∙ ap₂ first_some (e n) (same_first passes f g e ns)
    ∙ sym (first_of_both passes (g n) (flatten (map g ns)))

pub kinds_in_either_order : KindsInEitherOrder
unfolding KindsInEitherOrder first_accepted entries_below
kinds_in_either_order h =
    same_first (is_accepted h) (entries_at (suc max_byte)) (λ p. map (inside p) (count_up 0 (suc max_byte)) ++ (act p ∷ []))
    (position_either h (suc max_byte)) (count_up 0 (suc max_byte))

-- ---- what runs

module _ (h : Configuration) (c : Counters) where
  -- a run of one choice does one exactly where it is accepted
  answer_done : (a : Transition) (stopped : ℕ → RunAnswer) (next : Rule → Configuration → RunAnswer) →
      ((n : ℕ) → (stopped n).done ≡ 0) → ((r : Rule) (g : Configuration) → (next r g).done ≡ 1) →
      (continue_run a stopped next).done ≡ cond (is_moved a) 1 0
  unfolding continue_run is_moved
  answer_done (moved r g) stopped next z o = o r g
  answer_done (refused n) stopped next z o = z n

  -- so for the bytes of a choice
  entry_done : (e : Entry) → (run h c (entry_bytes e)).done ≡ cond (is_accepted h e) 1 0
  unfolding run run_from schedule entry_bytes is_accepted
  entry_done (act p) = answer_done (transition h (act p)) _ _ (λ n. refl) (λ r g. refl)
  entry_done (inside p k) = answer_done (transition h (inside p k)) _ _ (λ n. refl) (λ r g. refl)

  -- a run whose first choice is refused does nothing
  stops_at_once : (a : Transition) (stopped : ℕ → RunAnswer) (next : Rule → Configuration → RunAnswer) →
      ((n : ℕ) → (stopped n).done ≡ 0) → is_moved a ≡ false → (continue_run a stopped next).done ≡ 0
  unfolding continue_run is_moved
  stops_at_once (moved r g) stopped next z m = absurd (false≢true (sym m))
  stops_at_once (refused n) stopped next z m = z n

  -- where no choice in bytes is accepted, bytes do nothing
  nothing_done : Quiescent h → (bs : List ℕ) → Bytes bs → (run h c bs).done ≡ 0
  unfolding run run_from schedule Quiescent InBytes is_accepted
  nothing_done q [] b = refl
  nothing_done q (zero ∷ bs) b = refl
  nothing_done q (suc zero ∷ []) b = refl
  nothing_done q (suc zero ∷ p ∷ bs) b = stops_at_once (transition h (act p)) _ _ (λ n. refl) (q (act p) b.1.0)
  nothing_done q (suc (suc zero) ∷ []) b = refl
  nothing_done q (suc (suc zero) ∷ p ∷ []) b = refl
  nothing_done q (suc (suc zero) ∷ p ∷ k ∷ bs) b =
      stops_at_once (transition h (inside p k)) _ _ (λ n. refl) (q (inside p k) (b.1.0, b.1.1.0))
  nothing_done q (suc (suc (suc n)) ∷ bs) b = refl

-- ---- the call

-- what is found, told by the answer
suggest_some : (o : Option Entry) (e : Entry) → suggest_found o ≡ suggested e → o ≡ some e
unfolding suggest_found
suggest_some none e q = absurd (let z : ◌≡◌ {A = ℕ} 0 1 = cc in omega arith)
suggest_some (some d) e q = cc

suggest_none : (o : Option Entry) → suggest_found o ≡ still → o ≡ none
unfolding suggest_found
suggest_none none q = refl
suggest_none (some d) q = absurd (let z : ◌≡◌ {A = ℕ} 0 1 = cc in omega arith)

found_no_refusal : (o : Option Entry) {n p : ℕ} → suggest_found o ≡ not_suggested n p → ⊥
unfolding suggest_found
found_no_refusal none e = let x : ◌≡◌ {A = ℕ} 0 1 = cc in omega arith
found_no_refusal (some d) e = let x : ◌≡◌ {A = ℕ} 0 1 = cc in omega arith

module _ (table hall : List ℕ) where
  pub admitted_suggests : (t : Table) (h : Configuration) → admission table hall ≡ admitted t h →
      suggest_call table hall ≡ suggest_found (first_accepted h)
  unfolding suggest_call suggest_admitted
  admitted_suggests t h z = ap suggest_admitted z

  pub refused_suggests : (n p : ℕ) → admission table hall ≡ not_admitted n p → suggest_call table hall ≡ not_suggested n p
  unfolding suggest_call suggest_admitted
  refused_suggests n p z = ap suggest_admitted z

-- what a run of one choice does
accepted_done : (b : Bool) (n : ℕ) → n ≡ cond b 1 0 → (b ≡ true) ↔ (n ≡ 1)
accepted_done true n e = (λ _. e, λ _. refl)
accepted_done false n e = (λ z. absurd (false≢true z), λ z. absurd (omega arith))

refused_done : (b : Bool) (n : ℕ) → n ≡ cond b 1 0 → (b ≡ false) ↔ (n ≡ 0)
refused_done true n e = (λ z. absurd (false≢true (sym z)), λ z. absurd (omega arith))
refused_done false n e = (λ _. e, λ _. refl)

module _ (table : List ℕ) (l : Buffers) where
  call_done : (t : Table) (h : Configuration) → admission table l.hall ≡ admitted t h → (e : Entry) →
      (run_call table l (entry_bytes e)).done ≡ cond (is_accepted h e) 1 0
  unfolding run_call run_admitted run_result
  call_done t h z e = rw z (entry_done h l.counters e)

  call_refused : (n p : ℕ) → admission table l.hall ≡ not_admitted n p → (choices : List ℕ) →
      (run_call table l choices).done ≡ 0
  unfolding run_call run_admitted
  call_refused n p z choices = rw z refl

  first_done : (t : Table) (h : Configuration) → admission table l.hall ≡ admitted t h → (e : Entry) →
      IsFirst h e ↔ FirstDone table l e
  first_done t h z e = (
    λ f. record {
      in_bytes = f.in_bytes;
      done = (accepted_done _ _ (call_done t h z e)).0 f.accepted;
      none_before = λ d b o. (refused_done _ _ (call_done t h z d)).0 (f.none_before d b o);
    },
    λ f. record {
      in_bytes = f.in_bytes;
      accepted = (accepted_done _ _ (call_done t h z e)).1 f.done;
      none_before = λ d b o. (refused_done _ _ (call_done t h z d)).1 (f.none_before d b o);
    },
  )

pub suggested_is_first : SuggestedIsFirst
unfolding SuggestedIsFirst suggest_found
suggested_is_first table l e = go (admission table l.hall) refl
  where
    go : (a : Admission) → admission table l.hall ≡ a → (suggest_call table l.hall ≡ suggested e) ↔ FirstDone table l e
    go (admitted t h) z =
        let call = admitted_suggests table l.hall t h z in
        let done = first_done table l t h z e in (
          λ q. done.0 (found_first h e (suggest_some (first_accepted h) e (sym call ∙ q))),
          λ f. call ∙ ap suggest_found (first_found h e (done.1 f)),
        )
    go (not_admitted n p) z = (
      λ q. absurd (let y = refused_suggests table l.hall n p z in let x : ◌≡◌ {A = ℕ} 0 1 = cc in omega arith),
      λ f. absurd (let y = call_refused table l n p z (entry_bytes e) in let x = f.done in omega arith),
    )

pub still_is_quiescent : StillIsQuiescent
unfolding StillIsQuiescent suggest_found
still_is_quiescent table hall = go (admission table hall) refl
  where
    go : (a : Admission) → admission table hall ≡ a → (suggest_call table hall ≡ still) ↔
        ((t : Table) × (h : Configuration) × (admission table hall ≡ admitted t h) × Quiescent h)
    go (admitted t h) z =
        let call = admitted_suggests table hall t h z in (
          λ q. (t, h, z, none_quiescent h (suggest_none (first_accepted h) (sym call ∙ q))),
          λ (t', h', z', q). admitted_suggests table hall t' h' z' ∙ ap suggest_found (quiescent_none h' q),
        )
    go (not_admitted n p) z = (
      λ q. absurd (let y = refused_suggests table hall n p z in let x : ◌≡◌ {A = ℕ} 0 1 = cc in omega arith),
      λ (t, h, z', q). admitted_suggests table hall t h z' ∙ ap suggest_found (quiescent_none h q),
    )

pub still_runs_none : StillRunsNone
unfolding StillRunsNone StillIsQuiescent run_call run_admitted run_result
still_runs_none table l s choices b =
    let (t, h, z, q) = (still_is_quiescent table l.hall).0 s in
    rw z (nothing_done h l.counters q choices b)

pub refused_as_checked : RefusedAsChecked
unfolding RefusedAsChecked suggest_found check_hall admission_verdict
refused_as_checked table hall n p = go (admission table hall) refl
  where
    go : (a : Admission) → admission table hall ≡ a →
        (suggest_call table hall ≡ not_suggested n p) ↔ (admission_verdict a ≡ rejected n p)
    go (admitted t h) z = (
      λ e. absurd (found_no_refusal (first_accepted h) (sym (admitted_suggests table hall t h z) ∙ e)),
      λ e. absurd (let x : ◌≡◌ {A = ℕ} 0 1 = cc in omega arith),
    )
    go (not_admitted m q) z = let call = refused_suggests table hall m q z in (λ e. cc, λ e. cc)

-- ---- as stated

-- a choice that is never accepted is refused, and one that is accepted moves
never_moved : (a : Transition) → ((r : Rule) (g : Configuration) → a ≡ moved r g → ⊥) ↔ (is_moved a ≡ false)
unfolding is_moved
never_moved (moved r g) = (λ m. absurd (m r g refl), λ e. absurd (false≢true (sym e)))
never_moved (refused n) = (λ m. refl, λ e r g q. let z : ◌≡◌ {A = ℕ} 0 1 = cc in omega arith)

module _ (h : Configuration) where
  moves_accepted : (e : Entry) {r : Rule} {g : Configuration} → transition h e ≡ moved r g → is_accepted h e ≡ true
  unfolding is_accepted is_moved
  moves_accepted e q = ap is_moved q

  accepted_moves : (e : Entry) → is_accepted h e ≡ true → (r : Rule) × (g : Configuration) × (transition h e ≡ moved r g)
  unfolding is_accepted is_moved
  accepted_moves e m = go (transition h e) refl m
    where
      go : (a : Transition) → transition h e ≡ a → is_moved a ≡ true → (r : Rule) × (g : Configuration) × (transition h e ≡ moved r g)
      go (moved r g) q m = (r, g, q)
      go (refused n) q m = absurd (false≢true m)

  quiet_stated : (p : ℕ) → NoneAt h p ↔ QuietAt h p
  unfolding is_accepted
  quiet_stated p = (
    λ n. record {
      outside = (never_moved (transition h (act p))).0 n.no_act;
      within = λ k l. (never_moved (transition h (inside p k))).0 (n.no_inside k l);
    },
    λ q. record {
      no_act = (never_moved (transition h (act p))).1 q.outside;
      no_inside = λ k l. (never_moved (transition h (inside p k))).1 (q.within k l);
    },
  )

module _ (table hall : List ℕ) where
  -- the first is suggested, as stated
  first_stated : (t : Table) (h : Configuration) → admission table hall ≡ admitted t h → (e : Entry) → IsFirst h e →
      AnswerAsStated table hall (suggested e)
  unfolding InBytes is_accepted
  first_stated t h z (act p) f =
      let b = f.in_bytes in
      let (r, g, q) = accepted_moves h (act p) f.accepted in
      act_first z b q (λ i l. (quiet_stated h i).1 (quiet_below h (act p) f i l (omega arith)))
  first_stated t h z (inside p k) f =
      let (b, c) = f.in_bytes in
      let (r, g, q) = accepted_moves h (inside p k) f.accepted in
      inside_first z b c q (λ i l. (quiet_stated h i).1 (quiet_below h (inside p k) f i l (omega arith)))
      (λ j l. (never_moved (transition h (inside p j))).1 (f.none_before (inside p j) (b, omega arith) (lower_node l)))

  found_stated : (t : Table) (h : Configuration) → admission table hall ≡ admitted t h → (o : Option Entry) →
      first_accepted h ≡ o → AnswerAsStated table hall (suggest_found o)
  unfolding suggest_found Quiescent InBytes
  found_stated t h z none q =
      let s = none_quiescent h q in
      none_accepted z (λ p b. (quiet_stated h p).1 (record {
        outside = s (act p) b;
        within = λ k l. s (inside p k) (b, l);
      }))
  found_stated t h z (some e) q = first_stated t h z e (found_first h e q)

  call_stated : AnswerAsStated table hall (suggest_call table hall)
  call_stated = go (admission table hall) refl
    where
      go : (a : Admission) → admission table hall ≡ a → AnswerAsStated table hall (suggest_call table hall)
      go (admitted t h) z =
          subst (AnswerAsStated table hall) (sym (admitted_suggests table hall t h z)) (found_stated t h z (first_accepted h) refl)
      go (not_admitted n p) z =
          subst (AnswerAsStated table hall) (sym (refused_suggests table hall n p z)) (not_admitted_holds z)

  -- and nothing else is
  stated_call : {a : SuggestAnswer} → AnswerAsStated table hall a → suggest_call table hall ≡ a
  unfolding suggest_found is_accepted Quiescent
  stated_call (act_first {t} {h} {p = p} z b q below) =
      admitted_suggests table hall t h z
      ∙ ap suggest_found (first_found h (act p)
      (first_act h p b (λ i l. (quiet_stated h i).0 (below i l)) (moves_accepted h (act p) q)))
  stated_call (inside_first {t} {h} {p = p} {k} z b c q below lower) =
      admitted_suggests table hall t h z
      ∙ ap suggest_found (first_found h (inside p k)
      (first_inside h p k b c (λ i l. (quiet_stated h i).0 (below i l))
      (moves_accepted h (inside p k) q) (λ j l. (never_moved (transition h (inside p j))).0 (lower j l))))
  stated_call (none_accepted {t} {h} z below) =
      admitted_suggests table hall t h z
      ∙ ap suggest_found (quiescent_none h (λ d b. quiet_entry h d b ((quiet_stated h (position_of d)).0 (below (position_of d) (position_in_bytes d b)))))
  stated_call (not_admitted_holds {n} {p} z) = refused_suggests table hall n p z

pub suggestion_as_stated : SuggestionAsStated
unfolding SuggestionAsStated
suggestion_as_stated table hall a =
    (λ q. subst (AnswerAsStated table hall) q (call_stated table hall), stated_call table hall)
