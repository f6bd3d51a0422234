-- A suggestion: which entries need to be looked at, and what the looks come to.
-- Assumes nothing.
use Rattle.std.specs.Prelude as std
use Rattle.std.specs.Prelude.{Some, None, is_some, Result, Ok, Err, is_ok}
use Prim.Native.Nat.{ℕ, suc, ◌+◌, ◌-◌, ◌≤◌, ◌<◌}
use native.Mathlib.Omega.{arith}
use mathlib.Core.Path.{◌≡◌, refl, sym, ◌∙◌}
use mathlib.Core.Bool.{Bool, true, false}
use mathlib.Core.Option.{Option, none, some}
use mathlib.Core.List.{List, map}
use lib.ListN.{length, get_or, get_elem?}
use Rattle.semantics.specs.Definitions.Layout.{max_byte}
use Rattle.semantics.specs.Definitions.Basics.{count_up}
use Rattle.semantics.specs.Definitions.Terms.{Term}
use Rattle.semantics.specs.Definitions.Configuration.{Component, idle, transaction, Configuration, nodes}
use Rattle.semantics.specs.Definitions.Moves as moves
use Rattle.semantics.specs.Definitions.Moves.{act, inside, inside_answer, acts_inside, EntryAnswer, does, refuses, moved_by, refused_by, apply_at, at_position, entry_answer, transition_of, transition, as_reply, is_moved, is_accepted}
use Rattle.semantics.specs.Definitions.Stored.{ComponentOk}
use Rattle.semantics.specs.Definitions.Suggestion.{entries_below, first_accepted}
use Rattle.theorems.proofs.FirstElements.{passes_alone, fails_alone, none_yet, next_decides, next_found, none_kept, none_below}
use Rattle.theorems.proofs.Suggestions.{nodes_grow, positions_grow, act_found, act_passed, none_at}
use Rattle.hall_layout.specs.Layout.{transaction_kind, max_nodes}
use Rattle.hall_laws.proofs.Nodes.{few_nodes, beyond_nodes, move_at_past}
use Rattle.answers.specs.declared.refusals.Reason.{Reason}
use Rattle.answers.specs.declared.replies.Move.{Move}
use Rattle.answers.specs.Answers.{reply_of, entry_of}
use Rattle.hall_held.specs.Holds.{Holds, Running}
use Rattle.hall_held.specs.Choices.{EntryLooked}
use Rattle.hall_held.proofs.Holds.{component_ok}
use Rattle.answers.specs.declared.choices.Entry.{Entry}
use Rattle.answers.specs.declared.choices.Entry.TheVariants as entry
use Rattle.choice_act.proofs.Occupancy.{kind_inside, nothing_read}
use Rattle.choice_act.proofs.ActReplies.{nothing_looked}
use Rattle.choice_inner.proofs.InsideReplies.{inside_past, inside_idle}
use Rattle.choice_suggest.specs.Suggestions.{Always, first_in, FirstFound, FirstFoundAt, FirstFoundInside}

-- ---- a look and its answer

reply_tells : (a : EntryAnswer) (r : Result Move Reason) → reply_of r ≡ as_reply a → is_moved (transition_of a) ≡ is_ok r
unfolding reply_of as_reply is_moved transition_of
reply_tells (does r v g) (Ok m) e = refl
reply_tells (does r v g) (Err m) e = let z : ◌≡◌ {A = ℕ} 0 1 = cc in absurd (omega arith)
reply_tells (refuses k) (Ok m) e = let z : ◌≡◌ {A = ℕ} 0 1 = cc in absurd (omega arith)
reply_tells (refuses k) (Err m) e = refl

-- an entry is accepted where its look answers a move
looked_tells : {d s starts : List ℕ} {n : ℕ} {e : moves.Entry} {r : Result Move Reason} → EntryLooked d s starts n e r →
    Always d s starts n (λ h. is_accepted h e ≡ is_ok r)
unfolding is_accepted transition
looked_tells {e = e} {r} l ts h y x = reply_tells (entry_answer h e) r (l.found ts h y x)

-- ---- entries that need no look

-- of kind 2, past the last node that a tree of so few branches has
refused_beyond : {ts : List Term} {h : Configuration} {s starts : List ℕ} {n : ℕ} → Holds ts h s starts n → (p k : ℕ) →
    max_nodes ≤ k → is_accepted h (inside p k) ≡ false
unfolding is_accepted is_moved transition transition_of entry_answer at_position apply_at acts_inside inside_answer ComponentOk
refused_beyond {h = h} x p k l = go (get_elem? h.components p) refl
  where
    go : (o : Option Component) → get_elem? h.components p ≡ o → is_accepted h (inside p k) ≡ false
    go none e = rw e refl
    go (some (idle c)) e = rw e refl
    go (some (transaction m M σ t)) e =
        let few = (component_ok x p (transaction m M σ t) e).3 in
        let count = few_nodes t in
        let z : nodes t + (k - nodes t) ≡ k = omega arith in
        let past = rw z at (beyond_nodes t (k - nodes t)) in
        rw (e, move_at_past σ t k (k - nodes t) past) refl

module _ {d s starts : List ℕ} {n p : ℕ} where
  -- of kind 2, where no transaction is open
  idle_inside_quiet : p < n → (get_or s (get_or starts p 0) 0 ≡ transaction_kind → ⊥) → FirstFoundInside d s starts n p None
  idle_inside_quiet l other = record {
    found = λ ts h y x. none_below (is_accepted h) (nodes_grow p) (suc max_byte)
        (λ k b. fails_alone (is_accepted h) (inside p k) (looked_tells (inside_idle l other) ts h y x));
  }

  -- at a position past the last component
  behind_quiet : n ≤ p → FirstFoundAt d s starts n p None
  behind_quiet l = record {
    found = λ ts h y x. none_at h p (record {
      outside = looked_tells (nothing_looked (nothing_read l) refl) ts h y x;
      within = λ k b. looked_tells (inside_past l) ts h y x;
    });
  }

-- the next number, as the code has it
after : (k : ℕ) → k + 1 ≡ suc k
after k = omega arith

-- ---- the nodes of a transaction, the lowest first

-- no entry of kind 2 is accepted at a position and a node below k
pub record NoneBelow (d s starts : List ℕ) (n p k : ℕ) : Type 0 where
  pub found : Always d s starts n (λ h. first_in (map (inside p) (count_up 0 k)) h ≡ none)

module _ {d s starts : List ℕ} {n p : ℕ} where
  pub no_node_yet : {k : ℕ} → k ≡ 0 → NoneBelow d s starts n p k
  no_node_yet z = record { found = λ ts h y x. rw z (none_yet (is_accepted h) (nodes_grow p)) }

  pub next_node : {k : ℕ} {r : Result Move Reason} {b : Bool} → NoneBelow d s starts n p k →
      EntryLooked d s starts n (inside p k) r → b ≡ is_ok r → b ≡ false → NoneBelow d s starts n p (k + 1)
  next_node {k} below l b q = record {
    found = λ ts h y x.
        rw (after k)
        (next_decides (is_accepted h) (nodes_grow p) k none (below.found ts h y x)
        (fails_alone (is_accepted h) (inside p k) (looked_tells l ts h y x ∙ sym b ∙ q)));
  }

  pub inside_suggested : {k : ℕ} {r : Result Move Reason} {b : Bool} → NoneBelow d s starts n p k →
      EntryLooked d s starts n (inside p k) r → b ≡ is_ok r → b ≡ true → k < max_nodes →
      FirstFoundInside d s starts n p (Some (entry.Inside p k))
  inside_suggested {k} below l b q c = record {
    found = λ ts h y x.
        next_found (is_accepted h) (nodes_grow p) k (suc max_byte) (inside p k) (omega arith) (below.found ts h y x)
        (passes_alone (is_accepted h) (inside p k) (looked_tells l ts h y x ∙ sym b ∙ q));
  }

  pub nodes_quiet : {k : ℕ} → NoneBelow d s starts n p k → k ≤ max_nodes → max_nodes ≤ k → FirstFoundInside d s starts n p None
  nodes_quiet {k} b c l = record {
    found = λ ts h y x.
        none_kept (is_accepted h) (nodes_grow p) k (suc max_byte) (omega arith) (b.found ts h y x)
        (λ i m o. fails_alone (is_accepted h) (inside p i) (refused_beyond x p i (omega arith)));
  }

-- ---- the entries at a position

-- i is the position as the code has it
pub kind_inside_at : {d s starts : List ℕ} {n i p : ℕ} → Running d s starts n → p < n → i ≡ p → get_or starts i 0 < length s
kind_inside_at x l e = kind_inside x (rw e l)

module _ {d s starts : List ℕ} {n p : ℕ} {r : Result Move Reason} (l : EntryLooked d s starts n (act p) r) {b : Bool} (told : b ≡ is_ok r) where
  pub act_suggested : b ≡ true → FirstFoundAt d s starts n p (Some (entry.Act p))
  act_suggested q = record {
    found = λ ts h y x. act_found h (suc max_byte) p (looked_tells l ts h y x ∙ sym told ∙ q);
  }

  pub inside_at : {a : std.Option Entry} → FirstFoundInside d s starts n p a → b ≡ false → FirstFoundAt d s starts n p a
  inside_at f q = record {
    found = λ ts h y x. act_passed h (suc max_byte) p (looked_tells l ts h y x ∙ sym told ∙ q) ∙ f.found ts h y x;
  }

  -- i is the position as the code has it
  pub idle_quiet : {i : ℕ} → b ≡ false → Running d s starts n × (p < n) → i ≡ p →
      (get_or s (get_or starts i 0) 0 ≡ transaction_kind → ⊥) → FirstFoundAt d s starts n p None
  idle_quiet q x same other = inside_at (idle_inside_quiet x.1 (λ z. other (rw same z))) q

-- ---- the positions, the lowest first

few_positions : {d s starts : List ℕ} {n : ℕ} → Running d s starts n → n ≤ max_byte
few_positions c = let few = c.holds.form.few in let same = c.holds.counted in omega arith

none_there : (a : std.Option Entry) → is_some a ≡ false → a ≡ None
none_there (Some e) q = absurd (let z : ◌≡◌ {A = ℕ} 0 1 = cc in omega arith)
none_there None q = refl

-- no entry is accepted at a position below p
pub record QuietBelow (d s starts : List ℕ) (n p : ℕ) : Type 0 where
  pub found : Always d s starts n (λ h. first_in (entries_below (suc max_byte) p) h ≡ none)

module _ {d s starts : List ℕ} {n : ℕ} where
  pub no_position_yet : {p : ℕ} → p ≡ 0 → QuietBelow d s starts n p
  no_position_yet z = record { found = λ ts h y x. rw z (none_yet (is_accepted h) (positions_grow (suc max_byte))) }

  pub next_position : {p : ℕ} {a : std.Option Entry} {b : Bool} → QuietBelow d s starts n p → FirstFoundAt d s starts n p a →
      b ≡ is_some a → b ≡ false → QuietBelow d s starts n (p + 1)
  next_position {p} {a} below f told q =
      let g = rw (none_there a (sym told ∙ q)) at f in
      record {
        found = λ ts h y x.
            rw (after p)
            (next_decides (is_accepted h) (positions_grow (suc max_byte)) p none (below.found ts h y x) (g.found ts h y x));
      }

  pub position_suggested : {p : ℕ} {a : std.Option Entry} {b : Bool} → QuietBelow d s starts n p → FirstFoundAt d s starts n p a →
      b ≡ is_some a → b ≡ true → Running d s starts n → p < n → FirstFound d s starts n a
  unfolding first_accepted
  position_suggested {p} {a} below f told q c l = go a f (sym told ∙ q)
    where
      go : (o : std.Option Entry) → FirstFoundAt d s starts n p o → is_some o ≡ true → FirstFound d s starts n o
      go (Some e) g t =
          let few = few_positions c in
          record {
            found = λ ts h y x.
                next_found (is_accepted h) (positions_grow (suc max_byte)) p (suc max_byte) (entry_of e) (omega arith)
                (below.found ts h y x) (g.found ts h y x);
          }
      go None g t = absurd (let z : ◌≡◌ {A = ℕ} 0 1 = cc in omega arith)

  pub all_quiet : {p : ℕ} → QuietBelow d s starts n p → n ≤ p → Running d s starts n → p ≤ n → FirstFound d s starts n None
  unfolding first_accepted
  all_quiet {p} b l c m = record {
    found = λ ts h y x.
        let few = few_positions c in
        none_kept (is_accepted h) (positions_grow (suc max_byte)) p (suc max_byte) (omega arith) (b.found ts h y x)
        (λ q k o. (behind_quiet (omega arith)).found ts h y x);
  }
