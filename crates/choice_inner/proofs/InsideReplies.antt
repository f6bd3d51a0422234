-- Entries of kind 2: how their node is found, and that a look's answer is the entry's.
--
-- p is the position as the code has it, and q the same as the entry has it.
-- Assumes nothing.
use Rattle.std.specs.Prelude.{Option, Some, None, Result, Ok, Err}
use Rattle.std.specs.Option.{ok_or}
use Prim.Native.Nat.{ℕ, ◌+◌, ◌≤◌, ◌<◌}
use native.Mathlib.Omega.{arith}
use mathlib.Core.Path.{◌≡◌, refl, sym, ◌∙◌}
use mathlib.Core.Option.{some}
use mathlib.Core.List.{List}
use lib.ListN.{length, get_or, get_elem?}
use mir.Syntax.{w64}
use mir.Val.{Fits}
use Rattle.semantics.specs.Definitions.Terms.{Term}
use Rattle.semantics.specs.Definitions.Configuration.{Component, idle, transaction, Configuration}
use Rattle.semantics.specs.Definitions.Stored.{component_bytes}
use Rattle.semantics.specs.Definitions.Moves.{inside, acts_inside, at_position, apply_at, entry_answer, as_reply}
use Rattle.hall_layout.specs.Layout.{transaction_kind, transaction_head, idle_size, index_size}
use Rattle.hall_layout.specs.Nodes.{node_start}
use Rattle.answers.specs.declared.refusals.Reason.{Reason}
use Rattle.answers.specs.declared.refusals.Reason.TheVariants.{NoComponent, WrongComponent, NoNode}
use Rattle.answers.specs.declared.replies.Move.{Move}
use Rattle.answers.specs.Answers.{reason_number, reply_of}
use Rattle.hall_held.specs.Holds.{Holds, Running}
use Rattle.hall_held.specs.Choices.{EntryLooked}
use Rattle.hall_held.proofs.AcceptedActs.{held_position}
use Rattle.hall_held.proofs.Holds.{hall_length, component_at, no_component, kind_here}
use Rattle.move_inside.specs.FoundMoves.{CanReadRule, RuleFound}
use Rattle.move_inside.specs.MadeMoves.{CanMoveNode}
use Rattle.move_inside.proofs.NodeReplies.{SomeTransactionAt, NodeReplied, some_transaction_inside, search_missing, search_read}
use Rattle.move_inside.proofs.RedexMoves as transactions
use Rattle.move_inside.proofs.RedexMoves.{held}
use Rattle.choice_act.proofs.Occupancy.{kind_inside}
use Rattle.choice_inner.specs.NodeLookups.{CanFindNode, NodeBegins, NodeFound}

-- at a transaction
find_held : {d s starts : List ℕ} {n p : ℕ} → p < n → get_or s (get_or starts p 0) 0 ≡ transaction_kind → Running d s starts n →
    SomeTransactionAt d s (get_or starts p 0)
find_held {starts = starts} {n = n} {p = p} l t x = record {
  terms = x.terms;
  configuration = x.configuration;
  starts = starts;
  components = n;
  position = p;
  there = record { decoded = x.decoded; holds = x.holds; there = l; begins = refl; kind = t };
}

-- what a run holds is all that is asked to find a node
pub can_find_node : {d s starts : List ℕ} {n : ℕ} → Running d s starts n → CanFindNode s starts n
can_find_node {d} x = record { decoded = d; running = x }

module _ {d s starts : List ℕ} {n k : ℕ} where
  -- refusal 14 before refusal 15
  pub inside_past : {p : ℕ} → n ≤ p → EntryLooked d s starts n (inside p k) (Err NoComponent)
  unfolding entry_answer at_position as_reply reason_number reply_of
  inside_past {p} l = record { found = λ ts h y x. rw (no_component x p l) refl }

  pub inside_idle : {p : ℕ} → p < n → (get_or s (get_or starts p 0) 0 ≡ transaction_kind → ⊥) →
      EntryLooked d s starts n (inside p k) (Err WrongComponent)
  unfolding entry_answer at_position apply_at acts_inside component_bytes as_reply reason_number reply_of
  inside_idle {p} l other = record { found = λ ts h y x. let (c, there) = component_at x p l in go ts h x c there }
    where
      go : (ts : List Term) (h : Configuration) → Holds ts h s starts n → (c : Component) →
          get_elem? h.components p ≡ some c →
          reply_of (Err WrongComponent) ≡ as_reply (entry_answer h (inside p k))
      go ts h x (idle c) there = rw there refl
      go ts h x (transaction m M σ t) there = absurd (other (kind_here x p (transaction m M σ t) there))

  module _ {p : ℕ} (l : p < n) (t : get_or s (get_or starts p 0) 0 ≡ transaction_kind) where
    pub find_looked : {r : Result Move Reason} → NodeReplied d s (get_or starts p 0) k r → EntryLooked d s starts n (inside p k) r
    find_looked f = record {
      found = λ ts h y x.
          f.found ts h starts n p (record { decoded = y; holds = x; there = l; begins = refl; kind = t });
    }

-- ---- finding a node

module _ {s starts : List ℕ} {n p : ℕ} where
  module _ {k : ℕ} where
    pub found_past : n ≤ p → NodeFound s starts n p k (Err NoComponent)
    found_past l = record { found = λ d. inside_past l }

    pub found_idle : p < n → (get_or s (get_or starts p 0) 0 ≡ transaction_kind → ⊥) →
        NodeFound s starts n p k (Err WrongComponent)
    found_idle l other = record { found = λ d. inside_idle l other }

  module _ (x : CanFindNode s starts n) (l : p < n) where
    pub begin_inside : get_or starts p 0 < length s
    begin_inside = kind_inside x.running l

    module _ (t : get_or s (get_or starts p 0) 0 ≡ transaction_kind) where
      pub nodes_inside : get_or starts p 0 + transaction_head ≤ length s
      nodes_inside = some_transaction_inside x.decoded s (get_or starts p 0) (find_held l t x.running)

      pub nodes_fit : Fits w64 (get_or starts p 0 + transaction_head)
      nodes_fit = let i = nodes_inside in let z = hall_length x.running.holds in record { fits = omega arith }

  module _ (l : p < n) (t : get_or s (get_or starts p 0) 0 ≡ transaction_kind) (k : ℕ) {place : Option ℕ}
      (f : place ≡ node_start s (get_or starts p 0 + transaction_head) k) where
    pub found_there : {r : Result ℕ Reason} → r ≡ ok_or place NoNode → NodeFound s starts n p k r
    found_there e = rw e (go place refl)
      where
        go : (o : Option ℕ) → place ≡ o → NodeFound s starts n p k (ok_or o NoNode)
        go (Some at) g = record { found = record { there = l; kind = t; place = sym f ∙ g } }
        go None g = record { found = λ d. find_looked l t (search_missing d s (get_or starts p 0) k place f g) }

-- ---- what was found

module _ {s starts : List ℕ} {n p k : ℕ} {r : Result ℕ Reason} (f : NodeFound s starts n p k r) where
  pub refused_there : {m : Reason} → r ≡ Err m → {d : List ℕ} {q : ℕ} → p ≡ q → EntryLooked d s starts n (inside q k) (Err m)
  refused_there is {d} e = let g = rw is at f in rw (← e) (g.found d)

  module _ {at : ℕ} (is : r ≡ Ok at) where
    pub node_there : NodeBegins s starts n p k at
    node_there = let g = rw is at f in g.found

    pub node_position : {d : List ℕ} → Running d s starts n → p < index_size
    node_position x = held_position x.holds p node_there.there

    module _ {d : List ℕ} where
      pub can_move_node : Running d s starts n → CanMoveNode d s starts n p at
      can_move_node x =
          let g = node_there in
          record {
            terms = x.terms;
            configuration = x.configuration;
            node = k;
            there = record { decoded = x.decoded; holds = x.holds; there = g.there; begins = refl; kind = g.kind };
            place = g.place;
          }

      -- what a look at it asks
      pub can_read_rule : Running d s starts n → CanReadRule d s (get_or starts p 0 + idle_size) at
      can_read_rule x = held d s starts n p at (can_move_node x)

      pub snapshot_fits : Running d s starts n → Fits w64 (get_or starts p 0 + idle_size)
      snapshot_fits x = transactions.snapshot_fits d s starts n p at (can_move_node x)

      pub node_looked : {q : ℕ} {a : Result Move Reason} → RuleFound d s (get_or starts p 0 + idle_size) at a → p ≡ q →
          EntryLooked d s starts n (inside q k) a
      node_looked read e =
          let g = node_there in
          rw (← e) (find_looked g.there g.kind (search_read d s (get_or starts p 0) k (Some at) (sym g.place) refl read))
