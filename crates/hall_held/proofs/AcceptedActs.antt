-- An entry that is accepted, by the number of its rule; an act taken apart at its position, and as one replacement of
-- what is held.
-- Assumes nothing.
use Prim.Native.Nat.{ℕ, ◌≤◌, ◌<◌}
use native.Mathlib.Omega.{arith}
use mathlib.Core.Path.{◌≡◌, refl, ap}
use mathlib.Core.Option.{some}
use mathlib.Core.List.{List}
use lib.ListN.{length, get_elem?}
use Rattle.calculus.specs.Reduction.{Rule}
use Rattle.semantics.specs.Definitions.Basics.{replace_at}
use Rattle.semantics.specs.Definitions.Layout.{max_components}
use Rattle.semantics.specs.Definitions.Shortage.{Shortage}
use Rattle.semantics.specs.Definitions.Terms.{Term}
use Rattle.semantics.specs.Definitions.Configuration.{Component, Configuration}
use Rattle.semantics.specs.Definitions.Moves.{Entry, act, acts, moves, EntryAnswer, does, refuses, entry_answer, moved, transition_of, transition, rule_number, moved_by, as_reply}
use Rattle.semantics.specs.Definitions.Stored.{WellFormed}
use Rattle.theorems.proofs.Lists.{length_replace_at}
use Rattle.theorems.proofs.Moves.{position_of, component_answer, accepted_inverts}
use Rattle.theorems.proofs.WellFormedKept.{well_formed_step}
use Rattle.hall_layout.specs.Layout.{index_size}
use Rattle.hall_laws.specs.Positions.{all_bytes}
use Rattle.hall_held.specs.Holds.{Holds, replaced_at, with_counts, Spaced, Replaces, CanReplace, Replaced}
use Rattle.hall_held.specs.Choices.{afterwards, AcceptedBy}
use Rattle.hall_held.proofs.Holds.{few_components, position_below}

-- ---- an entry that is accepted by a rule of number k

pub by_number : (h : Configuration) (e : Entry) (k : ℕ) (w : Shortage) → as_reply (entry_answer h e) ≡ moved_by k w → AcceptedBy h e k
unfolding as_reply transition transition_of
by_number h e k w q = go (entry_answer h e) refl q
  where
    go : (a : EntryAnswer) → entry_answer h e ≡ a → as_reply a ≡ moved_by k w → AcceptedBy h e k
    go (does r v g) f same = record { rule = r; result = g; answer = ap transition_of f; numbered = cc }
    go (refuses n) f same = let z : ◌≡◌ {A = ℕ} 0 1 = cc in absurd (omega arith)

-- an act: the component at its position, and the move of its own that it makes
pub record Acted (h : Configuration) (p k : ℕ) : Type 0 where
  pub rule : Rule
  pub result : Configuration
  pub answer : transition h (act p) ≡ moved rule result
  pub number : rule_number rule ≡ k
  pub component : Component
  pub found : get_elem? h.components p ≡ some component
  pub laid : List Component
  pub lacks : Shortage
  pub local : acts h.counts component ≡ moves rule lacks result.counts laid
  pub placed : result.components ≡ replace_at p laid h.components
  pub fits : length result.components ≤ max_components

pub acted : (h : Configuration) (p k : ℕ) → AcceptedBy h (act p) k → Acted h p k
unfolding position_of component_answer
acted h p k n =
    let m = accepted_inverts h (act p) n.rule n.result n.answer in
    record {
      rule = n.rule;
      result = n.result;
      answer = n.answer;
      number = n.numbered;
      component = m.component;
      found = m.found;
      laid = m.laid;
      lacks = m.lacks;
      local = m.local;
      placed = m.placed;
      fits = m.fits;
    }

-- ---- one replacement

-- at position p of what is held, components of the bytes `new` make it the configuration g
pub record Replacement (ts : List Term) (g : Configuration) (s starts : List ℕ) (n p : ℕ) (new : List ℕ) (pieces : ℕ) :
    Type 0 where
  pub from : Configuration
  pub successors : List Component
  pub replaces : Replaces ts from successors s starts n p new pieces
  pub makes : g ≡ replaced_at p successors from

module _ {ts : List Term} {g : Configuration} {s starts : List ℕ} {n p : ℕ} {new : List ℕ} {pieces : ℕ}
    (x : Replacement ts g s starts n p new pieces) where
  pub replacement_can : CanReplace s starts n p new pieces
  replacement_can = record { terms = ts; configuration = x.from; successors = x.successors; replaces = x.replaces }

  pub replacement_held : {s' starts' : List ℕ} {n' : ℕ} → Replaced s starts n p new pieces s' starts' n' →
      Holds ts g s' starts' n'
  replacement_held r = rw x.makes (r.found ts x.from x.successors x.replaces)

  -- by one component: there are as many as before
  pub replaced_by_one : pieces ≡ 1 → {s' starts' : List ℕ} {n' : ℕ} → Replaced s starts n p new pieces s' starts' n' →
      Holds ts g s' starts' n
  replaced_by_one one {n' = n'} r =
      let y = replacement_held r in
      let c = x.replaces.holds.counted in
      let l = x.replaces.there in
      let m = x.replaces.many in
      let after : n' ≡ length (replace_at p x.successors x.from.components) = rw x.makes at y.counted in
      let k = length_replace_at x.from.components x.successors p (rw c at l) in
      let same : n' ≡ n = omega arith in rw same at y

-- an act is one, once the counts are those that it leaves
pub acted_replacement : {h : Configuration} {p k : ℕ} (m : Acted h p k) {ts : List Term} {s t starts : List ℕ} {n : ℕ} →
    Holds ts h s starts n →
    Holds ts (with_counts m.result.counts h) t starts n → (new : List ℕ) (pieces : ℕ) → new ≡ all_bytes m.laid →
    pieces ≡ length m.laid → Spaced m.laid →
    Replacement ts (afterwards (transition h (act p)) h) t starts n p new pieces
unfolding afterwards
acted_replacement {h} {p} m {ts} x y new pieces b l e =
    let same : m.result ≡ replaced_at p m.laid (with_counts m.result.counts h) =
    ap (λ cs. record { counts = m.result.counts; components = cs }) m.placed in
    let form : WellFormed ts m.result = well_formed_step (act p) x.good x.form m.answer in
    record {
      from = with_counts m.result.counts h;
      successors = m.laid;
      replaces = record {
        holds = y;
        there = position_below x p m.component m.found;
        bytes = b;
        many = l;
        even = e;
        form = rw same at form;
      };
      makes = rw m.answer same;
    }

-- ---- the index

-- a position has an entry in it
pub held_position : {ts : List Term} {h : Configuration} {s starts : List ℕ} {n : ℕ} → Holds ts h s starts n →
    (p : ℕ) → p < n → p < index_size
held_position x p l = let f = few_components x in omega arith
