-- A move inside a transaction, taken apart: the node that moves, what it becomes, and the configuration afterwards.
-- Assumes nothing.
use Prim.Native.Nat.{ℕ}
use native.Mathlib.Omega.{arith}
use mathlib.Core.Path.{◌≡◌, refl, sym, ap, ◌∙◌}
use mathlib.Core.Option.{some}
use mathlib.Core.List.{List, [], ◌∷◌}
use lib.ListN.{get_elem?}
use Rattle.calculus.specs.Syntax.{State}
use Rattle.calculus.specs.Reduction.{Rule}
use Rattle.semantics.specs.Definitions.Basics.{replace_at}
use Rattle.semantics.specs.Definitions.Terms.{Expression, Term}
use Rattle.semantics.specs.Definitions.Shortage.{Shortage}
use Rattle.semantics.specs.Definitions.Configuration.{Tree, Component, idle, transaction, Configuration}
use Rattle.semantics.specs.Definitions.Stored.{WellFormed}
use Rattle.semantics.specs.Definitions.Moves.{moves, NodeAnswer, evolves, no_rule, out_of_range, move_at, inside_answer, acts_inside, inside, moved, transition, rule_number}
use Rattle.theorems.proofs.Moves.{position_of, component_answer, accepted_inverts}
use Rattle.theorems.proofs.WellFormedKept.{well_formed_step}
use Rattle.hall_laws.specs.Positions.{Context, plug, around}
use Rattle.hall_laws.proofs.Nodes.{move_at_node}
use Rattle.hall_held.specs.Holds.{replaced_at}
use Rattle.hall_held.specs.Choices.{afterwards}
use Rattle.hall_held.proofs.Holds.{NodeAt, node_found}
use Rattle.move_leaves.specs.Leaves.{TreeAt}
use Rattle.move_leaves.proofs.Leaves.{node_at}
use Rattle.move_inside.specs.MadeMoves.{NodeMovesBy}

pub record MoveInside (ts : List Term) (h : Configuration) (d s starts : List ℕ) (n p k rule at : ℕ) : Type 0 where
  pub block : ℕ
  pub body : Expression
  pub snapshot : State
  pub tree : Tree
  pub there : get_elem? h.components p ≡ some (transaction block body snapshot tree)
  pub context : Context
  pub subtree : Tree
  pub becomes : Tree
  pub node : NodeAt s starts p tree k at context subtree
  pub stands : TreeAt ts subtree d s at
  pub by : Rule
  pub number : rule_number by ≡ rule
  pub lacks : Shortage
  pub steps : move_at snapshot subtree 0 ≡ evolves by lacks becomes
  pub form : WellFormed ts (replaced_at p (transaction block body snapshot (plug context becomes) ∷ []) h)
  pub after : afterwards (transition h (inside p k)) h
      ≡ replaced_at p (transaction block body snapshot (plug context becomes) ∷ []) h

configured : (g : Configuration) (σ : State) (cs : List Component) → g.counts ≡ σ → g.components ≡ cs →
    g ≡ record { counts = σ; components = cs }
configured g σ cs a b =
    ap (λ x. record { counts = x; components = g.components }) a ∙ ap (λ x. record { counts = σ; components = x }) b

module _ {ts : List Term} {h : Configuration} {d s starts : List ℕ} {n p k rule at : ℕ}
    (x : NodeMovesBy ts h d s starts n p k rule at) where
  pub move_inside_holds : MoveInside ts h d s starts n p k rule at
  unfolding position_of component_answer acts_inside inside_answer around afterwards
  move_inside_holds =
      let b = x.by in
      let a = accepted_inverts h (inside p k) b.rule b.result b.answer in
      by_component b.rule a.lacks b.result a.laid b.answer b.numbered a.placed a.component a.found
      a.local
    where
      by_inner : (r : Rule) (lacks : Shortage) (g : Configuration) (laid : List Component) → transition h (inside p k) ≡ moved r g →
          rule_number r ≡ rule →
          g.components ≡ replace_at p laid h.components → (m : ℕ) (M : Expression) (σ : State) (t : Tree) →
          get_elem? h.components p ≡ some (transaction m M σ t) → (y : Context) (u : Tree) →
          NodeAt s starts p t k at y u →
          (I : NodeAnswer) → move_at σ u 0 ≡ I → inside_answer h.counts m M σ (around y I) ≡ moves r lacks g.counts laid →
          MoveInside ts h d s starts n p k rule at
      by_inner r lacks g laid q number placed m M σ t e y u w (evolves r' told v) i f =
          let same_rule : r' ≡ r = cc in
          let same_told : told ≡ lacks = cc in
          let same_laid : laid ≡ transaction m M σ (plug y v) ∷ [] = cc in
          let is : g ≡ replaced_at p (transaction m M σ (plug y v) ∷ []) h =
          configured g h.counts _ (cc) (placed ∙ rw same_laid) in
          record {
            block = m;
            body = M;
            snapshot = σ;
            tree = t;
            there = e;
            context = y;
            subtree = u;
            becomes = v;
            node = w;
            stands = node_at x.decoded x.holds p m M σ t e w;
            by = r;
            number = number;
            lacks = lacks;
            steps = i ∙ rw (same_rule, same_told);
            form = rw is at (well_formed_step (inside p k) x.holds.good x.holds.form q);
            after = rw q is;
          }
      by_inner r lacks g laid q number placed m M σ t e y u w no_rule i f = let z : ◌≡◌ {A = ℕ} 0 1 = cc in absurd (omega arith)
      by_inner r lacks g laid q number placed m M σ t e y u w out_of_range i f =
          let z : ◌≡◌ {A = ℕ} 0 1 = cc in absurd (omega arith)

      by_component : (r : Rule) (lacks : Shortage) (g : Configuration) (laid : List Component) → transition h (inside p k) ≡ moved r g →
          rule_number r ≡ rule →
          g.components ≡ replace_at p laid h.components → (c : Component) → get_elem? h.components p ≡ some c →
          acts_inside h.counts c k ≡ moves r lacks g.counts laid → MoveInside ts h d s starts n p k rule at
      by_component r lacks g laid q number placed (idle c) e f = let z : ◌≡◌ {A = ℕ} 0 1 = cc in absurd (omega arith)
      by_component r lacks g laid q number placed (transaction m M σ t) e f =
          let (y, u, w) = node_found x.holds p m M σ t e k at x.place in
          by_inner r lacks g laid q number placed m M σ t e y u w (move_at σ u 0) refl
          (ap (inside_answer h.counts m M σ) (sym (move_at_node σ t k y u w.there)) ∙ f)
