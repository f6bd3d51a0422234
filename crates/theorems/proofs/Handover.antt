-- A put and then a move that takes just that token are one communication, within the limits.
-- Assumes nothing.
use Prim.Native.Nat.{ℕ, zero, suc, ◌≤◌}
use native.Mathlib.Omega.{arith}
use mathlib.Core.Path.{◌≡◌, refl, sym, ap, ◌∙◌, subst}
use mathlib.Core.Logic.{inl, inr}
use mathlib.Core.Option.{some}
use mathlib.Core.List.{List, [], ◌∷◌}
use lib.ListN.{length, get_elem?}
use Rattle.calculus.specs.Syntax.{Name, State, Process, par}
use Rattle.calculus.specs.State.{Plus}
use Rattle.calculus.specs.Reduction.{Rule, OUT, by, COM, AnyOrder, LogOrder, Reduces, COMl, COMr, PARL, PARR}
use Rattle.calculus.proofs.Reductions.{out_adds}
use Rattle.semantics.specs.Definitions.Basics.{replace_at, All}
use Rattle.semantics.specs.Definitions.Logs.{add_token}
use Rattle.semantics.specs.Definitions.Configuration.{Component, Configuration}
use Rattle.semantics.specs.Claims.Denotation.{component_process, Denotes, nothing, alone, beside, Bounded, WithinLimits}
use Rattle.semantics.specs.Claims.Correspondence.{TakesOne, HandoverIsCOM}
use Rattle.semantics.specs.Checks.Handovers.{HandoversIn, HandoversBounded}
use Rattle.theorems.proofs.Lists.{none_found}
use Rattle.theorems.proofs.GoodTable.{accepted_is_good}
use Rattle.theorems.proofs.WellFormedKept.{well_formed_step}
use Rattle.theorems.proofs.Soundness.{in_either, reduces_at, OneReduces, one_reduces}
use Rattle.theorems.proofs.Communication.{one_is_taken, communication}
use Rattle.theorems.proofs.Completeness.{stands_length, spent_back, out_leaves_fewer}

-- ---- two components that reduce

module _ {a : Name} {r : Rule} {σ τ : State} (plus : Plus σ a τ)
    (c : Component) (C : Process) (puts : Reduces AnyOrder (by (OUT a)) (component_process c) σ C τ) (gone : Denotes C [])
    (d : Component) (D : Process) (takes : Reduces AnyOrder (by r) (component_process d) τ D σ)
    (ds : List Component) (laid : Denotes D ds) where
  -- one of them puts a token and is gone, another takes it and gives way: a communication of every process that
  -- stands as both and others
  communicates : {P : Process} {cs : List Component} → Denotes P cs → (p q : ℕ) → get_elem? cs p ≡ some c →
      get_elem? (replace_at p [] cs) q ≡ some d →
      (P' : Process) × Reduces AnyOrder (COM a) P σ P' σ × Denotes P' (replace_at q ds (replace_at p [] cs))
  unfolding replace_at
  communicates nothing p q f g = absurd (none_found p c f)
  communicates (alone x e) zero q f g = absurd (none_found q d g)
  communicates (alone x e) (suc p) q f g = absurd (none_found p c f)
  communicates (beside {P = L} {Q = R} {cs = xs} {ds = ys} u v) p q f g =
      elim (in_either xs ys p c [] f) [
        | inl k ↦ elim (in_either (replace_at p [] xs) ys q d ds (rw k.1 at g)) [
          | inl m ↦ let i = communicates u p q k.0 m.0 in (par i.0 R, PARL i.1, rw (k.1, m.1) (beside i.2 v))
          | inr m ↦ let i = reduces_at u p c [] k.0 C puts gone in
              let j = reduces_at v m.0 d ds m.1 D takes laid in
              (par i.0 j.0, COMl plus i.1 j.1, rw (k.1, m.2) (beside i.2 j.2))
        ]
        | inr k ↦ elim (in_either xs (replace_at k.0 [] ys) q d ds (rw k.2 at g)) [
          | inl m ↦ let i = reduces_at v k.0 c [] k.1 C puts gone in
              let j = reduces_at u q d ds m.0 D takes laid in
              (par j.0 i.0, COMr plus i.1 j.1, rw (k.2, m.1) (beside j.2 i.2))
          | inr m ↦ let i = communicates v k.0 m.0 k.1 m.1 in (par L i.0, PARR i.1, rw (k.2, m.2) (beside u i.2))
        ]
      ]

-- ---- two choices

-- an output leaves nothing in its place
nothing_left : {h : Configuration} {a : Name} {f : Configuration} (o : OneReduces h (OUT a) f) → o.laid ≡ []
nothing_left o =
    let left = stands_length o.stands in
    let fewer = out_leaves_fewer o.reduces in
    let single = stands_length (alone o.component refl) in
    empty o.laid (omega arith)
  where
    empty : (cs : List Component) → length cs ≡ 0 → cs ≡ []
    empty [] e = refl
    empty (c ∷ cs) e = absurd (omega arith)

-- the two components that move are two places of every process that the configuration stands for, and the counts come
-- back
one_communication : {h f g : Configuration} {a : Name} {r : Rule} → OneReduces h (OUT a) f → OneReduces f r g → TakesOne a r →
    (P : Process) → Denotes P h.components →
    (P' : Process) × Reduces AnyOrder (COM a) P h.counts P' h.counts × (g.counts ≡ h.counts) × Denotes P' g.components
one_communication {h} {f} {g} {a} {r} x y one P s =
    let plus = out_adds x.reduces in
    let same : g.counts ≡ h.counts =
    sym (spent_back f.counts a g.counts (one_is_taken AnyOrder a one y.reduces)) ∙ spent_back f.counts a h.counts plus in
    let takes = subst (λ σ. Reduces AnyOrder (by r) (component_process y.component) f.counts y.after σ) same y.reduces in
    let there : f.components ≡ replace_at x.position [] h.components = rw (← (nothing_left x)) x.placed in
    let found = ap (λ cs. get_elem? cs y.position) (sym there) ∙ y.found in
    let m = communicates plus x.component x.after x.reduces (rw (nothing_left x) at x.stands)
    y.component y.after takes y.laid y.stands s x.position y.position x.found found in
    (m.0, m.1, same, subst (Denotes m.0) (sym (y.placed ∙ ap (replace_at y.position y.laid) there)) m.2)

-- the claim, for the bytes of every accepted table
pub handover_is_com : HandoverIsCOM
unfolding HandoverIsCOM WithinLimits add_token
handover_is_com bs t acc h ok a e f q d r g q' one P s =
    let good = accepted_is_good bs t acc.1 in
    let between = well_formed_step e good ok q in
    let last = well_formed_step d good between q' in
    let x = one_reduces e ok q in
    let (P', reduces, same, stands) = one_communication x (one_reduces d between q') one P s in
    let few = stands_length stands in
    let gaining : All (λ c. c ≤ 255) (add_token h.counts a) = rw (← (out_adds x.reduces).added) between.channel_counts.1 in
    (P', reduces, same, stands, ((ok.channel_counts.1, let n = last.few in omega arith), gaining))

-- ---- between the two moves

bounded_in : (Order : List Name → List Name → Type 0) → HandoversIn Order
unfolding WithinLimits Bounded add_token
bounded_in Order a P P' σ σ' d =
    let (two, same) = communication Order d in
    let fewer = out_leaves_fewer two.puts in
    (same, two, fewer, λ few. (λ w. ((w.1, omega arith), w.0), λ b. (b.1, b.0.0)))

pub handovers_bounded : HandoversBounded
unfolding HandoversBounded
handovers_bounded = (bounded_in AnyOrder, bounded_in LogOrder)
