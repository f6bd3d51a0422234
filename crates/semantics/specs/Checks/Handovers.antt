-- A direct handover, COM, as its two moves: the process between them, and the limits there (document 01, "Choices and
-- moves", on handovers). Proved in theorems/proofs/Handover.
-- Assumes nothing.
use Rattle.std.specs.Prelude.{suc, ◌≤◌, ◌≡◌, ◌↔◌, List}
use Rattle.calculus.specs.Syntax.{Name, State, Process}
use Rattle.calculus.specs.Reduction.{Rule, OUT, by, COM, Reduces, AnyOrder, LogOrder}
use Rattle.semantics.specs.Definitions.Logs.{add_token}
use Rattle.semantics.specs.Claims.Denotation.{parallel, Bounded, WithinLimits}
use Rattle.semantics.specs.Claims.Correspondence.{TakesOne}

-- a COM on a from P to P', at the counts σ: OUT of a leads to the process `between`, with one token more, and from there a
-- move that takes this token leads to P' and the counts as they were
pub record TwoMoves (Order : List Name → List Name → Type 0) (a : Name) (P : Process) (σ : State) (P' : Process) : Type 0 where
  pub between : Process
  pub second : Rule
  pub puts : Reduces Order (by (OUT a)) P σ between (add_token σ a)
  pub takes : Reduces Order (by second) between (add_token σ a) P' σ
  pub takes_one : TakesOne a second

-- every COM is two such moves, with one component fewer between them; from a process of at most 64 components it is within
-- the limits exactly where process and counts are bounded behind each of the two: between them, and at the end
abbrev pub HandoversIn : (List Name → List Name → Type 0) → Type 0
HandoversIn Order =
    (a : Name) (P P' : Process) (σ σ' : State) → Reduces Order (COM a) P σ P' σ' →
    (σ' ≡ σ) × (two : TwoMoves Order a P σ P') × (suc (parallel two.between) ≡ parallel P) ×
    (parallel P ≤ 64 → (WithinLimits (COM a) σ P' σ' ↔ (Bounded two.between (add_token σ a) × Bounded P' σ')))

-- with an ATOK's outputs in any order, and with those in log order
unfoldable pub HandoversBounded : Type 0
HandoversBounded = HandoversIn AnyOrder × HandoversIn LogOrder
