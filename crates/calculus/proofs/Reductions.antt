-- The laws of reductions: the order of ATOK's outputs, and what an output does.
-- Assumes nothing.
use native.Mathlib.Omega.{arith}
use Rattle.calculus.specs.Syntax.{Name, State, Ongoing, Process}
use Rattle.calculus.specs.State.{occurrences, Plus, without, SameNames}
use Rattle.calculus.specs.Log.{RD}
use Rattle.calculus.specs.Reduction.{OUT, Label, by, Evolves, aol, aor, LogOrder, AnyOrder, Reduces, OUTr, INr, REPr, COMl, COMr, PARL, PARR, ATSTr, ATPASS, ATREr, ATFAILr, ATOKr}
use Rattle.calculus.proofs.States.{same_name, count_plus, count_without, grown, not_itself}
use mathlib.Core.Path.{◌≡◌, ap}
use mathlib.Core.List.{List}

-- log order is one of the orders that Table 2 allows
pub as_stated : {l : Label} {P P' : Process} {σ σ' : State} → Reduces LogOrder l P σ P' σ' →
    Reduces AnyOrder l P σ P' σ'
unfolding SameNames
as_stated (OUTr p) = OUTr p
as_stated (INr p) = INr p
as_stated (REPr p) = REPr p
as_stated (COMl p d e) = COMl p (as_stated d) (as_stated e)
as_stated (COMr p d e) = COMr p (as_stated d) (as_stated e)
as_stated (PARL d) = PARL (as_stated d)
as_stated (PARR d) = PARR (as_stated d)
as_stated ATSTr = ATSTr
as_stated (ATPASS d) = ATPASS d
as_stated ATREr = ATREr
as_stated (ATFAILr n) = ATFAILr n
as_stated (ATOKr i o) = ATOKr i (λ a. ap (occurrences a) o)

-- no reduction of Table 3 is an output
pub no_output_inside : {a : Name} {A A' : Ongoing} → Evolves (OUT a) A A' → ⊥
no_output_inside (aol d) = no_output_inside d
no_output_inside (aor d) = no_output_inside d

-- an output adds its name to the state
pub out_adds : {Order : List Name → List Name → Type 0} {a : Name} {P P' : Process} {σ σ' : State} →
    Reduces Order (by (OUT a)) P σ P' σ' → Plus σ a σ'
out_adds (OUTr p) = p
out_adds (PARL d) = out_adds d
out_adds (PARR d) = out_adds d
out_adds (ATPASS d) = absurd (no_output_inside d)

-- and what adds a name to the state is an output of it
pub adding_is_out : {Order : List Name → List Name → Type 0} {l : Label} {P P' : Process} {σ σ' : State} (a : Name) → Plus σ a σ' →
    Reduces Order l P σ P' σ' → l ≡ by (OUT a)
adding_is_out a p (OUTr {a = b} {σ = σ} {σ' = σ'} q) =
    let e : a ≡ b = same_name a b (let y = grown σ a σ' p in let z = count_plus σ b a σ' q in omega arith) in rw e
adding_is_out a p (INr {a = b} {σ = σ} {σ' = σ'} q) = absurd (let y = grown σ a σ' p in let z = count_plus σ' b a σ q in omega arith)
adding_is_out a p (REPr {a = b} {σ = σ} {σ' = σ'} q) = absurd (let y = grown σ a σ' p in let z = count_plus σ' b a σ q in omega arith)
adding_is_out a p (COMl {σ = σ} q d e) = absurd (not_itself σ a p)
adding_is_out a p (COMr {σ = σ} q d e) = absurd (not_itself σ a p)
adding_is_out a p (PARL d) = adding_is_out a p d
adding_is_out a p (PARR d) = adding_is_out a p d
adding_is_out a p (ATSTr {σ = σ}) = absurd (not_itself σ a p)
adding_is_out a p (ATPASS {σ = σ} d) = absurd (not_itself σ a p)
adding_is_out a p (ATREr {σ = σ}) = absurd (not_itself σ a p)
adding_is_out a p (ATFAILr {σ = σ} d) = absurd (not_itself σ a p)
adding_is_out a p (ATOKr {σ = σ} {δ = δ} d o) =
    absurd (let y = grown σ a (without σ (RD δ)) p in let z = count_without (RD δ) σ a in omega arith)
