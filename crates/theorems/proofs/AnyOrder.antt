-- ATOK's outputs in any order: such a reduction is one with the outputs in log order, up to the order of those
-- outputs. Hence completeness for that reading too, and that a configuration with no accepted choice has no reduction
-- within the limits.
-- Assumes nothing.
use Prim.Native.Nat.{◌≤◌}
use native.Mathlib.Omega.{arith}
use native.Mathlib.Decide.{ℕ_discrete}
use mathlib.Core.Path.{◌≡◌, refl, sym, ap}
use mathlib.Core.Bool.{false≢true}
use mathlib.Core.List.{List, [], ◌∷◌, ◌++◌}
use lib.ListN.{length, length-append}
use Rattle.calculus.specs.Syntax.{Name, State, Process, par}
use Rattle.calculus.specs.State.{occurrences, SameNames}
use Rattle.calculus.specs.Log.{WT}
use Rattle.calculus.specs.Reduction.{Label, by, COM, Reduces, OUTr, INr, REPr, COMl, COMr, PARL, PARR, ATSTr, ATPASS, ATREr, ATFAILr, ATOKr, LogOrder, AnyOrder, outputs}
use Rattle.calculus.proofs.Reductions.{as_stated}
use Rattle.calculus.proofs.States.{same_self, same_other, occurrences_append, none_occurs}
use Rattle.semantics.specs.Definitions.Configuration.{Configuration}
use Rattle.semantics.specs.Definitions.Moves.{is_moved, is_accepted}
use Rattle.semantics.specs.Definitions.Run.{Quiescent}
use Rattle.semantics.specs.Claims.Correspondence.{LogOrderAsStated, HasChoices, Completeness, Reordered, unchanged, shuffled, within, CompletenessAnyOrder, StillIsStill}
use Rattle.semantics.specs.Claims.Denotation.{parallel, WithinLimits}
use Rattle.theorems.proofs.Completeness.{completeness}

-- ---- lists of names that are the same multiset

-- a name that occurs in a list stands somewhere in it
occurring : (b : Name) (cs : List Name) → 1 ≤ occurrences b cs → (xs : List Name) × (ys : List Name) × (cs ≡ xs ++ (b ∷ ys))
unfolding occurrences
occurring b [] h = absurd (omega arith)
occurring b (c ∷ cs) h =
    elim (ℕ_discrete b c) [ yes e ↦ ([], cs, ap (λ x. x ∷ cs) (sym e)) | no e ↦ later (occurring b cs (let z = same_other b c e in omega arith)) ]
  where
    later : (xs : List Name) × (ys : List Name) × (cs ≡ xs ++ (b ∷ ys)) → (xs : List Name) × (ys : List Name) × (c ∷ cs ≡ xs ++ (b ∷ ys))
    later t = (c ∷ t.0, t.1, ap (◌∷◌ c) t.2)

-- two such lists stay the same multiset where one name is left out of both
left_out : (b : Name) (bs xs ys : List Name) → SameNames (b ∷ bs) (xs ++ (b ∷ ys)) → SameNames bs (xs ++ ys)
unfolding SameNames occurrences
left_out b bs xs ys h a =
    let z = h a in
    let u = occurrences_append a xs (b ∷ ys) in
    let v = occurrences_append a xs ys in omega arith

-- and have the same length
same_length : (bs cs : List Name) → SameNames bs cs → length bs ≡ length cs
unfolding SameNames occurrences
same_length [] cs h = rw (none_occurs cs (λ b. sym (h b)))
same_length (b ∷ bs) cs h =
    let (xs, ys, e) = occurring b cs (let z = h b in let w = same_self b in omega arith) in
    let rest = same_length bs (xs ++ ys) (left_out b bs xs ys (rw e at h)) in
    rw e (let u = length-append xs (b ∷ ys) in let v = length-append xs ys in omega arith)

-- ---- reordered processes

parallel_outputs : (bs : List Name) → parallel (outputs bs) ≡ length bs
unfolding parallel outputs
parallel_outputs [] = refl
parallel_outputs (b ∷ bs) = let z = parallel_outputs bs in omega arith

-- as many components stand in parallel
reordered_parallel : {P Q : Process} → Reordered P Q → parallel P ≡ parallel Q
unfolding parallel
reordered_parallel unchanged = refl
reordered_parallel (shuffled bs cs h) = simp parallel_outputs (same_length bs cs h)
reordered_parallel (within s t) = let y = reordered_parallel s in let z = reordered_parallel t in omega arith

-- and they are within the same limits
reordered_within : {P Q : Process} (l : Label) (σ σ' : State) → Reordered P Q → WithinLimits l σ P σ' → WithinLimits l σ Q σ'
unfolding WithinLimits
reordered_within (by r) σ σ' s b = rw (reordered_parallel s) at b
reordered_within (COM a) σ σ' s b = rw (reordered_parallel s) at b

-- a reduction with the outputs in any order, as one in log order to a reordered process
in_log_order : {l : Label} {P P' : Process} {σ σ' : State} → Reduces AnyOrder l P σ P' σ' →
    (P'' : Process) × Reordered P' P'' × Reduces LogOrder l P σ P'' σ'
unfolding SameNames
in_log_order (OUTr p) = (_, unchanged, OUTr p)
in_log_order (INr p) = (_, unchanged, INr p)
in_log_order (REPr p) = (_, unchanged, REPr p)
in_log_order (COMl p d e) = let x = in_log_order d in let y = in_log_order e in (par x.0 y.0, within x.1 y.1, COMl p x.2 y.2)
in_log_order (COMr p d e) = let x = in_log_order d in let y = in_log_order e in (par y.0 x.0, within y.1 x.1, COMr p x.2 y.2)
in_log_order (PARL {Q = Q} d) = let x = in_log_order d in (par x.0 Q, within x.1 unchanged, PARL x.2)
in_log_order (PARR {P = P} d) = let x = in_log_order d in (par P x.0, within unchanged x.1, PARR x.2)
in_log_order ATSTr = (_, unchanged, ATSTr)
in_log_order (ATPASS d) = (_, unchanged, ATPASS d)
in_log_order ATREr = (_, unchanged, ATREr)
in_log_order (ATFAILr d) = (_, unchanged, ATFAILr d)
in_log_order (ATOKr {δ = δ} {bs = bs} d o) = (outputs (WT δ), shuffled bs (WT δ) (λ a. sym (o a)), ATOKr d refl)

-- ---- the claims

pub log_order_as_stated : LogOrderAsStated
unfolding LogOrderAsStated
log_order_as_stated l P P' σ σ' d = as_stated d

-- completeness with ATOK's outputs in any order, up to the order of those outputs
pub completeness_any_order : CompletenessAnyOrder
unfolding CompletenessAnyOrder Completeness
completeness_any_order bs t acc h ok P s l P' σ' d b =
    let (P'', same, e) = in_log_order d in
    (P'', same, e, completeness bs t acc h ok P s l P'' σ' e (reordered_within l h.counts σ' same b))

-- where a reduction is answered some choice is accepted
answered_moves : (l : Label) (h : Configuration) (P : Process) (σ : State) → HasChoices l h P σ → Quiescent h → ⊥
unfolding HasChoices Quiescent is_accepted is_moved
answered_moves (by r) h P σ x still = false≢true (sym (rw x.3 at (still x.0 x.2)))
answered_moves (COM a) h P σ x still = false≢true (sym (rw x.7 at (still x.0 x.5)))

-- where no choice is accepted no reduction within the limits exists
pub still_is_still : StillIsStill
unfolding StillIsStill CompletenessAnyOrder
still_is_still bs t acc h ok still P s l P' σ' d b =
    let (P'', same, e, x) = completeness_any_order bs t acc h ok P s l P' σ' d b in
    answered_moves l h P'' σ' x still
