-- All the reductions that Table 2 gives for each kind of process, and for two in parallel by what each does and what
-- they hand over. The rows are instances.
-- Assumes nothing.
use Prim.Native.Nat.{suc, ◌-◌, ◌≤◌, ◌<◌}
use native.Mathlib.Omega.{arith}
use native.Mathlib.Decide.{ℕ_discrete}
use mathlib.Core.Path.{◌≡◌, refl, sym, ap}
use mathlib.Core.Logic.{◌↔◌, ◌≢◌, ◌⊎◌, inl, inr}
use mathlib.Core.List.{List, [], ◌∷◌, ◌++◌, map, Memᴰ}
use lib.ListN.{length, set}
use Rattle.calculus.specs.Syntax.{Name, State, Log, Expr, end, retry, prefix, or_else, Ongoing, running, or_else', Process, nil, out, inp, rep, par, atom, ongoing}
use Rattle.calculus.specs.State.{count, same, occurrences, Included, Plus, without, SameNames}
use Rattle.calculus.specs.Log.{RD, WT}
use Rattle.calculus.specs.Reduction.{OUT, IN, REP, ATST, ATRE, ATFAIL, ATOK, Label, by, COM, outputs, node_of, AnyOrder, LogOrder, Reduces, OUTr, INr, REPr, COMl, COMr, PARL, PARR, ATSTr, ATPASS, ATREr, ATFAILr, ATOKr}
use Rattle.calculus.specs.Checks.Table3.{InnerStep, step, Steps}
use Rattle.calculus.specs.Checks.Table2.{Outcome, leaves, Outcomes}
use Rattle.calculus.proofs.States.{same_self, same_other, same_name, grown, without_added, none_occurs, one_occurs, two_occur}
use Rattle.calculus.proofs.Reductions.{adding_is_out}
use Rattle.calculus.proofs.Steps.{end_stays, retry_stays}

module _ (Order : List Name → List Name → Type 0) where
  -- ---- laws

  -- a reduction of a process in a state
  abbrev pub Does : Process → State → Outcome → Type 0
  Does P σ (leaves l P' σ') = Reduces Order l P σ P' σ'

  pub told : (P : Process) (σ : State) (o u : Outcome) → Does P σ u → o ≡ u → Does P σ o
  told P σ o u d e = rw e d

  -- a process with one reduction, and one with none
  one_outcome : (P : Process) (σ : State) (o : Outcome) → Does P σ o →
      ((l : Label) (P' : Process) (σ' : State) → Reduces Order l P σ P' σ' → leaves l P' σ' ≡ o) → Outcomes Order P σ (o ∷ [])
  one_outcome P σ o done only l P' σ' =
      (λ d. mathlib.Core.List.Memᴰ.head (only l P' σ' d), λ m. told P σ (leaves l P' σ') o done (mathlib.Core.List.Memᴰ.eq_of_singleton m))

  no_outcome : (P : Process) (σ : State) → ((l : Label) (P' : Process) (σ' : State) → Reduces Order l P σ P' σ' → ⊥) →
      Outcomes Order P σ []
  no_outcome P σ none l P' σ' = (λ d. absurd (none l P' σ' d), λ m. absurd (mathlib.Core.List.Memᴰ.not-nil m))

  -- nil is what no rule has on its left
  abbrev NotNil : Process → Type 0
  NotNil nil = ⊥
  NotNil (out a) = Unit {0}
  NotNil (inp a P) = Unit {0}
  NotNil (rep a P) = Unit {0}
  NotNil (par P Q) = Unit {0}
  NotNil (atom M) = Unit {0}
  NotNil (ongoing A M) = Unit {0}

  moves : {l : Label} {P P' : Process} {σ σ' : State} → Reduces Order l P σ P' σ' → NotNil P
  moves (OUTr p) = tt
  moves (INr p) = tt
  moves (REPr p) = tt
  moves (COMl p d e) = tt
  moves (COMr p d e) = tt
  moves (PARL d) = tt
  moves (PARR d) = tt
  moves ATSTr = tt
  moves (ATPASS d) = tt
  moves ATREr = tt
  moves (ATFAILr n) = tt
  moves (ATOKr i o) = tt

  pub nil_done : (σ : State) → Outcomes Order nil σ []
  nil_done σ = no_outcome nil σ (λ l P' σ' d. moves d)

  pub out_counted : (σ : State) (a : Name) → a < length σ →
      Outcomes Order (out a) σ (leaves (by (OUT a)) nil (set σ a (suc (count σ a))) ∷ [])
  out_counted σ a h = one_outcome (out a) σ (leaves (by (OUT a)) nil (set σ a (suc (count σ a)))) (OUTr (record { counted = h; added = refl })) only
    where
      only : (l : Label) (P' : Process) (σ' : State) → Reduces Order l (out a) σ P' σ' →
          leaves l P' σ' ≡ leaves (by (OUT a)) nil (set σ a (suc (count σ a)))
      only l P' σ' (OUTr p) = let e = p.added in cc

  pub out_not_counted : (σ : State) (a : Name) → length σ ≤ a → Outcomes Order (out a) σ []
  out_not_counted σ a h = no_outcome (out a) σ only
    where
      only : (l : Label) (P' : Process) (σ' : State) → Reduces Order l (out a) σ P' σ' → ⊥
      only l P' σ' (OUTr p) = let c = p.counted in omega arith

  pub in_there : (σ : State) (a : Name) (P : Process) → Plus (set σ a (count σ a - 1)) a σ →
      Outcomes Order (inp a P) σ (leaves (by (IN a)) P (set σ a (count σ a - 1)) ∷ [])
  in_there σ a P p = one_outcome (inp a P) σ (leaves (by (IN a)) P (set σ a (count σ a - 1))) (INr p) only
    where
      only : (l : Label) (P' : Process) (σ' : State) → Reduces Order l (inp a P) σ P' σ' →
          leaves l P' σ' ≡ leaves (by (IN a)) P (set σ a (count σ a - 1))
      only l P' σ' (INr q) = let e = without_added σ a σ' q in cc

  pub in_missing : (σ : State) (a : Name) (P : Process) → count σ a ≡ 0 → Outcomes Order (inp a P) σ []
  in_missing σ a P z = no_outcome (inp a P) σ only
    where
      only : (l : Label) (P' : Process) (σ' : State) → Reduces Order l (inp a P) σ P' σ' → ⊥
      only l P' σ' (INr q) = let e = grown σ' a σ q in omega arith

  pub rep_there : (σ : State) (a : Name) (P : Process) → Plus (set σ a (count σ a - 1)) a σ →
      Outcomes Order (rep a P) σ (leaves (by (REP a)) (par P (rep a P)) (set σ a (count σ a - 1)) ∷ [])
  rep_there σ a P p = one_outcome (rep a P) σ (leaves (by (REP a)) (par P (rep a P)) (set σ a (count σ a - 1))) (REPr p) only
    where
      only : (l : Label) (P' : Process) (σ' : State) → Reduces Order l (rep a P) σ P' σ' →
          leaves l P' σ' ≡ leaves (by (REP a)) (par P (rep a P)) (set σ a (count σ a - 1))
      only l P' σ' (REPr q) = let e = without_added σ a σ' q in cc

  pub rep_missing : (σ : State) (a : Name) (P : Process) → count σ a ≡ 0 → Outcomes Order (rep a P) σ []
  rep_missing σ a P z = no_outcome (rep a P) σ only
    where
      only : (l : Label) (P' : Process) (σ' : State) → Reduces Order l (rep a P) σ P' σ' → ⊥
      only l P' σ' (REPr q) = let e = grown σ' a σ q in omega arith

  pub begins : (σ : State) (M : Expr) → Outcomes Order (atom M) σ (leaves (by ATST) (ongoing (running M σ []) M) σ ∷ [])
  begins σ M = one_outcome (atom M) σ (leaves (by ATST) (ongoing (running M σ []) M) σ) ATSTr only
    where
      only : (l : Label) (P' : Process) (σ' : State) → Reduces Order l (atom M) σ P' σ' →
          leaves l P' σ' ≡ leaves (by ATST) (ongoing (running M σ []) M) σ
      only l P' σ' ATSTr = refl

  -- ---- an attempt

  -- one that is not done goes on by Table 3
  abbrev pub GoesOn : Ongoing → Type 0
  GoesOn (running end σ δ) = ⊥
  GoesOn (running retry σ δ) = ⊥
  GoesOn (running (prefix α M) σ δ) = Unit {0}
  GoesOn (running (or_else M N) σ δ) = Unit {0}
  GoesOn (or_else' A B) = Unit {0}

  abbrev pub passed : Expr → State → InnerStep → Outcome
  passed M σ (step k r A') = leaves (by r) (ongoing A' M) σ

  pub passes : (A : Ongoing) (M : Expr) (σ : State) (ss : List InnerStep) → GoesOn A → Steps A ss →
      Outcomes Order (ongoing A M) σ (map (passed M σ) ss)
  passes A M σ ss on steps l P' σ' = (λ d. only A on steps l P' σ' d, λ m. made (leaves l P' σ') m)
    where
      only : (A : Ongoing) → GoesOn A → Steps A ss → (l : Label) (P' : Process) (σ' : State) →
          Reduces Order l (ongoing A M) σ P' σ' → Memᴰ (leaves l P' σ') (map (passed M σ) ss)
      only A on steps l P' σ' (ATPASS {r = r} {A' = A'} d) = mathlib.Core.List.Memᴰ.map (passed M σ) ((steps (node_of d) r A').0 (d, refl))
      only A on steps l P' σ' ATREr = absurd on
      only A on steps l P' σ' (ATFAILr n) = absurd on
      only A on steps l P' σ' (ATOKr i o) = absurd on

      step_of : (o : Outcome) (s : InnerStep) → Memᴰ s ss → passed M σ s ≡ o → Does (ongoing A M) σ o
      step_of o (step k r A') m e = told (ongoing A M) σ o (passed M σ (step k r A')) (ATPASS ((steps k r A').1 m).0) (sym e)

      made : (o : Outcome) → Memᴰ o (map (passed M σ) ss) → Does (ongoing A M) σ o
      made o m = let (s, n, e) = mathlib.Core.List.Memᴰ.of_map (passed M σ) ss m in step_of o s n e

  module _ (τ : State) (δ : Log) (M : Expr) (σ : State) where
    pub retries : Outcomes Order (ongoing (running retry τ δ) M) σ (leaves (by ATRE) (atom M) σ ∷ [])
    retries = one_outcome (ongoing (running retry τ δ) M) σ (leaves (by ATRE) (atom M) σ) ATREr only
      where
        only : (l : Label) (P' : Process) (σ' : State) → Reduces Order l (ongoing (running retry τ δ) M) σ P' σ' →
            leaves l P' σ' ≡ leaves (by ATRE) (atom M) σ
        only l P' σ' (ATPASS {r = r} {A' = A'} d) = absurd (retry_stays τ δ r A' d)
        only l P' σ' ATREr = refl

    pub fails : ¬ Included (RD δ) σ → Outcomes Order (ongoing (running end τ δ) M) σ (leaves (by ATFAIL) (atom M) σ ∷ [])
    fails n = one_outcome (ongoing (running end τ δ) M) σ (leaves (by ATFAIL) (atom M) σ) (ATFAILr n) only
      where
        only : (l : Label) (P' : Process) (σ' : State) → Reduces Order l (ongoing (running end τ δ) M) σ P' σ' →
            leaves l P' σ' ≡ leaves (by ATFAIL) (atom M) σ
        only l P' σ' (ATPASS {r = r} {A' = A'} d) = absurd (end_stays τ δ r A' d)
        only l P' σ' (ATFAILr h) = refl
        only l P' σ' (ATOKr i o) = absurd (n i)

    abbrev pub committed : List Name → Outcome
    committed bs = leaves (by (ATOK δ)) (outputs bs) (without σ (RD δ))

    -- a commit, with all the orders that its outputs can have
    pub commits : (bss : List (List Name)) → Included (RD δ) σ → ((bs : List Name) → Order (WT δ) bs ↔ Memᴰ bs bss) →
        Outcomes Order (ongoing (running end τ δ) M) σ (map committed bss)
    commits bss i orders l P' σ' = (λ d. only l P' σ' d, λ m. made (leaves l P' σ') m)
      where
        only : (l : Label) (P' : Process) (σ' : State) → Reduces Order l (ongoing (running end τ δ) M) σ P' σ' →
            Memᴰ (leaves l P' σ') (map committed bss)
        only l P' σ' (ATPASS {r = r} {A' = A'} d) = absurd (end_stays τ δ r A' d)
        only l P' σ' (ATFAILr h) = absurd (h i)
        only l P' σ' (ATOKr {bs = bs} h o) = mathlib.Core.List.Memᴰ.map committed ((orders bs).0 o)

        made : (o : Outcome) → Memᴰ o (map committed bss) → Does (ongoing (running end τ δ) M) σ o
        made o m =
            let (bs, n, e) = mathlib.Core.List.Memᴰ.of_map committed bss m in
            told (ongoing (running end τ δ) M) σ o (committed bs) (ATOKr i ((orders bs).1 n)) (sym e)

  -- ---- two in parallel

  abbrev pub beside_left : Process → Outcome → Outcome
  beside_left Q (leaves l P' σ') = leaves l (par P' Q) σ'

  abbrev pub beside_right : Process → Outcome → Outcome
  beside_right P (leaves l Q' σ') = leaves l (par P Q') σ'

  -- what P, by adding a name, hands over to Q, which takes it, is among these
  abbrev pub Hands : (Process → Process → Process) → Process → Process → State → List Outcome → Type 0
  Hands joined P Q σ cs =
      (a : Name) (l k : Label) (P' Q' : Process) (σ' : State) → Plus σ a σ' → Reduces Order l P σ P' σ' →
      Reduces Order k Q σ' Q' σ → Memᴰ (leaves (COM a) (joined P' Q') σ) cs

  -- only an output adds a name
  hands : (joined : Process → Process → Process) (P Q : Process) (σ : State) (ps cs : List Outcome) → Outcomes Order P σ ps →
      ((a : Name) (k : Label) (P' Q' : Process) (σ' : State) → Memᴰ (leaves (by (OUT a)) P' σ') ps →
      Reduces Order k Q σ' Q' σ → Memᴰ (leaves (COM a) (joined P' Q') σ) cs) → Hands joined P Q σ cs
  hands joined P Q σ ps cs does from a l k P' Q' σ' p d e =
      let o = adding_is_out a p d in
      let m : Memᴰ (leaves (by (OUT a)) P' σ') ps = (does (by (OUT a)) P' σ').0 (rw o at d) in
      from a k P' Q' σ' m e

  pub par_outcomes : (P Q : Process) (σ : State) (ps qs cs : List Outcome) → Outcomes Order P σ ps → Outcomes Order Q σ qs →
      ((o : Outcome) → Memᴰ o cs → Does (par P Q) σ o) → Hands par P Q σ cs → Hands (λ Q' P'. par P' Q') Q P σ cs →
      Outcomes Order (par P Q) σ (map (beside_left Q) ps ++ (map (beside_right P) qs ++ cs))
  par_outcomes P Q σ ps qs cs left right handed to_right to_left l R σ' = (λ d. only l R σ' d, λ m. made (leaves l R σ') m)
    where
      only : (l : Label) (R : Process) (σ' : State) → Reduces Order l (par P Q) σ R σ' →
          Memᴰ (leaves l R σ') (map (beside_left Q) ps ++ (map (beside_right P) qs ++ cs))
      only l R σ' (PARL {P' = P'} d) = mathlib.Core.List.Memᴰ.append_left (map (beside_right P) qs ++ cs) (mathlib.Core.List.Memᴰ.map (beside_left Q) ((left l P' σ').0 d))
      only l R σ' (PARR {Q' = Q'} d) =
          mathlib.Core.List.Memᴰ.append_right (map (beside_left Q) ps) (mathlib.Core.List.Memᴰ.append_left cs (mathlib.Core.List.Memᴰ.map (beside_right P) ((right l Q' σ').0 d)))
      only l R σ' (COMl {l = i} {k = k} {a = a} {P' = P'} {Q' = Q'} {σ' = τ} p d e) =
          mathlib.Core.List.Memᴰ.append_right (map (beside_left Q) ps) (mathlib.Core.List.Memᴰ.append_right (map (beside_right P) qs) (to_right a i k P' Q' τ p d e))
      only l R σ' (COMr {l = i} {k = k} {a = a} {P' = P'} {Q' = Q'} {σ' = τ} p d e) =
          mathlib.Core.List.Memᴰ.append_right (map (beside_left Q) ps) (mathlib.Core.List.Memᴰ.append_right (map (beside_right P) qs) (to_left a i k Q' P' τ p d e))

      by_left : (o u : Outcome) → Memᴰ u ps → beside_left Q u ≡ o → Does (par P Q) σ o
      by_left o (leaves k P' τ) m e = told (par P Q) σ o (leaves k (par P' Q) τ) (PARL ((left k P' τ).1 m)) (sym e)

      by_right : (o u : Outcome) → Memᴰ u qs → beside_right P u ≡ o → Does (par P Q) σ o
      by_right o (leaves k Q' τ) m e = told (par P Q) σ o (leaves k (par P Q') τ) (PARR ((right k Q' τ).1 m)) (sym e)

      behind : (o : Outcome) → Memᴰ o (map (beside_right P) qs) ⊎ Memᴰ o cs → Does (par P Q) σ o
      behind o (inl m) = let (u, n, e) = mathlib.Core.List.Memᴰ.of_map (beside_right P) qs m in by_right o u n e
      behind o (inr m) = handed o m

      any : (o : Outcome) → Memᴰ o (map (beside_left Q) ps) ⊎ Memᴰ o (map (beside_right P) qs ++ cs) → Does (par P Q) σ o
      any o (inl m) = let (u, n, e) = mathlib.Core.List.Memᴰ.of_map (beside_left Q) ps m in by_left o u n e
      any o (inr m) = behind o (mathlib.Core.List.Memᴰ.append_cases (map (beside_right P) qs) m)

      made : (o : Outcome) → Memᴰ o (map (beside_left Q) ps ++ (map (beside_right P) qs ++ cs)) → Does (par P Q) σ o
      made o m = any o (mathlib.Core.List.Memᴰ.append_cases (map (beside_left Q) ps) m)

  -- ---- what is handed over

  -- by a process that has no output nothing
  module _ (joined : Process → Process → Process) (P Q : Process) (σ : State) where
    none_handed : (ps cs : List Outcome) → Outcomes Order P σ ps →
        ((a : Name) (P' : Process) (σ' : State) → Memᴰ (leaves (by (OUT a)) P' σ') ps → ⊥) → Hands joined P Q σ cs
    none_handed ps cs does none = hands joined P Q σ ps cs does (λ a k P' Q' σ' m e. absurd (none a P' σ' m))

    pub still_hands : (cs : List Outcome) → Outcomes Order P σ [] → Hands joined P Q σ cs
    still_hands cs does = none_handed [] cs does (λ a P' σ' m. mathlib.Core.List.Memᴰ.not-nil m)

    pub other_hands : (l : Label) (P₁ : Process) (σ₁ : State) (cs : List Outcome) → Outcomes Order P σ (leaves l P₁ σ₁ ∷ []) →
        ((a : Name) → by (OUT a) ≡ l → ⊥) → Hands joined P Q σ cs
    other_hands l P₁ σ₁ cs does other =
        none_handed (leaves l P₁ σ₁ ∷ []) cs does (λ a P' σ' m. other a (cc (mathlib.Core.List.Memᴰ.eq_of_singleton m)))

    -- by one that has an output and no more: as the other goes on in the state then
    module _ (b : Name) (P₁ : Process) (σ₁ : State) (does : Outcomes Order P σ (leaves (by (OUT b)) P₁ σ₁ ∷ [])) where
      output_hands : (qs cs : List Outcome) → Outcomes Order Q σ₁ qs →
          ((k : Label) (Q' : Process) → Memᴰ (leaves k Q' σ) qs → Memᴰ (leaves (COM b) (joined P₁ Q') σ) cs) →
          Hands joined P Q σ cs
      output_hands qs cs goes from =
          hands joined P Q σ (leaves (by (OUT b)) P₁ σ₁ ∷ []) cs does
          (λ a k P' Q' σ' m e. told_by a k P' Q' σ' (mathlib.Core.List.Memᴰ.eq_of_singleton m) e)
        where
          told_by : (a : Name) (k : Label) (P' Q' : Process) (σ' : State) → leaves (by (OUT a)) P' σ' ≡ leaves (by (OUT b)) P₁ σ₁ →
              Reduces Order k Q σ' Q' σ → Memᴰ (leaves (COM a) (joined P' Q') σ) cs
          told_by a k P' Q' σ' q e =
              let n : a ≡ b = cc in
              let p : P' ≡ P₁ = cc in
              let t : σ' ≡ σ₁ = cc in
              rw (n, p) (from k Q' ((goes k Q' σ).0 (rw t at e)))

      pub one_handed : (k : Label) (R : Process) → Outcomes Order Q σ₁ (leaves k R σ ∷ []) →
          Hands joined P Q σ (leaves (COM b) (joined P₁ R) σ ∷ [])
      one_handed k R goes =
          output_hands (leaves k R σ ∷ []) (leaves (COM b) (joined P₁ R) σ ∷ []) goes
          (λ j Q' m. let e : Q' ≡ R = cc (mathlib.Core.List.Memᴰ.eq_of_singleton m) in mathlib.Core.List.Memᴰ.head (ap (λ S. leaves (COM b) (joined P₁ S) σ) e))

      pub not_handed : (k : Label) (R : Process) (τ : State) (cs : List Outcome) → Outcomes Order Q σ₁ (leaves k R τ ∷ []) →
          (σ ≡ τ → ⊥) → Hands joined P Q σ cs
      not_handed k R τ cs goes differs =
          output_hands (leaves k R τ ∷ []) cs goes (λ j Q' m. absurd (differs (cc (mathlib.Core.List.Memᴰ.eq_of_singleton m))))

    -- to an input of a name that the state does not count nothing
    pub not_counted_hands : (a : Name) (R : Process) (ps cs : List Outcome) → Q ≡ inp a R → length σ ≤ a → Outcomes Order P σ ps →
        Hands joined P Q σ cs
    not_counted_hands a R ps cs q h does = hands joined P Q σ ps cs does (λ b k P' Q' σ' m e. absurd (none k σ' Q' σ h (rw q at e)))
      where
        none : (k : Label) (σ' : State) (Q' : Process) (σ : State) → length σ ≤ a → Reduces Order k (inp a R) σ' Q' σ → ⊥
        none k σ' Q' σ h (INr p) = let c = p.counted in omega arith

  -- ---- beside nil

  pub none_made : (P : Process) (σ : State) (o : Outcome) → Memᴰ o [] → Does P σ o
  none_made P σ o m = absurd (mathlib.Core.List.Memᴰ.not-nil m)

  pub behind_nil : (Q : Process) (σ : State) (qs : List Outcome) → Outcomes Order Q σ qs →
      Outcomes Order (par nil Q) σ (map (beside_right nil) qs ++ [])
  behind_nil Q σ qs does = par_outcomes
      nil Q σ [] qs [] (nil_done σ) does (none_made (par nil Q) σ) (still_hands par nil Q σ [] (nil_done σ))
      (hands (λ Q' P'. par P' Q') Q nil σ qs [] does (λ a k Q' P' σ' m e. absurd (moves e)))

  pub before_nil : (P : Process) (σ : State) (ps : List Outcome) → Outcomes Order P σ ps →
      Outcomes Order (par P nil) σ (map (beside_left nil) ps ++ [])
  before_nil P σ ps does = par_outcomes
      P nil σ ps [] [] does (nil_done σ) (none_made (par P nil) σ)
      (hands par P nil σ ps [] does (λ a k P' Q' σ' m e. absurd (moves e)))
      (still_hands (λ Q' P'. par P' Q') nil P σ [] (nil_done σ))

-- ---- the orders of outputs

-- in log order there is one
pub log_orders : (ws bs : List Name) → LogOrder ws bs ↔ Memᴰ bs (ws ∷ [])
log_orders ws bs = (λ e. mathlib.Core.List.Memᴰ.head (sym e), λ m. sym (mathlib.Core.List.Memᴰ.eq_of_singleton m))

pub no_orders : (bs : List Name) → AnyOrder [] bs ↔ Memᴰ bs ([] ∷ [])
unfolding SameNames occurrences
no_orders bs =
    (λ h. mathlib.Core.List.Memᴰ.head (none_occurs bs (λ b. sym (h b))), λ m. let e = mathlib.Core.List.Memᴰ.eq_of_singleton m in rw e (λ b. refl))

pub single_order : (a : Name) (bs : List Name) → AnyOrder (a ∷ []) bs ↔ Memᴰ bs ((a ∷ []) ∷ [])
unfolding SameNames occurrences
single_order a bs = (
  λ h. mathlib.Core.List.Memᴰ.head (one_occurs a bs (λ b. let z = h b in omega arith)),
  λ m. let e = mathlib.Core.List.Memᴰ.eq_of_singleton m in rw e (λ b. refl),
)

-- of two names there are two
pub two_orders : (a c : Name) (bs : List Name) → AnyOrder (a ∷ c ∷ []) bs ↔ Memᴰ bs ((a ∷ c ∷ []) ∷ (c ∷ a ∷ []) ∷ [])
unfolding SameNames occurrences
two_orders a c bs = (λ h. either (two_occur a c bs (λ b. let z = h b in omega arith)), λ m. back bs m)
  where
    either : (bs ≡ a ∷ c ∷ []) ⊎ (bs ≡ c ∷ a ∷ []) → Memᴰ bs ((a ∷ c ∷ []) ∷ (c ∷ a ∷ []) ∷ [])
    either (inl e) = mathlib.Core.List.Memᴰ.head e
    either (inr e) = mathlib.Core.List.Memᴰ.tail (mathlib.Core.List.Memᴰ.head e)

    back : (bs : List Name) → Memᴰ bs ((a ∷ c ∷ []) ∷ (c ∷ a ∷ []) ∷ []) → AnyOrder (a ∷ c ∷ []) bs
    back bs (mathlib.Core.List.Memᴰ.head e) = rw e (λ b. refl)
    back bs (mathlib.Core.List.Memᴰ.tail (mathlib.Core.List.Memᴰ.head e)) = rw e (λ b. omega arith)
    back bs (mathlib.Core.List.Memᴰ.tail (mathlib.Core.List.Memᴰ.tail m)) = elim m [ ]

-- of two names of which one stands there twice there are three
pub three_orders : (a c : Name) (bs : List Name) →
    AnyOrder (a ∷ c ∷ a ∷ []) bs ↔ Memᴰ bs ((a ∷ c ∷ a ∷ []) ∷ (a ∷ a ∷ c ∷ []) ∷ (c ∷ a ∷ a ∷ []) ∷ [])
unfolding SameNames occurrences
three_orders a c bs = (λ h. only bs h, λ m. back bs m)
  where
    after_a : (b : Name) (bs : List Name) → b ≡ a → (bs ≡ c ∷ a ∷ []) ⊎ (bs ≡ a ∷ c ∷ []) →
        Memᴰ (b ∷ bs) ((a ∷ c ∷ a ∷ []) ∷ (a ∷ a ∷ c ∷ []) ∷ (c ∷ a ∷ a ∷ []) ∷ [])
    after_a b bs e (inl r) = let q : b ∷ bs ≡ a ∷ c ∷ a ∷ [] = cc in mathlib.Core.List.Memᴰ.head q
    after_a b bs e (inr r) = let q : b ∷ bs ≡ a ∷ a ∷ c ∷ [] = cc in mathlib.Core.List.Memᴰ.tail (mathlib.Core.List.Memᴰ.head q)

    both_a : (b : Name) (bs : List Name) → b ≡ c → (bs ≡ a ∷ a ∷ []) ⊎ (bs ≡ a ∷ a ∷ []) → b ∷ bs ≡ c ∷ a ∷ a ∷ []
    both_a b bs e (inl r) = cc
    both_a b bs e (inr r) = cc

    after_c : (b : Name) (bs : List Name) → b ≢ a → SameNames (a ∷ c ∷ a ∷ []) (b ∷ bs) → b ∷ bs ≡ c ∷ a ∷ a ∷ []
    after_c b bs n h =
        let e : b ≡ c = same_name b c (let z = h b in let w = same_self b in let v = same_other b a n in omega arith) in
        both_a b bs e (two_occur a a bs (λ d. let z = h d in let w : same d b ≡ same d c = rw e in omega arith))

    only : (bs : List Name) → SameNames (a ∷ c ∷ a ∷ []) bs → Memᴰ bs ((a ∷ c ∷ a ∷ []) ∷ (a ∷ a ∷ c ∷ []) ∷ (c ∷ a ∷ a ∷ []) ∷ [])
    only [] h = absurd (let z = h a in let w = same_self a in omega arith)
    only (b ∷ bs) h = elim (ℕ_discrete b a) [
      | yes e ↦ after_a b bs e (two_occur c a bs (λ d. let z = h d in let w : same d b ≡ same d a = rw e in omega arith))
      | no n ↦ mathlib.Core.List.Memᴰ.tail (mathlib.Core.List.Memᴰ.tail (mathlib.Core.List.Memᴰ.head (after_c b bs n h)))
    ]

    back : (bs : List Name) → Memᴰ bs ((a ∷ c ∷ a ∷ []) ∷ (a ∷ a ∷ c ∷ []) ∷ (c ∷ a ∷ a ∷ []) ∷ []) → SameNames (a ∷ c ∷ a ∷ []) bs
    back bs (mathlib.Core.List.Memᴰ.head e) = rw e (λ b. refl)
    back bs (mathlib.Core.List.Memᴰ.tail (mathlib.Core.List.Memᴰ.head e)) = rw e (λ b. omega arith)
    back bs (mathlib.Core.List.Memᴰ.tail (mathlib.Core.List.Memᴰ.tail (mathlib.Core.List.Memᴰ.head e))) = rw e (λ b. omega arith)
    back bs (mathlib.Core.List.Memᴰ.tail (mathlib.Core.List.Memᴰ.tail (mathlib.Core.List.Memᴰ.tail m))) = elim m [ ]
