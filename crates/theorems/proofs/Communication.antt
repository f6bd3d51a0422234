-- A communication is two moves: an output that puts a token on the name, then a move that takes exactly that token
-- away. The labels are found by what a reduction does to the counts.
-- Assumes nothing.
use Prim.Native.Nat.{ℕ, ◌+◌, ◌≤◌}
use native.Mathlib.Omega.{arith}
use mathlib.Core.Path.{◌≡◌, refl, sym, ap, ◌∙◌, subst}
use mathlib.Core.List.{List, [], ◌∷◌}
use Rattle.calculus.specs.Syntax.{Name, State, Ongoing, Process, par}
use Rattle.calculus.specs.State.{count, same, occurrences, Included, Plus, without}
use Rattle.calculus.specs.Log.{RD}
use Rattle.calculus.specs.Reduction.{Rule, OUT, IN, REP, ATOK, Label, by, COM, Evolves, ardok, ardf, awr, aoi, aof, aoe, aol, aor, Reduces, OUTr, INr, REPr, COMl, COMr, PARL, PARR, ATSTr, ATPASS, ATREr, ATFAILr, ATOKr}
use Rattle.calculus.proofs.States.{same_self, same_name, one_occurs, count_plus, count_without, grown, not_itself}
use Rattle.calculus.proofs.Reductions.{adding_is_out}
use Rattle.semantics.specs.Definitions.Logs.{add_token, take_token}
use Rattle.semantics.specs.Definitions.Moves.{effect_of}
use Rattle.semantics.specs.Claims.Correspondence.{TakesOne}
use Rattle.semantics.specs.Checks.Handovers.{TwoMoves}
use Rattle.theorems.proofs.Soundness.{spent_plus}

-- ---- what the labels do to the counts

-- one name is not none
none_is_one : (a : Name) → [] ≡ a ∷ [] → ⊥
none_is_one a e = let z : ◌≡◌ {A = ℕ} 0 1 = cc in omega arith

-- a reduction of Table 3 takes nothing from the counts
nothing_taken_inside : {r : Rule} {A A' : Ongoing} → Evolves r A A' → (effect_of r).taken ≡ []
unfolding effect_of
nothing_taken_inside (ardok i) = refl
nothing_taken_inside (ardf i) = refl
nothing_taken_inside awr = refl
nothing_taken_inside aoi = refl
nothing_taken_inside aof = refl
nothing_taken_inside aoe = refl
nothing_taken_inside (aol d) = nothing_taken_inside d
nothing_taken_inside (aor d) = nothing_taken_inside d

module _ (Order : List Name → List Name → Type 0) where
  -- a reduction that takes one token of a from the counts and changes no other count is IN or REP of a, or an ATOK that
  -- reads a alone
  pub taking_is_one : {k : Label} {P P' : Process} {σ σ' : State} (a : Name) → Plus σ' a σ → Reduces Order k P σ P' σ' →
      (r : Rule) × (k ≡ by r) × TakesOne a r
  unfolding TakesOne Included
  taking_is_one a p (OUTr {a = b} {σ = σ} {σ' = σ'} q) = absurd (let y = grown σ' a σ p in let z = count_plus σ b a σ' q in omega arith)
  taking_is_one a p (INr {a = b} {σ = σ} {σ' = σ'} q) =
      let e : a ≡ b = same_name a b (let y = grown σ' a σ p in let z = count_plus σ' b a σ q in omega arith) in (IN b, refl, cc)
  taking_is_one a p (REPr {a = b} {σ = σ} {σ' = σ'} q) =
      let e : a ≡ b = same_name a b (let y = grown σ' a σ p in let z = count_plus σ' b a σ q in omega arith) in (REP b, refl, cc)
  taking_is_one a p (COMl {σ = σ} q d e) = absurd (not_itself σ a p)
  taking_is_one a p (COMr {σ = σ} q d e) = absurd (not_itself σ a p)
  taking_is_one a p (PARL d) = taking_is_one a p d
  taking_is_one a p (PARR d) = taking_is_one a p d
  taking_is_one a p (ATSTr {σ = σ}) = absurd (not_itself σ a p)
  taking_is_one a p (ATPASS {σ = σ} d) = absurd (not_itself σ a p)
  taking_is_one a p (ATREr {σ = σ}) = absurd (not_itself σ a p)
  taking_is_one a p (ATFAILr {σ = σ} d) = absurd (not_itself σ a p)
  taking_is_one a p (ATOKr {σ = σ} {δ = δ} d o) =
      (ATOK δ, refl, one_occurs a (RD δ) (λ b. let y = count_plus (without σ (RD δ)) a b σ p in let z = count_without (RD δ) σ b in let i = d b in omega arith))

  -- and back: such a rule takes one token of a from the counts and changes no other count
  pub one_is_taken : {r : Rule} {P P' : Process} {σ σ' : State} (a : Name) → TakesOne a r → Reduces Order (by r) P σ P' σ' → Plus σ' a σ
  unfolding TakesOne Included occurrences without take_token
  one_is_taken a t (OUTr q) = absurd (none_is_one a t)
  one_is_taken a t (INr {a = b} q) = let e : b ≡ a = cc in rw (← e) q
  one_is_taken a t (REPr {a = b} q) = let e : b ≡ a = cc in rw (← e) q
  one_is_taken a t (PARL d) = one_is_taken a t d
  one_is_taken a t (PARR d) = one_is_taken a t d
  one_is_taken a t ATSTr = absurd (none_is_one a t)
  one_is_taken a t (ATPASS d) = absurd (none_is_one a (sym (nothing_taken_inside d) ∙ t))
  one_is_taken a t ATREr = absurd (none_is_one a t)
  one_is_taken a t (ATFAILr i) = absurd (none_is_one a t)
  one_is_taken a t (ATOKr {σ = σ} {δ = δ} i o) =
      let there : occurrences a (RD δ) ≤ count σ a = i a in
      rw t (spent_plus σ a (λ e. let z : occurrences a (RD δ) ≡ same a a + 0 = ap (occurrences a) t in let w = same_self a in omega arith))

  -- ---- a communication as two moves

  -- the two moves of parts are two moves of the whole
  at_left : {a : Name} {P P' : Process} {σ : State} (Q : Process) → TwoMoves Order a P σ P' → TwoMoves Order a (par P Q) σ (par P' Q)
  at_left Q m = record {
    between = par m.between Q;
    second = m.second;
    puts = PARL m.puts;
    takes = PARL m.takes;
    takes_one = m.takes_one;
  }

  at_right : {a : Name} {Q Q' : Process} {σ : State} (P : Process) → TwoMoves Order a Q σ Q' → TwoMoves Order a (par P Q) σ (par P Q')
  at_right P m = record {
    between = par P m.between;
    second = m.second;
    puts = PARR m.puts;
    takes = PARR m.takes;
    takes_one = m.takes_one;
  }

  -- every communication is two such moves, and leaves the state as it was
  pub communication : {a : Name} {P P' : Process} {σ σ' : State} → Reduces Order (COM a) P σ P' σ' → TwoMoves Order a P σ P' × (σ' ≡ σ)
  unfolding add_token
  communication (COMl {l} {k} {a} {P} {P'} {Q} {Q'} {σ} {σ'} q d e) =
      let two = taking_is_one a q e in
      let put : Reduces Order (by (OUT a)) P σ P' σ' = rw (adding_is_out a q d) at d in
      let take : Reduces Order (by two.0) Q σ' Q' σ = rw two.1 at e in (
        record {
          between = par P' Q;
          second = two.0;
          puts = PARL (subst (Reduces Order (by (OUT a)) P σ P') q.added put);
          takes = PARR (subst (λ τ. Reduces Order (by two.0) Q τ Q' σ) q.added take);
          takes_one = two.2;
        },
        refl,
      )
  communication (COMr {l} {k} {a} {P} {P'} {Q} {Q'} {σ} {σ'} q d e) =
      let two = taking_is_one a q e in
      let put : Reduces Order (by (OUT a)) Q σ Q' σ' = rw (adding_is_out a q d) at d in
      let take : Reduces Order (by two.0) P σ' P' σ = rw two.1 at e in (
        record {
          between = par P Q';
          second = two.0;
          puts = PARR (subst (Reduces Order (by (OUT a)) Q σ Q') q.added put);
          takes = PARL (subst (λ τ. Reduces Order (by two.0) P τ P' σ) q.added take);
          takes_one = two.2;
        },
        refl,
      )
  communication (PARL {Q = Q} d) = let (m, e) = communication d in (at_left Q m, e)
  communication (PARR {P = P} d) = let (m, e) = communication d in (at_right P m, e)
