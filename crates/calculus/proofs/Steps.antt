-- All the steps that Table 3 gives: a leaf's go by its expression, a fork's by those of its sides. The rows on both
-- tables are instances.
-- Assumes nothing.
use Prim.Native.Nat.{ℕ, suc, ◌+◌}
use mathlib.Core.Path.{◌≡◌, refl, sym, ap}
use mathlib.Core.Logic.{◌⊎◌, inl, inr}
use mathlib.Core.List.Memᴰ
use mathlib.Core.List.{List, [], ◌∷◌, ◌++◌, map, Memᴰ}
use Rattle.calculus.specs.Syntax.{Name, rd, wt, State, Log, Expr, end, retry, prefix, or_else, Ongoing, running, or_else'}
use Rattle.calculus.specs.State.{Included}
use Rattle.calculus.specs.Log.{RD}
use Rattle.calculus.specs.Reduction.{Rule, ARDOK, ARDF, AWR, AOI, AOF, AOE, Evolves, ardok, ardf, awr, aoi, aof, aoe, aol, aor, nodes_of, node_of, EvolvesAt}
use Rattle.calculus.specs.Checks.Table3.{InnerStep, step, Steps}

-- a step of an expression
abbrev Makes : Ongoing → InnerStep → Type 0
Makes A (step k r A') = EvolvesAt k r A A'

told : (A : Ongoing) (s t : InnerStep) → Makes A t → s ≡ t → Makes A s
told A s t m e = rw e m

-- an expression with one step, and one with none
one_step_holds : (A : Ongoing) (s : InnerStep) → Makes A s → ((k : ℕ) (r : Rule) (A' : Ongoing) (d : Evolves r A A') → node_of d ≡ k → step k r A' ≡ s) →
    Steps A (s ∷ [])
one_step_holds A s made only k r A' = (λ d. Memᴰ.head (only k r A' d.0 d.1), λ m. told A (step k r A') s made (Memᴰ.eq_of_singleton m))

no_step : (A : Ongoing) → ((r : Rule) (A' : Ongoing) → Evolves r A A' → ⊥) → Steps A []
no_step A none k r A' = (λ d. absurd (none r A' d.0), λ m. absurd (Memᴰ.not-nil m))

module _ (σ : State) (δ : Log) where
  pub read_there : (a : Name) (M : Expr) → Included (RD (δ ++ (rd a ∷ []))) σ →
      Steps (running (prefix (rd a) M) σ δ) (step 0 ARDOK (running M σ (δ ++ (rd a ∷ []))) ∷ [])
  unfolding node_of
  read_there a M i = one_step_holds (running (prefix (rd a) M) σ δ) (step 0 ARDOK (running M σ (δ ++ (rd a ∷ [])))) (ardok i, refl) only
    where
      only : (k : ℕ) (r : Rule) (A' : Ongoing) (d : Evolves r (running (prefix (rd a) M) σ δ) A') → node_of d ≡ k →
          step k r A' ≡ step 0 ARDOK (running M σ (δ ++ (rd a ∷ [])))
      only k r A' (ardok h) e = cc
      only k r A' (ardf h) e = absurd (h i)

  pub read_missing : (a : Name) (M : Expr) → ¬ Included (RD (δ ++ (rd a ∷ []))) σ →
      Steps (running (prefix (rd a) M) σ δ) (step 0 ARDF (running retry σ δ) ∷ [])
  unfolding node_of
  read_missing a M n = one_step_holds (running (prefix (rd a) M) σ δ) (step 0 ARDF (running retry σ δ)) (ardf n, refl) only
    where
      only : (k : ℕ) (r : Rule) (A' : Ongoing) (d : Evolves r (running (prefix (rd a) M) σ δ) A') → node_of d ≡ k →
          step k r A' ≡ step 0 ARDF (running retry σ δ)
      only k r A' (ardok h) e = absurd (n h)
      only k r A' (ardf h) e = cc

  pub write_steps : (a : Name) (M : Expr) →
      Steps (running (prefix (wt a) M) σ δ) (step 0 AWR (running M σ (δ ++ (wt a ∷ []))) ∷ [])
  unfolding node_of
  write_steps a M = one_step_holds (running (prefix (wt a) M) σ δ) (step 0 AWR (running M σ (δ ++ (wt a ∷ [])))) (awr, refl) only
    where
      only : (k : ℕ) (r : Rule) (A' : Ongoing) (d : Evolves r (running (prefix (wt a) M) σ δ) A') → node_of d ≡ k →
          step k r A' ≡ step 0 AWR (running M σ (δ ++ (wt a ∷ [])))
      only k r A' awr e = cc

  pub or_else_steps : (M N : Expr) →
      Steps (running (or_else M N) σ δ) (step 0 AOI (or_else' (running M σ δ) (running N σ δ)) ∷ [])
  unfolding node_of
  or_else_steps M N = one_step_holds (running (or_else M N) σ δ) (step 0 AOI (or_else' (running M σ δ) (running N σ δ))) (aoi, refl) only
    where
      only : (k : ℕ) (r : Rule) (A' : Ongoing) (d : Evolves r (running (or_else M N) σ δ) A') → node_of d ≡ k →
          step k r A' ≡ step 0 AOI (or_else' (running M σ δ) (running N σ δ))
      only k r A' aoi e = cc

  pub end_stays : (r : Rule) (A' : Ongoing) → Evolves r (running end σ δ) A' → ⊥
  end_stays r A' d = elim d [ ]

  pub retry_stays : (r : Rule) (A' : Ongoing) → Evolves r (running retry σ δ) A' → ⊥
  retry_stays r A' d = elim d [ ]

  pub end_steps : Steps (running end σ δ) []
  end_steps = no_step (running end σ δ) end_stays

  pub retry_steps : Steps (running retry σ δ) []
  retry_steps = no_step (running retry σ δ) retry_stays

-- the step of a fork that its left side decides
abbrev pub decided : Ongoing → Ongoing → List InnerStep
decided (running end σ δ) B = step 0 AOE (running end σ δ) ∷ []
decided (running retry σ δ) B = step 0 AOF B ∷ []
decided (running (prefix α M) σ δ) B = []
decided (running (or_else M N) σ δ) B = []
decided (or_else' A A') B = []

-- the steps of its sides
abbrev pub in_left : Ongoing → InnerStep → InnerStep
in_left B (step k r A') = step (suc k) r (or_else' A' B)

unfoldable pub in_right : Ongoing → InnerStep → InnerStep
unfolding nodes_of
in_right A (step k r B') = step (suc (nodes_of A + k)) r (or_else' A B')

decides : (A B : Ongoing) (s : InnerStep) → Memᴰ s (decided A B) → Makes (or_else' A B) s
unfolding node_of
decides (running end σ δ) B s m =
    told (or_else' (running end σ δ) B) s (step 0 AOE (running end σ δ)) (aoe, refl) (Memᴰ.eq_of_singleton m)
decides (running retry σ δ) B s m = told (or_else' (running retry σ δ) B) s (step 0 AOF B) (aof, refl) (Memᴰ.eq_of_singleton m)
decides (running (prefix α M) σ δ) B s m = absurd (Memᴰ.not-nil m)
decides (running (or_else M N) σ δ) B s m = absurd (Memᴰ.not-nil m)
decides (or_else' C D) B s m = absurd (Memᴰ.not-nil m)

pub fork_steps : (A B : Ongoing) (ss ts : List InnerStep) → Steps A ss → Steps B ts →
    Steps (or_else' A B) (decided A B ++ (map (in_left B) ss ++ map (in_right A) ts))
unfolding node_of nodes_of in_right
fork_steps A B ss ts left right k r C = (λ d. only A left k r C d.0 d.1, λ m. made (step k r C) m)
  where
    only : (A : Ongoing) → Steps A ss → (k : ℕ) (r : Rule) (C : Ongoing) (d : Evolves r (or_else' A B) C) → node_of d ≡ k →
        Memᴰ (step k r C) (decided A B ++ (map (in_left B) ss ++ map (in_right A) ts))
    only A left k r C aof e = Memᴰ.head (ap (λ i. step i AOF B) (sym e))
    only A left k r C (aoe {σ = σ} {δ = δ}) e = Memᴰ.head (ap (λ i. step i AOE (running end σ δ)) (sym e))
    only A left k r C (aol {A' = A'} d) e =
        rw (← e) (Memᴰ.append_right (decided A B) (Memᴰ.append_left (map (in_right A) ts) (Memᴰ.map (in_left B) ((left (node_of d) r A').0 (d, refl)))))
    only A left k r C (aor {B' = B'} d) e =
        rw (← e) (Memᴰ.append_right (decided A B) (Memᴰ.append_right (map (in_left B) ss) (Memᴰ.map (in_right A) ((right (node_of d) r B').0 (d, refl)))))

    from_left : (s t : InnerStep) → Memᴰ t ss → in_left B t ≡ s → Makes (or_else' A B) s
    from_left s (step j q A') m e = let (d, n) = (left j q A').1 m in rw (← e) (aol d, ap suc n)

    from_right : (s t : InnerStep) → Memᴰ t ts → in_right A t ≡ s → Makes (or_else' A B) s
    from_right s (step j q B') m e = let (d, n) = (right j q B').1 m in rw (← e) (aor d, ap (λ i. suc (nodes_of A + i)) n)

    sides : (s : InnerStep) → Memᴰ s (map (in_left B) ss) ⊎ Memᴰ s (map (in_right A) ts) → Makes (or_else' A B) s
    sides s (inl m) = let (t, n, e) = Memᴰ.of_map (in_left B) ss m in from_left s t n e
    sides s (inr m) = let (t, n, e) = Memᴰ.of_map (in_right A) ts m in from_right s t n e

    any : (s : InnerStep) → Memᴰ s (decided A B) ⊎ Memᴰ s (map (in_left B) ss ++ map (in_right A) ts) → Makes (or_else' A B) s
    any s (inl m) = decides A B s m
    any s (inr m) = sides s (Memᴰ.append_cases (map (in_left B) ss) m)

    made : (s : InnerStep) → Memᴰ s (decided A B ++ (map (in_left B) ss ++ map (in_right A) ts)) → Makes (or_else' A B) s
    made s m = any s (Memᴰ.append_cases (decided A B) m)
