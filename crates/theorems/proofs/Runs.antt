-- Entries accepted one after another: what every accepted choice keeps, the steps and the counters of their rules.
-- Assumes nothing.
use mathlib.Core.Path.{◌≡◌, refl, ap}
use Prim.Native.Nat.{suc, ℕ, zero, ◌+◌}
use native.Mathlib.Omega.{arith}
use mathlib.Core.Option.{some}
use mathlib.Core.List.{List, [], ◌∷◌, ◌++◌}
use lib.ListN.{length, get_elem?, take}
use Rattle.calculus.specs.Reduction.{Rule}
use Rattle.semantics.specs.Definitions.Configuration.{Configuration}
use Rattle.semantics.specs.Definitions.Moves.{Entry, act, inside, Transition, moved, refused, transition}
use Rattle.semantics.specs.Definitions.Run.{Counters, counted, schedule, schedule_bytes, RunAnswer, continue_run, run_from, run, Step, steps, continue_steps, final_configuration}
use Rattle.theorems.proofs.Lists.{none_found}

-- entries accepted one after another, from one configuration to another
pub data Runs : Configuration → List Entry → Configuration → Type 0 where
  rested : {h : Configuration} → Runs h [] h
  ran : {h f g : Configuration} {e : Entry} {es : List Entry} (r : Rule) → transition h e ≡ moved r f → Runs f es g →
      Runs h (e ∷ es) g

-- entries behind entries
pub runs_append : {h f g : Configuration} {es ds : List Entry} → Runs h es f → Runs f ds g → Runs h (es ++ ds) g
runs_append rested y = y
runs_append (ran r q x) y = ran r q (runs_append x y)

-- what every accepted choice keeps, they keep
pub runs_keep : (P : Configuration → Type 0) →
    ((h : Configuration) (e : Entry) (r : Rule) (g : Configuration) → P h → transition h e ≡ moved r g → P g) →
    {h g : Configuration} {es : List Entry} → Runs h es g → P h → P g
runs_keep P step rested p = p
runs_keep P step (ran {h = h} {f = f} {e = e} r q x) p = runs_keep P step x (step h e r f p q)

-- their steps are as many as they are, and lead where they lead
pub runs_steps : {h g : Configuration} {es : List Entry} → Runs h es g →
    (length (steps h es) ≡ length es) × (final_configuration h (steps h es) ≡ g)
unfolding steps
runs_steps rested = (refl, refl)
runs_steps (ran r q x) = let i = runs_steps x in rw q (ap suc i.0, i.1)

-- entries that have as many steps are all accepted
pub steps_run : (h : Configuration) (es : List Entry) → length (steps h es) ≡ length es → Runs h es (final_configuration h (steps h es))
unfolding steps
steps_run h [] e = rested
steps_run h (d ∷ es) e = go (transition h d) refl (λ f. steps_run f es)
  where
    go : (a : Transition) → transition h d ≡ a → ((f : Configuration) → length (steps f es) ≡ length es → Runs f es (final_configuration f (steps f es))) →
        Runs h (d ∷ es) (final_configuration h (steps h (d ∷ es)))
    go (moved r f) q rest = rw q (ran r q (rest f (let k : suc (length (steps f es)) ≡ suc (length es) = rw q at e in omega arith)))
    go (refused n) q rest = absurd (let k : 0 ≡ suc (length es) = rw q at e in omega arith)

-- the counters after the rules of some steps
unfoldable pub tallied : Counters → List Step → Counters
unfolding counted
tallied c [] = c
tallied c (s ∷ ss) = tallied (counted s.rule c) ss

-- the counters after accepted entries and then others
pub tallied_append : {h g : Configuration} {es : List Entry} → Runs h es g → (c : Counters) (ds : List Entry) →
    tallied c (steps h (es ++ ds)) ≡ tallied (tallied c (steps h es)) (steps g ds)
unfolding steps tallied
tallied_append rested c ds = refl
tallied_append (ran r q x) c ds = rw q (tallied_append x (counted r c) ds)

-- the first j of them, and where their steps lead
pub runs_prefix : {h g : Configuration} {es : List Entry} → Runs h es g → (j : ℕ) →
    Runs h (take j es) (final_configuration h (take j (steps h es)))
unfolding steps
runs_prefix rested zero = rested
runs_prefix rested (suc j) = rested
runs_prefix (ran r q x) zero = rested
runs_prefix (ran r q x) (suc j) = rw q (ran r q (runs_prefix x j))

-- what a run over bytes answers where all of its choices are accepted
pub record RanWhole (a : RunAnswer) (total : ℕ) (g : Configuration) (d : Counters) : Type 0 where
  pub number : a.number ≡ 0
  pub done : a.done ≡ total
  pub configuration : a.configuration ≡ g
  pub counters : a.counters ≡ d

-- the first choice of a list, read from its bytes and accepted
entry_runs : (h f : Configuration) (r : Rule) (e : Entry) (es : List Entry) (c : Counters) (place before : ℕ) → transition h e ≡ moved r f →
    (w : ℕ) × (run_from h c place before (schedule (schedule_bytes (e ∷ es))) ≡ run_from f (counted r c) (place + w) (suc before) (schedule (schedule_bytes es)))
unfolding run_from continue_run schedule schedule_bytes
entry_runs h f r (act p) es c place before chosen = (2, rw chosen)
entry_runs h f r (inside p k) es c place before chosen = (3, rw chosen)

-- and all of them, from a place in the schedule with so many entries done
runs_answer : {h g : Configuration} {es : List Entry} → Runs h es g → (c : Counters) (place before : ℕ) →
    RanWhole (run_from h c place before (schedule (schedule_bytes es))) (before + length es) g (tallied c (steps h es))
unfolding run_from schedule schedule_bytes steps tallied
runs_answer rested c place before = record { number = refl; done = omega arith; configuration = refl; counters = refl }
runs_answer {h} (ran {f = f} {e = e} {es = es} r chosen rest) c place before =
    let step = entry_runs h f r e es c place before chosen in
    let k = runs_answer rest (counted r c) (place + step.0) (suc before) in
    let total : before + suc (length es) ≡ suc before + length es = omega arith in
    rw (total, step.1, chosen) k

-- A run over the bytes of choices that are all accepted does them all.
pub runs_whole : {h g : Configuration} {es : List Entry} → Runs h es g → (c : Counters) → RanWhole (run h c (schedule_bytes es)) (length es) g (tallied c (steps h es))
unfolding run
runs_whole {es = es} m c = let total : 0 + length es ≡ length es = omega arith in rw total at (runs_answer m c 0 0)

-- the step by number j of the steps ss of the entries es: an accepted choice, from where the steps before it lead
abbrev pub StepAt : Configuration → List Entry → List Step → ℕ → Step → Type 0
StepAt h es ss j s =
    (s.before ≡ final_configuration h (take j ss)) × (transition s.before s.chosen ≡ moved s.rule s.result) ×
    (s.result ≡ final_configuration h (take (suc j) ss)) × (get_elem? es j ≡ some s.chosen)

pub step_at : (h : Configuration) (es : List Entry) (j : ℕ) (s : Step) → get_elem? (steps h es) j ≡ some s →
    StepAt h es (steps h es) j s
unfolding steps
step_at h [] j s f = absurd (none_found j s f)
step_at h (e ∷ es) j s f = go (transition h e) refl j f (λ g i k. step_at g es i s k)
  where
    next : Rule → Configuration → List Step
    next r g = record { chosen = e; rule = r; before = h; result = g } ∷ steps g es

    go : (a : Transition) → transition h e ≡ a → (j : ℕ) → get_elem? (continue_steps a next) j ≡ some s →
        ((g : Configuration) (i : ℕ) → get_elem? (steps g es) i ≡ some s → StepAt g es (steps g es) i s) →
        StepAt h (e ∷ es) (continue_steps a next) j s
    go (refused n) q j f rest = absurd (none_found j s f)
    go (moved r g) q zero f rest =
        let same : record { chosen = e; rule = r; before = h; result = g } ≡ s = cc in rw (← same) (refl, q, refl, refl)
    go (moved r g) q (suc j) f rest = rest g j f
