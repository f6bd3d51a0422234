-- Abandoned attempts never happened (document 01, "The one-step run"): from a history without its abandoned attempts'
-- choices the same configuration is reached, by the same effects in the same order, and nothing abandoned is left in
-- it.
--
-- The run without those choices stands, at each point, where the full run stands with every attempt that is to be
-- abandoned read as its block not begun. That an attempt is abandoned is known from its number, because an attempt
-- ends at most once.
-- Assumes nothing.
use Prim.Native.Nat.{ℕ, zero, suc, ◌+◌, ◌≤◌, ◌<◌}
use native.Mathlib.Omega.{arith}
use native.Mathlib.Decide.{ℕ_discrete, dec_lt}
use mathlib.Core.Path.{◌≡◌, refl, sym, ap, subst, ◌∙◌}
use mathlib.Core.Bool.{Bool, true, false, cond, ◌||◌, true≢false}
use mathlib.Core.Option.{some, Option-elim}
use mathlib.Core.List.{List, [], ◌∷◌, ◌++◌, map, map-map}
use lib.ListN.{length, get_elem?, length-map}
use lib.Dec.{leb, eqb}
use borrow.Author.Tests.{lt-leb, eq-eqb, ne_eqb}
use Rattle.calculus.specs.Syntax.{State}
use Rattle.calculus.specs.State.{same, occurrences}
use Rattle.calculus.specs.Log.{WT}
use Rattle.calculus.specs.Reduction.{Rule}
use Rattle.calculus.proofs.States.{same_self, same_other}
use Rattle.semantics.specs.Definitions.Basics.{All, replace_at}
use mathlib.Core.Option.{bind}
use Rattle.semantics.specs.Definitions.Table.{Table}
use Rattle.semantics.specs.Definitions.Shortage.{Shortage}
use Rattle.semantics.specs.Definitions.Configuration.{Idle, repeating, block, output, Component, idle, transaction, Configuration, opens, opening}
use Rattle.semantics.specs.Definitions.Moves.{Entry, act, inside, moved, transition, moves, rule_number}
use Rattle.semantics.specs.Definitions.Run.{Counters, counted, Step, steps}
use Rattle.semantics.specs.Claims.NumberedRun.{Numbered, numbered_start, numbered_step, attempt_of, Member, members, aborts, passing, aborted, without_aborted, effects}
use Rattle.theorems.proofs.ByteReads.{or_false}
use Rattle.theorems.proofs.Lists.{none_found, found_map, map_replace_at, replace_at_same}
use Rattle.theorems.proofs.Moves.{position_of, component_answer, accepted_made}
use Rattle.theorems.proofs.Runs.{Runs, rested, ran, tallied}
use Rattle.theorems.proofs.Simulation.{Live, rests, tries, component, noted, Stepped, put, took, repeated, began, retried, failed, committed, evolved, Paced, paced_step, opening_paced}

-- ---- a run with its members

-- the attempt that choice number j belongs to, at a component
abbrev attempt : ℕ → Live → ℕ
attempt j (rests c) = j
attempt j (tries i n M s u) = i

-- choices done from number j on, with the component that each changes and what it lays down
data Trace : ℕ → Configuration → List Live → List Member → Configuration → List Live → Type 0 where
  ended : {j : ℕ} {h : Configuration} {zs : List Live} → h.components ≡ map component zs → Trace j h zs [] h zs
  next : {j : ℕ} {h f g : Configuration} {zs ws : List Live} {ms : List Member} (e : Entry) (r : Rule) (w : Shortage) (z : Live) (laid : List Live) →
      get_elem? zs (position_of e) ≡ some z → Stepped h.counts j z e r f.counts laid →
      component_answer h.counts (component z) e ≡ moves r w f.counts (map component laid) →
      length (replace_at (position_of e) laid zs) ≤ 64 →
      Trace (suc j) f (replace_at (position_of e) laid zs) ms g ws →
      Trace j h zs (record { step = record { chosen = e; rule = r; before = h; result = f }; attempt = attempt j z } ∷ ms) g ws

-- the attempt is the one of the note
note_number : (j : ℕ) (z : Live) → Option-elim (noted z).note j (λ m. m.begun) ≡ attempt j z
unfolding Option-elim
note_number j (rests c) = refl
note_number j (tries i n M s u) = refl

attempt_of_holds : (a : Numbered) (e : Entry) (z : Live) → get_elem? a.run.stations (position_of e) ≡ some (noted z) →
    attempt_of a e ≡ attempt a.next z
unfolding attempt_of position_of bind
attempt_of_holds a (act p) z f = ap (λ o. Option-elim (bind o (λ x. x.note)) a.next (λ m. m.begun)) f ∙ note_number a.next z
attempt_of_holds a (inside p k) z f = ap (λ o. Option-elim (bind o (λ x. x.note)) a.next (λ m. m.begun)) f ∙ note_number a.next z

-- accepted choices are such a run
trace : {h g : Configuration} {es : List Entry} → Runs h es g → (a : Numbered) (zs : List Live) → Paced h a zs →
    (ws : List Live) × Trace a.next h zs (members a (steps h es)) g ws
unfolding members steps numbered_step
trace rested a zs pace = (zs, ended pace.components)
trace (ran {h = h} {f = f} {e = e} r q x) a zs pace =
    let s = paced_step h a zs e r f pace q in
    let rest = trace x (numbered_step a e) (replace_at (position_of e) s.laid zs) s.paced in
    let here : attempt_of a e ≡ attempt a.next s.one = attempt_of_holds a e s.one s.station in
    (rest.0, rw (q, here) (next e r s.lacks s.one s.laid s.found s.stepped s.local s.fits rest.1))

-- ---- each attempt ends at most once

-- the numbers of the open attempts
abbrev numbers_of : List Live → List ℕ
numbers_of [] = []
numbers_of (rests c ∷ zs) = numbers_of zs
numbers_of (tries i n M s u ∷ zs) = i ∷ numbers_of zs

-- how often attempt number i is open
abbrev times : ℕ → List Live → ℕ
times i zs = occurrences i (numbers_of zs)

times_append : (i : ℕ) (xs ys : List Live) → times i (xs ++ ys) ≡ times i xs + times i ys
unfolding occurrences
times_append i [] ys = omega arith
times_append i (rests c ∷ xs) ys = times_append i xs ys
times_append i (tries k n M s u ∷ xs) ys = let h = times_append i xs ys in omega arith

times_idle : (i : ℕ) (cs : List Idle) → times i (map rests cs) ≡ 0
unfolding occurrences
times_idle i [] = refl
times_idle i (c ∷ cs) = times_idle i cs

-- after a replacement
times_replace : (i p : ℕ) (laid zs : List Live) (z : Live) → get_elem? zs p ≡ some z →
    times i (replace_at p laid zs) + times i (z ∷ []) ≡ times i laid + times i zs
unfolding replace_at
times_replace i p laid [] z f = absurd (none_found p z f)
times_replace i zero laid (x ∷ zs) z f =
    let same : x ≡ z = cc in
    rw same (let a = times_append i laid zs in let b = times_append i (z ∷ []) zs in omega arith)
times_replace i (suc p) laid (x ∷ zs) z f =
    let h = times_replace i p laid zs z f in
    let a = times_append i (x ∷ []) (replace_at p laid zs) in let b = times_append i (x ∷ []) zs in omega arith

-- no number is open twice, and none from j on
abbrev Numbers : ℕ → List Live → Type 0
Numbers j zs = (i : ℕ) → (times i zs ≤ 1) × (j ≤ i → times i zs ≡ 0)

-- what a step lays down is open already, but for the attempt that it opens
stepped_times : {σ : State} {j : ℕ} {z : Live} {e : Entry} {r : Rule} {σ' : State} {laid : List Live} →
    Stepped σ j z e r σ' laid → (i : ℕ) →
    times i laid ≤ times i (z ∷ []) + same i j
unfolding occurrences
stepped_times (put p a) i = omega arith
stepped_times (took p n a P) i = let h = times_idle i (opens P) in omega arith
stepped_times (repeated p n a P) i = let h = times_idle i (opens P ++ (repeating n a P ∷ [])) in omega arith
stepped_times (began p n M) i = omega arith
stepped_times (retried p k n M s x δ) i = omega arith
stepped_times (failed p k n M s x δ now) i = omega arith
stepped_times (committed p k n M s x δ now) i = let h = times_idle i (map output (WT δ)) in omega arith
stepped_times (evolved p m k n M s u w x q late) i = omega arith

-- the rules that have an effect
abbrev acting : Rule → Bool
acting r = leb (rule_number r) 3 || eqb (rule_number r) 7

-- three kinds of steps: with an effect, an end of an attempt without one, and a step on the way of an attempt; the
-- first two leave no attempt open in their place
data Kind (r : Rule) (laid : List Live) : Type 0 where
  effective : acting r ≡ true → aborts r ≡ false → ((i : ℕ) → times i laid ≡ 0) → Kind r laid
  abandoning : acting r ≡ false → aborts r ≡ true → ((i : ℕ) → times i laid ≡ 0) → Kind r laid
  inward : acting r ≡ false → aborts r ≡ false → Kind r laid

stepped_kind : {σ : State} {j : ℕ} {z : Live} {e : Entry} {r : Rule} {σ' : State} {laid : List Live} →
    Stepped σ j z e r σ' laid → Kind r laid
unfolding rule_number aborts occurrences
stepped_kind (put p a) = effective refl refl (λ i. refl)
stepped_kind (took p n a P) = effective refl refl (λ i. times_idle i (opens P))
stepped_kind (repeated p n a P) = effective refl refl (λ i. times_idle i (opens P ++ (repeating n a P ∷ [])))
stepped_kind (began p n M) = inward refl refl
stepped_kind (retried p k n M s x δ) = abandoning refl refl (λ i. refl)
stepped_kind (failed p k n M s x δ now) = abandoning refl refl (λ i. refl)
stepped_kind (committed p k n M s x δ now) = effective refl refl (λ i. times_idle i (map output (WT δ)))
stepped_kind (evolved p m k n M s u w x q late) =
    inward
    (rw (lt-leb (rule_number x) 3 (omega arith), ne_eqb (rule_number x) 7 (λ e. omega arith)))
    (rw (ne_eqb (rule_number x) 5 (λ e. omega arith), ne_eqb (rule_number x) 6 (λ e. omega arith)))

-- one step more
numbers_step : {σ : State} {j : ℕ} {z : Live} {e : Entry} {r : Rule} {σ' : State} {laid : List Live} (p : ℕ)
    (zs : List Live) → Stepped σ j z e r σ' laid →
    get_elem? zs p ≡ some z → Numbers j zs → Numbers (suc j) (replace_at p laid zs)
numbers_step {j = j} {z = z} {laid = laid} p zs s f k i = elim (ℕ_discrete i j) [ yes e ↦ at e | no d ↦ off d ]
  where
    at : i ≡ j → (times i (replace_at p laid zs) ≤ 1) × (suc j ≤ i → times i (replace_at p laid zs) ≡ 0)
    at e =
        let new = stepped_times s i in
        let h = times_replace i p laid zs z f in
        let none_yet = (k i).1 (omega arith) in
        let one : same i j ≡ 1 = rw e (same_self j) in
        (omega arith, λ l. absurd (omega arith))

    off : ¬ (i ≡ j) → (times i (replace_at p laid zs) ≤ 1) × (suc j ≤ i → times i (replace_at p laid zs) ≡ 0)
    off d =
        let new = stepped_times s i in
        let h = times_replace i p laid zs z f in
        let before = (k i).0 in
        let zero_there = same_other i j d in
        (omega arith, λ l. let none_yet = (k i).1 (omega arith) in omega arith)

-- the attempt of a step has a number up to j, and stands nowhere else
attempt_here : (j p : ℕ) (zs : List Live) (z : Live) → get_elem? zs p ≡ some z → Numbers j zs →
    (attempt j z < suc j) × (times (attempt j z) zs ≤ times (attempt j z) (z ∷ []))
unfolding occurrences
attempt_here j p zs (rests c) f k = let none_yet = (k j).1 (omega arith) in (omega arith, omega arith)
attempt_here j p zs (tries i n M s u) f k =
    let h = times_replace i p [] zs (tries i n M s u) f in
    let one = same_self i in
    let at_most = (k i).0 in
    (elim (dec_lt i (suc j)) [ yes l ↦ l | no l ↦ absurd (let none_yet = (k i).1 (omega arith) in omega arith) ], omega arith)

-- a number up to j that is not open belongs to no step from j on, and stays closed
absent : {j : ℕ} {h g : Configuration} {zs ws : List Live} {ms : List Member} → Trace j h zs ms g ws → (i : ℕ) →
    i < j → times i zs ≡ 0 →
    All (λ m. ¬ (m.attempt ≡ i)) ms × (times i ws ≡ 0)
unfolding occurrences
absent (ended all) i l k = (tt, k)
absent {j} {zs = zs} (next e r w z laid found s local few rest) i l k =
    let gone = times_replace i (position_of e) [] zs z found in
    let after = times_replace i (position_of e) laid zs z found in
    let new = stepped_times s i in
    let older = same_other i j (λ x. omega arith) in
    let later = absent rest i (omega arith) (omega arith) in
    ((other z (omega arith), later.0), later.1)
  where
    other : (z : Live) → times i (z ∷ []) ≡ 0 → ¬ (attempt j z ≡ i)
    other (rests c) none_there x = omega arith
    other (tries a n M s u) none_there x = let one : same i a ≡ 1 = rw x (same_self i) in omega arith

-- ---- the run without some attempts

-- an attempt is kept where its number is not among those to leave out
abbrev spared : List ℕ → ℕ → Bool
spared L i = eqb (occurrences i L) 0

-- a component, its attempt read as not begun where it is left out
abbrev clear : List ℕ → Live → Component
clear L (rests c) = idle c
clear L (tries i n M s u) = cond (spared L i) (transaction n M s u) (idle (block n M))

abbrev cleared : List ℕ → Configuration → List Live → Configuration
cleared L h zs = record { counts = h.counts; components = map (clear L) zs }

-- idle components are the same in both
idle_clear : (L : List ℕ) (cs : List Idle) → map (clear L) (map rests cs) ≡ map component (map rests cs)
idle_clear L cs = map-map (clear L) rests cs ∙ sym (map-map component rests cs)

-- a choice of an attempt that is kept meets the same component and lays down the same
stepped_kept : {σ : State} {j : ℕ} {z : Live} {e : Entry} {r : Rule} {σ' : State} {laid : List Live} (L : List ℕ) →
    Stepped σ j z e r σ' laid →
    spared L (attempt j z) ≡ true → (clear L z ≡ component z) × (map (clear L) laid ≡ map component laid)
stepped_kept L (put p a) q = (refl, refl)
stepped_kept L (took p n a P) q = (refl, idle_clear L (opens P))
stepped_kept L (repeated p n a P) q = (refl, idle_clear L (opens P ++ (repeating n a P ∷ [])))
stepped_kept L (began p n M) q = (refl, rw q)
stepped_kept L (retried p i n M s x δ) q = (rw q, refl)
stepped_kept L (failed p i n M s x δ now) q = (rw q, refl)
stepped_kept L (committed p i n M s x δ now) q = (rw q, idle_clear L (map output (WT δ)))
stepped_kept L (evolved p k i n M s u w x m late) q = (rw q, rw q)

-- one without effect, of an attempt that is left out, changes nothing
stepped_skipped : {σ : State} {j : ℕ} {z : Live} {e : Entry} {r : Rule} {σ' : State} {laid : List Live} (L : List ℕ) →
    Stepped σ j z e r σ' laid →
    spared L (attempt j z) ≡ false → acting r ≡ false →
    (y : Live) × (laid ≡ y ∷ []) × (clear L z ≡ clear L y) × (σ ≡ σ')
unfolding rule_number
stepped_skipped L (put p a) q quiet = absurd (true≢false quiet)
stepped_skipped L (took p n a P) q quiet = absurd (true≢false quiet)
stepped_skipped L (repeated p n a P) q quiet = absurd (true≢false quiet)
stepped_skipped L (began p n M) q quiet = (_, refl, rw q, refl)
stepped_skipped L (retried p i n M s x δ) q quiet = (_, refl, rw q, refl)
stepped_skipped L (failed p i n M s x δ now) q quiet = (_, refl, rw q, refl)
stepped_skipped L (committed p i n M s x δ now) q quiet = absurd (true≢false quiet)
stepped_skipped L (evolved p k i n M s u w x m late) q quiet = (_, refl, rw q, refl)

module _ (L : List ℕ) (h f : Configuration) (zs : List Live) (e : Entry) (r : Rule) (z : Live) (laid : List Live)
    (found : get_elem? zs (position_of e) ≡ some z) where
  -- so it is accepted without them too
  choose_kept : (w : Shortage) → component_answer h.counts (component z) e ≡ moves r w f.counts (map component laid) →
      length (replace_at (position_of e) laid zs) ≤ 64 →
      (clear L z ≡ component z) × (map (clear L) laid ≡ map component laid) →
      transition (cleared L h zs) e ≡ moved r (cleared L f (replace_at (position_of e) laid zs))
  choose_kept w local fits k =
      let p : ℕ = position_of e in
      let both = map_replace_at (clear L) zs laid p in
      let few : length (replace_at p (map (clear L) laid) (map (clear L) zs)) ≤ 64 = rw (← both, length-map) fits in
      accepted_made (cleared L h zs) e r {w = w} f.counts (clear L z) (map (clear L) laid) (found_map (clear L) zs p z found)
      (rw (k.0, k.1) local) few
      ∙ λ i. moved r (record { counts = f.counts; components = sym both i })

  -- or leaves what is there
  same_skipped : (y : Live) × (laid ≡ y ∷ []) × (clear L z ≡ clear L y) × (h.counts ≡ f.counts) →
      cleared L h zs ≡ cleared L f (replace_at (position_of e) laid zs)
  same_skipped (y, one, c, σ) =
      let p : ℕ = position_of e in
      let there : get_elem? (map (clear L) zs) p ≡ some (clear L y) = found_map (clear L) zs p z found ∙ ap some c in
      let both : map (clear L) (replace_at p laid zs) ≡ map (clear L) zs =
      rw one (map_replace_at (clear L) zs (y ∷ []) p ∙ replace_at_same (map (clear L) zs) p (clear L y) there) in
      λ i. record { counts = σ i; components = sym both i }

-- ---- the whole run

-- which attempts are left out fits a step: those that it abandons, and none by which it has an effect
Fits : List ℕ → Member → Type 0
Fits L m =
    (aborts m.step.rule ≡ true → spared L m.attempt ≡ false) ×
    (acting m.step.rule ≡ true → spared L m.attempt ≡ true)

-- no attempt that is still open is left out
abbrev Open : List ℕ → Live → Type 0
Open L (rests c) = Unit {0}
Open L (tries i n M s u) = spared L i ≡ true

open_cleared : (L : List ℕ) (zs : List Live) → All (Open L) zs → map component zs ≡ map (clear L) zs
open_cleared L [] k = refl
open_cleared L (rests c ∷ zs) k = ap (◌∷◌ (idle c)) (open_cleared L zs k.1)
open_cleared L (tries i n M s u ∷ zs) k = rw k.0 (ap (◌∷◌ (transaction n M s u)) (open_cleared L zs k.1))

-- entries accepted from h to g, against the steps ss of a run: the same effects, nothing abandoned, and as many
-- commits
pub record KeptFrom (h : Configuration) (es : List Entry) (g : Configuration) (ss : List Step) : Type 0 where
  pub runs : Runs h es g
  pub same_effects : effects (steps h es) ≡ effects ss
  pub none_abandoned : All (λ u. aborts u.rule ≡ false) (steps h es)
  pub counters : (c d : Counters) → c.commits ≡ d.commits →
      tallied c (steps h es) ≡ record { commits = (tallied d ss).commits; failed = c.failed; retries = c.retries }

-- a rule that abandons nothing leaves two counters
counted_spares : (r : Rule) (c : Counters) → eqb (rule_number r) 5 ≡ false → eqb (rule_number r) 6 ≡ false →
    ((counted r c).failed ≡ c.failed) × ((counted r c).retries ≡ c.retries)
unfolding counted
counted_spares r c five six = (rw six, rw five)

-- a step that is kept
kept_on : (h f : Configuration) (e : Entry) (r : Rule) (es : List Entry) (g b o : Configuration) (ss : List Step) →
    transition h e ≡ moved r f → aborts r ≡ false →
    KeptFrom f es g ss → KeptFrom h (e ∷ es) g (record { chosen = e; rule = r; before = b; result = o } ∷ ss)
unfolding steps effects tallied passing aborts
kept_on h f e r es g b o ss q spares k =
    let n = or_false (eqb (rule_number r) 5) (eqb (rule_number r) 6) spares in
    record {
      runs = ran r q k.runs;
      same_effects = rw q (ap (λ rs. cond (acting r) (r ∷ rs) rs) k.same_effects);
      none_abandoned = rw q (spares, k.none_abandoned);
      counters =
          λ c d same.
          let commits = (tallied (counted r d) ss).commits in
          let z = counted_spares r c n.0 n.1 in
          rw q (k.counters (counted r c) (counted r d) (rw same) ∙
          ap (λ f. record { commits = commits; failed = f; retries = (counted r c).retries }) z.0 ∙
          ap (λ t. record { commits = commits; failed = c.failed; retries = t }) z.1);
    }

-- a step that is left out
kept_skip : (h : Configuration) (e : Entry) (r : Rule) (es : List Entry) (g b o : Configuration) (ss : List Step) →
    acting r ≡ false →
    KeptFrom h es g ss → KeptFrom h es g (record { chosen = e; rule = r; before = b; result = o } ∷ ss)
unfolding effects tallied passing
kept_skip h e r es g b o ss quiet k =
    let n = or_false (leb (rule_number r) 3) (eqb (rule_number r) 7) quiet in
    record {
      runs = k.runs;
      same_effects = k.same_effects ∙ rw quiet;
      none_abandoned = k.none_abandoned;
      counters = λ c d same. k.counters c (counted r d) (same ∙ rw n.1);
    }

-- the choices of the attempts that are not left out
abbrev kept_by : List ℕ → List Member → List Entry
kept_by L ms = map (λ m. m.step.chosen) (passing (λ m. spared L m.attempt) ms)

-- a test that cannot pass
fails : (b : Bool) → (b ≡ true → ⊥) → b ≡ false
fails true h = absurd (h refl)
fails false h = refl

-- without attempts that fit the steps, and are all closed at the end, the run leads where it led
kept_trace : {j : ℕ} {h g : Configuration} {zs ws : List Live} {ms : List Member} → Trace j h zs ms g ws →
    (L : List ℕ) → All (Fits L) ms → All (Open L) ws →
    KeptFrom (cleared L h zs) (kept_by L ms) g (map (λ m. m.step) ms)
unfolding passing steps effects tallied Fits
kept_trace {h = h} {zs = zs} (ended all) L fits rests_open =
    subst (λ x. KeptFrom x [] h []) (λ i. record { counts = h.counts; components = (all ∙ open_cleared L zs rests_open) i })
    (record {
      runs = rested;
      same_effects = refl;
      none_abandoned = tt;
      counters = λ c d e. λ i. record { commits = e i; failed = c.failed; retries = c.retries };
    })
kept_trace {j} {h} {zs = zs} (next {f = f} {g = g} {ms = ms} e r w z laid found s local few rest) L fits rests_open =
    go (spared L (attempt j z)) refl (kept_trace rest L fits.1 rests_open)
  where
    m : Member
    m = record { step = record { chosen = e; rule = r; before = h; result = f }; attempt = attempt j z }

    go : (b : Bool) → spared L (attempt j z) ≡ b →
        KeptFrom (cleared L f (replace_at (position_of e) laid zs)) (kept_by L ms) g (map (λ m. m.step) ms) →
        KeptFrom (cleared L h zs) (kept_by L (m ∷ ms)) g (m.step ∷ map (λ m. m.step) ms)
    go true q k =
        let spares = fails (aborts r) (λ a. true≢false (sym q ∙ fits.0.0 a)) in
        rw q (kept_on (cleared L h zs) _ e r _ g h f _ (choose_kept L h f zs e r z laid found w local few (stepped_kept L s q)) spares k)
    go false q k =
        let quiet = fails (acting r) (λ a. true≢false (sym (fits.0.1 a) ∙ q)) in
        rw (q, same_skipped L h f zs e r z laid found (stepped_skipped L s q quiet)) (kept_skip _ e r _ g h f _ quiet k)

-- ---- the abandoned attempts

-- steps of other attempts abandon nothing of it
absent_abandoned : (k : ℕ) (ms : List Member) → All (λ m. ¬ (m.attempt ≡ k)) ms → occurrences k (aborted ms) ≡ 0
unfolding aborted occurrences
absent_abandoned k [] others = refl
absent_abandoned k (m ∷ ms) others = go (aborts m.step.rule) (absent_abandoned k ms others.1)
  where
    go : (b : Bool) → occurrences k (aborted ms) ≡ 0 →
        occurrences k
        (map (λ m. m.attempt) (cond b (m ∷ passing (λ m. aborts m.step.rule) ms) (passing (λ m. aborts m.step.rule) ms)))
        ≡ 0
    go true h = let d = same_other k m.attempt (λ x. others.0 (sym x)) in omega arith
    go false h = h

-- one more attempt to leave out
fits_more : (k : ℕ) (L : List ℕ) (ms : List Member) → All (λ m. ¬ (m.attempt ≡ k)) ms → All (Fits L) ms →
    All (Fits (k ∷ L)) ms
unfolding Fits occurrences
fits_more k L [] others fits = tt
fits_more k L (m ∷ ms) others fits =
    let d = same_other m.attempt k others.0 in
    let same_there : occurrences m.attempt (k ∷ L) ≡ occurrences m.attempt L = omega arith in
    ((λ a. rw same_there (fits.0.0 a), λ a. rw same_there (fits.0.1 a)), fits_more k L ms others.1 fits.1)

open_more : (k : ℕ) (L : List ℕ) (ws : List Live) → times k ws ≡ 0 → All (Open L) ws → All (Open (k ∷ L)) ws
unfolding occurrences
open_more k L [] closed opens_all_holds = tt
open_more k L (rests c ∷ ws) closed opens_all_holds = (tt, open_more k L ws closed opens_all_holds.1)
open_more k L (tries i n M s u ∷ ws) closed opens_all_holds =
    let d = same_other i k (λ x. let one : same k i ≡ 1 = rw x (same_self k) in omega arith) in
    let same_there : occurrences i (k ∷ L) ≡ occurrences i L = omega arith in
    (rw same_there opens_all_holds.0, open_more k L ws (omega arith) opens_all_holds.1)

-- a step that adds nothing to what is left out
fits_with : (L L' : List ℕ) (m : Member) (ms : List Member) (ws : List Live) → L' ≡ L → Fits L m → All (Fits L) ms →
    All (Open L) ws → All (Fits L') (m ∷ ms) × All (Open L') ws
fits_with L L' m ms ws e one fits opens =
    subst (λ K. All (Fits K) (m ∷ ms) × All (Open K) ws) (sym e) ((one, fits), opens)

none_added : (m : Member) (ms : List Member) → aborts m.step.rule ≡ false → aborted (m ∷ ms) ≡ aborted ms
unfolding aborted passing
none_added m ms e = rw e refl

one_added : (m : Member) (ms : List Member) → aborts m.step.rule ≡ true →
    aborted (m ∷ ms) ≡ m.attempt ∷ aborted ms
unfolding aborted passing
one_added m ms e = rw e refl

-- the abandoned attempts fit the steps, and none of them is open at the end
abandoned_fits : {j : ℕ} {h g : Configuration} {zs ws : List Live} {ms : List Member} → Trace j h zs ms g ws →
    Numbers j zs →
    All (Fits (aborted ms)) ms × All (Open (aborted ms)) ws
unfolding aborted passing occurrences Fits
abandoned_fits {ws = ws} (ended all) k = (tt, go ws)
  where
    go : (ws : List Live) → All (Open []) ws
    go [] = tt
    go (rests c ∷ ws) = (tt, go ws)
    go (tries i n M s u ∷ ws) = (refl, go ws)
abandoned_fits {j} {zs = zs} {ws = ws} (next {h = h} {f = f} {ms = ms} e r w z laid found s local few rest) k =
    go (stepped_kind s) (abandoned_fits rest (numbers_step (position_of e) zs s found k))
  where
    a : ℕ
    a = attempt j z

    m : Member
    m = record { step = record { chosen = e; rule = r; before = h; result = f }; attempt = a }

    closed : ((i : ℕ) → times i laid ≡ 0) → All (λ m. ¬ (m.attempt ≡ a)) ms × (times a ws ≡ 0)
    closed empty =
        let here = attempt_here j (position_of e) zs z found k in
        let after = times_replace a (position_of e) laid zs z found in
        let nothing_laid = empty a in absent rest a here.0 (let l = here.1 in omega arith)

    go : Kind r laid → All (Fits (aborted ms)) ms × All (Open (aborted ms)) ws →
        All (Fits (aborted (m ∷ ms))) (m ∷ ms) × All (Open (aborted (m ∷ ms))) ws
    go (effective acts spares empty) (fits, opens_all_holds) =
        fits_with (aborted ms) (aborted (m ∷ ms)) m ms ws (none_added m ms spares) (
          λ x. absurd (true≢false (sym x ∙ spares)),
          λ x. eq-eqb (occurrences a (aborted ms)) 0 (absent_abandoned a ms (closed empty).0),
        ) fits opens_all_holds
    go (abandoning quiet ends empty) (fits, opens_all_holds) =
        let c = closed empty in
        let one = same_self a in
        fits_with (a ∷ aborted ms) (aborted (m ∷ ms)) m ms ws (one_added m ms ends) (
          λ x. ne_eqb (occurrences a (a ∷ aborted ms)) 0 (λ n. omega arith),
          λ x. absurd (true≢false (sym x ∙ quiet)),
        ) (fits_more a (aborted ms) ms c.0 fits) (open_more a (aborted ms) ws c.1 opens_all_holds)
    go (inward quiet spares) (fits, opens_all_holds) =
        fits_with (aborted ms) (aborted (m ∷ ms)) m ms ws (none_added m ms spares)
        (λ x. absurd (true≢false (sym x ∙ spares)), λ x. absurd (true≢false (sym x ∙ quiet))) fits opens_all_holds

-- ---- from the opening

-- the steps of the members are the steps
members_steps : (a : Numbered) (ss : List Step) → map (λ m. m.step) (members a ss) ≡ ss
unfolding members
members_steps a [] = refl
members_steps a (s ∷ ss) = ap (◌∷◌ s) (members_steps (numbered_step a s.chosen) ss)

-- Without the choices of its abandoned attempts a run from the opening leads where it led.
pub kept_runs : (t : Table) (c : Counters) {es : List Entry} {g : Configuration} → Runs (opening t) es g →
    KeptFrom (opening t) (without_aborted (members (numbered_start t c) (steps (opening t) es))) g (steps (opening t) es)
unfolding without_aborted opening numbered_start
kept_runs t c {es} {g} m =
    let a : Numbered = numbered_start t c in
    let cs = opens t.start in
    let ms = members a (steps (opening t) es) in
    let L = aborted ms in
    let run = trace m a (map rests cs) (opening_paced t c) in
    let told = abandoned_fits run.1 (λ i. let none_open = times_idle i cs in (omega arith, λ l. none_open)) in
    let begins : cleared L (opening t) (map rests cs) ≡ opening t =
    λ i. record { counts = t.tokens; components = map-map (clear L) rests cs i } in
    rw (begins, members_steps a (steps (opening t) es)) at (kept_trace run.1 L told.0 told.1)
