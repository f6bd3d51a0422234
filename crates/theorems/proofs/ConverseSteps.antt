-- The steps of the converse's one-step runs are what the engine does by choices at one station, from a hall without
-- attempts: an OUT, an IN or a REP, or an attempt that is opened, moved inside and committed.
-- Assumes nothing.
use Prim.Native.Nat.{ℕ, ◌≤◌, ◌<◌}
use native.Mathlib.Omega.{arith}
use mathlib.Core.Path.{◌≡◌, refl, sym, ap, ◌∙◌}
use mathlib.Core.Logic.{◌⊎◌, inl, inr}
use mathlib.Core.Bool.{Bool, true, false}
use mathlib.Core.Option.{some}
use mathlib.Core.List.{List, [], ◌∷◌, ◌++◌, map, map-map}
use lib.ListN.{length, get_elem?, length-map}
use lib.Dec.{leb, eqb}
use borrow.Author.Tests.{eqb-false, leb-false}
use Rattle.calculus.specs.Syntax.{Log, State}
use Rattle.calculus.specs.State.{count, without, Included}
use Rattle.calculus.specs.Log.{RD, WT}
use Rattle.calculus.specs.Reduction.{Rule, OUT, IN, REP, ATST, ATFAIL, ATOK}
use Rattle.semantics.specs.Definitions.Basics.{replace_at, first_of, All}
use Rattle.semantics.specs.Definitions.Terms.{Expression, end_t, retry_t, rd_t, wt_t, or_else_t}
use Rattle.semantics.specs.Definitions.Shortage.{Shortage, enough}
use Rattle.semantics.specs.Definitions.Logs.{empty_log, shortage, readable, paths, first_readable, add_token, take_token}
use Rattle.semantics.specs.Definitions.Configuration.{Idle, taking, repeating, block, output, Tree, leaf, fork, Component, idle, transaction, Configuration, opens}
use Rattle.semantics.specs.Definitions.Moves.{act, inside, ComponentAnswer, moves, blocked, takes, puts, commits, ends, acts, acts_inside, moved, transition, rule_number}
use Rattle.semantics.specs.Claims.InnerMoves.{Moves, unmoved, MovesSettleFirstPath}
use Rattle.semantics.specs.Claims.ConverseRuns.{PlainState, replacing, ConverseStep, step_out, step_in, step_rep, step_commit, ConverseSteps, no_step, step_then, idle_configuration}
use Rattle.semantics.specs.Checks.ConverseSteps.{StartIsOpening, DoneAt, ConverseStepsAreMoves, ReadableBlocksCommit, ConverseStepsGoOn}
use Rattle.theorems.proofs.Lists.{found_below, found_at, found_map, map_replace_at, replaced_here, replace_at_twice}
use Rattle.theorems.proofs.ByteReads.{by_cases}
use Rattle.theorems.proofs.ReadableLogs.{included_readable, not_included_unreadable}
use Rattle.theorems.proofs.Moves.{position_of, component_answer, accepted_inverts}
use Rattle.theorems.proofs.InnerMoves.{inside_alone, moves_snoc, moves_settle_first_path}
use Rattle.theorems.proofs.Drive.{nodes_for}
use Rattle.theorems.proofs.Runs.{Runs, rested, ran, runs_steps, steps_run}
use Rattle.theorems.proofs.Converse.{attempting, StepDone, step_done}

-- ---- a choice where no attempt is open

-- the station found at a position where every component is idle
station_at : (s : PlainState) (p : ℕ) (c : Component) → get_elem? (idle_configuration s).components p ≡ some c →
    (x : Idle) × (get_elem? s.stations p ≡ some x) × (idle x ≡ c)
unfolding idle_configuration
station_at s p c e =
    let below : p < length s.stations = let k = found_below (map idle s.stations) p c e in rw length-map at k in
    let x = found_at s.stations p below in
    let same = found_map idle s.stations p x.0 x.1 in (x.0, x.1, cc)

-- a hall where idle ones are laid down in a station's place is a state's
left_idle : (s : PlainState) (p : ℕ) (σ : State) (cs : List Idle) (g : Configuration) → g.counts ≡ σ →
    g.components ≡ replace_at p (map idle cs) (idle_configuration s).components → idle_configuration (replacing s p σ cs) ≡ g
unfolding idle_configuration replacing
left_idle s p σ cs g e f =
    let same : map idle (replace_at p cs s.stations) ≡ g.components = map_replace_at idle s.stations cs p ∙ sym f in
    λ i. record { counts = sym e i; components = same i }

-- and has as many components as the state has stations
few_left : (u : PlainState) (g : Configuration) → idle_configuration u ≡ g → length g.components ≤ 64 → length u.stations ≤ 64
unfolding idle_configuration
few_left u g e few = let k = length-map u.stations idle in let l = ap (λ h. length h.components) e in omega arith

-- what a station does by itself: a step by one of the rules 1 to 3, or it opens its attempt
OwnMove : PlainState → ℕ → Rule → Configuration → Type 0
OwnMove s p r g =
    ((rule_number r ≤ 3) × ((u : PlainState) × (idle_configuration u ≡ g) × ConverseStep s p u)) ⊎
    ((r ≡ ATST) × ((n : ℕ) × (M : Expression) × (get_elem? s.stations p ≡ some (block n M)) × (attempting s p n M (leaf M empty_log) ≡ g)))

-- the same of its answer, where what it lays down fits
abbrev OwnLocal : PlainState → ℕ → ComponentAnswer → Type 0
OwnLocal s p (blocked n) = Unit {0}
OwnLocal s p (moves r w σ cs) =
    (g : Configuration) → g.counts ≡ σ → g.components ≡ replace_at p cs (idle_configuration s).components → length g.components ≤ 64 → OwnMove s p r g

-- by the rules 1 to 3
own_step : (w : Shortage) (s : PlainState) (p : ℕ) (r : Rule) (σ : State) (cs : List Idle) → rule_number r ≤ 3 →
    (length (replace_at p cs s.stations) ≤ 64 → ConverseStep s p (replacing s p σ cs)) → OwnLocal s p (moves r w σ (map idle cs))
unfolding OwnMove replacing
own_step w s p r σ cs low step g e f few =
    let same = left_idle s p σ cs g e f in inl (low, (replacing s p σ cs, same, step (few_left (replacing s p σ cs) g same few)))

-- kind 1 at a station
own_move : (s : PlainState) (p : ℕ) (c : Idle) → get_elem? s.stations p ≡ some c → OwnLocal s p (acts s.counts (idle c))
unfolding acts takes puts rule_number OwnMove attempting idle_configuration
own_move s p (taking n a P) found =
    by_cases (OwnLocal s p) (eqb (count s.counts a) 0) (blocked 18) (moves (IN a) enough (take_token s.counts a) (map idle (opens P))) (λ e. tt)
    (λ e. own_step enough s p (IN a) (take_token s.counts a) (opens P) (omega arith)
    (λ fits. step_in n a P found (eqb-false (count s.counts a) 0 e) (λ many. omega arith)))
own_move s p (repeating n a P) found =
    let cs : List Idle = opens P ++ (repeating n a P ∷ []) in
    by_cases (OwnLocal s p) (eqb (count s.counts a) 0) (blocked 18) (moves (REP a) enough (take_token s.counts a) (map idle cs)) (λ e. tt)
    (λ e. own_step enough s p (REP a) (take_token s.counts a) cs (omega arith)
    (λ fits. step_rep n a P found (eqb-false (count s.counts a) 0 e) (λ many. omega arith)))
own_move s p (output a) found =
    by_cases (OwnLocal s p) (leb 255 (count s.counts a)) (blocked 20) (moves (OUT a) enough (add_token s.counts a) []) (λ e. tt)
    (λ e. let room = leb-false 255 (count s.counts a) e in
    own_step enough s p (OUT a) (add_token s.counts a) [] (omega arith) (λ fits. step_out a found (λ full. omega arith)))
own_move s p (block n M) found = λ g e f few. inr (refl, (n, M, found, λ i. record { counts = sym e i; components = sym f i }))

-- an accepted act
acted : (s : PlainState) (p : ℕ) (r : Rule) (g : Configuration) → transition (idle_configuration s) (act p) ≡ moved r g → OwnMove s p r g
unfolding position_of component_answer idle_configuration
acted s p r g q =
    let m = accepted_inverts (idle_configuration s) (act p) r g q in
    let c = station_at s p m.component m.found in
    let own : acts s.counts (idle c.0) ≡ moves r m.lacks g.counts m.laid = rw c.2 m.local in
    let can : OwnLocal s p (moves r m.lacks g.counts m.laid) = rw own at (own_move s p c.0 c.1) in
    can g refl m.placed m.fits

-- a move inside is never accepted there
no_inside : (s : PlainState) (p k : ℕ) (r : Rule) (g : Configuration) → transition (idle_configuration s) (inside p k) ≡ moved r g → ⊥
unfolding position_of component_answer acts_inside
no_inside s p k r g q =
    let m = accepted_inverts (idle_configuration s) (inside p k) r g q in
    let c = station_at s p m.component m.found in
    let own : blocked 15 ≡ moves r m.lacks g.counts m.laid = rw (← c.2) at m.local in
    let z : ◌≡◌ {A = ℕ} 0 1 = cc in omega arith

-- nor is a commit
no_commit : (s : PlainState) (p : ℕ) (δ : Log) (g : Configuration) → transition (idle_configuration s) (act p) ≡ moved (ATOK δ) g → ⊥
unfolding OwnMove rule_number
no_commit s p δ g q =
    elim (acted s p (ATOK δ) g q) [ inl h ↦ (let k = h.0 in omega arith) | inr h ↦ (let k = ap rule_number h.0 in omega arith) ]

-- ---- an attempt undisturbed

-- what commits is a single end leaf with the log that is committed
commits_with : (σ : State) (n : ℕ) (M : Expression) (t : Tree) (δ : Log) (w : Shortage) (σ' : State) (cs : List Component) → ends σ n M t ≡ moves (ATOK δ) w σ' cs →
    (e : ℕ) × (t ≡ leaf (end_t e) δ) × (σ' ≡ without σ (RD δ)) × (cs ≡ map idle (map output (WT δ)))
unfolding ends commits
commits_with σ n M (leaf (end_t e) π) δ w σ' cs q = go (readable σ π) refl
  where
    go : (b : Bool) → readable σ π ≡ b →
        (d : ℕ) × (leaf (end_t e) π ≡ leaf (end_t d) δ) × (σ' ≡ without σ (RD δ)) × (cs ≡ map idle (map output (WT δ)))
    go true r =
        let k : moves (ATOK π) enough (without σ (RD π)) (map (λ a. idle (output a)) (WT π)) ≡ moves (ATOK δ) w σ' cs = rw r at q in
        let same : π ≡ δ = cc in
        (e, ap (leaf (end_t e)) same, rw (← same) (cc), rw (map-map idle output, ← same) (cc))
    go false r =
        let k : moves ATFAIL (shortage σ π) σ (idle (block n M) ∷ []) ≡ moves (ATOK δ) w σ' cs = rw r at q in absurd (let z : ◌≡◌ {A = ℕ} 0 1 = cc in omega arith)
commits_with σ n M (leaf (retry_t e) π) δ w σ' cs q = absurd (let z : ◌≡◌ {A = ℕ} 0 1 = cc in omega arith)
commits_with σ n M (leaf (rd_t e a N) π) δ w σ' cs q = absurd (let z : ◌≡◌ {A = ℕ} 0 1 = cc in omega arith)
commits_with σ n M (leaf (wt_t e a N) π) δ w σ' cs q = absurd (let z : ◌≡◌ {A = ℕ} 0 1 = cc in omega arith)
commits_with σ n M (leaf (or_else_t e N N') π) δ w σ' cs q = absurd (let z : ◌≡◌ {A = ℕ} 0 1 = cc in omega arith)
commits_with σ n M (fork l r) δ w σ' cs q = absurd (let z : ◌≡◌ {A = ℕ} 0 1 = cc in omega arith)

module _ (s : PlainState) (p n : ℕ) (M : Expression) (found : get_elem? s.stations p ≡ some (block n M)) where
  -- the attempt stands where its block stood
  there : (t : Tree) → get_elem? (attempting s p n M t).components p ≡ some (transaction n M s.counts t)
  unfolding attempting
  there t =
      let below = found_below (map idle s.stations) p (idle (block n M)) (found_map idle s.stations p (block n M) found) in
      replaced_here p p 0 (transaction n M s.counts t ∷ []) (map idle s.stations) below (omega arith) (omega arith)

  -- what takes the attempt's place stands in its block's place
  in_place : (t : Tree) (cs : List Component) → replace_at p cs (attempting s p n M t).components ≡ replace_at p cs (idle_configuration s).components
  unfolding attempting idle_configuration
  in_place t cs = replace_at_twice (map idle s.stations) cs p (transaction n M s.counts t)

  -- a hall with other nodes in the attempt's place
  with_nodes : (t v : Tree) (g : Configuration) → g.counts ≡ (attempting s p n M t).counts →
      g.components ≡ replace_at p (transaction n M s.counts v ∷ []) (attempting s p n M t).components → attempting s p n M v ≡ g
  unfolding attempting idle_configuration
  with_nodes t v g e f = λ i. record { counts = sym e i; components = sym (f ∙ in_place t (transaction n M s.counts v ∷ [])) i }

  -- moves inside change the attempt's nodes alone
  moves_inside : (ks : List ℕ) (t : Tree) (f : Configuration) → Moves s.counts (leaf M empty_log) t → Runs (attempting s p n M t) (map (inside p) ks) f →
      (v : Tree) × Moves s.counts (leaf M empty_log) v × (attempting s p n M v ≡ f)
  moves_inside [] t f m rested = (t, m, refl)
  moves_inside (k ∷ ks) t f m (ran {f = g} r q rest) =
      let i = inside_alone (attempting s p n M t) p k n M s.counts t (there t) r g q in
      moves_inside ks i.1 f (moves_snoc k r m i.2) (rw (with_nodes t i.1 g i.3 i.4) rest)

  -- and its commit is a step, by the first readable path
  commit_step : (ks : List ℕ) (f : Configuration) (δ : Log) (g : Configuration) → Runs (attempting s p n M (leaf M empty_log)) (map (inside p) ks) f →
      transition f (act p) ≡ moved (ATOK δ) g → (u : PlainState) × (idle_configuration u ≡ g) × ConverseStep s p u
  unfolding position_of component_answer acts attempting replacing MovesSettleFirstPath
  commit_step ks f δ g to q =
      let i = moves_inside ks (leaf M empty_log) f unmoved to in
      let h = attempting s p n M i.0 in
      let m = accepted_inverts h (act p) (ATOK δ) g (rw i.2 q) in
      let same : transaction n M s.counts i.0 ≡ m.component = let e = there i.0 in let d = m.found in cc in
      let own : ends s.counts n M i.0 ≡ moves (ATOK δ) m.lacks g.counts m.laid = rw (← same) at m.local in
      let c = commits_with s.counts n M i.0 δ m.lacks g.counts m.laid own in
      let first = (moves_settle_first_path s.counts M c.0 δ).0 (rw (← c.1) i.1) in
      let left = left_idle s p (without s.counts (RD δ)) (map output (WT δ)) g c.2 (m.placed ∙ in_place i.0 m.laid ∙ rw c.3) in
      let fits : length (replace_at p (map output (WT δ)) s.stations) ≤ 64 =
      few_left (replacing s p (without s.counts (RD δ)) (map output (WT δ))) g left m.fits in
      (replacing s p (without s.counts (RD δ)) (map output (WT δ)), left, step_commit n M δ found first (λ many. omega arith))

-- where no attempt was opened there is none to move or to commit
none_opened : (s : PlainState) (p : ℕ) (ks : List ℕ) (f : Configuration) (δ : Log) (g : Configuration) → Runs (idle_configuration s) (map (inside p) ks) f →
    transition f (act p) ≡ moved (ATOK δ) g → ⊥
none_opened s p [] f δ g rested q = no_commit s p δ g q
none_opened s p (k ∷ ks) f δ g (ran {f = h} r d to) q = no_inside s p k r h d

-- from the opening to the commit
attempt_step : (s : PlainState) (p : ℕ) (ks : List ℕ) (f : Configuration) (δ : Log) (g : Configuration) →
    Runs (idle_configuration s) (act p ∷ map (inside p) ks) f → transition f (act p) ≡ moved (ATOK δ) g →
    (u : PlainState) × (idle_configuration u ≡ g) × ConverseStep s p u
unfolding OwnMove
attempt_step s p ks f δ g (ran {f = h} r d to) q = go (acted s p r h d)
  where
    go : OwnMove s p r h → (u : PlainState) × (idle_configuration u ≡ g) × ConverseStep s p u
    go (inl (low, (u, same, step))) = absurd (none_opened u p ks f δ g (rw same to) q)
    go (inr (begins, (n, M, found, same))) = commit_step s p n M found ks f δ g (rw same to) q

-- ---- the claims

pub start_is_opening : StartIsOpening
unfolding StartIsOpening
start_is_opening t = refl

pub converse_steps_are_moves : ConverseStepsAreMoves
unfolding ConverseStepsAreMoves DoneAt StepDone OwnMove rule_number
converse_steps_are_moves s p few = (λ u step. done u (step_done s p few step), made)
  where
    done : (u : PlainState) → StepDone s p u → DoneAt s p (idle_configuration u)
    done u (inl h) = inl h
    done u (inr (n, M, δ, f, found, to, q)) = let k = runs_steps to in inr (δ, nodes_for s.counts M empty_log 0, (k.0, rw k.1 q))

    made : (g : Configuration) → DoneAt s p g → (u : PlainState) × (idle_configuration u ≡ g) × ConverseStep s p u
    made g (inl (r, q, low)) = elim (acted s p r g q) [ inl h ↦ h.1 | inr h ↦ absurd (let k = ap rule_number h.0 in omega arith) ]
    made g (inr (δ, ks, (whole, q))) = attempt_step s p ks _ δ g (steps_run (idle_configuration s) (act p ∷ map (inside p) ks) whole) q

-- the first of a list to pass, where none before it does
first_is : (p : Log → Bool) (xs ys : List Log) (x : Log) → All (λ y. p y ≡ false) xs → p x ≡ true → first_of p (xs ++ (x ∷ ys)) ≡ some x
unfolding first_of
first_is p [] ys x None_passes passes = rw passes
first_is p (y ∷ xs) ys x None_passes passes = rw None_passes.0 (first_is p xs ys x None_passes.1 passes)

pub readable_blocks_commit : ReadableBlocksCommit
unfolding ReadableBlocksCommit first_readable
readable_blocks_commit s p n M found earlier later δ split none_before readable_there fits =
    let first : first_of (readable s.counts) (paths M) ≡ some δ =
    rw split
    (first_is (readable s.counts) earlier later δ (unreadable earlier none_before) (included_readable s.counts δ readable_there)) in
    step_commit n M δ found first (λ many. omega arith)
  where
    unreadable : (πs : List Log) → All (λ π. ¬ Included (RD π) s.counts) πs → All (λ π. readable s.counts π ≡ false) πs
    unreadable [] h = tt
    unreadable (π ∷ πs) h = (not_included_unreadable s.counts π h.0, unreadable πs h.1)

-- one step behind a list of steps
step_behind : {s u v : PlainState} (p : ℕ) → ConverseSteps s u → ConverseStep u p v → ConverseSteps s v
step_behind p no_step one = step_then p one no_step
step_behind p (step_then q first more) one = step_then q first (step_behind p more one)

pub converse_steps_go_on : ConverseStepsGoOn
unfolding ConverseStepsGoOn
converse_steps_go_on = (λ s. no_step, λ s u v p. step_behind p)
