-- The path clause: wherever a run commits, the block's path comes first among those readable at the counts of the
-- opening, and where no channel gained in between, first among those readable at the commit. And every attempt that
-- is open on the way has come from its block by moves inside it, with the counts at its opening as snapshot.
-- Assumes nothing.
use Prim.Native.Nat.{ℕ, zero, suc, ◌≤◌, ◌<◌}
use native.Mathlib.Omega.{arith}
use mathlib.Core.Path.{◌≡◌, refl, sym, ap, ◌∙◌}
use mathlib.Core.Bool.{Bool, true, false, cond}
use mathlib.Core.Option.{some}
use mathlib.Core.List.{List, [], ◌∷◌, ◌++◌, map, map-append, append-nil, append_assoc}
use lib.ListN.{length, get_elem?, take, length-map, length-take}
use Rattle.calculus.specs.Syntax.{Name, Log, State}
use Rattle.calculus.specs.State.{count, Included, without}
use Rattle.calculus.specs.Log.{RD, WT}
use Rattle.calculus.specs.Reduction.{Rule, ATST}
use Rattle.calculus.proofs.States.{count_without}
use Rattle.semantics.specs.Definitions.Basics.{All, first_of, replace_at}
use mathlib.Core.List.{flatten}
use Rattle.semantics.specs.Definitions.Terms.{Expression, end_t}
use Rattle.semantics.specs.Definitions.Table.{Table}
use Rattle.semantics.specs.Definitions.Logs.{empty_log, readable, paths, first_readable, take_token}
use Rattle.semantics.specs.Definitions.Configuration.{Idle, repeating, output, Tree, leaf, transaction, Configuration, opens, opening}
use Rattle.semantics.specs.Definitions.Moves.{Entry, moved, transition, effect_of, rule_number}
use Rattle.semantics.specs.Definitions.Run.{Counters, Step, steps, final_configuration}
use Rattle.semantics.specs.Claims.NumberedRun.{Numbered, numbered_start, numbered_step, numbered_run, gained_since}
use Rattle.semantics.specs.Claims.InnerMoves.{Moves, MovesSettleFirstPath}
use Rattle.semantics.specs.Claims.Atomicity.{AttemptBegun, CommitOk, AttemptsOk}
use Rattle.theorems.proofs.ReadableLogs.{readable_included, included_readable}
use Rattle.theorems.proofs.InnerMoves.{moves_settle_first_path}
use Rattle.theorems.proofs.Lists.{none_found, found_at, found_below, found_map, found_back, all_at, all_every, all_weaken, all_map, all_replace_at}
use Rattle.theorems.proofs.Moves.{position_of}
use Rattle.theorems.proofs.Runs.{step_at}
use Rattle.theorems.proofs.Simulation.{Live, rests, tries, component, noted, Evolved, Stepped, put, took, repeated, began, retried, failed, committed, evolved, Paced, paced_step, opening_paced}

-- ---- readable at fewer tokens

-- no count of the first state is above that of the second
abbrev pub NoMore : State → State → Type 0
NoMore σ s = (x : Name) → count σ x ≤ count s x

-- what is readable stays so at more tokens
readable_more : (σ s : State) (δ : Log) → NoMore σ s → readable σ δ ≡ true → readable s δ ≡ true
unfolding Included
readable_more σ s δ h e =
    included_readable s δ (λ a. let i = readable_included σ δ e a in let g = h a in omega arith)

-- the first element that passes a test is also the first to pass a stricter one, where it passes that
first_stricter : (p q : Log → Bool) → ((π : Log) → q π ≡ true → p π ≡ true) → (δ : Log) → q δ ≡ true → (ps : List Log) →
    first_of p ps ≡ some δ → first_of q ps ≡ some δ
unfolding first_of
first_stricter p q h δ e [] f = f
first_stricter p q h δ e (π ∷ ps) f = go (p π) refl (q π) refl f (first_stricter p q h δ e ps)
  where
    go : (b : Bool) → p π ≡ b → (c : Bool) → q π ≡ c → cond b (some π) (first_of p ps) ≡ some δ →
        (first_of p ps ≡ some δ → first_of q ps ≡ some δ) → cond c (some π) (first_of q ps) ≡ some δ
    go true i true j f rest = f
    go true i false j f rest = let z : π ≡ δ = cc in let w : ◌≡◌ {A = ℕ} 0 1 = cc in absurd (omega arith)
    go false i true j f rest = let z = h π j in let w : ◌≡◌ {A = ℕ} 0 1 = cc in absurd (omega arith)
    go false i false j f rest = rest f

-- a block's first path readable at s, readable now at no more tokens, is the first readable now
first_now : (σ s : State) (M : Expression) (δ : Log) → NoMore σ s → readable σ δ ≡ true → first_readable s M ≡ some δ →
    first_readable σ M ≡ some δ
unfolding first_readable
first_now σ s M δ h e f = first_stricter (readable s) (readable σ) (λ π. readable_more σ s π h) δ e (paths M) f

-- ---- gains

-- taking away raises no count, nor does taking one, nor leaving them
without_no_more : (bs : List Name) (σ : State) → NoMore (without σ bs) σ
without_no_more bs σ x = let e = count_without bs σ x in omega arith

spent_no_more : (a : Name) (σ : State) → NoMore (take_token σ a) σ
unfolding take_token
spent_no_more a σ = without_no_more (a ∷ []) σ

same_no_more : (σ : State) → NoMore σ σ
same_no_more σ x = omega arith

-- by a rule that adds no token no count rises
stepped_low : {σ : State} {j : ℕ} {z : Live} {e : Entry} {r : Rule} {σ' : State} {laid : List Live} →
    Stepped σ j z e r σ' laid →
    (effect_of r).added ≡ [] → NoMore σ' σ
unfolding effect_of
stepped_low (put p a) q = absurd (let z : ◌≡◌ {A = ℕ} 0 1 = cc in omega arith)
stepped_low {σ} (took p n a P) q = spent_no_more a σ
stepped_low {σ} (repeated p n a P) q = spent_no_more a σ
stepped_low {σ} (began p n M) q = same_no_more σ
stepped_low {σ} (retried p i n M s x δ) q = same_no_more σ
stepped_low {σ} (failed p i n M s x δ now) q = same_no_more σ
stepped_low {σ} (committed p i n M s x δ now) q = without_no_more (RD δ) σ
stepped_low {σ} (evolved p k i n M s u w x m late) q = same_no_more σ

-- one rule more
gained_snoc : (i : ℕ) (rs : List Rule) (r : Rule) → i < length rs →
    gained_since i (rs ++ (r ∷ [])) ≡ gained_since i rs ++ (effect_of r).added
unfolding gained_since
gained_snoc i [] r h = absurd (omega arith)
gained_snoc (suc i) (x ∷ rs) r h = gained_snoc i rs r (omega arith)
gained_snoc zero (x ∷ rs) r h = go rs
  where
    added : Rule → List Name
    added r = (effect_of r).added

    go : (rs : List Rule) → flatten (map added (rs ++ (r ∷ []))) ≡ flatten (map added rs) ++ added r
    go [] = append-nil (added r)
    go (y ∷ rs) = rw (go rs) (sym (append_assoc (added y) (flatten (map added rs)) (added r)))

-- two lists that make an empty one
append_empty : {A : Type 0} (xs ys : List A) → xs ++ ys ≡ [] → (xs ≡ []) × (ys ≡ [])
append_empty [] ys e = (refl, e)
append_empty (x ∷ xs) ys e = absurd (let z : ◌≡◌ {A = ℕ} 0 1 = cc in omega arith)

-- the first elements and one more
take_snoc : {A : Type 0} (xs : List A) (j : ℕ) (x : A) → get_elem? xs j ≡ some x →
    take (suc j) xs ≡ take j xs ++ (x ∷ [])
take_snoc [] j x f = absurd (none_found j x f)
take_snoc (y ∷ ys) zero x f = let same : y ≡ x = cc in rw same
take_snoc (y ∷ ys) (suc j) x f = ap (◌∷◌ y) (take_snoc ys j x f)

-- ---- attempts followed through the history

-- when j choices of the history H are done and the counts are σ: attempt number i, with the snapshot s, was opened by
-- that choice, and without gains since no count is above its snapshot
pub record Known (H : List Step) (j : ℕ) (σ : State) (i : ℕ) (s : State) : Type 0 where
  pub earlier : i < j
  pub step : Step
  pub found : get_elem? H i ≡ some step
  pub starts : step.rule ≡ ATST
  pub met : step.before.counts ≡ s
  pub ungained : gained_since i (map (λ u. u.rule) (take j H)) ≡ [] → NoMore σ s

abbrev pub KnownLive : List Step → ℕ → State → Live → Type 0
KnownLive H j σ (rests c) = Unit {0}
KnownLive H j σ (tries i n M s u) = Known H j σ i s

-- idle components have nothing to be known
rests_known : (H : List Step) (j : ℕ) (σ : State) (cs : List Idle) → All (KnownLive H j σ) (map rests cs)
rests_known H j σ cs = all_map rests (KnownLive H j σ) cs (all_every (λ c. Unit {0}) (λ c. tt) cs)

module _ (H : List Step) (j : ℕ) (st : Step) (done : get_elem? H j ≡ some st) where
  -- a choice more, by which no count rises without a gain
  known_on : (low : (effect_of st.rule).added ≡ [] → NoMore st.result.counts st.before.counts) →
      (i : ℕ) (s : State) → Known H j st.before.counts i s → Known H (suc j) st.result.counts i s
  known_on low i s k =
      let rules : List Rule = map (λ u. u.rule) (take j H) in
      let long : i < length rules =
      rw (length-map, length-take) (let e = k.earlier in let b = found_below H j st done in omega arith) in
      let more : map (λ u. u.rule) (take (suc j) H) ≡ rules ++ (st.rule ∷ []) =
      rw (take_snoc H j st done) (map-append (λ u. u.rule) (take j H) (st ∷ [])) in
      record {
        earlier = let e = k.earlier in omega arith;
        step = k.step;
        found = k.found;
        starts = k.starts;
        met = k.met;
        ungained =
            λ none_gained x.
            let parts = append_empty (gained_since i rules) (effect_of st.rule).added
            (sym (gained_snoc i rules st.rule long) ∙ ap (gained_since i) (sym more) ∙ none_gained) in
            let one = low parts.1 x in let before = k.ungained parts.0 x in omega arith;
      }

  -- what is laid down is known
  laid_known : {j' : ℕ} {z : Live} {e : Entry} {r : Rule} {σ' : State} {laid : List Live} →
      Stepped st.before.counts j' z e r σ' laid →
      j' ≡ j → st.rule ≡ r → st.result.counts ≡ σ' →
      ((i : ℕ) (s : State) → Known H j st.before.counts i s → Known H (suc j) st.result.counts i s) →
      KnownLive H j st.before.counts z → All (KnownLive H (suc j) st.result.counts) laid
  laid_known (put p a) same by to on k = tt
  laid_known (took p n a P) same by to on k = rests_known H (suc j) st.result.counts (opens P)
  laid_known (repeated p n a P) same by to on k = rests_known H (suc j) st.result.counts (opens P ++ (repeating n a P ∷ []))
  laid_known (began p n M) same by to on k = (
    record {
      earlier = omega arith;
      step = st;
      found = rw same done;
      starts = by;
      met = refl;
      ungained = λ _. rw to (same_no_more st.before.counts);
    },
    tt,
  )
  laid_known (retried p i n M s x δ) same by to on k = (tt, tt)
  laid_known (failed p i n M s x δ now) same by to on k = (tt, tt)
  laid_known (committed p i n M s x δ now) same by to on k = rests_known H (suc j) st.result.counts (map output (WT δ))
  laid_known (evolved p k i n M s u w x m late) same by to on known = (on i s known, tt)

-- when j choices of the history H are done: the configuration and the numbered run keep pace, and every attempt is
-- known
pub record Standing (H : List Step) (j : ℕ) (h : Configuration) (a : Numbered) : Type 0 where
  pub live : List Live
  pub paced : Paced h a live
  pub number : a.next ≡ j
  pub known : All (KnownLive H j h.counts) live

-- a choice more
standing_step : (H : List Step) (j : ℕ) (st : Step) (a : Numbered) → get_elem? H j ≡ some st →
    transition st.before st.chosen ≡ moved st.rule st.result →
    Standing H j st.before a → Standing H (suc j) st.result (numbered_step a st.chosen)
unfolding numbered_step
standing_step H j st a done q k =
    let s = paced_step st.before a k.live st.chosen st.rule st.result k.paced q in
    let on = known_on H j st done (stepped_low s.stepped) in
    let here = all_at (KnownLive H j st.before.counts) k.live (position_of st.chosen) s.one k.known s.found in
    record {
      live = replace_at (position_of st.chosen) s.laid k.live;
      paced = s.paced;
      number = ap suc k.number;
      known =
          all_replace_at (KnownLive H (suc j) st.result.counts) k.live s.laid (position_of st.chosen)
          (all_weaken (KnownLive H j st.before.counts) (KnownLive H (suc j) st.result.counts) (known_live on) k.live
          k.known)
          (laid_known H j st done s.stepped k.number refl refl on here);
    }
  where
    known_live : ((i : ℕ) (s : State) → Known H j st.before.counts i s → Known H (suc j) st.result.counts i s) → (z : Live) →
        KnownLive H j st.before.counts z → KnownLive H (suc j) st.result.counts z
    known_live on (rests c) k = tt
    known_live on (tries i n M s u) k = on i s k

-- ---- the two clauses

-- only an attempt is a transaction
live_transaction : (z : Live) (n : ℕ) (M : Expression) (s : State) (u : Tree) → component z ≡ transaction n M s u →
    (i : ℕ) × (z ≡ tries i n M s u)
live_transaction (rests c) n M s u e = absurd (let z : ◌≡◌ {A = ℕ} 0 1 = cc in omega arith)
live_transaction (tries i n' M' s' u') n M s u e = (i, cc)

-- one choice more of the numbered run
run_snoc : (es : List Entry) (a : Numbered) (j : ℕ) (e : Entry) → get_elem? es j ≡ some e →
    numbered_run a (take (suc j) es) ≡ numbered_step (numbered_run a (take j es)) e
unfolding numbered_run
run_snoc [] a j e f = absurd (none_found j e f)
run_snoc (d ∷ ds) a zero e f = let same : d ≡ e = cc in rw same
run_snoc (d ∷ ds) a (suc j) e f = run_snoc ds (numbered_step a d) j e f

module _ (t : Table) (first : Counters) (es : List Entry) where
  -- the steps, the configuration and the numbered run when j choices are done
  abbrev H : List Step
  H = steps (opening t) es

  abbrev at : ℕ → Configuration
  at j = final_configuration (opening t) (take j H)

  abbrev run_at : ℕ → Numbered
  run_at j = numbered_run (numbered_start t first) (take j es)

  -- all along the history
  standing : (j : ℕ) → j ≤ length H → Standing H j (at j) (run_at j)
  unfolding numbered_run numbered_start
  standing zero h =
      record {
        live = map rests (opens t.start);
        paced = opening_paced t first;
        number = refl;
        known = rests_known H 0 (opening t).counts (opens t.start);
      }
  standing (suc j) h =
      let f = found_at H j h in
      let s = step_at (opening t) es j f.0 f.1 in
      rw (← s.2, run_snoc es (numbered_start t first) j f.0.chosen s.3)
      (standing_step H j f.0 (run_at j) f.1 s.1 (rw s.0 (standing j (omega arith))))

  -- an attempt on the list was opened by the choice whose number its note has
  opened_at : (j : ℕ) (k : Standing H j (at j) (run_at j)) (q i n : ℕ) (M : Expression) (s : State) (u : Tree) →
      get_elem? k.live q ≡ some (tries i n M s u) →
      (o : AttemptBegun t first es j q n M) × (o.step.before.counts ≡ s) × Moves s (leaf M empty_log) u ×
      (gained_since o.opener (map (λ u. u.rule) (take j H)) ≡ [] → NoMore (at j).counts s)
  opened_at j k q i n M s u f =
      let own : Known H j (at j).counts i s = all_at (KnownLive H j (at j).counts) k.live q (tries i n M s u) k.known f in
      let there : get_elem? (run_at j).run.stations q ≡ some (noted (tries i n M s u)) =
      rw k.paced.stations (found_map noted k.live q (tries i n M s u) f) in (
        record {
          opener = i;
          earlier = own.earlier;
          step = own.step;
          found = own.found;
          starts = own.starts;
          note_made = rw own.met there;
        },
        own.met,
        all_at Evolved k.live q (tries i n M s u) k.paced.each f,
        own.ungained,
      )

  -- the clause on open attempts
  pub attempts_ok : (j : ℕ) → j ≤ length H → AttemptsOk t first es j (final_configuration (opening t) (take j H))
  attempts_ok j h q n M s u f =
      let k = standing j h in
      let b = found_back component k.live q (transaction n M s u) (rw k.paced.components at f) in
      let z = live_transaction b.0 n M s u b.2 in
      let o = opened_at j k q z.0 n M s u (rw (← z.1) b.1) in (o.0, o.1, o.2)

  -- the path clause, at a choice that changes the component z: only a commit is one
  commit_ok : (j : ℕ) (s : Step) (k : Standing H j (at j) (run_at j)) {z : Live} {e : Entry} {r : Rule} {σ' : State} {laid : List Live} →
      Stepped (at j).counts (run_at j).next z e r σ' laid → get_elem? k.live (position_of e) ≡ some z →
      s.before ≡ at j → s.chosen ≡ e → s.rule ≡ r → CommitOk t first es j s
  unfolding position_of rule_number MovesSettleFirstPath
  commit_ok j s k (put p a) f same chosen rule δ q = absurd (let d = ap rule_number (sym rule ∙ q) in omega arith)
  commit_ok j s k (took p n a P) f same chosen rule δ q = absurd (let d = ap rule_number (sym rule ∙ q) in omega arith)
  commit_ok j s k (repeated p n a P) f same chosen rule δ q = absurd (let d = ap rule_number (sym rule ∙ q) in omega arith)
  commit_ok j s k (began p n M) f same chosen rule δ q = absurd (let d = ap rule_number (sym rule ∙ q) in omega arith)
  commit_ok j s k (retried p i n M σ x ε) f same chosen rule δ q = absurd (let d = ap rule_number (sym rule ∙ q) in omega arith)
  commit_ok j s k (failed p i n M σ x ε now) f same chosen rule δ q = absurd (let d = ap rule_number (sym rule ∙ q) in omega arith)
  commit_ok j s k (committed p i n M σ x ε now) f same chosen rule δ q =
      let o = opened_at j k p i n M σ (leaf (end_t x) ε) f in
      let log : ε ≡ δ = cc in
      let then : first_readable σ M ≡ some δ = rw (← log) ((moves_settle_first_path σ M x ε).0 o.2) in
      (p, n, M, o.0, chosen, rw o.1 then, λ quiet. rw same (first_now (at j).counts σ M δ (o.3 quiet) (rw (← log) now) then))
  commit_ok j s k (evolved p m i n M σ u w x v late) f same chosen rule δ q = absurd (let d = ap rule_number (sym rule ∙ q) in omega arith)

  pub commits_ok : (j : ℕ) (s : Step) → get_elem? H j ≡ some s → CommitOk t first es j s
  commits_ok j s f =
      let w = step_at (opening t) es j s f in
      let k = standing j (let b = found_below H j s f in omega arith) in
      let m = paced_step (at j) (run_at j) k.live s.chosen s.rule s.result k.paced (rw (← w.0) w.1) in
      commit_ok j s k m.stepped m.found w.0 refl refl
