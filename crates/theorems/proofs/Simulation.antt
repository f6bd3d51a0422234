-- A configuration and the numbered run keep pace: both are read off one list of components, in which a transaction
-- has the number of the choice that opened it, and each accepted choice changes that list in one of eight ways.
-- Without its numbers the numbered run is the one-step run, so that the one-step run over accepted choices is read
-- off the configuration that they lead to.
-- Assumes nothing.
use Prim.Native.Nat.{ℕ, suc, ◌≤◌, ◌<◌}
use native.Mathlib.Omega.{arith}
use mathlib.Core.Path.{◌≡◌, refl, sym, ap, ◌∙◌}
use mathlib.Core.Bool.{Bool, true, false, cond}
use mathlib.Core.Option
use mathlib.Core.Option.{Option, none, some, Option-elim}
use mathlib.Core.List.{List, [], ◌∷◌, ◌++◌, map, map-map}
use lib.ListN.{length, get_elem?, take, length-map}
use lib.Dec.{leb, ltb, eqb}
use borrow.Author.Tests.{ltb-true, ltb-false, ne_eqb}
use Rattle.calculus.specs.Syntax.{Name, Log, State}
use Rattle.calculus.specs.State.{count, without}
use Rattle.calculus.specs.Log.{RD, WT}
use Rattle.calculus.specs.Reduction.{Rule, OUT, IN, REP, ATST, ATRE, ATFAIL, ATOK}
use Rattle.semantics.specs.Definitions.Basics.{All, replace_at}
use Rattle.semantics.specs.Definitions.Terms.{Expression, end_t, retry_t, rd_t, wt_t, or_else_t, Program}
use Rattle.semantics.specs.Definitions.Table.{Table}
use Rattle.semantics.specs.Definitions.Shortage.{Shortage}
use Rattle.semantics.specs.Definitions.Logs.{empty_log, readable, first_readable, add_token, take_token}
use Rattle.semantics.specs.Definitions.Configuration.{Idle, taking, repeating, block, output, Tree, leaf, fork, Component, idle, transaction, Configuration, opens, opening}
use Rattle.semantics.specs.Definitions.Moves.{Entry, act, inside, moved, transition, ComponentAnswer, moves, blocked, takes, puts, commits, ends, acts, acts_inside, NodeAnswer, evolves, no_rule, out_of_range, move_at, inside_answer, rule_number}
use Rattle.semantics.specs.Definitions.Run.{Counters, counted, saturating_suc, schedule_bytes, run, steps, final_configuration}
use Rattle.semantics.specs.Definitions.AtomicRun.{WithNote, Atomic, raised, without_note, atomic_start, replace_component, end_attempt, step_component, atomic_step, atomic_run}
use Rattle.semantics.specs.Claims.NumberedRun.{Note, Numbered, numbered_start, numbered_step, numbered_run, unnumbered, NumberedIsAtomic}
use Rattle.semantics.specs.Claims.InnerMoves.{Moves, unmoved, MovesSettleFirstPath}
use Rattle.semantics.specs.Claims.Atomicity.{rolled_back}
use Rattle.theorems.proofs.ByteReads.{by_cases}
use Rattle.theorems.proofs.Lists.{found_map, found_map?, found_back, replace_at_same, map_replace_at, all_at, all_replace_at, all_map, all_every, map_agree}
use Rattle.theorems.proofs.Moves.{position_of, component_answer, Moving, accepted_inverts}
use Rattle.theorems.proofs.InnerMoves.{moves_snoc, moves_settle_first_path, move_at_rule}
use Rattle.theorems.proofs.Runs.{Runs, rested, ran, tallied, runs_prefix, runs_whole}

-- ---- components with numbers

-- a component, and with a transaction the number of the choice that opened it
pub data Live : Type 0 where
  rests : Idle → Live
  tries : (i n : ℕ) (M : Expression) (s : State) (u : Tree) → Live

-- the component itself
abbrev pub component : Live → Component
component (rests c) = idle c
component (tries i n M s u) = transaction n M s u

-- its station in the numbered run
abbrev pub noted : Live → WithNote Note
noted (rests c) = record { station = c; note = none }
noted (tries i n M s u) = record { station = block n M; note = some (record { counts = s; begun = i }) }

-- a transaction has come from its block by moves inside it
abbrev pub Evolved : Live → Type 0
Evolved (rests c) = Unit {0}
Evolved (tries i n M s u) = Moves s (leaf M empty_log) u

-- ---- one choice

-- the eight ways in which an accepted choice, by number j and at the counts σ, changes a component: by which rule, to
-- which counts, and what stands in its place
pub data Stepped (σ : State) (j : ℕ) : Live → Entry → Rule → State → List Live → Type 0 where
  put : (p : ℕ) (a : Name) → Stepped σ j (rests (output a)) (act p) (OUT a) (add_token σ a) []
  took : (p n : ℕ) (a : Name) (P : Program) →
      Stepped σ j (rests (taking n a P)) (act p) (IN a) (take_token σ a) (map rests (opens P))
  repeated : (p n : ℕ) (a : Name) (P : Program) →
      Stepped σ j (rests (repeating n a P)) (act p) (REP a) (take_token σ a) (map rests (opens P ++ (repeating n a P ∷ [])))
  began : (p n : ℕ) (M : Expression) →
      Stepped σ j (rests (block n M)) (act p) ATST σ (tries j n M σ (leaf M empty_log) ∷ [])
  retried : (p i n : ℕ) (M : Expression) (s : State) (e : ℕ) (δ : Log) →
      Stepped σ j (tries i n M s (leaf (retry_t e) δ)) (act p) ATRE σ (rests (block n M) ∷ [])
  failed : (p i n : ℕ) (M : Expression) (s : State) (e : ℕ) (δ : Log) → readable σ δ ≡ false →
      Stepped σ j (tries i n M s (leaf (end_t e) δ)) (act p) ATFAIL σ (rests (block n M) ∷ [])
  committed : (p i n : ℕ) (M : Expression) (s : State) (e : ℕ) (δ : Log) → readable σ δ ≡ true →
      Stepped σ j (tries i n M s (leaf (end_t e) δ)) (act p) (ATOK δ) (without σ (RD δ)) (map rests (map output (WT δ)))
  evolved : {w : Shortage} (p k i n : ℕ) (M : Expression) (s : State) (u v : Tree) (r : Rule) → move_at s u k ≡ evolves r w v →
      8 ≤ rule_number r →
      Stepped σ j (tries i n M s u) (inside p k) r σ (tries i n M s v ∷ [])

-- the same of a component's own answer, where it moves
abbrev Steps : State → ℕ → Live → Entry → ComponentAnswer → Type 0
Steps σ j z e (moves r w σ' cs) = (laid : List Live) × (cs ≡ map component laid) × Stepped σ j z e r σ' laid
Steps σ j z e (blocked n) = Unit {0}

-- idle components, with nothing to number
idle_laid : (cs : List Idle) → map idle cs ≡ map component (map rests cs)
idle_laid cs = sym (map-map component rests cs)

-- kind 1 at an attempt
ends_steps : (σ : State) (j p i n : ℕ) (M : Expression) (s : State) (u : Tree) →
    Steps σ j (tries i n M s u) (act p) (ends σ n M u)
unfolding ends commits
ends_steps σ j p i n M s (leaf (end_t e) δ) =
    by_cases (Steps σ j (tries i n M s (leaf (end_t e) δ)) (act p)) (readable σ δ) _ _
    (λ q. (map rests (map output (WT δ)), sym (map-map idle output (WT δ)) ∙ idle_laid (map output (WT δ)), committed p i n M s e δ q))
    (λ q. (rests (block n M) ∷ [], refl, failed p i n M s e δ q))
ends_steps σ j p i n M s (leaf (retry_t e) δ) = (rests (block n M) ∷ [], refl, retried p i n M s e δ)
ends_steps σ j p i n M s (leaf (rd_t e a N) δ) = tt
ends_steps σ j p i n M s (leaf (wt_t e a N) δ) = tt
ends_steps σ j p i n M s (leaf (or_else_t e N N') δ) = tt
ends_steps σ j p i n M s (fork l r) = tt

-- kind 2 at an attempt
inside_steps : (σ : State) (j p k i n : ℕ) (M : Expression) (s : State) (u : Tree) →
    Steps σ j (tries i n M s u) (inside p k) (inside_answer σ n M s (move_at s u k))
unfolding inside_answer
inside_steps σ j p k i n M s u = go (move_at s u k) refl (move_at_rule s u k)
  where
    go : (x : NodeAnswer) → move_at s u k ≡ x → Moving (λ t r u. 8 ≤ rule_number r) u x →
        Steps σ j (tries i n M s u) (inside p k) (inside_answer σ n M s x)
    go (evolves r w v) e late = (tries i n M s v ∷ [], refl, evolved p k i n M s u v r e late)
    go no_rule e late = tt
    go out_of_range e late = tt

-- either kind at any component
local_steps : (σ : State) (j : ℕ) (z : Live) (e : Entry) → Steps σ j z e (component_answer σ (component z) e)
unfolding component_answer acts acts_inside takes puts
local_steps σ j (rests (taking n a P)) (act p) =
    by_cases (Steps σ j (rests (taking n a P)) (act p)) (eqb (count σ a) 0) _ _ (λ q. tt)
    (λ q. (map rests (opens P), idle_laid (opens P), took p n a P))
local_steps σ j (rests (repeating n a P)) (act p) =
    let cs : List Idle = opens P ++ (repeating n a P ∷ []) in
    by_cases (Steps σ j (rests (repeating n a P)) (act p)) (eqb (count σ a) 0) _ _ (λ q. tt)
    (λ q. (map rests cs, idle_laid cs, repeated p n a P))
local_steps σ j (rests (block n M)) (act p) = (tries j n M σ (leaf M empty_log) ∷ [], refl, began p n M)
local_steps σ j (rests (output a)) (act p) =
    by_cases (Steps σ j (rests (output a)) (act p)) (leb 255 (count σ a)) _ _ (λ q. tt) (λ q. ([], refl, put p a))
local_steps σ j (tries i n M s u) (act p) = ends_steps σ j p i n M s u
local_steps σ j (rests c) (inside p k) = tt
local_steps σ j (tries i n M s u) (inside p k) = inside_steps σ j p k i n M s u

-- ---- the counters

-- the one-step run's own way to count is that of a run
raised_risen : (n : ℕ) → raised n ≡ saturating_suc n
unfolding raised saturating_suc
raised_risen n =
    by_cases (λ m. m ≡ saturating_suc n) (ltb n 4294967295) (suc n) 4294967295
    (λ q. let l = ltb-true n 4294967295 q in omega arith)
    (λ q. let l = ltb-false n 4294967295 q in omega arith)

-- a rule raises at most one counter, by its number
pub counted_by_holds : (r : Rule) (c : Counters) → counted r c ≡ record {
  commits = cond (eqb (rule_number r) 7) (saturating_suc c.commits) c.commits;
  failed = cond (eqb (rule_number r) 6) (saturating_suc c.failed) c.failed;
  retries = cond (eqb (rule_number r) 5) (saturating_suc c.retries) c.retries;
}
unfolding counted
counted_by_holds r c = refl

-- a move inside raises none
counted_inside : (r : Rule) (c : Counters) → 8 ≤ rule_number r → counted r c ≡ c
counted_inside r c late =
    let other : (k : ℕ) → k < 8 → eqb (rule_number r) k ≡ false = λ k l. ne_eqb (rule_number r) k (λ e. omega arith) in
    counted_by_holds r c ∙ rw (other 7 (omega arith), other 6 (omega arith), other 5 (omega arith))

-- ---- the numbered run follows

-- a block with a note is settled by its first path readable at the note
note_settled : (a : Numbered) (p i n : ℕ) (M : Expression) (s : State) (u : Tree) →
    get_elem? a.run.stations p ≡ some (noted (tries i n M s u)) →
    (numbered_step a (act p)).run ≡ end_attempt a.run p n M (first_readable s M)
unfolding numbered_step
note_settled a p i n M s u f = rw f

-- and that path committed where it is readable at the present counts
path_tested : (a : Atomic Note) (p n : ℕ) (M : Expression) (δ : Log) →
    end_attempt a p n M (some δ)
    ≡ cond
    (readable a.counts δ)
    (replace_component a p (without a.counts (RD δ)) (map output (WT δ)) (counted (ATOK δ) a.counters))
    (replace_component a p a.counts (block n M ∷ []) (counted ATFAIL a.counters))
unfolding end_attempt counted
path_tested a p n M δ = simp raised_risen

-- a component that changes so changes its station so, and the rule is counted
fed_stepped : (a : Numbered) (z : Live) (e : Entry) (r : Rule) (σ' : State) (laid : List Live) →
    get_elem? a.run.stations (position_of e) ≡ some (noted z) → Evolved z →
    Stepped a.run.counts a.next z e r σ' laid →
    (numbered_step a e).run
    ≡ record { counts = σ'; stations = replace_at (position_of e) (map noted laid) a.run.stations; counters = counted r a.run.counters }
unfolding numbered_step position_of without_note counted end_attempt MovesSettleFirstPath
fed_stepped a z e r σ' laid f v (put p b) = rw f
fed_stepped a z e r σ' laid f v (took p n b P) = rw (f, map-map noted rests (opens P))
fed_stepped a z e r σ' laid f v (repeated p n b P) = rw (f, map-map noted rests (opens P ++ (repeating n b P ∷ [])))
fed_stepped a z e r σ' laid f v (began p n M) = rw f
fed_stepped a z e r σ' laid f v (retried p i n M s x δ) =
    let none_there : first_readable s M ≡ none = (moves_settle_first_path s M x δ).1 v in
    note_settled a p i n M s (leaf (retry_t x) δ) f ∙ rw (none_there, raised_risen)
fed_stepped a z e r σ' laid f v (failed p i n M s x δ now) =
    let first : first_readable s M ≡ some δ = (moves_settle_first_path s M x δ).0 v in
    note_settled a p i n M s (leaf (end_t x) δ) f ∙ rw (first, path_tested, now)
fed_stepped a z e r σ' laid f v (committed p i n M s x δ now) =
    let first : first_readable s M ≡ some δ = (moves_settle_first_path s M x δ).0 v in
    note_settled a p i n M s (leaf (end_t x) δ) f ∙ rw (first, path_tested, now, map-map noted rests (map output (WT δ)))
fed_stepped a z e r σ' laid f v (evolved p k i n M s u w x q late) =
    rw (replace_at_same a.run.stations p (noted (tries i n M s u)) f, counted_inside x a.run.counters late)

-- ---- keeping pace

-- a configuration and the numbered run, both read off one list
pub record Paced (h : Configuration) (a : Numbered) (zs : List Live) : Type 0 where
  pub counts : h.counts ≡ a.run.counts
  pub components : h.components ≡ map component zs
  pub stations : a.run.stations ≡ map noted zs
  pub each : All Evolved zs

-- an accepted choice changes one of its components, and they keep pace
pub record PacedStep (h : Configuration) (a : Numbered) (zs : List Live) (e : Entry) (r : Rule) (g : Configuration) : Type 0 where
  pub one : Live
  pub found : get_elem? zs (position_of e) ≡ some one
  pub station : get_elem? a.run.stations (position_of e) ≡ some (noted one)
  pub laid : List Live
  pub stepped : Stepped h.counts a.next one e r g.counts laid
  pub lacks : Shortage
  pub local : component_answer h.counts (component one) e ≡ moves r lacks g.counts (map component laid)
  pub fits : length (replace_at (position_of e) laid zs) ≤ 64
  pub paced : Paced g (numbered_step a e) (replace_at (position_of e) laid zs)
  pub counters : (numbered_step a e).run.counters ≡ counted r a.run.counters

-- what is laid down has come from its block too
stepped_evolved : {σ : State} {j : ℕ} {z : Live} {e : Entry} {r : Rule} {σ' : State} {laid : List Live} →
    Stepped σ j z e r σ' laid →
    Evolved z → All Evolved laid
stepped_evolved (put p b) v = tt
stepped_evolved (took p n b P) v = all_map rests Evolved (opens P) (all_every (λ c. Unit {0}) (λ c. tt) (opens P))
stepped_evolved (repeated p n b P) v =
    let cs : List Idle = opens P ++ (repeating n b P ∷ []) in all_map rests Evolved cs (all_every (λ c. Unit {0}) (λ c. tt) cs)
stepped_evolved (began p n M) v = (unmoved, tt)
stepped_evolved (retried p i n M s x δ) v = (tt, tt)
stepped_evolved (failed p i n M s x δ now) v = (tt, tt)
stepped_evolved (committed p i n M s x δ now) v =
    let cs : List Idle = map output (WT δ) in all_map rests Evolved cs (all_every (λ c. Unit {0}) (λ c. tt) cs)
stepped_evolved (evolved p k i n M s u w x q late) v = (moves_snoc k x v q, tt)

-- from the component that changes and what stands in its place
paced_by : {w : Shortage} (h : Configuration) (a : Numbered) (zs : List Live) (e : Entry) (r : Rule) (g : Configuration) →
    Paced h a zs →
    (z : Live) → get_elem? zs (position_of e) ≡ some z → (laid : List Live) →
    Stepped h.counts a.next z e r g.counts laid →
    component_answer h.counts (component z) e ≡ moves r w g.counts (map component laid) →
    g.components ≡ replace_at (position_of e) (map component laid) h.components → length g.components ≤ 64 →
    PacedStep h a zs e r g
paced_by {w} h a zs e r g pace z found laid s own placed fits =
    let p : ℕ = position_of e in
    let come = all_at Evolved zs p z pace.each found in
    let there : get_elem? a.run.stations p ≡ some (noted z) = rw pace.stations (found_map noted zs p z found) in
    let fed = fed_stepped a z e r g.counts laid there come (rw pace.counts at s) in
    let after : g.components ≡ map component (replace_at p laid zs) =
    placed ∙ rw pace.components (sym (map_replace_at component zs laid p)) in
    record {
      one = z;
      found = found;
      station = there;
      laid = laid;
      stepped = s;
      lacks = w;
      local = own;
      fits = rw (after, length-map) at fits;
      paced =
          record {
            counts = ap (λ x. x.counts) (sym fed);
            components = after;
            stations = ap (λ x. x.stations) fed ∙ rw pace.stations (sym (map_replace_at noted zs laid p));
            each = all_replace_at Evolved zs laid p pace.each (stepped_evolved s come);
          };
      counters = ap (λ x. x.counters) fed;
    }

-- every accepted choice
pub paced_step : (h : Configuration) (a : Numbered) (zs : List Live) (e : Entry) (r : Rule) (g : Configuration) →
    Paced h a zs →
    transition h e ≡ moved r g → PacedStep h a zs e r g
paced_step h a zs e r g pace q =
    let m = accepted_inverts h e r g q in
    let at = found_back component zs (position_of e) m.component (rw (← pace.components) m.found) in
    let own : component_answer h.counts (component at.0) e ≡ moves r m.lacks g.counts m.laid = rw at.2 m.local in
    let s : Steps h.counts a.next at.0 e (moves r m.lacks g.counts m.laid) =
    rw own at (local_steps h.counts a.next at.0 e) in
    paced_by h a zs e r g pace at.0 at.1 s.0 s.2 (own ∙ ap (moves r m.lacks g.counts) s.1)
    (m.placed ∙ ap (λ cs. replace_at (position_of e) cs h.components) s.1) m.fits

-- at the opening no attempt is open
pub opening_paced : (t : Table) (c : Counters) → Paced (opening t) (numbered_start t c) (map rests (opens t.start))
unfolding opening numbered_start without_note
opening_paced t c =
    let cs = opens t.start in
    record {
      counts = refl;
      components = idle_laid cs;
      stations = sym (map-map noted rests cs);
      each = all_map rests Evolved cs (all_every (λ c. Unit {0}) (λ c. tt) cs);
    }

-- accepted choices one after another, and how they are counted
pub paced_runs : {h g : Configuration} {es : List Entry} → Runs h es g → (a : Numbered) (zs : List Live) →
    Paced h a zs →
    (ws : List Live) × Paced g (numbered_run a es) ws × ((numbered_run a es).run.counters ≡ tallied a.run.counters (steps h es))
unfolding numbered_run steps tallied
paced_runs rested a zs pace = (zs, pace, refl)
paced_runs (ran {h = h} {f = f} {e = e} {es = es} r q x) a zs pace =
    let s = paced_step h a zs e r f pace q in
    let rest = paced_runs x (numbered_step a e) (replace_at (position_of e) s.laid zs) s.paced in
    (rest.0, rest.1, rw q (rest.2 ∙ ap (λ c. tallied c (steps f es)) s.counters))

-- ---- without the numbers

-- a station without its number
abbrev unnumber : WithNote Note → WithNote State
unnumber x = record { station = x.station; note = Option.map (λ m. m.counts) x.note }

-- where a component gives way to others without notes
unnumbered_putting : (a : Atomic Note) (p : ℕ) (σ : State) (cs : List Idle) (c : Counters) →
    unnumbered (replace_component a p σ cs c) ≡ replace_component (unnumbered a) p σ cs c
unfolding unnumbered replace_component
unnumbered_putting a p σ cs c =
    let same : map unnumber (replace_at p (map without_note cs) a.stations) ≡ replace_at p (map without_note cs) (map unnumber a.stations) =
    rw (map_replace_at unnumber a.stations (map without_note cs) p, map-map unnumber without_note cs) in
    λ i. record { counts = σ; stations = same i; counters = c }

-- kind 1 at a component with its note, by number j
unnumbered_station : (j : ℕ) (a : Atomic Note) (p : ℕ) (c : Idle) (o : Option Note) →
    unnumbered (step_component (λ m. m.counts) (λ σ. record { counts = σ; begun = j }) a p c o)
    ≡ step_component (λ σ. σ) (λ σ. σ) (unnumbered a) p c (Option.map (λ m. m.counts) o)
unfolding unnumbered step_component
unnumbered_station j a p (output b) o = unnumbered_putting a p _ [] _
unnumbered_station j a p (taking n b P) o = unnumbered_putting a p _ (opens P) _
unnumbered_station j a p (repeating n b P) o = unnumbered_putting a p _ (opens P ++ (repeating n b P ∷ [])) _
unnumbered_station j a p (block n M) none =
    let begun : WithNote Note = record { station = block n M; note = some (record { counts = a.counts; begun = j }) } in
    λ i. record { counts = a.counts; stations = map_replace_at unnumber a.stations (begun ∷ []) p i; counters = a.counters }
unnumbered_station j a p (block n M) (some m) = go (first_readable m.counts M)
  where
    now : (δ : Log) (b : Bool) → readable a.counts δ ≡ b →
        unnumbered (end_attempt a p n M (some δ)) ≡ end_attempt (unnumbered a) p n M (some δ)
    now δ true q = rw q (unnumbered_putting a p _ (map output (WT δ)) _)
    now δ false q = rw q (unnumbered_putting a p _ (block n M ∷ []) _)

    go : (o : Option Log) → unnumbered (end_attempt a p n M o) ≡ end_attempt (unnumbered a) p n M o
    go none = unnumbered_putting a p _ (block n M ∷ []) _
    go (some δ) = now δ (readable a.counts δ) refl

-- each entry, and all of them
unnumbered_fed : (a : Numbered) (e : Entry) →
    unnumbered (numbered_step a e).run ≡ atomic_step (λ σ. σ) (λ σ. σ) (unnumbered a.run) e
unfolding numbered_step unnumbered
unnumbered_fed a (inside p k) = refl
unnumbered_fed a (act p) = rw (found_map? unnumber a.run.stations p) (go (get_elem? a.run.stations p))
  where
    go : (o : Option (WithNote Note)) →
        unnumbered
        (Option-elim
        o
        a.run
        (λ x. step_component (λ m. m.counts) (λ σ. record { counts = σ; begun = a.next }) a.run p x.station x.note))
        ≡ Option-elim
        (Option.map unnumber o)
        (unnumbered a.run)
        (λ x. step_component (λ σ. σ) (λ σ. σ) (unnumbered a.run) p x.station x.note)
    go none = refl
    go (some x) = unnumbered_station a.next a.run p x.station x.note

unnumbered_runs : (es : List Entry) (a : Numbered) →
    unnumbered (numbered_run a es).run ≡ atomic_run (unnumbered a.run) es
unfolding numbered_run atomic_run
unnumbered_runs [] a = refl
unnumbered_runs (e ∷ es) a = unnumbered_runs es (numbered_step a e) ∙ ap (λ s. atomic_run s es) (unnumbered_fed a e)

-- without its numbers the numbered run is the one-step run
pub numbered_is_atomic : NumberedIsAtomic
unfolding NumberedIsAtomic unnumbered
numbered_is_atomic t c es =
    unnumbered_runs es (numbered_start t c)
    ∙ ap
    (λ xs. atomic_run (record { counts = t.tokens; stations = xs; counters = c }) es)
    (map-map unnumber without_note (opens t.start))

-- ---- the one-step run over accepted choices

-- the station of a component: a transaction is its block with a note of its snapshot
abbrev pub station_of : Component → WithNote State
station_of (idle c) = record { station = c; note = none }
station_of (transaction n M s u) = record { station = block n M; note = some s }

-- Over accepted choices the one-step run is read off the configuration that they lead to and the rules that they did.
pub atomic_of_runs : (t : Table) (c : Counters) {es : List Entry} {g : Configuration} → Runs (opening t) es g →
    atomic_run (atomic_start t c) es
    ≡ record { counts = g.counts; stations = map station_of g.components; counters = tallied c (steps (opening t) es) }
unfolding unnumbered NumberedIsAtomic numbered_start
atomic_of_runs t c {es} {g} m = go (paced_runs m (numbered_start t c) (map rests (opens t.start)) (opening_paced t c))
  where
    end : Numbered
    end = numbered_run (numbered_start t c) es

    same : (z : Live) → unnumber (noted z) ≡ station_of (component z)
    same (rests x) = refl
    same (tries i n M s u) = refl

    go : (ws : List Live) × Paced g end ws × (end.run.counters ≡ tallied c (steps (opening t) es)) →
        atomic_run (atomic_start t c) es
        ≡ record { counts = g.counts; stations = map station_of g.components; counters = tallied c (steps (opening t) es) }
    go (ws, pace, told) =
        let stations : map unnumber end.run.stations ≡ map station_of g.components =
        rw (pace.stations, pace.components, map-map unnumber noted ws, map-map station_of component ws) (map_agree _ _ same ws) in
        sym (numbered_is_atomic t c es) ∙ λ i. record { counts = sym pace.counts i; stations = stations i; counters = told i }

-- open attempts read as blocks not begun are its stations
pub unbegun_stations : (cs : List Component) → map rolled_back cs ≡ map (λ x. x.station) (map station_of cs)
unfolding rolled_back
unbegun_stations cs = map_agree _ _ same cs ∙ sym (map-map (λ x. x.station) station_of cs)
  where
    same : (c : Component) → rolled_back c ≡ (station_of c).station
    same (idle c) = refl
    same (transaction n M s u) = refl

-- the first j choices done, run by themselves
pub each_choice : (t : Table) (first : Counters) {g : Configuration} {es : List Entry} → Runs (opening t) es g → (j : ℕ) →
    let a = run (opening t) first (schedule_bytes (take j es)) in
    let o : Atomic State = atomic_run (atomic_start t first) (take j es) in
    (a.number ≡ 0) × (a.configuration ≡ final_configuration (opening t) (take j (steps (opening t) es))) ×
    (a.configuration.counts ≡ o.counts) × (a.counters ≡ o.counters) ×
    (map rolled_back a.configuration.components ≡ map (λ x. x.station) o.stations)
each_choice t first {es = es} to j =
    let part = runs_prefix to j in
    let left = final_configuration (opening t) (take j (steps (opening t) es)) in
    let a = runs_whole part first in
    let same = sym (atomic_of_runs t first part) in (
      a.number,
      a.configuration,
      ap (λ h. h.counts) a.configuration ∙ ap (λ o. o.counts) same,
      a.counters ∙ ap (λ o. o.counters) same,
      ap (λ h. map rolled_back h.components) a.configuration ∙ unbegun_stations left.components
          ∙ ap (λ o. map (λ x. x.station) o.stations) same,
    )
