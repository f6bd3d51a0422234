-- The counts after a run and after a list of calls: the balance and the net of each channel, the choices done, the
-- counters. The balance is a law of the calculus, carried over by soundness.
-- Assumes nothing.
use Prim.Native.Nat.{ℕ, zero, suc, ◌+◌, ◌-◌, ◌≤◌, min}
use native.Mathlib.Omega.{arith}
use mathlib.Core.Path.{◌≡◌, refl, sym, ap, ◌∙◌}
use mathlib.Core.Bool.{Bool, true, false, cond}
use mathlib.Core.List.{List, [], ◌∷◌}
use lib.ListN.{length}
use lib.Dec.{eqb, ltb}
use lib.IntN.{pos, negsuc, neg_ℤ, nat_abs, ◌+ℤ◌, ◌-ℤ◌, +ℤ_assoc, +ℤ_comm, +ℤ-neg_ℤ_cancel}
use Rattle.calculus.specs.Syntax.{Name, State, Ongoing, Process, nil, par}
use Rattle.calculus.specs.State.{count, same, Included}
use Rattle.calculus.specs.Log.{RD}
use Rattle.calculus.specs.Reduction.{Rule, Label, by, COM, Evolves, ardok, ardf, awr, aoi, aof, aoe, aol, aor, Reduces, OUTr, INr, REPr, COMl, COMr, PARL, PARR, ATSTr, ATPASS, ATREr, ATFAILr, ATOKr}
use Rattle.calculus.proofs.States.{count_plus, count_without}
use Rattle.semantics.specs.Definitions.Layout.{counter_top}
use Rattle.semantics.specs.Definitions.Terms.{Term}
use Rattle.semantics.specs.Definitions.Configuration.{Component, Configuration}
use Rattle.semantics.specs.Definitions.Stored.{WellFormed}
use Rattle.semantics.specs.Claims.Denotation.{component_process, Denotes, nothing, alone, beside}
use Rattle.semantics.specs.Checks.AcceptedTables.{GoodTable}
use Rattle.semantics.specs.Definitions.Moves.{Entry, moved, transition, rule_number}
use Rattle.semantics.specs.Definitions.Run.{ScheduleItem, entries, Counters, counted_at, counted, net, RunAnswer, run_from, run, schedule, Step, steps}
use Rattle.semantics.specs.Claims.Correspondence.{OneReduction}
use Rattle.semantics.specs.Claims.Accounts.{adds, removes, total, by_rule, Accounts, WithinTop, RunAccounts, CallsAccounts}
use Rattle.theorems.proofs.Moves.{run_induction}
use Rattle.theorems.proofs.GoodTable.{accepted_is_good}
use Rattle.theorems.proofs.WellFormedKept.{count_byte, well_formed_step}
use Rattle.theorems.proofs.Soundness.{reduction_step}
use Rattle.theorems.proofs.Runs.{Runs, rested, ran, runs_keep, runs_steps, tallied}
use Rattle.theorems.proofs.CallsAsOne.{calls_tell}

-- ---- the balance of one reduction

-- a move inside a transaction adds nothing and removes nothing
evolves_balance : {r : Rule} {A B : Ongoing} (x : Name) → Evolves r A B → (adds x r ≡ 0) × (removes x r ≡ 0)
unfolding adds removes
evolves_balance x (ardok h) = (refl, refl)
evolves_balance x (ardf h) = (refl, refl)
evolves_balance x awr = (refl, refl)
evolves_balance x aoi = (refl, refl)
evolves_balance x aof = (refl, refl)
evolves_balance x aoe = (refl, refl)
evolves_balance x (aol e) = evolves_balance x e
evolves_balance x (aor e) = evolves_balance x e

-- what is there and was removed is what was there and was added
abbrev pub Balanced : Name → Label → State → State → Type 0
Balanced x (by r) σ τ = count τ x + removes x r ≡ count σ x + adds x r
Balanced x (COM a) σ τ = σ ≡ τ

-- every reduction keeps the balance of every name
pub reduction_balance : {Order : List Name → List Name → Type 0} {l : Label} {P Q : Process} {σ τ : State} (x : Name) →
    Reduces Order l P σ Q τ → Balanced x l σ τ
unfolding adds removes Included
reduction_balance x (OUTr {a} {σ} {σ'} p) = let h = count_plus σ a x σ' p in omega arith
reduction_balance x (INr {a} {P} {σ} {σ'} p) = let h = count_plus σ' a x σ p in omega arith
reduction_balance x (REPr {a} {P} {σ} {σ'} p) = let h = count_plus σ' a x σ p in omega arith
reduction_balance x (COMl p r s) = refl
reduction_balance x (COMr p r s) = refl
reduction_balance x (PARL r) = reduction_balance x r
reduction_balance x (PARR r) = reduction_balance x r
reduction_balance x ATSTr = omega arith
reduction_balance x (ATPASS e) = let h = evolves_balance x e in omega arith
reduction_balance x ATREr = omega arith
reduction_balance x (ATFAILr n) = omega arith
reduction_balance x (ATOKr {σ} {δ} i o) = let h = count_without (RD δ) σ x in let k = i x in omega arith

-- ---- the balance of one choice

-- every list of components stands for some process
pub standing : (cs : List Component) → (P : Process) × Denotes P cs
standing [] = (nil, nothing)
standing (c ∷ cs) = let i = standing cs in (par (component_process c) i.0, beside (alone c refl) i.1)

-- every accepted choice keeps the balance of every channel
choice_balance : {ts : List Term} {h : Configuration} (e : Entry) {r : Rule} {g : Configuration} (x : Name) → WellFormed ts h →
    transition h e ≡ moved r g → count g.counts x + removes x r ≡ count h.counts x + adds x r
unfolding OneReduction
choice_balance {ts} {h} e {r} {g} x ok q =
    let p = standing h.components in
    let i = reduction_step e ok q p.0 p.1 in
    reduction_balance x i.1

-- ---- the net

-- a difference of integers follows the balance
net_of : (a b c d : ℕ) → a + d ≡ b + c → pos a -ℤ pos b ≡ pos c -ℤ pos d
net_of a b c d e = ap (λ z. z -ℤ pos b) last ∙ +ℤ-neg_ℤ_cancel (pos c -ℤ pos d) (pos b)
  where
    last : pos a ≡ (pos c -ℤ pos d) +ℤ pos b
    last =
        sym (+ℤ-neg_ℤ_cancel (pos a) (pos d)) ∙ ap (λ n. pos n -ℤ pos d) e ∙ +ℤ_assoc (pos b) (pos c) (neg_ℤ (pos d))
        ∙ +ℤ_comm (pos b) (pos c -ℤ pos d)

-- of two counts it stays within the larger
net_small : (a b : ℕ) → a ≤ 255 → b ≤ 255 → nat_abs (pos a -ℤ pos b) ≤ 255
net_small a zero h k = omega arith
net_small a (suc b) h k = go (ltb a (suc b))
  where
    go : (t : Bool) → nat_abs (cond t (negsuc (suc b - suc a)) (pos (a - suc b))) ≤ 255
    go true = omega arith
    go false = omega arith

-- ---- the counters

-- a counter is raised by the rule of its number alone, up to its top
raised : (n : ℕ) (r : Rule) (k : ℕ) → k ≤ counter_top → counted_at n (rule_number r) k ≡ min counter_top (k + same (rule_number r) n)
unfolding counted_at same
raised n r k h = go (eqb (rule_number r) n)
  where
    go : (b : Bool) → cond b (min counter_top (suc k)) k ≡ min counter_top (k + cond b 1 0)
    go true = omega arith
    go false = omega arith

-- the counters after some steps
tallied_accounts : (ss : List Step) (c : Counters) → WithinTop c →
    ((tallied c ss).commits ≡ min counter_top (c.commits + by_rule 7 ss)) × ((tallied c ss).failed ≡ min counter_top (c.failed + by_rule 6 ss)) ×
    ((tallied c ss).retries ≡ min counter_top (c.retries + by_rule 5 ss))
unfolding tallied by_rule counted
tallied_accounts [] c top = let a = top.0 in let b = top.1 in let d = top.2 in (omega arith, omega arith, omega arith)
tallied_accounts (s ∷ ss) c top =
    let a = raised 7 s.rule c.commits top.0 in
    let b = raised 6 s.rule c.failed top.1 in
    let d = raised 5 s.rule c.retries top.2 in
    let i = tallied_accounts ss (counted s.rule c) (omega arith, omega arith, omega arith) in
    let x = i.0 in let y = i.1 in let z = i.2 in
    (omega arith, omega arith, omega arith)

-- ---- accepted choices

module _ {ts : List Term} (good : GoodTable ts) where
  -- they keep the balance of every channel
  runs_balance : {h g : Configuration} {es : List Entry} → Runs h es g → WellFormed ts h → (x : Name) →
      count g.counts x + total (removes x) (steps h es) ≡ count h.counts x + total (adds x) (steps h es)
  unfolding steps total
  runs_balance rested ok x = refl
  runs_balance (ran {e = e} r q more) ok x =
      let i = runs_balance more (well_formed_step e good ok q) x in let one = choice_balance e x ok q in rw q (omega arith)

  -- and have the accounts of their steps
  runs_accounts : {h g : Configuration} {es : List Entry} → Runs h es g → WellFormed ts h → (c : Counters) → WithinTop c →
      Accounts h g c (tallied c (steps h es)) (steps h es)
  unfolding net
  runs_accounts {h} {g} {es} m ok c top =
      let kept = runs_keep (WellFormed ts) (λ h e r g w q. well_formed_step e good w q) m ok in
      let counters = tallied_accounts (steps h es) c top in
      record {
        leaves = (runs_steps m).1;
        balance = runs_balance m ok;
        net_is = λ x. net_of (count g.counts x) (count h.counts x) (total (adds x) (steps h es)) (total (removes x) (steps h es)) (runs_balance m ok x);
        net_within =
            λ x. net_small (count g.counts x) (count h.counts x) (count_byte g.counts x kept.channel_counts) (count_byte h.counts x ok.channel_counts);
        commits = counters.0;
        failed = counters.1;
        retries = counters.2;
      }

-- ---- a run

-- a run that had d choices done before it: the choices behind its steps, all accepted
record Follows (h : Configuration) (c : Counters) (d : ℕ) (ss : List Step) (a : RunAnswer) : Type 0 where
  chosen : List Entry
  runs : Runs h chosen a.configuration
  stepped : steps h chosen ≡ ss
  tally : a.counters ≡ tallied c ss
  moves : a.done ≡ d + length ss

-- every run
run_follows : (items : List ScheduleItem) (h : Configuration) (c : Counters) (p d : ℕ) → Follows h c d (steps h (entries items)) (run_from h c p d items)
unfolding steps tallied
run_follows = run_induction Follows
    (λ n p d h c. record { chosen = []; runs = rested; stepped = refl; tally = refl; moves = omega arith })
    (λ e r h g c d ss a q rest. record {
      chosen = e ∷ rest.chosen;
      runs = ran r q rest.runs;
      stepped = rw (q, rest.stepped);
      tally = rest.tally;
      moves = let m = rest.moves in omega arith;
    })

-- the claim of a run, for the bytes of every accepted table
pub run_accounts : RunAccounts
unfolding RunAccounts run
run_accounts bs t a h ok c top choices =
    let f = run_follows (schedule choices) h c 0 0 in
    let k = runs_accounts (accepted_is_good bs t a.1) f.runs ok c top in
    let m = f.moves in
    (omega arith, rw (f.tally, ← f.stepped) k)

-- and of a list of calls
pub calls_accounts : CallsAccounts
unfolding CallsAccounts
calls_accounts bs t a h ok l stored top cs =
    let k = calls_tell bs t a.1 l h stored ok cs in
    (k.after, k.hall, (runs_steps k.runs).0, rw k.tally (runs_accounts (accepted_is_good bs t a.1) k.runs ok l.counters top))
