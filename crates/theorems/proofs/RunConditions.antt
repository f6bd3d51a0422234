-- Why a run stops: its place is behind the choices done, and there it stands at the end, at a choice whose kind is not 1 or 2,
-- at one cut short, or at one whose first condition has the number that it answers. There is never a second reason.
-- Assumes nothing.
use Prim.Native.Nat.{ℕ, zero, suc, ◌+◌, ◌≤◌}
use native.Mathlib.Omega.{arith}
use mathlib.Core.Path.{◌≡◌, refl, ap}
use mathlib.Core.Logic.{◌≢◌}
use mathlib.Core.List.{List, [], ◌∷◌}
use lib.ListN.{length, take, drop}
use Rattle.calculus.specs.Reduction.{Rule}
use Rattle.semantics.specs.Definitions.Configuration.{Configuration}
use Rattle.semantics.specs.Definitions.Moves.{Entry, act, inside, Transition, moved, refused, transition}
use Rattle.semantics.specs.Definitions.Run.{schedule, entries, entry_bytes, schedule_bytes, Counters, counted, RunAnswer, continue_run, run_from, run}
use Rattle.semantics.specs.Checks.Conditions.{FirstCondition, ChoiceCondition, Stops, at_end_holds, kind_neither, act_short, inside_short, node_short, act_refused, inside_refused, RunStops, RunNumbers, OneReason}
use Rattle.theorems.proofs.Moves.{accepted_inverts}
use Rattle.theorems.proofs.ChoiceConditions.{first_unique, Reason, choice_reason}

-- ---- the rest of a run

-- a run over these bytes, from a place with so many entries done: how many bytes and entries it does, and why it stops there
record RanWhole (bs : List ℕ) (p d : ℕ) (a : RunAnswer) : Type 0 where
  bytes : ℕ
  chosen : ℕ
  place : a.place ≡ p + bytes
  done : a.done ≡ d + chosen
  inside_bytes : bytes ≤ length bs
  before : take bytes bs ≡ schedule_bytes (take chosen (entries (schedule bs)))
  as_many : chosen ≤ length (entries (schedule bs))
  reason : Stops a.configuration a.number (drop bytes bs)

-- it stops at once
stopped : (h : Configuration) (c : Counters) (p d n : ℕ) (bs : List ℕ) → Stops h n bs →
    RanWhole bs p d (record { number = n; place = p; done = d; configuration = h; counters = c })
unfolding schedule_bytes
stopped h c p d n bs s =
    record { bytes = 0; chosen = 0; place = omega arith; done = omega arith; inside_bytes = omega arith; before = refl; as_many = omega arith; reason = s }

-- it goes on after an entry
past_act : (q p d : ℕ) (bs : List ℕ) (a : RunAnswer) → RanWhole bs (p + 2) (suc d) a → RanWhole (1 ∷ q ∷ bs) p d a
unfolding schedule_bytes entry_bytes schedule entries
past_act q p d bs a r =
    let here = r.place in
    let done = r.done in
    let fits = r.inside_bytes in
    let few = r.as_many in
    record {
      bytes = suc (suc r.bytes);
      chosen = suc r.chosen;
      place = omega arith;
      done = omega arith;
      inside_bytes = omega arith;
      before = ap (λ xs. 1 ∷ q ∷ xs) r.before;
      as_many = omega arith;
      reason = r.reason;
    }

past_inside : (q k p d : ℕ) (bs : List ℕ) (a : RunAnswer) → RanWhole bs (p + 3) (suc d) a → RanWhole (2 ∷ q ∷ k ∷ bs) p d a
unfolding schedule_bytes entry_bytes schedule entries
past_inside q k p d bs a r =
    let here = r.place in
    let done = r.done in
    let fits = r.inside_bytes in
    let few = r.as_many in
    record {
      bytes = suc (suc (suc r.bytes));
      chosen = suc r.chosen;
      place = omega arith;
      done = omega arith;
      inside_bytes = omega arith;
      before = ap (λ xs. 2 ∷ q ∷ k ∷ xs) r.before;
      as_many = omega arith;
      reason = r.reason;
    }

-- an entry that is done goes on, one that is refused stops the run
met : (h : Configuration) (c : Counters) (p d w : ℕ) (bs rest : List ℕ) (e : Entry) (o : Transition) → transition h e ≡ o → Reason (λ m. ChoiceCondition h m e) o →
    ((n : ℕ) → FirstCondition (λ m. ChoiceCondition h m e) n → Stops h n bs) →
    ((r : Rule) (g : Configuration) → length g.components ≤ 64 →
    RanWhole bs p d (run_from g (counted r c) (p + w) (suc d) (schedule rest))) →
    RanWhole bs p d
    (continue_run o (λ n. record { number = n; place = p; done = d; configuration = h; counters = c }) (λ r g. run_from g (counted r c) (p + w) (suc d) (schedule rest)))
unfolding continue_run
met h c p d w bs rest e (moved r g) q z stop next = next r g (accepted_inverts h e r g q).fits
met h c p d w bs rest e (refused n) q z stop next = stopped h c p d n bs (stop n z)

ran : (bs : List ℕ) (h : Configuration) → length h.components ≤ 64 → (c : Counters) (p d : ℕ) → RanWhole bs p d (run_from h c p d (schedule bs))
unfolding run_from schedule
ran [] h few c p d = stopped h c p d 0 [] at_end_holds
ran (zero ∷ bs) h few c p d = stopped h c p d 12 (0 ∷ bs) (kind_neither (omega arith) (omega arith))
ran (suc zero ∷ []) h few c p d = stopped h c p d 13 (1 ∷ []) act_short
ran (suc zero ∷ q ∷ bs) h few c p d =
    met h c p d 2 (1 ∷ q ∷ bs) bs (act q) (transition h (act q)) refl (choice_reason h few (act q)) (λ n f. act_refused f)
    (λ r g fits. past_act q p d bs (run_from g (counted r c) (p + 2) (suc d) (schedule bs)) (ran bs g fits (counted r c) (p + 2) (suc d)))
ran (suc (suc zero) ∷ []) h few c p d = stopped h c p d 13 (2 ∷ []) inside_short
ran (suc (suc zero) ∷ q ∷ []) h few c p d = stopped h c p d 13 (2 ∷ q ∷ []) node_short
ran (suc (suc zero) ∷ q ∷ k ∷ bs) h few c p d =
    met h c p d 3 (2 ∷ q ∷ k ∷ bs) bs (inside q k) (transition h (inside q k)) refl (choice_reason h few (inside q k)) (λ n f. inside_refused f)
    (λ r g fits. past_inside q k p d bs (run_from g (counted r c) (p + 3) (suc d) (schedule bs)) (ran bs g fits (counted r c) (p + 3) (suc d)))
ran (suc (suc (suc k)) ∷ bs) h few c p d = stopped h c p d 12 (suc (suc (suc k)) ∷ bs) (kind_neither (omega arith) (omega arith))

-- a run from the start of its bytes
whole : (bs : List ℕ) (a : RunAnswer) → RanWhole bs 0 0 a → RunStops bs a
whole bs a r =
    let here : a.place ≡ r.bytes = (let q = r.place in omega arith) in
    let done : a.done ≡ r.chosen = (let q = r.done in omega arith) in
    record { inside_bytes = rw here r.inside_bytes; before = rw (here, done) r.before; as_many = rw done r.as_many; reason = rw here r.reason }

pub run_numbers : RunNumbers
unfolding RunNumbers run
run_numbers table t _ h w c bs = whole bs (run h c bs) (ran bs h w.few c 0 0)

-- ---- never a second reason

-- the reason to stop at these bytes, as their shape gives it
abbrev StopsAt : Configuration → List ℕ → ℕ → Type 0
StopsAt h [] n = n ≡ 0
StopsAt h (zero ∷ bs) n = n ≡ 12
StopsAt h (suc zero ∷ []) n = n ≡ 13
StopsAt h (suc zero ∷ p ∷ bs) n = FirstCondition (λ m. ChoiceCondition h m (act p)) n
StopsAt h (suc (suc zero) ∷ []) n = n ≡ 13
StopsAt h (suc (suc zero) ∷ p ∷ []) n = n ≡ 13
StopsAt h (suc (suc zero) ∷ p ∷ k ∷ bs) n = FirstCondition (λ m. ChoiceCondition h m (inside p k)) n
StopsAt h (suc (suc (suc k)) ∷ bs) n = n ≡ 12

stops_at : (h : Configuration) (n : ℕ) (bs : List ℕ) → Stops h n bs → StopsAt h bs n
stops_at h n bs at_end_holds = refl
stops_at h n bs (kind_neither {k} {bs = cs} one two) = neither k cs one two
  where
    neither : (k : ℕ) (cs : List ℕ) → k ≢ 1 → k ≢ 2 → StopsAt h (k ∷ cs) 12
    neither zero cs a b = refl
    neither (suc zero) cs a b = absurd (a refl)
    neither (suc (suc zero)) cs a b = absurd (b refl)
    neither (suc (suc (suc k))) cs a b = refl
stops_at h n bs act_short = refl
stops_at h n bs inside_short = refl
stops_at h n bs node_short = refl
stops_at h n bs (act_refused f) = f
stops_at h n bs (inside_refused f) = f

same_reason : (h : Configuration) (bs : List ℕ) (m n : ℕ) → StopsAt h bs m → StopsAt h bs n → m ≡ n
same_reason h [] m n s t = cc
same_reason h (zero ∷ bs) m n s t = cc
same_reason h (suc zero ∷ []) m n s t = cc
same_reason h (suc zero ∷ p ∷ bs) m n s t = first_unique (λ m. ChoiceCondition h m (act p)) m n s t
same_reason h (suc (suc zero) ∷ []) m n s t = cc
same_reason h (suc (suc zero) ∷ p ∷ []) m n s t = cc
same_reason h (suc (suc zero) ∷ p ∷ k ∷ bs) m n s t = first_unique (λ m. ChoiceCondition h m (inside p k)) m n s t
same_reason h (suc (suc (suc k)) ∷ bs) m n s t = cc

pub one_reason : OneReason
unfolding OneReason
one_reason h bs m n s t = same_reason h bs m n (stops_at h m bs s) (stops_at h n bs t)
