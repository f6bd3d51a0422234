-- An entry of kind 1 at an output, a take or a repeated take: what it is answered, and what stands at a position where
-- it is accepted by rule 1, 2 or 3.
-- Assumes nothing.
use Prim.Native.Nat.{ℕ, ◌+◌, ◌-◌, ◌≤◌, ◌<◌}
use native.Mathlib.Omega.{arith}
use mathlib.Core.Path.{◌≡◌, refl, ap, ◌∙◌}
use mathlib.Core.Bool.{Bool, true, false}
use mathlib.Core.Option.{some}
use mathlib.Core.List.{List, [], ◌∷◌, ◌++◌, map}
use lib.ListN.{length, get_elem?, length-append, length-map}
use lib.Dec.{eqb, leb}
use borrow.Author.Tests.{eq-eqb, ne_eqb, eqb-false, leb-false, le-leb, lt-leb}
use Rattle.calculus.specs.Syntax.{Name, State}
use Rattle.calculus.specs.State.{count}
use Rattle.calculus.specs.Reduction.{Rule, OUT}
use Rattle.semantics.specs.Definitions.Basics.{replace_at}
use Rattle.semantics.specs.Definitions.Layout.{max_count, max_components}
use Rattle.semantics.specs.Definitions.Terms.{Expression, Program, end_t, retry_t, rd_t, wt_t, or_else_t}
use Rattle.semantics.specs.Definitions.Shortage.{Shortage, enough}
use Rattle.semantics.specs.Definitions.Logs.{readable, add_token, take_token}
use Rattle.semantics.specs.Definitions.Configuration.{taking, repeating, block, output, Tree, leaf, fork, Component, idle, transaction, Configuration, opens}
use Rattle.semantics.specs.Definitions.Moves.{act, ComponentAnswer, moves, blocked, takes, puts, ends, commits, acts, does, apply_at, entry_answer, rule_number, refused_by, as_reply}
use Rattle.theorems.proofs.Lists.{found_below, length_replace_at}
use Rattle.theorems.proofs.ByteReads.{by_cases}
use Rattle.theorems.proofs.Moves.{position_of, component_answer, chosen_at, entry_answer_made}
use Rattle.hall_held.specs.Choices.{AcceptedBy}
use Rattle.hall_held.proofs.AcceptedActs.{acted}
use Rattle.move_tokens.specs.Tokens.{take_of, successors, staying, take_rule, take_number}

-- ---- at an output

module _ (h : Configuration) (p : ℕ) (a : Name) (e : get_elem? h.components p ≡ some (idle (output a))) where
  -- the configuration after OUT
  abbrev pub after_put : Configuration
  after_put = record { counts = add_token h.counts a; components = replace_at p [] h.components }

  pub full_refused : max_count ≤ count h.counts a → as_reply (entry_answer h (act p)) ≡ refused_by 20
  unfolding position_of component_answer acts puts apply_at as_reply
  full_refused q = ap as_reply (chosen_at h (act p) (idle (output a)) e) ∙ rw (le-leb max_count (count h.counts a) q)

  -- what is left is fewer than it was
  pub put_accepted : length h.components ≤ max_components → count h.counts a < max_count →
      entry_answer h (act p) ≡ does (OUT a) enough after_put
  unfolding position_of component_answer acts puts
  put_accepted few q =
      let l = length_replace_at h.components [] p (found_below h.components p _ e) in
      entry_answer_made h (act p) (OUT a) (add_token h.counts a) (idle (output a)) [] e
      (rw (lt-leb max_count (count h.counts a) q)) (omega arith)

-- ---- at a take

-- how many components stand in its place afterwards
pub laid_length : (b : Bool) (m : ℕ) (a : Name) (P : Program) → length (successors b m a P) ≡ staying b + length (opens P)
laid_length false m a P = omega arith
laid_length true m a P = length-append (opens P) (repeating m a P ∷ []) ∙ omega arith

acts_take : (σ : State) (b : Bool) (m : ℕ) (a : Name) (P : Program) →
    acts σ (idle (take_of b m a P)) ≡ takes σ a (take_rule b a) (successors b m a P)
unfolding acts
acts_take σ false m a P = refl
acts_take σ true m a P = refl

pub take_number_holds : (b : Bool) (a : Name) → rule_number (take_rule b a) ≡ take_number b
unfolding rule_number
take_number_holds false a = refl
take_number_holds true a = refl

module _ (h : Configuration) (p : ℕ) (b : Bool) (m : ℕ) (a : Name) (P : Program)
    (e : get_elem? h.components p ≡ some (idle (take_of b m a P))) where
  abbrev laid : List Component
  laid = map idle (successors b m a P)

  -- the configuration after IN or REP
  abbrev pub after_take : Configuration
  after_take = record { counts = take_token h.counts a; components = replace_at p laid h.components }

  -- how many components there are then
  pub many_after : length (replace_at p laid h.components) ≡ length h.components - 1 + staying b + length (opens P)
  many_after =
      let f = found_below h.components p _ e in
      let l = length_replace_at h.components laid p f in
      let n = length-map (successors b m a P) idle in
      let k = laid_length b m a P in omega arith

  take_answer : entry_answer h (act p) ≡ apply_at p (takes h.counts a (take_rule b a) (successors b m a P)) h
  unfolding position_of component_answer
  take_answer = chosen_at h (act p) (idle (take_of b m a P)) e ∙ ap (λ l. apply_at p l h) (acts_take h.counts b m a P)

  pub empty_refused : count h.counts a ≡ 0 → as_reply (entry_answer h (act p)) ≡ refused_by 18
  unfolding takes apply_at as_reply
  empty_refused q = ap as_reply take_answer ∙ rw (eq-eqb (count h.counts a) 0 q)

  pub crowded_refused : (count h.counts a ≡ 0 → ⊥) → max_components < length (replace_at p laid h.components) →
      as_reply (entry_answer h (act p)) ≡ refused_by 19
  unfolding takes apply_at as_reply
  crowded_refused q l =
      ap as_reply take_answer
      ∙ rw (ne_eqb (count h.counts a) 0 q, lt-leb (length (replace_at p laid h.components)) max_components l)

  pub take_accepted : (count h.counts a ≡ 0 → ⊥) → length (replace_at p laid h.components) ≤ max_components →
      entry_answer h (act p) ≡ does (take_rule b a) enough after_take
  unfolding takes apply_at
  take_accepted q l =
      take_answer
      ∙ rw (ne_eqb (count h.counts a) 0 q, le-leb (length (replace_at p laid h.components)) max_components l)

-- ---- what stands where rule 1, 2 or 3 is done

-- what a component's own move by such a rule says of it
abbrev pub Local : State → Component → ComponentAnswer → Type 0
Local σ c (blocked n) = Unit {0}
Local σ (idle (output a)) (moves r w τ ds) = (rule_number r ≡ 1) × (count σ a < max_count)
Local σ (idle (taking m a P)) (moves r w τ ds) = (rule_number r ≡ 2) × (count σ a ≡ 0 → ⊥) × (ds ≡ map idle (opens P))
Local σ (idle (repeating m a P)) (moves r w τ ds) =
    (rule_number r ≡ 3) × (count σ a ≡ 0 → ⊥) × (ds ≡ map idle (opens P ++ (repeating m a P ∷ [])))
Local σ (idle (block m M)) (moves r w τ ds) = 3 < rule_number r
Local σ (transaction m M s t) (moves r w τ ds) = 3 < rule_number r

ends_local : (σ : State) (m : ℕ) (M : Expression) (s : State) (t : Tree) → Local σ (transaction m M s t) (ends σ m M t)
unfolding ends commits rule_number
ends_local σ m M s (leaf (end_t k) δ) =
    by_cases (Local σ (transaction m M s (leaf (end_t k) δ))) (readable σ δ) _ _ (λ q. omega arith) (λ q. omega arith)
ends_local σ m M s (leaf (retry_t k) δ) = omega arith
ends_local σ m M s (leaf (rd_t k a N) δ) = tt
ends_local σ m M s (leaf (wt_t k a N) δ) = tt
ends_local σ m M s (leaf (or_else_t k N N') δ) = tt
ends_local σ m M s (fork l r) = tt

pub acts_local : (σ : State) (c : Component) → Local σ c (acts σ c)
unfolding acts takes puts rule_number
acts_local σ (idle (taking m a P)) =
    by_cases (Local σ (idle (taking m a P))) (eqb (count σ a) 0) _ _ (λ q. tt)
    (λ q. (refl, eqb-false (count σ a) 0 q, refl))
acts_local σ (idle (repeating m a P)) =
    by_cases (Local σ (idle (repeating m a P))) (eqb (count σ a) 0) _ _ (λ q. tt)
    (λ q. (refl, eqb-false (count σ a) 0 q, refl))
acts_local σ (idle (block m M)) = omega arith
acts_local σ (idle (output a)) =
    by_cases (Local σ (idle (output a))) (leb max_count (count σ a)) _ _ (λ q. tt)
    (λ q. (refl, leb-false max_count (count σ a) q))
acts_local σ (transaction m M s t) = ends_local σ m M s t

-- an output, with room for its token
pub record PutsHere (h : Configuration) (p : ℕ) : Type 0 where
  pub channel : Name
  pub there : get_elem? h.components p ≡ some (idle (output channel))
  pub room : count h.counts channel < max_count

-- a take or a repeated take, with a token to take and room for what is laid down
pub record TakesHere (h : Configuration) (p : ℕ) (b : Bool) : Type 0 where
  pub number : ℕ
  pub channel : Name
  pub continuation : Program
  pub there : get_elem? h.components p ≡ some (idle (take_of b number channel continuation))
  pub token : count h.counts channel ≡ 0 → ⊥
  pub few : length (replace_at p (map idle (successors b number channel continuation)) h.components) ≤ max_components

-- what stands where the entry is accepted by the rule of this number
abbrev Standing : Configuration → ℕ → ℕ → Type 0
Standing h p k = (k ≡ 1 → PutsHere h p) × (k ≡ 2 → TakesHere h p false) × (k ≡ 3 → TakesHere h p true)

module _ (h : Configuration) (p : ℕ) where
  by_component_holds : (r : Rule) (w : Shortage) (τ : State) (ds : List Component) (c : Component) → get_elem? h.components p ≡ some c →
      length (replace_at p ds h.components) ≤ max_components → Local h.counts c (moves r w τ ds) →
      Standing h p (rule_number r)
  by_component_holds r w τ ds (idle (output a)) e few x =
      let n = x.0 in
      (λ k. record { channel = a; there = e; room = x.1 }, λ k. absurd (omega arith), λ k. absurd (omega arith))
  by_component_holds r w τ ds (idle (taking m a P)) e few x =
      let n = x.0 in (
        λ k. absurd (omega arith),
        λ k. record { number = m; channel = a; continuation = P; there = e; token = x.1; few = rw x.2 at few },
        λ k. absurd (omega arith),
      )
  by_component_holds r w τ ds (idle (repeating m a P)) e few x =
      let n = x.0 in (
        λ k. absurd (omega arith),
        λ k. absurd (omega arith),
        λ k. record { number = m; channel = a; continuation = P; there = e; token = x.1; few = rw x.2 at few },
      )
  by_component_holds r w τ ds (idle (block m M)) e few x =
      (λ k. absurd (omega arith), λ k. absurd (omega arith), λ k. absurd (omega arith))
  by_component_holds r w τ ds (transaction m M s t) e few x =
      (λ k. absurd (omega arith), λ k. absurd (omega arith), λ k. absurd (omega arith))

  standing : (k : ℕ) → AcceptedBy h (act p) k → Standing h p k
  standing k q =
      let m = acted h p k q in
      rw (← m.number)
      (by_component_holds m.rule m.lacks m.result.counts m.laid m.component m.found (rw (← m.placed) m.fits)
      (rw m.local at (acts_local h.counts m.component)))

  pub puts_there : AcceptedBy h (act p) 1 → PutsHere h p
  puts_there q = (standing 1 q).0 refl

  pub takes_there : (b : Bool) → AcceptedBy h (act p) (take_number b) → TakesHere h p b
  takes_there false q = (standing 2 q).1 refl
  takes_there true q = (standing 3 q).2 refl
