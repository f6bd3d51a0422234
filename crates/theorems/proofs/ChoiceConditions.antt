-- Which number a choice is refused with: the first of the conditions 14 to 20 that holds of it, and no number where none
-- holds. It rests on one thing of the configuration only, that it has at most 64 components.
-- Assumes nothing.
use Prim.Native.Nat.{ℕ, suc, ◌+◌, ◌≤◌, ◌<◌}
use native.Mathlib.Omega.{arith}
use native.Mathlib.Decide.{dec_lt}
use mathlib.Core.Path.{◌≡◌, refl, sym, ap, ◌∙◌, subst}
use mathlib.Core.Bool.{true, false≢true}
use mathlib.Core.Logic.{◌⊎◌, inl, inr, ◌↔◌}
use mathlib.Core.Option.{Option, none, some}
use mathlib.Core.List.{List, [], ◌∷◌, ◌++◌, map}
use lib.ListN.{length, get_elem?}
use lib.Dec.{leb, eqb}
use borrow.Author.Tests.{leb-true, leb-false, eqb-true, eqb-false}
use Rattle.calculus.specs.Syntax.{Name, rd, Log, State}
use Rattle.calculus.specs.State.{count, Included, without}
use Rattle.calculus.specs.Log.{RD, WT}
use Rattle.calculus.specs.Reduction.{Rule, OUT, IN, REP, ATST, ATRE, ATFAIL, ATOK, ARDOK, ARDF}
use Rattle.semantics.specs.Definitions.Basics.{replace_at}
use Rattle.semantics.specs.Definitions.Terms.{Expression, end_t, retry_t, rd_t, wt_t, or_else_t}
use Rattle.semantics.specs.Definitions.Shortage.{Shortage, enough}
use Rattle.semantics.specs.Definitions.Logs.{empty_log, shortage, readable, take_token, add_token}
use Rattle.semantics.specs.Definitions.Configuration.{Idle, taking, repeating, block, output, Tree, leaf, fork, Component, idle, transaction, Configuration, opens, nodes, preorder}
use Rattle.semantics.specs.Definitions.Moves.{Entry, act, inside, moves, blocked, takes, puts, commits, ends, acts, NodeAnswer, evolves, no_rule, out_of_range, reads, at_leaf, at_fork, at_node, move_at, inside_answer, acts_inside, EntryAnswer, does, refuses, Transition, moved, refused, apply_at, at_position, entry_answer, transition_of, transition, is_moved, is_accepted}
use Rattle.semantics.specs.Claims.ConverseRuns.{EmptyChannel, TooManyComponents, FullChannel}
use Rattle.semantics.specs.Claims.InnerMoves.{Settled}
use Rattle.semantics.specs.Checks.Conditions.{FirstCondition, NoRuleAtNode, ChoiceCondition, no_station, no_station_inside, unsettled, no_attempt, no_node, no_rule_there, in_empty, rep_empty, in_many, rep_many, commit_many, out_full, ChoiceNumbers}
use Rattle.theorems.proofs.Walk.{length_preorder, node_left, node_right, in_left, in_right, node_induction}
use Rattle.theorems.proofs.Lists.{none_past, found_below, length_replace_at}
use Rattle.theorems.proofs.ReadableLogs.{readable_included, unreadable_not_included}
use Rattle.theorems.proofs.ByteReads.{by_cases}

-- ---- an answer with its reason

module _ (C : ℕ → Type 0) where
  -- two first numbers are the same
  pub first_unique : (m n : ℕ) → FirstCondition C m → FirstCondition C n → m ≡ n
  first_unique m n f g = elim (dec_lt m n) [ yes h ↦ absurd (g.1 m h f.0) | no h ↦ elim (dec_lt n m) [ yes k ↦ absurd (f.1 n k g.0) | no k ↦ omega arith ] ]

  -- no condition holds of what moved, and a refusal's number is the first that does
  abbrev pub Reason : Transition → Type 0
  Reason (moved r h) = (n : ℕ) → C n → ⊥
  Reason (refused n) = FirstCondition C n

  -- the same of the answer to an entry
  abbrev pub Because : EntryAnswer → Type 0
  Because (does r w h) = (n : ℕ) → C n → ⊥
  Because (refuses n) = FirstCondition C n

  answer_because : (x : EntryAnswer) → Because x → Reason (transition_of x)
  unfolding transition_of
  answer_because (does r w h) f = f
  answer_because (refuses n) f = f

  -- an answer with its reason is decided by the conditions
  decided : (a : Transition) → Reason a → ((n : ℕ) → (a ≡ refused n) ↔ FirstCondition C n) × ((is_moved a ≡ true) ↔ ((n : ℕ) → C n → ⊥))
  unfolding is_moved
  decided (moved r h) f = (λ n. (λ e. absurd (let z : ◌≡◌ {A = ℕ} 0 1 = cc in omega arith), λ g. absurd (f n g.0)), (λ _. f, λ _. refl))
  decided (refused m) f = (λ n. (λ e. subst (FirstCondition C) (same n e) f, λ g. ap refused (first_unique m n f g)), (λ z. absurd (false≢true z), λ g. absurd (g m f.0)))
    where
      same : (n : ℕ) → refused m ≡ refused n → m ≡ n
      same n e = cc

-- two components at one position are the same
same_component : {o : Option Component} {c d : Component} → o ≡ some c → o ≡ some d → d ≡ c
same_component e f = cc

-- ---- where a move settles

module _ (C : ℕ → Type 0) (h : Configuration) (p : ℕ) (few : length h.components ≤ 64) where
  -- a move that keeps within 64 components is done, one past them is refused 19
  room_reason : (r : Rule) (w : Shortage) (σ : State) (cs : List Component) → ((length (replace_at p cs h.components) ≤ 64) → (n : ℕ) → C n → ⊥) →
      (TooManyComponents (length (replace_at p cs h.components)) → FirstCondition C 19) → Because C (apply_at p (moves r w σ cs) h)
  unfolding apply_at
  room_reason r w σ cs fits over =
      let left = replace_at p cs h.components in
      by_cases (Because C) (leb (length left) 64) (does r w (record { counts = σ; components = left })) (refuses 19)
      (λ e. fits (leb-true (length left) 64 e)) (λ e. over (leb-false (length left) 64 e))

  -- a component that gives way to at most one is never refused 19
  kept_reason : (r : Rule) (w : Shortage) (σ : State) (cs : List Component) → length cs ≤ 1 → p < length h.components → ((n : ℕ) → C n → ⊥) →
      Because C (apply_at p (moves r w σ cs) h)
  kept_reason r w σ cs one below clear =
      let l = length_replace_at h.components cs p below in
      room_reason r w σ cs (λ _. clear) (λ over. absurd (omega arith))

  -- an IN or a REP: 18 where the channel is empty, else 19 where too many would be left
  takes_reason : (a : Name) (r : Rule) (cs : List Idle) → (EmptyChannel h.counts a → C 18) →
      (TooManyComponents (length (replace_at p (map idle cs) h.components)) → C 19) →
      ((m : ℕ) → C m → ((m ≡ 18) × EmptyChannel h.counts a) ⊎ ((m ≡ 19) × TooManyComponents (length (replace_at p (map idle cs) h.components)))) →
      Because C (apply_at p (takes h.counts a r cs) h)
  unfolding takes apply_at
  takes_reason a r cs empty many only =
      by_cases (λ l. Because C (apply_at p l h)) (eqb (count h.counts a) 0) (blocked 18) (moves r enough (take_token h.counts a) (map idle cs))
      (λ e. (empty (eqb-true (count h.counts a) 0 e), λ m l k. elim (only m k) [ inl q ↦ omega arith | inr q ↦ omega arith ]))
      (λ e. let filled = eqb-false (count h.counts a) 0 e in
      room_reason r enough (take_token h.counts a) (map idle cs) (λ fits m k. elim (only m k) [ inl q ↦ filled q.1 | inr q ↦ omega arith ])
      (λ over. (many over, λ m l k. elim (only m k) [ inl q ↦ filled q.1 | inr q ↦ omega arith ])))

-- ---- kind 1

module _ (h : Configuration) (p : ℕ) where
  -- the conditions of an act at this position
  abbrev Acting : ℕ → Type 0
  Acting m = ChoiceCondition h m (act p)

  -- the conditions of an act that can hold of this component
  abbrev Bars : Component → ℕ → Type 0
  Bars (idle (taking n a P)) m = ((m ≡ 18) × EmptyChannel h.counts a) ⊎ ((m ≡ 19) × TooManyComponents (length (replace_at p (map idle (opens P)) h.components)))
  Bars (idle (repeating n a P)) m = ((m ≡ 18) × EmptyChannel h.counts a) ⊎ ((m ≡ 19) × TooManyComponents (length (replace_at p (map idle (opens P ++ (repeating n a P ∷ []))) h.components)))
  Bars (idle (block n M)) m = ⊥
  Bars (idle (output a)) m = (m ≡ 20) × FullChannel h.counts a
  Bars (transaction n M s (leaf (end_t e) δ)) m = (m ≡ 19) × Included (RD δ) h.counts × TooManyComponents (length (replace_at p (map (λ a. idle (output a)) (WT δ)) h.components))
  Bars (transaction n M s (leaf (retry_t e) δ)) m = ⊥
  Bars (transaction n M s (leaf (rd_t e a N) δ)) m = m ≡ 15
  Bars (transaction n M s (leaf (wt_t e a N) δ)) m = m ≡ 15
  Bars (transaction n M s (leaf (or_else_t e N N') δ)) m = m ≡ 15
  Bars (transaction n M s (fork l r)) m = m ≡ 15

  -- 15 is the only one at an attempt that is no single end or retry leaf
  unsettled_bars : (n : ℕ) (M : Expression) (s : State) (t : Tree) → ¬ Settled t → Bars (transaction n M s t) 15
  unsettled_bars n M s (leaf (end_t e) δ) u = absurd (u tt)
  unsettled_bars n M s (leaf (retry_t e) δ) u = absurd (u tt)
  unsettled_bars n M s (leaf (rd_t e a N) δ) u = refl
  unsettled_bars n M s (leaf (wt_t e a N) δ) u = refl
  unsettled_bars n M s (leaf (or_else_t e N N') δ) u = refl
  unsettled_bars n M s (fork l r) u = refl

  -- a condition that holds is one of those
  barred : (c : Component) → get_elem? h.components p ≡ some c → (m : ℕ) → ChoiceCondition h m (act p) → Bars c m
  barred c e m (no_station z) = absurd (let q = found_below h.components p c e in omega arith)
  barred c e m (unsettled n M s t f u) = subst (λ d. Bars d 15) (same_component e f) (unsettled_bars n M s t u)
  barred c e m (in_empty n a P f z) = subst (λ d. Bars d 18) (same_component e f) (inl (refl, z))
  barred c e m (rep_empty n a P f z) = subst (λ d. Bars d 18) (same_component e f) (inl (refl, z))
  barred c e m (in_many n a P f z) = subst (λ d. Bars d 19) (same_component e f) (inr (refl, z))
  barred c e m (rep_many n a P f z) = subst (λ d. Bars d 19) (same_component e f) (inr (refl, z))
  barred c e m (commit_many n M s i δ f r z) = subst (λ d. Bars d 19) (same_component e f) (refl, r, z)
  barred c e m (out_full a f z) = subst (λ d. Bars d 20) (same_component e f) (refl, z)

  module _ (few : length h.components ≤ 64) where
    -- an OUT: 20 where the channel is full
    puts_reason : (a : Name) → get_elem? h.components p ≡ some (idle (output a)) →
        Because Acting (apply_at p (puts h.counts a) h)
    unfolding puts apply_at
    puts_reason a e =
        by_cases (λ l. Because Acting (apply_at p l h)) (leb 255 (count h.counts a)) (blocked 20) (moves (OUT a) enough (add_token h.counts a) [])
        (λ f. (out_full a e (leb-true 255 (count h.counts a) f), λ m l k. let q = barred (idle (output a)) e m k in omega arith))
        (λ f. kept_reason Acting h p few (OUT a) enough (add_token h.counts a) [] (omega arith) (found_below h.components p (idle (output a)) e)
        (λ m k. let q = barred (idle (output a)) e m k in let g = leb-false 255 (count h.counts a) f in omega arith))

    -- at a single end leaf: an ATOK is refused 19 where too many would be left, an ATFAIL never is
    commits_reason : (n : ℕ) (M : Expression) (s : State) (i : ℕ) (δ : Log) → get_elem? h.components p ≡ some (transaction n M s (leaf (end_t i) δ)) →
        Because Acting (apply_at p (commits h.counts n M δ) h)
    unfolding commits apply_at
    commits_reason n M s i δ e =
        let only = barred (transaction n M s (leaf (end_t i) δ)) e in
        let laid = map (λ a. idle (output a)) (WT δ) in
        by_cases (λ l. Because Acting (apply_at p l h)) (readable h.counts δ) (moves (ATOK δ) enough (without h.counts (RD δ)) laid)
        (moves ATFAIL (shortage h.counts δ) h.counts (idle (block n M) ∷ []))
        (λ f. room_reason Acting h p few (ATOK δ) enough (without h.counts (RD δ)) laid (λ fits m k. let q = only m k in omega arith)
        (λ over. (commit_many n M s i δ e (readable_included h.counts δ f) over, λ m l k. let q = only m k in omega arith)))
        (λ f. kept_reason Acting h p few ATFAIL (shortage h.counts δ) h.counts (idle (block n M) ∷ []) (omega arith)
        (found_below h.components p (transaction n M s (leaf (end_t i) δ)) e) (λ m k. unreadable_not_included h.counts δ f (only m k).1))

    -- an attempt that is no single end or retry leaf: 15, and nothing comes before
    unsettled_first : (n : ℕ) (M : Expression) (s : State) (t : Tree) → get_elem? h.components p ≡ some (transaction n M s t) → ¬ Settled t →
        ((m : ℕ) → Bars (transaction n M s t) m → m ≡ 15) → FirstCondition Acting 15
    unsettled_first n M s t e u only = (unsettled n M s t e u, λ m l k. let q = only m (barred (transaction n M s t) e m k) in omega arith)

    -- at an attempt
    ends_reason : (n : ℕ) (M : Expression) (s : State) (t : Tree) → get_elem? h.components p ≡ some (transaction n M s t) →
        Because Acting (apply_at p (ends h.counts n M t) h)
    unfolding ends apply_at
    ends_reason n M s (leaf (end_t i) δ) e = commits_reason n M s i δ e
    ends_reason n M s (leaf (retry_t i) δ) e =
        kept_reason Acting h p few ATRE enough h.counts (idle (block n M) ∷ []) (omega arith) (found_below h.components p (transaction n M s (leaf (retry_t i) δ)) e)
        (λ m k. barred (transaction n M s (leaf (retry_t i) δ)) e m k)
    ends_reason n M s (leaf (rd_t i a N) δ) e = unsettled_first n M s (leaf (rd_t i a N) δ) e (λ z. z) (λ m q. q)
    ends_reason n M s (leaf (wt_t i a N) δ) e = unsettled_first n M s (leaf (wt_t i a N) δ) e (λ z. z) (λ m q. q)
    ends_reason n M s (leaf (or_else_t i N N') δ) e = unsettled_first n M s (leaf (or_else_t i N N') δ) e (λ z. z) (λ m q. q)
    ends_reason n M s (fork l r) e = unsettled_first n M s (fork l r) e (λ z. z) (λ m q. q)

    -- kind 1 at a component
    acts_reason : (c : Component) → get_elem? h.components p ≡ some c → Because Acting (apply_at p (acts h.counts c) h)
    unfolding acts apply_at
    acts_reason (idle (taking n a P)) e =
        takes_reason Acting h p few a (IN a) (opens P) (in_empty n a P e) (in_many n a P e) (λ m k. barred (idle (taking n a P)) e m k)
    acts_reason (idle (repeating n a P)) e =
        takes_reason Acting h p few a (REP a) (opens P ++ (repeating n a P ∷ [])) (rep_empty n a P e) (rep_many n a P e)
        (λ m k. barred (idle (repeating n a P)) e m k)
    acts_reason (idle (block n M)) e =
        kept_reason Acting h p few ATST enough h.counts (transaction n M h.counts (leaf M empty_log) ∷ []) (omega arith)
        (found_below h.components p (idle (block n M)) e) (λ m k. barred (idle (block n M)) e m k)
    acts_reason (idle (output a)) e = puts_reason a e
    acts_reason (transaction n M s t) e = ends_reason n M s t e

-- ---- kind 2

-- where a move inside goes: past the tree, at a node at rest, or at one that is not
abbrev NodeAnswerReason : Tree → ℕ → NodeAnswer → Type 0
NodeAnswerReason t k (evolves r w v) = (k < nodes t) × ((u : Tree) → get_elem? (preorder t) k ≡ some u → ¬ NoRuleAtNode u)
NodeAnswerReason t k no_rule = (u : Tree) × (get_elem? (preorder t) k ≡ some u) × NoRuleAtNode u
NodeAnswerReason t k out_of_range = nodes t ≤ k

-- a node that is the first of its tree
first_node : (t u : Tree) → NoRuleAtNode u → t ≡ u → NoRuleAtNode t
first_node t u h e = rw e h

-- at the first node: a leaf, a fork
leaf_reason : (s : State) (M : Expression) (δ : Log) → NodeAnswerReason (leaf M δ) 0 (at_leaf s M δ)
unfolding at_leaf preorder nodes reads
leaf_reason s (end_t n) δ = (leaf (end_t n) δ, refl, tt)
leaf_reason s (retry_t n) δ = (leaf (retry_t n) δ, refl, tt)
leaf_reason s (rd_t n a M) δ =
    let moves : (r : Rule) (w : Shortage) (v : Tree) → NodeAnswerReason (leaf (rd_t n a M) δ) 0 (evolves r w v) = λ r w v. (omega arith, λ u e h. first_node (leaf (rd_t n a M) δ) u h (cc)) in
    by_cases (NodeAnswerReason (leaf (rd_t n a M) δ) 0) (readable s (δ ++ (rd a ∷ []))) (evolves ARDOK enough (leaf M (δ ++ (rd a ∷ [])))) (evolves ARDF (shortage s (δ ++ (rd a ∷ []))) (leaf (retry_t 255) δ))
    (λ _. moves ARDOK enough (leaf M (δ ++ (rd a ∷ [])))) (λ _. moves ARDF (shortage s (δ ++ (rd a ∷ []))) (leaf (retry_t 255) δ))
leaf_reason s (wt_t n a M) δ = (omega arith, λ u e h. first_node (leaf (wt_t n a M) δ) u h (cc))
leaf_reason s (or_else_t n M N) δ = (omega arith, λ u e h. first_node (leaf (or_else_t n M N) δ) u h (cc))

fork_reason : (l r : Tree) → NodeAnswerReason (fork l r) 0 (at_fork l r)
unfolding at_fork preorder nodes
fork_reason (leaf (end_t n) δ) r = (omega arith, λ u e h. first_node (fork (leaf (end_t n) δ) r) u h (cc) tt)
fork_reason (leaf (retry_t n) δ) r = (omega arith, λ u e h. first_node (fork (leaf (retry_t n) δ) r) u h (cc) tt)
fork_reason (leaf (rd_t n a M) δ) r = (fork (leaf (rd_t n a M) δ) r, refl, λ z. z)
fork_reason (leaf (wt_t n a M) δ) r = (fork (leaf (wt_t n a M) δ) r, refl, λ z. z)
fork_reason (leaf (or_else_t n M N) δ) r = (fork (leaf (or_else_t n M N) δ) r, refl, λ z. z)
fork_reason (fork l m) r = (fork (fork l m) r, refl, λ z. z)

-- a move in the right side of a fork
right_reason : (l r : Tree) (j : ℕ) (i : NodeAnswer) → NodeAnswerReason r j i → NodeAnswerReason (fork l r) (suc (nodes l + j)) (in_right l i)
unfolding in_right preorder nodes
right_reason l r j (evolves e w v) h = (omega arith, λ u f. h.1 u (sym (node_right l r j) ∙ f))
right_reason l r j no_rule h = (h.0, node_right l r j ∙ h.1, h.2)
right_reason l r j out_of_range h = omega arith

-- and in the left side
left_reason : (l r : Tree) (k : ℕ) → k < nodes l → (i : NodeAnswer) → NodeAnswerReason l k i → NodeAnswerReason (fork l r) (suc k) (in_left r i)
unfolding in_left preorder nodes
left_reason l r k b (evolves e w v) h = (omega arith, λ u f. h.1 u (sym (node_left l r k b) ∙ f))
left_reason l r k b no_rule h = (h.0, node_left l r k b ∙ h.1, h.2)
left_reason l r k b out_of_range h = absurd (omega arith)

-- at the root
node_reason : (s : State) (t : Tree) → NodeAnswerReason t 0 (at_node s t)
unfolding at_node
node_reason s (leaf M δ) = leaf_reason s M δ
node_reason s (fork l r) = fork_reason l r

-- at any node
move_at_reason : (s : State) (t : Tree) (k : ℕ) → NodeAnswerReason t k (move_at s t k)
move_at_reason s =
    node_induction s (λ t k i. NodeAnswerReason t k i) (node_reason s) left_reason right_reason (λ t k h. h)

module _ (h : Configuration) (p k : ℕ) where
  -- the conditions of a move inside at this position and node
  abbrev Inward : ℕ → Type 0
  Inward m = ChoiceCondition h m (inside p k)

  -- the conditions of a move inside that can hold of this component
  abbrev BarsInside : Component → ℕ → Type 0
  BarsInside (idle c) m = m ≡ 15
  BarsInside (transaction n M s t) m = ((m ≡ 16) × (nodes t ≤ k)) ⊎ ((m ≡ 17) × ((u : Tree) × (get_elem? (preorder t) k ≡ some u) × NoRuleAtNode u))

  -- a condition that holds is one of those
  barred_inside : (c : Component) → get_elem? h.components p ≡ some c → (m : ℕ) → ChoiceCondition h m (inside p k) → BarsInside c m
  barred_inside c e m (no_station_inside z) = absurd (let q = found_below h.components p c e in omega arith)
  barred_inside c e m (no_attempt d f) = subst (λ d. BarsInside d 15) (same_component e f) refl
  barred_inside c e m (no_node n M s t f z) = subst (λ d. BarsInside d 16) (same_component e f) (inl (refl, z))
  barred_inside c e m (no_rule_there n M s t u f g z) = subst (λ d. BarsInside d 17) (same_component e f) (inr (refl, (u, g, z)))

  module _ (few : length h.components ≤ 64) where
    -- at an attempt: past its nodes 16, at a node at rest 17, else a move
    inside_answer_reason : (n : ℕ) (M : Expression) (s : State) (t : Tree) → get_elem? h.components p ≡ some (transaction n M s t) → (i : NodeAnswer) →
        NodeAnswerReason t k i → Because Inward (apply_at p (inside_answer h.counts n M s i) h)
    unfolding inside_answer apply_at
    inside_answer_reason n M s t e (evolves r w v) q =
        kept_reason Inward h p few r w h.counts (transaction n M s v ∷ []) (omega arith)
        (found_below h.components p (transaction n M s t) e)
        (λ m c. elim (barred_inside (transaction n M s t) e m c) [ inl b ↦ omega arith | inr b ↦ q.1 b.1.0 b.1.1 b.1.2 ])
    inside_answer_reason n M s t e no_rule q =
        (no_rule_there n M s t q.0 e q.1 q.2, λ m l c. elim (barred_inside (transaction n M s t) e m c) [ inl b ↦ below b.1 | inr b ↦ omega arith ])
      where
        below : nodes t ≤ k → ⊥
        below z = let y = found_below (preorder t) k q.0 q.1 in let w = length_preorder t in omega arith
    inside_answer_reason n M s t e out_of_range q =
        let over : nodes t ≤ k = omega arith in
        (no_node n M s t e over, λ m l c. elim (barred_inside (transaction n M s t) e m c) [ inl b ↦ omega arith | inr b ↦ omega arith ])

    -- kind 2 at a component
    acts_inside_reason : (c : Component) → get_elem? h.components p ≡ some c →
        Because Inward (apply_at p (acts_inside h.counts c k) h)
    unfolding acts_inside apply_at
    acts_inside_reason (idle c) e = (no_attempt c e, λ m l z. let q = barred_inside (idle c) e m z in omega arith)
    acts_inside_reason (transaction n M s t) e = inside_answer_reason n M s t e (move_at s t k) (move_at_reason s t k)

-- ---- a choice

-- 14 comes first, and meets nothing before it
no_station_first : (h : Configuration) (p : ℕ) → length h.components ≤ p → FirstCondition (λ m. ChoiceCondition h m (act p)) 14
no_station_first h p z = (no_station z, λ m l k. before m l k)
  where
    before : (m : ℕ) → m < 14 → ChoiceCondition h m (act p) → ⊥
    before m l (no_station y) = omega arith
    before m l (unsettled n M s t f u) = omega arith
    before m l (in_empty n a P f y) = omega arith
    before m l (rep_empty n a P f y) = omega arith
    before m l (in_many n a P f y) = omega arith
    before m l (rep_many n a P f y) = omega arith
    before m l (commit_many n M s i δ f r y) = omega arith
    before m l (out_full a f y) = omega arith

no_station_inside_first : (h : Configuration) (p k : ℕ) → length h.components ≤ p → FirstCondition (λ m. ChoiceCondition h m (inside p k)) 14
no_station_inside_first h p k z = (no_station_inside z, λ m l c. before m l c)
  where
    before : (m : ℕ) → m < 14 → ChoiceCondition h m (inside p k) → ⊥
    before m l (no_station_inside y) = omega arith
    before m l (no_attempt d f) = omega arith
    before m l (no_node n M s t f y) = omega arith
    before m l (no_rule_there n M s t u f g y) = omega arith

-- every answer to a choice, and so every transition, has its reason
entry_answer_reason : (h : Configuration) → length h.components ≤ 64 → (e : Entry) → Because (λ m. ChoiceCondition h m e) (entry_answer h e)
unfolding entry_answer at_position
entry_answer_reason h few (act p) = go (get_elem? h.components p) refl
  where
    go : (o : Option Component) → get_elem? h.components p ≡ o → Because (λ m. ChoiceCondition h m (act p)) (at_position o (λ c. apply_at p (acts h.counts c) h))
    go none e = no_station_first h p (none_past h.components p e)
    go (some c) e = acts_reason h p few c e
entry_answer_reason h few (inside p k) = go (get_elem? h.components p) refl
  where
    go : (o : Option Component) → get_elem? h.components p ≡ o →
        Because (λ m. ChoiceCondition h m (inside p k)) (at_position o (λ c. apply_at p (acts_inside h.counts c k) h))
    go none e = no_station_inside_first h p k (none_past h.components p e)
    go (some c) e = acts_inside_reason h p k few c e

pub choice_reason : (h : Configuration) → length h.components ≤ 64 → (e : Entry) → Reason (λ m. ChoiceCondition h m e) (transition h e)
unfolding transition
choice_reason h few e = answer_because (λ m. ChoiceCondition h m e) (entry_answer h e) (entry_answer_reason h few e)

pub choice_numbers : ChoiceNumbers
unfolding ChoiceNumbers is_accepted
choice_numbers ts h w e = decided (λ m. ChoiceCondition h m e) (transition h e) (choice_reason h w.few e)
