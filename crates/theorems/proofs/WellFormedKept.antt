-- An accepted choice keeps a configuration well formed for its table.
-- Assumes nothing.
use Prim.Native.Nat.{ℕ, suc, ◌+◌, ◌-◌, ◌≤◌, ◌<◌}
use native.Mathlib.Omega.{arith}
use mathlib.Core.Path.{◌≡◌, refl, ◌∙◌}
use mathlib.Core.Logic.{◌≢◌}
use mathlib.Core.Bool.{Bool, true, false}
use mathlib.Core.Option.{Option, none, some}
use mathlib.Core.List.{List, [], ◌∷◌, ◌++◌}
use lib.ListN.{length, set, get_elem?, length-append, length-set}
use lib.Dec.{leb, eqb}
use borrow.Author.Tests.{leb-false, ne_eqb}
use Rattle.calculus.specs.Syntax.{Name, Action, rd, wt, Log, State}
use Rattle.calculus.specs.State.{count, without}
use Rattle.calculus.specs.Log.{RD, WT}
use Rattle.calculus.specs.Reduction.{Rule}
use Rattle.semantics.specs.Definitions.Basics.{All}
use Rattle.semantics.specs.Definitions.Terms.{Expression, end_t, retry_t, rd_t, wt_t, or_else_t, take_t, repeat_t, atom_t, Term, process, expression, number, path_length}
use Rattle.semantics.specs.Definitions.Logs.{empty_log, readable, add_token}
use Rattle.semantics.specs.Definitions.Configuration.{Idle, taking, repeating, block, output, Tree, leaf, fork, Component, idle, transaction, Configuration, branches_of, opens}
use Rattle.semantics.specs.Definitions.Stored.{ByteCounts, leaf_expression, channel_of, TreeOk, ComponentOk, WellFormed}
use Rattle.semantics.specs.Checks.AcceptedTables.{GoodTable, ExpressionIn, SubtermsIn, ChannelBelow}
use Rattle.semantics.specs.Definitions.Moves.{Entry, act, inside, ComponentAnswer, moves, blocked, takes, puts, ends, acts, NodeAnswer, evolves, no_rule, out_of_range, move_at, inside_answer, acts_inside, moved, transition}
use Rattle.semantics.specs.Claims.Correspondence.{KeepsWellFormed}
use Rattle.theorems.proofs.Measures.{branches_positive}
use Rattle.theorems.proofs.GoodTable.{accepted_is_good}
use Rattle.theorems.proofs.RoundTrip.{stored_fits, opens_ok}
use Rattle.theorems.proofs.Lists.{found_below, all_append, all_at, all_replace_at, all_set, all_get_d, all_map}
use Rattle.theorems.proofs.Moves.{position_of, component_answer, accepted_inverts, Moving, inner_induction}
use Rattle.theorems.proofs.ByteReads.{by_cases}

-- ---- counts

-- every count of a state of bytes is a byte
pub count_byte : (σ : State) (a : Name) → ByteCounts σ → count σ a ≤ 255
count_byte σ a h = all_get_d (λ c. c ≤ 255) σ a 0 h.1 (omega arith)

-- a count may be set to a byte
set_bytes : (σ : State) (a : Name) (n : ℕ) → ByteCounts σ → n ≤ 255 → ByteCounts (set σ a n)
set_bytes σ a n h k = (length-set σ a n ∙ h.0, all_set (λ c. c ≤ 255) σ a n h.1 k)

-- taking names away leaves bytes
pub without_bytes : (bs : List Name) (σ : State) → ByteCounts σ → ByteCounts (without σ bs)
unfolding without
without_bytes [] σ h = h
without_bytes (b ∷ bs) σ h =
    let c = count_byte σ b h in
    without_bytes bs (set σ b (count σ b - 1)) (set_bytes σ b (count σ b - 1) h (omega arith))

-- a channel below 255 may gain
pub gained_bytes : (σ : State) (a : Name) → ByteCounts σ → count σ a < 255 → ByteCounts (add_token σ a)
unfolding add_token
gained_bytes σ a h k = set_bytes σ a (suc (count σ a)) h k

-- ---- leaves

-- what stands at a leaf, other than the retry that has no record, is an entry
pub leaf_entry : (ts : List Term) (M : Expression) → M ≢ retry_t 255 → leaf_expression ts (number M) ≡ some M → ExpressionIn ts M
unfolding leaf_expression
leaf_entry ts M other h = test (eqb (number M) 255) refl
  where
    entry : eqb (number M) 255 ≡ false → (o : Option Term) → get_elem? ts (number M) ≡ o → ExpressionIn ts M
    entry e none f = let z : none ≡ some M = rw (e, f) at h in absurd (let o : ◌≡◌ {A = ℕ} 0 1 = cc in omega arith)
    entry e (some (process P)) f = let z : none ≡ some M = rw (e, f) at h in absurd (let o : ◌≡◌ {A = ℕ} 0 1 = cc in omega arith)
    entry e (some (expression N)) f = let z : some N ≡ some M = rw (e, f) at h in cc

    test : (b : Bool) → eqb (number M) 255 ≡ b → ExpressionIn ts M
    test true e = let z : some (retry_t 255) ≡ some M = rw e at h in absurd (other (cc))
    test false e = entry e (get_elem? ts (number M)) refl

-- ---- what a move leaves

-- what a move inside a transaction leaves of a well-formed tree: a well-formed one, with no more branches
abbrev pub StaysOk : List Term → Tree → Rule → Tree → Type 0
StaysOk ts t r u = TreeOk ts t → TreeOk ts u × (branches_of u ≤ branches_of t)

-- what a move of one component leaves: counts that are bytes, and well-formed components
abbrev pub ComponentAnswerOk : List Term → ComponentAnswer → Type 0
ComponentAnswerOk ts (moves r w σ cs) = ByteCounts σ × All (ComponentOk ts) cs
ComponentAnswerOk ts (blocked n) = Unit {0}

module _ {ts : List Term} (good : GoodTable ts) where
  -- ---- terms

  -- an entry that is an expression may stand at a leaf
  pub entry_leaf : (M : Expression) → ExpressionIn ts M → leaf_expression ts (number M) ≡ some M
  unfolding leaf_expression
  entry_leaf M h =
      let b = found_below ts (number M) (expression M) h in
      let f = good.few in
      rw (ne_eqb (number M) 255 (omega arith), h)

  -- ---- a move inside a transaction

  -- the direct subterm of what stands at a leaf, with the log of one more action
  one_action : (α : Action) (M : Expression) (δ : Log) → ExpressionIn ts M → channel_of α < 16 → length δ + (1 + path_length M) ≤ 16 →
      All (λ β. channel_of β < 16) δ → TreeOk ts (leaf M (δ ++ (α ∷ [])))
  unfolding TreeOk
  one_action α M δ e c l h =
      let n = length-append δ (α ∷ []) in
      (entry_leaf M e, omega arith, all_append (λ β. channel_of β < 16) δ (α ∷ []) h (c, tt))

  -- the retry that has no record may stand at a leaf
  retried : (δ : Log) (n : ℕ) → length δ + n ≤ 16 → All (λ β. channel_of β < 16) δ → TreeOk ts (leaf (retry_t 255) δ)
  unfolding TreeOk
  retried δ n l h = (refl, omega arith, h)

  -- what stands at a leaf, other than the retry that has no record, is an entry, and so are its parts
  pub leaf_parts : (M : Expression) (δ : Log) → M ≢ retry_t 255 → TreeOk ts (leaf M δ) → SubtermsIn ts (expression M) × ChannelBelow (expression M)
  unfolding TreeOk
  leaf_parts M δ other h =
      let e = leaf_entry ts M other h.0 in (good.subterms (number M) (expression M) e, good.channel (number M) (expression M) e)

  -- a move inside keeps a tree well formed, and its branches do not grow in number
  pub move_at_ok : (s : State) (t : Tree) (k : ℕ) → Moving (StaysOk ts) t (move_at s t k)
  unfolding TreeOk branches_of
  move_at_ok s = inner_induction (record {
    ardok = λ n a M δ e h.
        let p = leaf_parts (rd_t n a M) δ (λ q. let z : ◌≡◌ {A = ℕ} 0 1 = cc in omega arith) h in
        (one_action (rd a) M δ p.0 p.1 h.1 h.2, omega arith);
    ardf = λ n a M δ e h. (retried δ (1 + path_length M) h.1 h.2, branches_positive M);
    awr = λ n a M δ h.
        let p = leaf_parts (wt_t n a M) δ (λ q. let z : ◌≡◌ {A = ℕ} 0 1 = cc in omega arith) h in
        (one_action (wt a) M δ p.0 p.1 h.1 h.2, omega arith);
    aoi = λ n M N δ h.
        let p = leaf_parts (or_else_t n M N) δ (λ q. let z : ◌≡◌ {A = ℕ} 0 1 = cc in omega arith) h in
        let l : length δ + path_length (or_else_t n M N) ≤ 16 = h.1 in
        (((entry_leaf M p.0.0, omega arith, h.2), (entry_leaf N p.0.1, omega arith, h.2)), omega arith);
    aof = λ n δ r h. (h.1, omega arith);
    aoe = λ n δ r h. (h.0, omega arith);
    aol = λ l r u e k h. let i = k h.0 in let b = i.1 in ((i.0, h.1), omega arith);
    aor = λ l r u e k h. let i = k h.1 in let b = i.1 in ((h.0, i.0), omega arith);
  })

  -- ---- a move of one component

  -- IN and REP
  takes_ok : (σ : State) (a : Name) (r : Rule) (cs : List Idle) → ByteCounts σ → All (λ c. ComponentOk ts (idle c)) cs → ComponentAnswerOk ts (takes σ a r cs)
  unfolding takes
  takes_ok σ a r cs h k =
      by_cases (ComponentAnswerOk ts) (eqb (count σ a) 0) _ _ (λ q. tt) (λ q. (without_bytes (a ∷ []) σ h, all_map idle (ComponentOk ts) cs k))

  -- OUT
  puts_ok : (σ : State) (a : Name) → ByteCounts σ → ComponentAnswerOk ts (puts σ a)
  unfolding puts
  puts_ok σ a h = by_cases (ComponentAnswerOk ts) (leb 255 (count σ a)) _ _ (λ q. tt) (λ q. (gained_bytes σ a h (leb-false 255 (count σ a) q), tt))

  -- the writes of a log are outputs on channels
  outputs_ok : (δ : Log) → All (λ β. channel_of β < 16) δ → All (λ a. ComponentOk ts (idle (output a))) (WT δ)
  unfolding WT ComponentOk channel_of
  outputs_ok [] h = tt
  outputs_ok (rd a ∷ δ) h = outputs_ok δ h.1
  outputs_ok (wt a ∷ δ) h = (h.0, outputs_ok δ h.1)

  -- ATOK, ATFAIL and ATRE
  ends_ok : (σ : State) (n : ℕ) (M : Expression) (t : Tree) → ByteCounts σ → ComponentOk ts (idle (block n M)) → TreeOk ts t → ComponentAnswerOk ts (ends σ n M t)
  unfolding ends TreeOk
  ends_ok σ n M (leaf (end_t e) δ) h b k =
      by_cases (ComponentAnswerOk ts) (readable σ δ) _ _
      (λ q. (without_bytes (RD δ) σ h, all_map (λ a. idle (output a)) (ComponentOk ts) (WT δ) (outputs_ok δ k.2)))
      (λ q. (h, (b, tt)))
  ends_ok σ n M (leaf (retry_t e) δ) h b k = (h, (b, tt))
  ends_ok σ n M (leaf (rd_t e a N) δ) h b k = tt
  ends_ok σ n M (leaf (wt_t e a N) δ) h b k = tt
  ends_ok σ n M (leaf (or_else_t e N N') δ) h b k = tt
  ends_ok σ n M (fork l r) h b k = tt

  -- a block's transaction as it is opened
  begun_ok : (σ : State) (n : ℕ) (M : Expression) → ByteCounts σ → ComponentOk ts (idle (block n M)) → ComponentOk ts (transaction n M σ (leaf M empty_log))
  unfolding ComponentOk empty_log
  begun_ok σ n M h b =
      let e : ExpressionIn ts M = good.subterms n (process (atom_t n M)) b in
      let l = good.limits (number M) (expression M) e in
      (b, h, (entry_leaf M e, omega arith, tt), l.0)

  -- kind 1 at a component
  acts_ok : (σ : State) (c : Component) → ByteCounts σ → ComponentOk ts c → ComponentAnswerOk ts (acts σ c)
  unfolding acts ComponentOk
  acts_ok σ (idle (taking n a P)) h k = takes_ok σ a _ (opens P) h (opens_ok good P (good.subterms n (process (take_t n a P)) k))
  acts_ok σ (idle (repeating n a P)) h k =
      takes_ok σ a _ (opens P ++ (repeating n a P ∷ [])) h
      (all_append (λ c. ComponentOk ts (idle c)) (opens P) (repeating n a P ∷ []) (opens_ok good P (good.subterms n (process (repeat_t n a P)) k)) (k, tt))
  acts_ok σ (idle (block n M)) h k = (h, (begun_ok σ n M h k, tt))
  acts_ok σ (idle (output a)) h k = puts_ok σ a h
  acts_ok σ (transaction n M s t) h k = ends_ok σ n M t h k.0 k.2

  -- a transaction after a move inside it
  inside_answer_ok : (σ : State) (n : ℕ) (M : Expression) (s : State) (t : Tree) (x : NodeAnswer) → ByteCounts σ → ComponentOk ts (transaction n M s t) →
      Moving (StaysOk ts) t x → ComponentAnswerOk ts (inside_answer σ n M s x)
  unfolding inside_answer ComponentOk
  inside_answer_ok σ n M s t (evolves r w u) h k i =
      let (tree, fewer) = i k.2 in
      let few = k.3 in (h, ((k.0, k.1, tree, omega arith), tt))
  inside_answer_ok σ n M s t no_rule h k i = tt
  inside_answer_ok σ n M s t out_of_range h k i = tt

  -- kind 2 at a component
  acts_inside_ok : (σ : State) (c : Component) (j : ℕ) → ByteCounts σ → ComponentOk ts c → ComponentAnswerOk ts (acts_inside σ c j)
  unfolding acts_inside ComponentOk
  acts_inside_ok σ (idle c) j h k = tt
  acts_inside_ok σ (transaction n M s t) j h k = inside_answer_ok σ n M s t (move_at s t j) h k (move_at_ok s t j)

  -- what an entry asks of a well-formed component leaves well-formed counts and components
  pub component_answer_ok : (σ : State) (c : Component) (e : Entry) → ByteCounts σ → ComponentOk ts c → ComponentAnswerOk ts (component_answer σ c e)
  unfolding component_answer
  component_answer_ok σ c (act p) h k = acts_ok σ c h k
  component_answer_ok σ c (inside p j) h k = acts_inside_ok σ c j h k

-- ---- at a position

-- an accepted choice keeps a configuration well formed
pub well_formed_step : {ts : List Term} {h : Configuration} (e : Entry) {r : Rule} {g : Configuration} → GoodTable ts → WellFormed ts h →
    transition h e ≡ moved r g → WellFormed ts g
well_formed_step {ts} {h} e {r} {g} good ok q =
    let m = accepted_inverts h e r g q in
    let c : ComponentOk ts m.component = all_at (ComponentOk ts) h.components (position_of e) m.component ok.each m.found in
    let l : ByteCounts g.counts × All (ComponentOk ts) m.laid = rw m.local at (component_answer_ok good h.counts m.component e ok.channel_counts c) in
    record { channel_counts = l.0; few = m.fits; each = rw m.placed (all_replace_at (ComponentOk ts) h.components m.laid (position_of e) ok.each l.1) }

-- and in its stored form
pub keeps_well_formed : KeepsWellFormed
unfolding KeepsWellFormed
keeps_well_formed bs t a h ok e r g q =
    let good = accepted_is_good bs t a.1 in
    let kept = well_formed_step e good ok q in
    let f = stored_fits t.terms g good kept in
    (kept, f.1, f.2)
