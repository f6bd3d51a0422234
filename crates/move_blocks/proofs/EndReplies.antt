-- What an act is answered at a transaction, from its bytes: ATRE at a retry leaf, the reply to a commit at an end leaf,
-- and refused by 15 while it has more to do.
-- Assumes nothing.
use Prim.Native.Nat.{ℕ, ◌+◌, ◌-◌, ◌≤◌, ◌<◌}
use native.Mathlib.Omega.{arith}
use mathlib.Core.Path.{◌≡◌, refl, sym, ap, ◌∙◌}
use mathlib.Core.Bool.{Bool, true, false, cond}
use mathlib.Core.Option.{some}
use mathlib.Core.List.{List, [], ◌∷◌, map}
use lib.ListN.{length, get_elem?, length-map}
use lib.Dec.{leb}
use borrow.Author.Tests.{le-leb}
use Rattle.calculus.specs.Syntax.{Log, State}
use Rattle.calculus.specs.State.{without}
use Rattle.calculus.specs.Log.{RD, WT}
use Rattle.calculus.specs.Reduction.{Rule, ATFAIL, ATOK}
use Rattle.std.specs.Prelude.{Option, Some, None, Result, Ok, Err}
use Rattle.semantics.specs.Definitions.Basics.{replace_at}
use Rattle.semantics.specs.Definitions.Table.{end_k, retry_k}
use Rattle.semantics.specs.Definitions.Terms.{Expression, end_t, retry_t, rd_t, wt_t, or_else_t, Term}
use Rattle.semantics.specs.Definitions.Shortage.{Shortage, enough}
use Rattle.semantics.specs.Definitions.Logs.{shortage, readable}
use Rattle.semantics.specs.Definitions.Configuration.{block, output, Tree, leaf, fork, Component, idle, transaction, Configuration}
use Rattle.semantics.specs.Definitions.Moves.{act, moves, blocked, commits, ends, acts, EntryAnswer, apply_at, entry_answer, rule_number, moved_by, refused_by, as_reply}
use Rattle.theorems.proofs.Lists.{found_below, length_replace_at}
use Rattle.theorems.proofs.Moves.{position_of, component_answer, chosen_at}
use Rattle.table_records.specs.Shapes.{kind_byte}
use Rattle.hall_layout.specs.Layout.{hall_bytes, max_components, transaction_head}
use Rattle.hall_laws.specs.ReadParts.{term_kind}
use Rattle.answers.specs.declared.refusals.Reason.{Reason}
use Rattle.answers.specs.declared.refusals.Reason.TheVariants.{WrongComponent}
use Rattle.answers.specs.declared.rules.Rule.TheVariants.{Atre}
use Rattle.answers.specs.declared.replies.Move.{Move}
use Rattle.answers.specs.Answers.{number_of_rule, reason_number, shortage_of, reply_of}
use Rattle.hall_held.specs.Holds.{Holds}
use Rattle.hall_held.proofs.Holds.{hall_length, few_components}
use Rattle.move_leaves.specs.Leaves.{CanReadNode, LeafKindRead, kind_of_node, TransactionAt}
use Rattle.move_leaves.proofs.Leaves.{node_inside, transaction_parts}
use Rattle.move_blocks.specs.TransactionEnd.{EndLogAt, CanLookEnd, EndLooked, CanLookCommit, commit_reply, CommitLooked}
use Rattle.move_blocks.proofs.EndLeaves.{end_log_at}

-- ---- the reply to an act

reply_cond : (b : Bool) (x y : EntryAnswer) → as_reply (cond b x y) ≡ cond b (as_reply x) (as_reply y)
reply_cond true x y = refl
reply_cond false x y = refl

module _ {ts : List Term} {h : Configuration} {s starts : List ℕ} {n : ℕ} (y : Holds ts h s starts n) (p : ℕ)
    (c : Component)
    (e : get_elem? h.components p ≡ some c) where
  -- a component that has nothing to do
  reply_blocked : (k : ℕ) → acts h.counts c ≡ blocked k → as_reply (entry_answer h (act p)) ≡ refused_by k
  unfolding position_of component_answer apply_at as_reply
  reply_blocked k q = ap as_reply (chosen_at h (act p) c e) ∙ rw q

  -- one that gives way to others: refused where too many are left
  reply_moves : (r : Rule) (w : Shortage) (τ : State) (cs : List Component) → acts h.counts c ≡ moves r w τ cs →
      as_reply (entry_answer h (act p)) ≡ cond (leb (n - 1 + length cs) max_components) (moved_by (rule_number r) w)
      (refused_by 19)
  unfolding position_of component_answer apply_at as_reply
  reply_moves r w τ cs q =
      let below = found_below h.components p c e in
      let counted = y.counted in
      let l = length_replace_at h.components cs p below in
      let many : length (replace_at p cs h.components) ≡ n - 1 + length cs = omega arith in
      ap as_reply (chosen_at h (act p) c e)
      ∙ rw q (reply_cond (leb (length (replace_at p cs h.components)) max_components) _ _ ∙ rw many)

  -- one that gives way to one
  reply_moves_one : (r : Rule) (w : Shortage) (τ : State) (d : Component) → acts h.counts c ≡ moves r w τ (d ∷ []) →
      as_reply (entry_answer h (act p)) ≡ moved_by (rule_number r) w
  reply_moves_one r w τ d q =
      let few = few_components y in
      let below = found_below h.components p c e in
      let counted = y.counted in
      let k : n - 1 + length (d ∷ []) ≤ max_components = omega arith in
      reply_moves r w τ (d ∷ []) q ∙ rw (le-leb _ _ k)

-- ---- at a transaction

module _ {ts : List Term} {h : Configuration} {s starts : List ℕ} {n : ℕ} (y : Holds ts h s starts n) (p m : ℕ)
    (M : Expression) (σ : State) where
  -- at a retry leaf
  retry_reply : (e : ℕ) (δ : Log) → get_elem? h.components p ≡ some (transaction m M σ (leaf (retry_t e) δ)) →
      as_reply (entry_answer h (act p)) ≡ moved_by 5 enough
  unfolding acts ends rule_number
  retry_reply e δ f = reply_moves_one y p _ f _ enough h.counts (idle (block m M)) refl

  -- at an end leaf
  end_reply : (e : ℕ) (δ : Log) → get_elem? h.components p ≡ some (transaction m M σ (leaf (end_t e) δ)) →
      as_reply (entry_answer h (act p)) ≡ commit_reply h.counts δ n
  unfolding acts ends commits rule_number commit_reply
  end_reply e δ f = go (readable h.counts δ) refl
    where
      go : (b : Bool) → readable h.counts δ ≡ b → as_reply (entry_answer h (act p)) ≡ commit_reply h.counts δ n
      go true q =
          rw q (reply_moves y p _ f (ATOK δ) enough (without h.counts (RD δ)) (map (λ a. idle (output a)) (WT δ)) (rw q)
          ∙ rw (length-map (WT δ) (λ a. idle (output a))))
      go false q = rw q (reply_moves_one y p _ f ATFAIL (shortage h.counts δ) h.counts (idle (block m M)) (rw q))

  -- while there is more to do
  more_reply : (t : Tree) → get_elem? h.components p ≡ some (transaction m M σ t) →
      ends h.counts m M t ≡ blocked 15 →
      as_reply (entry_answer h (act p)) ≡ refused_by 15
  unfolding acts
  more_reply t f q = reply_blocked y p _ f 15 q

-- the nodes of a transaction by the kind of the first
data Ending (t : Tree) (k : Option ℕ) : Type 0 where
  ended : (e : ℕ) (δ : Log) → t ≡ leaf (end_t e) δ → k ≡ Some (kind_byte end_k) → Ending t k
  retried : (e : ℕ) (δ : Log) → t ≡ leaf (retry_t e) δ → k ≡ Some (kind_byte retry_k) → Ending t k
  more : ((σ : State) (m : ℕ) (M : Expression) → ends σ m M t ≡ blocked 15) → (k ≡ Some (kind_byte end_k) → ⊥) →
      (k ≡ Some (kind_byte retry_k) → ⊥) → Ending t k

-- kinds that differ
differs : (a b : ℕ) → (a ≡ b → ⊥) → Some a ≡ Some b → ⊥
differs a b f e = f (cc)

none_differs : (b : ℕ) → None ≡ Some b → ⊥
none_differs b e = let z : ◌≡◌ {A = ℕ} 0 1 = cc in absurd (omega arith)

-- by a part of it
pub some_is : (k : Option ℕ) (j b : ℕ) → k ≡ Some j → j ≡ b → k ≡ Some b
some_is k j b e f = rw (e, f)

pub other_is : (k : Option ℕ) (j b : ℕ) → k ≡ Some j → (j ≡ b → ⊥) → k ≡ Some b → ⊥
other_is k j b e f g = differs j b f (sym e ∙ g)

pub none_is_other : (k : Option ℕ) (b : ℕ) → k ≡ None → k ≡ Some b → ⊥
none_is_other k b e g = none_differs b (sym e ∙ g)

ending : (t : Tree) → Ending t (kind_of_node t)
unfolding ends kind_of_node term_kind
ending (leaf (end_t e) δ) = ended e δ refl refl
ending (leaf (retry_t e) δ) = retried e δ refl refl
ending (leaf (rd_t e a N) δ) = more (λ σ m M. refl) (differs _ _ (λ z. omega arith)) (differs _ _ (λ z. omega arith))
ending (leaf (wt_t e a N) δ) = more (λ σ m M. refl) (differs _ _ (λ z. omega arith)) (differs _ _ (λ z. omega arith))
ending (leaf (or_else_t e N N') δ) = more (λ σ m M. refl) (differs _ _ (λ z. omega arith)) (differs _ _ (λ z. omega arith))
ending (fork l r) = more (λ σ m M. refl) (none_differs _) (none_differs _)

-- ---- the code

module _ {ts : List Term} {h : Configuration} {d s starts : List ℕ} {n p at : ℕ}
    (w : TransactionAt ts h d s starts n p at) where
  -- at an end leaf
  log_there : (m : ℕ) (M : Expression) (σ : State) (N : Expression) (δ : Log) →
      get_elem? h.components p ≡ some (transaction m M σ (leaf N δ)) →
      EndLogAt s (at + transaction_head) h.counts δ
  log_there m M σ N δ e = rw w.begins (end_log_at w.decoded w.holds p m M σ N δ e)

  by_end : (C : Type 0) (k : Option ℕ) → LeafKindRead d s (at + transaction_head) k → k ≡ Some (kind_byte end_k) →
      ((m : ℕ) (M : Expression) (σ : State) (e : ℕ) (δ : Log) →
      get_elem? h.components p ≡ some (transaction m M σ (leaf (end_t e) δ)) → C) → C
  by_end C k q same next =
      let f = transaction_parts w in
      let z = q.found ts f.nodes f.stands in
      elim (ending f.nodes) [
        | ended e δ t i ↦ next f.number f.block f.snapshot e δ (rw t at f.there)
        | retried e δ t i ↦ absurd (differs _ _ (λ v. omega arith) (sym i ∙ sym z ∙ same))
        | more a b c ↦ absurd (b (sym z ∙ same))
      ]

module _ (d s : List ℕ) (n at : ℕ) (x : CanLookEnd d s n at) where
  pub end_stands : CanReadNode d s (at + transaction_head)
  end_stands =
      let f = transaction_parts x.there in
      record { terms = x.terms; tree = f.nodes; there = f.stands }

  -- the offset of its nodes is one of the hall
  pub end_fits : at + transaction_head < hall_bytes
  end_fits = rw (hall_length x.there.holds) at (node_inside d s (at + transaction_head) end_stands)

  pub end_can : (k : Option ℕ) → LeafKindRead d s (at + transaction_head) k → k ≡ Some (kind_byte end_k) →
      CanLookCommit s (at + transaction_head) n
  end_can k q same =
      let w = x.there in
      let l = w.there in
      by_end w _ k q same (λ m M σ e δ f. record {
        counts = x.configuration.counts;
        log = δ;
        here = log_there w m M σ (end_t e) δ f;
        some = omega arith;
        few = few_components w.holds;
      })

module _ (d s : List ℕ) (n at : ℕ) where
  pub look_retry : (k : Option ℕ) → LeafKindRead d s (at + transaction_head) k → k ≡ Some (kind_byte retry_k) →
      (m : Move) → m ≡ record { rule = Atre; short = None } → EndLooked d s n at (Ok m)
  unfolding reply_of number_of_rule shortage_of
  look_retry k q same m by = record {
    found = λ ts h starts p w.
        let f = transaction_parts w in
        let z = q.found ts f.nodes f.stands in
        elim (ending f.nodes) [
          | ended e δ t i ↦ absurd (differs _ _ (λ z. omega arith) (sym i ∙ sym z ∙ same))
          | retried e δ t i ↦ rw by (sym
              (retry_reply w.holds p f.number f.block f.snapshot e δ (rw t at f.there)))
          | more a b c ↦ absurd (c (sym z ∙ same))
        ];
  }

  pub look_end : (k : Option ℕ) (r : Result Move Reason) → LeafKindRead d s (at + transaction_head) k → k ≡ Some (kind_byte end_k) →
      CommitLooked s (at + transaction_head) n r → EndLooked d s n at r
  look_end k r q same looked = record {
    found = λ ts h starts p w. by_end w _ k q same (λ m M σ e δ f.
        looked.found h.counts δ (log_there w m M σ (end_t e) δ f) ∙ sym (end_reply w.holds p m M σ e δ f));
  }

  pub look_more : (k : Option ℕ) → LeafKindRead d s (at + transaction_head) k → (k ≡ Some (kind_byte end_k) → ⊥) →
      (k ≡ Some (kind_byte retry_k) → ⊥) →
      EndLooked d s n at (Err WrongComponent)
  unfolding reply_of reason_number
  look_more k q no_end no_retry_holds = record {
    found = λ ts h starts p w.
        let f = transaction_parts w in
        let z = q.found ts f.nodes f.stands in
        elim (ending f.nodes) [
          | ended e δ t i ↦ absurd (no_end (z ∙ i))
          | retried e δ t i ↦ absurd (no_retry_holds (z ∙ i))
          | more a b c ↦
              sym (more_reply w.holds p f.number f.block f.snapshot f.nodes f.there
              (a h.counts f.number f.block))
        ];
  }
