-- ATRE, ATFAIL and ATOK, from bytes to the move: the transaction gives way to its block, or to the outputs of its log.
-- Assumes nothing.
use Prim.Native.Nat.{ℕ, ◌+◌, ◌*◌, ◌≤◌, ◌<◌}
use native.Mathlib.Omega.{arith}
use mathlib.Core.Path.{◌≡◌, refl, sym, ap, ◌∙◌}
use mathlib.Core.Logic.{⊎_elim}
use mathlib.Core.Bool.{true}
use mathlib.Core.Option.{some}
use mathlib.Core.List.{List, [], ◌∷◌, map, map-map}
use lib.ListN.{length, get_or, take, drop, get_elem?, length-map}
use Rattle.calculus.specs.Syntax.{Log, State}
use Rattle.calculus.specs.State.{without}
use Rattle.calculus.specs.Log.{RD, WT}
use Rattle.semantics.specs.Definitions.Terms.{Expression, Term, end_t, retry_t}
use Rattle.semantics.specs.Definitions.Configuration.{block, output, Tree, leaf, Component, idle, transaction, Configuration}
use Rattle.semantics.specs.Definitions.Stored.{component_bytes}
use Rattle.semantics.specs.Definitions.Moves.{act, transition}
use Rattle.theorems.proofs.WellFormedKept.{without_bytes}
use Rattle.table_terms.specs.Decoded.{Decoded}
use Rattle.hall_layout.specs.Layout.{index_size, waiting_kind, idle_size, component_body, transaction_head, leaf_log_length, leaf_log}
use Rattle.hall_laws.specs.Positions.{all_bytes}
use Rattle.hall_laws.proofs.Configurations.{one_bytes}
use Rattle.hall_held.specs.Holds.{Holds, Spaced, Replaced, CanReplace}
use Rattle.hall_held.specs.Choices.{AcceptedBy, CanApply, afterwards}
use Rattle.hall_held.proofs.Holds.{few_components, position_below, body_here}
use Rattle.hall_held.proofs.Replacements.{idle_spaced, one_spaced}
use Rattle.hall_held.proofs.MovesInPlace.{counts_stored}
use Rattle.move_logs.specs.declared.Outputs.{Outputs}
use Rattle.move_logs.specs.Needs.{needs_of, within_at, lowered}
use Rattle.move_logs.specs.Writes.{writes_of}
use Rattle.move_logs.specs.Values.{OutputsAre}
use Rattle.move_logs.proofs.StoredLogs.{stored_readable, stored_taken, stored_outputs, stored_outputs_count}
use Rattle.move_blocks.specs.TransactionEnd.{CanLookCommit, Restarts, CanRestart, Restarted, CanCommit, Committed}
use Rattle.hall_held.proofs.AcceptedActs.{Replacement, replacement_can, replacement_held, replaced_by_one, held_position, acted_replacement}
use Rattle.move_blocks.proofs.BlockMoves.{begins, retries, fails, commits, BlockActed, block_acted}
use Rattle.move_blocks.proofs.EndLeaves.{end_log_at, leaf_inside}

-- ---- the block comes back

module _ (ts : List Term) (h : Configuration) (s starts : List ℕ) (n p : ℕ) (x : Holds ts h s starts n) (new : List ℕ)
    (laid : new ≡ waiting_kind ∷ get_or s (get_or starts p 0 + component_body) 0 ∷ []) where
  -- in the place of its transaction, whatever the nodes are
  block_back : {k : ℕ} (m : BlockActed h p k) (i : ℕ) (M : Expression) (σ : State) (t : Tree) →
      m.acted.component ≡ transaction i M σ t →
      m.acted.result.counts ≡ h.counts → m.acted.laid ≡ idle (block i M) ∷ [] →
      Replacement ts (afterwards (transition h (act p)) h) s starts n p new 1
  unfolding component_bytes
  block_back m i M σ t c τ cs =
      let found : get_elem? h.components p ≡ some (transaction i M σ t) = m.acted.found ∙ ap some c in
      let body : get_or s (get_or starts p 0 + component_body) 0 ≡ i = body_here x p (transaction i M σ t) found in
      let back : Component = idle (block i M) in
      let bytes : new ≡ component_bytes back = laid ∙ rw body in
      acted_replacement m.acted x (rw τ x) new 1 (rw cs (bytes ∙ sym (one_bytes back))) (rw cs refl) (rw cs (one_spaced back))

  pub atre_link : AcceptedBy h (act p) 5 →
      Replacement ts (afterwards (transition h (act p)) h) s starts n p new 1
  atre_link q = let m = block_acted h p 5 (omega arith) q in elim m.move [
    | begins i M c k τ cs ↦ absurd (omega arith)
    | retries i M σ j δ c k τ cs ↦ block_back m i M σ (leaf (retry_t j) δ) c τ cs
    | fails i M σ j δ c k τ cs ↦ absurd (omega arith)
    | commits i M σ j δ c y k τ cs ↦ absurd (omega arith)
  ]

  pub atfail_link : AcceptedBy h (act p) 6 →
      Replacement ts (afterwards (transition h (act p)) h) s starts n p new 1
  atfail_link q = let m = block_acted h p 6 (omega arith) q in elim m.move [
    | begins i M c k τ cs ↦ absurd (omega arith)
    | retries i M σ j δ c k τ cs ↦ absurd (omega arith)
    | fails i M σ j δ c k τ cs ↦ block_back m i M σ (leaf (end_t j) δ) c τ cs
    | commits i M σ j δ c y k τ cs ↦ absurd (omega arith)
  ]

  restart_link : (rule : ℕ) → Restarts rule → AcceptedBy h (act p) rule →
      Replacement ts (afterwards (transition h (act p)) h) s starts n p new 1
  restart_link rule either q = ⊎_elim (λ e. atre_link (rw e at q)) (λ e. atfail_link (rw e at q)) either

-- ---- the log at a position where an act ends a transaction

-- a transaction of one leaf ends by the rules 5 to 7
module _ (d s starts : List ℕ) (n p k : ℕ) (few : 5 ≤ k) (x : CanApply d s starts n (act p) k) where
  ending_looks : CanLookCommit s (get_or starts p 0 + transaction_head) n
  ending_looks = let m = block_acted x.configuration p k (omega arith) x.by in elim m.move [
    | begins i M c z τ cs ↦ absurd (omega arith)
    | retries i M σ j δ c z τ cs ↦ at_leaf i M σ (retry_t j) δ (m.acted.found ∙ ap some c)
    | fails i M σ j δ c z τ cs ↦ at_leaf i M σ (end_t j) δ (m.acted.found ∙ ap some c)
    | commits i M σ j δ c y z τ cs ↦ at_leaf i M σ (end_t j) δ (m.acted.found ∙ ap some c)
  ]
    where
      at_leaf : (i : ℕ) (M : Expression) (σ : State) (N : Expression) (δ : Log) →
          get_elem? x.configuration.components p ≡ some (transaction i M σ (leaf N δ)) →
          CanLookCommit s (get_or starts p 0 + transaction_head) n
      at_leaf i M σ N δ f =
          let l = position_below x.holds p _ f in
          record {
            counts = x.configuration.counts;
            log = δ;
            here = end_log_at x.decoded x.holds p i M σ N δ f;
            some = omega arith;
            few = few_components x.holds;
          }

  ending_position : p < index_size
  ending_position = let m = block_acted x.configuration p k (omega arith) x.by in
      held_position x.holds p (position_below x.holds p m.acted.component m.acted.found)

  ending_inside : get_or starts p 0 + transaction_head < length s
  ending_inside = let l = leaf_inside s (get_or starts p 0 + transaction_head) n ending_looks in omega arith

-- ---- restart: what the code may do, and what it has done

restarts_end : (k : ℕ) → Restarts k → 5 ≤ k
restarts_end k either = ⊎_elim (λ e. omega arith) (λ e. omega arith) either

module _ (s starts : List ℕ) (n p : ℕ) where
  module _ (x : CanRestart s starts n p) where
    pub restart_position : p < index_size
    restart_position = ending_position x.decoded s starts n p x.rule (restarts_end x.rule x.either)
        x.accepts

    pub restart_inside : get_or starts p 0 + component_body < length s
    restart_inside =
        let l = ending_inside x.decoded s starts n p x.rule (restarts_end x.rule x.either) x.accepts in
        omega arith

    pub restart_can : CanReplace s starts n p (waiting_kind ∷ get_or s (get_or starts p 0 + component_body) 0 ∷ []) 1
    restart_can =
        let y = x.accepts in
        replacement_can (restart_link y.terms y.configuration s starts n p y.holds _ refl x.rule
        x.either y.by)

  pub restart_applied : (s' starts' : List ℕ) (n' : ℕ) →
      Replaced s starts n p (waiting_kind ∷ get_or s (get_or starts p 0 + component_body) 0 ∷ []) 1 s' starts' n' →
      Restarted s starts n p s' starts'
  restart_applied s' starts' n' r = record {
    found = λ d rule either. record {
      found = λ ts h x y q. replaced_by_one (restart_link ts h s starts n p y _ refl rule either q) refl r;
    };
  }

-- ---- the commit

module _ (ts : List Term) (h : Configuration) (d s starts : List ℕ) (n p : ℕ) (decoded : Decoded ts d)
    (x : Holds ts h s starts n) (q : AcceptedBy h (act p) 7) (size : ℕ) (need : List ℕ)
    (e : size ≡ get_or s (get_or starts p 0 + transaction_head + leaf_log_length) 0)
    (f : need ≡ needs_of (take size (drop (get_or starts p 0 + transaction_head + leaf_log) s))) where
  -- the reads are within the counts of now
  atok_within : within_at need s 0 ≡ true
  atok_within = let m = block_acted h p 7 (omega arith) q in elim m.move [
    | begins i M c k τ cs ↦ absurd (omega arith)
    | retries i M σ j δ c k τ cs ↦ absurd (omega arith)
    | fails i M σ j δ c k τ cs ↦ absurd (omega arith)
    | commits i M σ j δ c y k τ cs ↦
        (let w = end_log_at decoded x p i M σ (end_t j) δ (m.acted.found ∙ ap some c) in
        stored_readable s _ size δ w.log (e ∙ w.size) 0 h.counts need _ w.counts f refl ∙ y)
  ]

  pub atok_link : (o : Outputs) →
      OutputsAre o (writes_of (take size (drop (get_or starts p 0 + transaction_head + leaf_log) s))) →
      (t : List ℕ) → t ≡ lowered need s →
      Replacement ts (afterwards (transition h (act p)) h) t starts n p (take (o.count * idle_size) o.bytes) o.count
  unfolding all_bytes
  atok_link o written t low = let m = block_acted h p 7 (omega arith) q in elim m.move [
    | begins i M c k τ cs ↦ absurd (omega arith)
    | retries i M σ j δ c k τ cs ↦ absurd (omega arith)
    | fails i M σ j δ c k τ cs ↦ absurd (omega arith)
    | commits i M σ j δ c y k τ cs ↦
        (let w = end_log_at decoded x p i M σ (end_t j) δ (m.acted.found ∙ ap some c) in
        let taken = stored_taken s _ size δ w.log (e ∙ w.size) h.counts need t w.counts f low in
        let held = counts_stored x (without h.counts (RD δ)) t
        (without_bytes (RD δ) h.counts x.form.channel_counts) taken in
        let count = stored_outputs_count s _ size δ w.log (e ∙ w.size) o written in
        let bytes = stored_outputs s _ size δ w.log (e ∙ w.size) o written in
        let even : Spaced (map (λ a. idle (output a)) (WT δ)) =
        rw (← map-map idle output (WT δ)) (idle_spaced (map output (WT δ))) in
        acted_replacement m.acted x (rw τ held) _ o.count (rw cs bytes)
        (rw cs (count ∙ sym (length-map (WT δ) (λ a. idle (output a))))) (rw cs even))
  ]

module _ (s starts : List ℕ) (n p : ℕ) where
  module _ (x : CanCommit s starts n p) where
    pub commit_looks : CanLookCommit s (get_or starts p 0 + transaction_head) n
    commit_looks = ending_looks x.decoded s starts n p 7 (omega arith) x.accepts

    pub commit_position : p < index_size
    commit_position = ending_position x.decoded s starts n p 7 (omega arith) x.accepts

    pub commit_inside : get_or starts p 0 + transaction_head < length s
    commit_inside = ending_inside x.decoded s starts n p 7 (omega arith) x.accepts

  module _ (size : ℕ) (need : List ℕ) (e : size ≡ get_or s (get_or starts p 0 + transaction_head + leaf_log_length) 0)
      (f : need ≡ needs_of (take size (drop (get_or starts p 0 + transaction_head + leaf_log) s))) where
    pub commit_within : CanCommit s starts n p → within_at need s 0 ≡ true
    commit_within x =
        let y = x.accepts in
        atok_within y.terms y.configuration x.decoded s starts n p y.decoded y.holds y.by size
        need e f

    module _ (o : Outputs)
        (written : OutputsAre o (writes_of (take size (drop (get_or starts p 0 + transaction_head + leaf_log) s))))
        (t : List ℕ) (low : t ≡ lowered need s) where
      pub commit_can : CanCommit s starts n p →
          CanReplace t starts n p (take (o.count * idle_size) o.bytes) o.count
      commit_can x =
          let y = x.accepts in
          replacement_can (atok_link y.terms y.configuration x.decoded s starts n p y.decoded y.holds
          y.by size need e f o written t low)

      pub commit_applied : (s' starts' : List ℕ) (n' : ℕ) →
          Replaced t starts n p (take (o.count * idle_size) o.bytes) o.count s' starts' n' →
          Committed s starts n p s' starts' n'
      commit_applied s' starts' n' r = record {
        found = λ d. record {
          found = λ ts h x y q. replacement_held (atok_link ts h d s starts n p x y q size need e f o written t low) r;
        };
      }
