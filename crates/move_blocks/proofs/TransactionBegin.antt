-- ATST, from bytes to the move: a block becomes a transaction. It is never refused.
-- Assumes nothing.
use Prim.Native.Nat.{ℕ, ◌+◌, ◌≤◌, ◌<◌}
use native.Mathlib.Omega.{arith}
use mathlib.Core.Path.{◌≡◌, refl, sym, ap, ◌∙◌}
use mathlib.Core.Option.{some}
use mathlib.Core.List.{List, [], ◌∷◌, ◌++◌, append-nil}
use lib.ListN.{length, get_or, take, set, replicate, get_elem?, length-append, length-take}
use lib.Seq.{take-length, length-take-le}
use Rattle.semantics.specs.Definitions.Basics.{padded}
use Rattle.semantics.specs.Definitions.Terms.{Expression, Term, process, atom_t, number}
use Rattle.semantics.specs.Definitions.Logs.{empty_log}
use Rattle.semantics.specs.Definitions.Configuration.{block, leaf, Component, idle, transaction, Configuration}
use Rattle.semantics.specs.Definitions.Stored.{tree_bytes, component_bytes, ComponentOk}
use Rattle.semantics.specs.Definitions.Shortage.{enough}
use Rattle.semantics.specs.Definitions.Moves.{act, acts, entry_answer, transition, rule_number, moved_by, as_reply}
use Rattle.theorems.proofs.Lists.{found_below, length_replace_at}
use Rattle.theorems.proofs.Moves.{position_of, component_answer, entry_answer_made}
use Rattle.table_terms.specs.Decoded.{Decoded, max_terms, first_at}
use Rattle.buffer.specs.Splice.{written}
use Rattle.buffer.proofs.Written.{written_twice}
use Rattle.hall_layout.specs.Layout.{channels, index_size, transaction_kind, leaf_kind, leaf_term, leaf_log_length, leaf_log, leaf_size, idle_size, component_body, transaction_head}
use Rattle.hall_laws.proofs.Configurations.{one_bytes}
use Rattle.hall_laws.proofs.Starts.{idle_size_holds}
use Rattle.move_logs.specs.declared.Log.{Log}
use Rattle.move_logs.specs.Values.{LogIs}
use Rattle.hall_held.specs.Holds.{Holds, Replaced, CanReplace}
use Rattle.hall_held.specs.Choices.{AcceptedBy, CanApply, Applied, afterwards}
use Rattle.hall_held.proofs.Holds.{hall_length, counts_here, start_below_used, used_inside, position_below, component_ok, component_ends, body_here}
use Rattle.hall_held.proofs.Replacements.{one_spaced}
use Rattle.move_blocks.specs.TransactionBegin.{begun_size, first_leaf, begun_bytes}
use Rattle.hall_held.proofs.AcceptedActs.{Replacement, replacement_can, replaced_by_one, held_position, acted_replacement}
use Rattle.move_blocks.proofs.BlockMoves.{begins, retries, fails, commits, BlockActed, block_acted}

-- ---- the bytes that are laid down

-- a leaf with the empty log
pub log_room : (log : Log) → LogIs log empty_log → leaf_log + length log.actions ≤ leaf_size
unfolding empty_log padded
log_room log l = let b = ap length l.bytes in omega arith

pub leaf_laid : (e : ℕ) (log : Log) (r : List ℕ) → LogIs log empty_log →
    r ≡ written (set (set (set (replicate leaf_size 0) 0 leaf_kind) leaf_term e) leaf_log_length log.length) leaf_log
    log.actions (length log.actions) →
    r ≡ first_leaf e
unfolding written empty_log padded
leaf_laid e log r l q = q ∙ rw (l.counted, l.bytes)

-- the transaction with that leaf
pub snapshot_room : (s : List ℕ) → idle_size + length (take channels s) ≤ begun_size
snapshot_room s = let l = length-take channels s in omega arith

behind_head : (n : ℕ) (v : List ℕ) → length v ≡ channels + leaf_size →
    written (transaction_kind ∷ n ∷ replicate (channels + leaf_size) 0) idle_size v (length v) ≡ transaction_kind ∷ n ∷ v
unfolding written
behind_head n v l = rw (take-length v, l) (ap (λ w. transaction_kind ∷ n ∷ w) (append-nil v))

laid_over : (n : ℕ) (v w : List ℕ) → length v ≡ channels → length w ≡ leaf_size →
    written (written (transaction_kind ∷ n ∷ replicate (channels + leaf_size) 0) idle_size v (length v)) transaction_head
    w (length w) ≡
    transaction_kind ∷ n ∷ (v ++ w)
laid_over n v w l m =
    let z : idle_size + length v ≡ transaction_head = omega arith in
    (rw z at (written_twice (transaction_kind ∷ n ∷ replicate (channels + leaf_size) 0) v w idle_size (omega arith)))
    ∙ behind_head n (v ++ w) (length-append v w ∙ omega arith)

first_length : (e : ℕ) → length (first_leaf e) ≡ leaf_size
unfolding empty_log padded
first_length e = refl

pub transaction_laid : (s : List ℕ) (n e : ℕ) (first head r : List ℕ) → channels ≤ length s → first ≡ first_leaf e →
    head ≡ written (set (set (replicate begun_size 0) 0 transaction_kind) component_body n) idle_size (take channels s)
    (length (take channels s)) →
    r ≡ written head transaction_head first (length first) → r ≡ begun_bytes s n e
transaction_laid s n e first head r l f g q =
    q ∙ rw (g, f) (laid_over n (take channels s) (first_leaf e) (length-take-le channels s l) (first_length e))

-- ---- the move

module _ (ts : List Term) (h : Configuration) (d s starts : List ℕ) (n p : ℕ) (decoded : Decoded ts d)
    (x : Holds ts h s starts n) (q : AcceptedBy h (act p) 4) where
  pub atst_link : (b e : ℕ) (new : List ℕ) → b ≡ get_or s (get_or starts p 0 + component_body) 0 → e ≡ first_at d b →
      new ≡ begun_bytes s (get_or s (get_or starts p 0 + component_body) 0) e →
      Replacement ts (afterwards (transition h (act p)) h) s starts n p new 1
  unfolding component_bytes tree_bytes ComponentOk
  atst_link b e new f g laid = go (block_acted h p 4 (omega arith) q)
    where
      go : BlockActed h p 4 → Replacement ts (afterwards (transition h (act p)) h) s starts n p new 1
      go m = elim m.move [
        | begins k M c i τ cs ↦
            (let found : get_elem? h.components p ≡ some (idle (block k M)) = m.acted.found ∙ ap some c in
            let body : get_or s (get_or starts p 0 + component_body) 0 ≡ k = body_here x p (idle (block k M)) found in
            let there = decoded.records k (process (atom_t k M)) (component_ok x p (idle (block k M)) found) in
            let same : e ≡ number M = g ∙ ap (λ j. first_at d j) (f ∙ body) ∙ there.1 in
            let begun : Component = transaction k M h.counts (leaf M empty_log) in
            let bytes : new ≡ component_bytes begun = laid ∙ rw (body, same, counts_here x) in
            acted_replacement m.acted x (rw τ x) new 1 (rw cs (bytes ∙ sym (one_bytes begun))) (rw cs refl)
            (rw cs (one_spaced begun)))
        | retries k M σ j δ c i τ cs ↦ absurd (omega arith)
        | fails k M σ j δ c i τ cs ↦ absurd (omega arith)
        | commits k M σ j δ c y i τ cs ↦ absurd (omega arith)
      ]

-- ---- what the code may do, and what it has done

module _ (d s starts : List ℕ) (n p : ℕ) (x : CanApply d s starts n (act p) 4) where
  -- the block at the position
  waits : (k : ℕ) × (M : Expression) × (get_elem? x.configuration.components p ≡ some (idle (block k M)))
  waits = let m = block_acted x.configuration p 4 (omega arith) x.by in elim m.move [
    | begins k M c i τ cs ↦ (k, M, m.acted.found ∙ ap some c)
    | retries k M σ j δ c i τ cs ↦ absurd (omega arith)
    | fails k M σ j δ c i τ cs ↦ absurd (omega arith)
    | commits k M σ j δ c y i τ cs ↦ absurd (omega arith)
  ]

  pub begin_position : p < index_size
  begin_position = held_position x.holds p (position_below x.holds p _ waits.2)

  pub begin_inside : get_or starts p 0 + component_body < length s
  begin_inside =
      let c = idle (block waits.0 waits.1) in
      let l = position_below x.holds p c waits.2 in
      let e = component_ends x.holds p c waits.2 in
      let k = idle_size_holds (block waits.0 waits.1) in
      let b = start_below_used x.holds (p + 1) (omega arith) in
      let u = used_inside x.holds in
      let h = hall_length x.holds in omega arith

  pub begin_counts : channels ≤ length s
  begin_counts = let h = hall_length x.holds in omega arith

  pub begin_term : (b : ℕ) → b ≡ get_or s (get_or starts p 0 + component_body) 0 → b < max_terms
  unfolding ComponentOk component_bytes
  begin_term b f =
      let c = idle (block waits.0 waits.1) in
      let k = found_below x.terms waits.0 _ (component_ok x.holds p c waits.2) in
      let body : get_or s (get_or starts p 0 + component_body) 0 ≡ waits.0 = body_here x.holds p c waits.2 in
      let few = x.holds.good.few in omega arith

module _ (d s starts : List ℕ) (n p b e : ℕ) (new : List ℕ) (f : b ≡ get_or s (get_or starts p 0 + component_body) 0)
    (g : e ≡ first_at d b) (laid : new ≡ begun_bytes s (get_or s (get_or starts p 0 + component_body) 0) e) where
  pub begin_can : CanApply d s starts n (act p) 4 → CanReplace s starts n p new 1
  begin_can x =
      replacement_can (atst_link x.terms x.configuration d s starts n p x.decoded x.holds x.by b e
      new f g laid)

  pub begin_applied : (s' starts' : List ℕ) (n' : ℕ) → Replaced s starts n p new 1 s' starts' n' →
      Applied d s starts n (act p) 4 s' starts' n
  begin_applied s' starts' n' r = record {
    found = λ ts h x y q. replaced_by_one (atst_link ts h d s starts n p x y q b e new f g laid) refl r;
  }

-- ---- a block that waits

-- ATST is never refused: the number of components stays
pub block_begins : {ts : List Term} {h : Configuration} {s starts : List ℕ} {n : ℕ} → Holds ts h s starts n →
    (p m : ℕ) (M : Expression) → get_elem? h.components p ≡ some (idle (block m M)) →
    as_reply (entry_answer h (act p)) ≡ moved_by 4 enough
unfolding position_of component_answer acts as_reply rule_number
block_begins {h = h} y p m M there =
    let few = y.form.few in
    let same = length_replace_at h.components (transaction m M h.counts (leaf M empty_log) ∷ []) p
    (found_below h.components p _ there) in
    rw (entry_answer_made h (act p) _ h.counts (idle (block m M)) _ there refl (omega arith))
