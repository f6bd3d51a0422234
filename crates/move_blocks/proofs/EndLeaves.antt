-- The log of an end leaf: where it stands, what it needs of the counts of now, and the reply to a commit.
-- Assumes nothing.
use Prim.Native.Nat.{ℕ, ◌+◌, ◌*◌, ◌-◌, ◌≤◌, ◌<◌}
use native.Mathlib.Omega.{arith}
use mathlib.Core.Path.{◌≡◌, refl, sym, ap, ◌∙◌}
use mathlib.Core.Bool.{Bool, true, false}
use mathlib.Core.Option.{some}
use mathlib.Core.List.{List, [], ◌∷◌}
use lib.ListN.{length, get_or, take, drop, replicate, get_elem?, length-append}
use mir.Syntax.{w64}
use mir.Val.{Fits}
use borrow.Author.Tests.{le-leb, lt-leb}
use Rattle.std.specs.Prelude.{Option, Some, None, is_some, Ok, Err}
use Rattle.calculus.specs.Syntax.{rd, wt, Log, State}
use Rattle.calculus.specs.Log.{WT}
use Rattle.semantics.specs.Definitions.Basics.{padded}
use Rattle.semantics.specs.Definitions.Terms.{Expression, Term}
use Rattle.semantics.specs.Definitions.Configuration.{leaf, transaction, Configuration}
use Rattle.semantics.specs.Definitions.Shortage.{short, is_enough}
use Rattle.semantics.specs.Definitions.Logs.{shortage, readable}
use Rattle.table_terms.specs.Decoded.{Decoded}
use Rattle.hall_layout.specs.Layout.{channels, max_actions, max_components, idle_size, transaction_head, leaf_log_length, leaf_log}
use Rattle.answers.specs.declared.refusals.Reason.TheVariants.{TooManyComponents}
use Rattle.answers.specs.declared.rules.Rule.TheVariants.{Atfail, Atok}
use Rattle.answers.specs.declared.replies.Short.{Short}
use Rattle.answers.specs.declared.replies.Move.{Move}
use Rattle.answers.specs.Answers.{number_of_rule, reason_number, shortage_of, reply_of}
use Rattle.hall_held.specs.Holds.{Holds}
use Rattle.hall_held.proofs.Holds.{sixteen}
use Rattle.move_logs.specs.declared.Outputs.{Outputs}
use Rattle.move_logs.specs.Needs.{short_at}
use Rattle.move_logs.specs.Writes.{writes_of, outputs_size, output_bytes}
use Rattle.move_logs.specs.Values.{OutputsAre}
use Rattle.move_logs.proofs.Writes.{output_length}
use Rattle.move_logs.proofs.StoredLogs.{stored_shortage, stored_outputs_count}
use Rattle.move_logs.proofs.LogOffsets.{log_held, counts_held, leaf_length, leaf_stored, hall_counts}
use Rattle.move_leaves.proofs.Leaves.{whole_at}
use Rattle.move_blocks.specs.TransactionEnd.{EndLogAt, CanLookCommit, commit_reply, CommitLooked}

-- ---- at the only leaf of a transaction

pub end_log_at : {ts : List Term} {h : Configuration} {d s starts : List ℕ} {n : ℕ} → Decoded ts d →
    Holds ts h s starts n →
    (p m : ℕ) (M : Expression) (σ : State) (N : Expression) (δ : Log) →
    get_elem? h.components p ≡ some (transaction m M σ (leaf N δ)) →
    EndLogAt s (get_or starts p 0 + transaction_head) h.counts δ
end_log_at {ts} {h} {d} {s} {starts} {n} x y p m M σ N δ e =
    let w = whole_at x y p m M σ (leaf N δ) e in
    record {
      size = leaf_length s (get_or starts p 0 + transaction_head) N δ w.rest w.bytes;
      log = leaf_stored s (get_or starts p 0 + transaction_head) N δ w.rest w.bytes ts w.ok;
      counts = hall_counts h s y.bytes (sixteen y);
    }

-- ---- what the code reads

-- no more writes than actions
writes_few : (δ : Log) → length (WT δ) ≤ length δ
unfolding WT
writes_few [] = omega arith
writes_few (rd a ∷ δ) = let l = writes_few δ in omega arith
writes_few (wt a ∷ δ) = let l = writes_few δ in omega arith

-- the bytes of outputs are all there
pub outputs_inside : (o : Outputs) (written : List ℕ) → OutputsAre o written → o.count * idle_size ≤ length o.bytes
unfolding padded
outputs_inside o written w =
    let c = w.counted in
    let l = output_length written in
    let zeros : List ℕ = replicate (outputs_size - length (output_bytes written)) 0 in
    let b : length o.bytes ≡ length (output_bytes written) + length zeros =
    ap length w.bytes ∙ length-append (output_bytes written) zeros in omega arith

module _ (s : List ℕ) (leaf n : ℕ) (x : CanLookCommit s leaf n) where
  pub leaf_inside : leaf + leaf_log + max_actions ≤ length s
  leaf_inside = log_held s (leaf + leaf_log) max_actions x.log x.here.log (omega arith)

  pub length_inside : leaf + leaf_log_length < length s
  length_inside = let l = leaf_inside in omega arith

  -- offsets in the leaf are numbers
  pub length_fits : Fits w64 (length s) → Fits w64 (leaf + leaf_log_length)
  length_fits f = let l = leaf_inside in omega arith

  pub log_fits : Fits w64 (length s) → Fits w64 (leaf + leaf_log)
  log_fits f = let l = leaf_inside in omega arith

  -- counts stand at the hall's front, and before the leaf
  pub snapshot_inside : leaf - 16 + channels ≤ length s
  snapshot_inside = let l = leaf_inside in omega arith

  pub counts_inside : channels ≤ length s
  counts_inside = counts_held s 0 x.counts x.here.counts

  module _ (size : ℕ) (e : size ≡ get_or s (leaf + leaf_log_length) 0) where
    pub log_few : size ≤ max_actions
    log_few = let f = x.here.log.few in let g = x.here.size in omega arith

    pub log_inside : leaf + leaf_log + size ≤ length s
    log_inside = log_held s (leaf + leaf_log) size x.log x.here.log log_few

    pub outputs_few : (o : Outputs) → OutputsAre o (writes_of (take size (drop (leaf + leaf_log) s))) →
        o.count ≤ max_actions
    outputs_few o w =
        let c = stored_outputs_count s (leaf + leaf_log) size x.log x.here.log (e ∙ x.here.size) o w in
        let l = writes_few x.log in
        let f = x.here.log.few in omega arith

    -- and so is the number of components afterwards
    pub many_fits : (o : Outputs) → OutputsAre o (writes_of (take size (drop (leaf + leaf_log) s))) →
        Fits w64 (n - 1 + o.count)
    many_fits o w = let l = outputs_few o w in let f = x.few in omega arith

-- ---- the reply to a commit

pub none_is : (r : Option Short) (b : Bool) → b ≡ is_some r → b ≡ false → r ≡ None
none_is None b is e = refl
none_is (Some w) b is e = absurd (let z : true ≡ false = sym is ∙ e in let o : ◌≡◌ {A = ℕ} 0 1 = cc in omega arith)

module _ (s : List ℕ) (leaf n size : ℕ) (r : Option Short) (e : size ≡ get_or s (leaf + leaf_log_length) 0)
    (g : shortage_of r ≡ short_at (take size (drop (leaf + leaf_log) s)) s 0) where
  short_here : {σ : State} {δ : Log} → EndLogAt s leaf σ δ → shortage_of r ≡ shortage σ δ
  short_here {σ} {δ} y = stored_shortage s (leaf + leaf_log) size δ y.log (e ∙ y.size) 0 σ _ y.counts g

  -- ATFAIL
  pub commit_fails : (b : Bool) → b ≡ is_some r → b ≡ true → CommitLooked s leaf n (Ok (record { rule = Atfail; short = r }))
  unfolding reply_of number_of_rule shortage_of commit_reply readable is_enough
  commit_fails b is yes_some = go r refl
    where
      go : (v : Option Short) → r ≡ v → CommitLooked s leaf n (Ok (record { rule = Atfail; short = v }))
      go None q = absurd (let z : true ≡ false = sym yes_some ∙ is ∙ ap is_some q in let o : ◌≡◌ {A = ℕ} 0 1 = cc in omega arith)
      go (Some w) q = record {
        found = λ σ δ y. let is : shortage σ δ ≡ short w.channel w.by = sym (short_here y) ∙ ap shortage_of q in rw is;
      }

  module _ (o : Outputs) (w : OutputsAre o (writes_of (take size (drop (leaf + leaf_log) s)))) (q : r ≡ None) where
    enough_here : {σ : State} {δ : Log} → EndLogAt s leaf σ δ → readable σ δ ≡ true
    unfolding shortage_of readable is_enough
    enough_here y = ap is_enough (sym (short_here y) ∙ ap shortage_of q)

    many_here : {σ : State} {δ : Log} → EndLogAt s leaf σ δ → o.count ≡ length (WT δ)
    many_here {σ} {δ} y = stored_outputs_count s (leaf + leaf_log) size δ y.log (e ∙ y.size) o w

    -- refused by the number of components
    pub commit_crowded : max_components < n - 1 + o.count → CommitLooked s leaf n (Err TooManyComponents)
    unfolding reply_of reason_number commit_reply
    commit_crowded l = record {
      found = λ σ δ y.
          let c = many_here y in
          let k : max_components < n - 1 + length (WT δ) = rw (← c) l in
          rw (enough_here y, lt-leb _ _ k);
    }

    -- ATOK
    pub commit_done : n - 1 + o.count ≤ max_components → (m : Move) → m ≡ record { rule = Atok; short = None } →
        CommitLooked s leaf n (Ok m)
    unfolding reply_of number_of_rule shortage_of commit_reply
    commit_done l m by = record {
      found = λ σ δ y.
          let c = many_here y in
          let k : n - 1 + length (WT δ) ≤ max_components = rw (← c) l in
          rw (by, enough_here y, le-leb _ _ k);
    }
