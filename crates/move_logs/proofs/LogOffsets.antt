-- Where logs and counts stand in a hall's bytes: a leaf's log, a transaction's snapshot, the counts of the hall; and
-- that an offset at which one stands is inside.
-- Assumes nothing.
use Prim.Native.Nat.{ℕ, ◌+◌, ◌≤◌, ◌<◌}
use native.Mathlib.Omega.{arith}
use mathlib.Core.Path.{◌≡◌, refl, sym, ap, ◌∙◌}
use mathlib.Core.List.{List, [], ◌∷◌, ◌++◌, map, append_assoc}
use lib.ListN.{length, get_or, take, drop, length-drop, length-take, length-map}
use lib.Seq.{take_at, drop_at, drop-drop, get_or-drop}
use Rattle.calculus.specs.Syntax.{Log, State}
use Rattle.semantics.specs.Definitions.Basics.{padded}
use Rattle.semantics.specs.Definitions.Layout.{channels, max_actions, transaction_kind, leaf_kind}
use Rattle.semantics.specs.Definitions.Terms.{Expression, Term, number}
use Rattle.semantics.specs.Definitions.Configuration.{Tree, leaf, transaction, Configuration}
use Rattle.semantics.specs.Definitions.Stored.{action_byte, tree_bytes, component_bytes, bytes_of, TreeOk}
use Rattle.theorems.proofs.Trees.{length_padded}
use Rattle.hall_layout.specs.Layout.{idle_size, leaf_log_length, leaf_log}
use Rattle.move_logs.specs.LogOffsets.{LogAt, CountsAt}

-- ---- inside

-- so many bytes that are taken from an offset on are there
taken_held : (s : List ℕ) (at n : ℕ) (v : List ℕ) → take n (drop at s) ≡ v → length v ≡ n → 0 < n → at + n ≤ length s
taken_held s at n v e l p =
    let t = length-take n (drop at s) in
    let d = length-drop at s in
    let q = ap length e in omega arith

pub log_held : (s : List ℕ) (at n : ℕ) (δ : Log) → LogAt s at δ → n ≤ max_actions → at + n ≤ length s
log_held s at n δ h k =
    let f = h.few in
    let l = length-map δ action_byte in
    let q = length_padded max_actions (map action_byte δ) (omega arith) in
    let p = taken_held s at max_actions _ h.bytes q (omega arith) in omega arith

pub counts_held : (s : List ℕ) (at : ℕ) (σ : State) → CountsAt s at σ → at + channels ≤ length s
counts_held s at σ h = taken_held s at channels σ h.bytes h.channel_counts (omega arith)

-- ---- in a hall

module _ (s : List ℕ) (at : ℕ) where
  behind : (xs rest : List ℕ) (k : ℕ) → drop at s ≡ xs ++ rest → length xs ≡ k → drop (at + k) s ≡ rest
  behind xs rest k e l = sym (drop-drop k at s) ∙ rw e (drop_at xs rest k l)

  -- at a leaf: the length of its log, and its log
  module _ (M : Expression) (δ : Log) (rest : List ℕ) (here : drop at s ≡ tree_bytes (leaf M δ) ++ rest) where
    pub leaf_length : get_or s (at + leaf_log_length) 0 ≡ length δ
    unfolding tree_bytes
    leaf_length = sym (get_or-drop at s leaf_log_length 0) ∙ rw here

    pub leaf_stored : (ts : List Term) → TreeOk ts (leaf M δ) → LogAt s (at + leaf_log) δ
    unfolding tree_bytes TreeOk
    leaf_stored ts ok =
        let few = ok.1 in
        let l = length-map δ action_byte in
        let v = padded max_actions (map action_byte δ) in
        let d = behind (leaf_kind ∷ number M ∷ length δ ∷ []) (v ++ rest) leaf_log here refl in
        record {
          bytes = rw d (take_at v rest max_actions (length_padded max_actions (map action_byte δ) (omega arith)));
          few = omega arith;
          named = ok.2;
        }

  -- at a transaction: its snapshot
  pub snapshot_counts : (n : ℕ) (M : Expression) (σ : State) (t : Tree) (rest : List ℕ) →
      drop at s ≡ component_bytes (transaction n M σ t) ++ rest →
      length σ ≡ channels → CountsAt s (at + idle_size) σ
  unfolding component_bytes
  snapshot_counts n M σ t rest here l =
      let d = behind (transaction_kind ∷ n ∷ []) ((σ ++ tree_bytes t) ++ rest) idle_size here refl in
      record { bytes = rw (d, append_assoc) (take_at σ (tree_bytes t ++ rest) channels l); channel_counts = l }

-- the counts of a hall
pub hall_counts : (h : Configuration) (s : List ℕ) → s ≡ bytes_of h → length h.counts ≡ channels →
    CountsAt s 0 h.counts
unfolding bytes_of padded
hall_counts h s e l = record { bytes = rw (e, append_assoc) (take_at h.counts _ channels l); channel_counts = l }
