-- A configuration's bytes: where its components and nodes stand in them, and the two links from a splice to a
-- configuration, one for a component that gives way to others and one for a part of a component that gives way to
-- other bytes.
-- Assumes nothing.
use Prim.Native.Nat.{ℕ, zero, suc, ◌+◌, ◌-◌, ◌≤◌, ◌<◌}
use native.Mathlib.Omega.{arith}
use mathlib.Core.Path.{◌≡◌, refl, sym, ap, ◌∙◌}
use mathlib.Core.Option.{some}
use mathlib.Core.List.{List, [], ◌∷◌, ◌++◌, append_assoc, append-nil}
use lib.ListN.{length, get_or, take, drop, set, replicate, get_elem?, length-append, length-set, get_or-eq_default}
use lib.Seq.{take_all, drop_at, set-append_left}
use Rattle.calculus.specs.Syntax.{State}
use Rattle.semantics.specs.Definitions.Basics.{padded, replace_at}
use mathlib.Core.List.{flatten}
use Rattle.semantics.specs.Definitions.Terms.{Expression, Term}
use Rattle.semantics.specs.Definitions.Configuration.{Tree, Component, transaction, Configuration, branches_of}
use Rattle.semantics.specs.Definitions.Stored.{hall_bytes, tree_bytes, component_bytes, bytes_of, TreeOk, ComponentOk, WellFormed}
use Rattle.semantics.specs.Checks.AcceptedTables.{GoodTable}
use Rattle.theorems.proofs.Lists.{all_at}
use Rattle.theorems.proofs.Trees.{length_padded, padded_of}
use Rattle.theorems.proofs.RoundTrip.{stored_fits}
use Rattle.buffer.specs.Splice.{written, spliced, CanShift}
use Rattle.buffer.proofs.Splices.{get_d_padded, spliced_length, spliced_mid}
use Rattle.std.specs.Prelude.{Some, None}
use Rattle.hall_layout.specs.Layout.{transaction_kind, channels, hall_bytes, transaction_head, max_branches}
use Rattle.hall_layout.specs.Nodes.{node_start, tree_end}
use Rattle.hall_laws.specs.Positions.{all_bytes, used_of, start_of, FitsHall, BySplice, Context, plug, before, behind, node, beyond, subtree_at}
use Rattle.hall_laws.proofs.Cursors.{over}
use Rattle.hall_laws.proofs.Nodes.{tree_ends, node_starts, node_missing, node_of, plug_bytes, plug_ok, plug_branches}

-- ---- lists of components

pub all_bytes_append : (cs ds : List Component) → all_bytes (cs ++ ds) ≡ all_bytes cs ++ all_bytes ds
unfolding all_bytes flatten
all_bytes_append [] ds = refl
all_bytes_append (c ∷ cs) ds = rw (all_bytes_append cs ds) (sym (append_assoc (component_bytes c) _ _))

-- an entry between what stands before it and behind it
pub entry_split : (cs : List Component) (p : ℕ) (c : Component) → get_elem? cs p ≡ some c → cs ≡ take p cs ++ (c ∷ drop (suc p) cs)
entry_split [] p c e = let z : ◌≡◌ {A = ℕ} 0 1 = cc in absurd (omega arith)
entry_split (x ∷ cs) zero c e = let z : x ≡ c = cc in rw z
entry_split (x ∷ cs) (suc p) c e = ap (◌∷◌ x) (entry_split cs p c e)

pub replace_split : (cs : List Component) (p : ℕ) (c : Component) (ds : List Component) → get_elem? cs p ≡ some c →
    replace_at p ds cs ≡ take p cs ++ (ds ++ drop (suc p) cs)
unfolding replace_at
replace_split [] p c ds e = let z : ◌≡◌ {A = ℕ} 0 1 = cc in absurd (omega arith)
replace_split (x ∷ cs) zero c ds e = refl
replace_split (x ∷ cs) (suc p) c ds e = ap (◌∷◌ x) (replace_split cs p c ds e)

entry_bytes_holds : (cs : List Component) (p : ℕ) (c : Component) → get_elem? cs p ≡ some c →
    all_bytes cs ≡ all_bytes (take p cs) ++ (component_bytes c ++ all_bytes (drop (suc p) cs))
unfolding all_bytes flatten
entry_bytes_holds cs p c e = ap all_bytes (entry_split cs p c e) ∙ all_bytes_append (take p cs) (c ∷ drop (suc p) cs)

replace_bytes : (cs : List Component) (p : ℕ) (c : Component) (ds : List Component) → get_elem? cs p ≡ some c →
    all_bytes (replace_at p ds cs) ≡ all_bytes (take p cs) ++ (all_bytes ds ++ all_bytes (drop (suc p) cs))
replace_bytes cs p c ds e =
    ap all_bytes (replace_split cs p c ds e) ∙ all_bytes_append (take p cs) (ds ++ drop (suc p) cs) ∙ ap (λ x. all_bytes (take p cs) ++ x) (all_bytes_append ds (drop (suc p) cs))

-- ---- positions

pub one_bytes : (c : Component) → all_bytes (c ∷ []) ≡ component_bytes c
unfolding all_bytes flatten
one_bytes c = append-nil (component_bytes c)

-- one more component uses its own bytes
pub used_more : (cs : List Component) (c : Component) → used_of (cs ++ (c ∷ [])) ≡ used_of cs + length (component_bytes c)
unfolding used_of
used_more cs c =
    let l = length-append (all_bytes cs) (all_bytes (c ∷ [])) in
    let m = ap length (one_bytes c) in
    ap (λ bs. channels + length bs) (all_bytes_append cs (c ∷ [])) ∙ omega arith

-- the last one ends where what is used does
pub start_all : (cs : List Component) → start_of cs (length cs) ≡ used_of cs
unfolding start_of
start_all cs = ap used_of (take_all (length cs) cs (omega arith))

-- ---- the bytes of a configuration

-- a well-formed configuration fits
pub well_formed_fits : (ts : List Term) (h : Configuration) → GoodTable ts → WellFormed ts h → FitsHall h.components
unfolding used_of all_bytes
well_formed_fits ts h g w =
    let l = length-append h.counts (all_bytes h.components) in
    let m = w.channel_counts.0 in
    let f = (stored_fits ts h g w).0 in omega arith

module _ (h : Configuration) (sixteen : length h.counts ≡ channels) where
  -- counts and components
  abbrev own : List ℕ
  own = h.counts ++ all_bytes h.components

  -- the zeros behind them
  abbrev pub zeros_behind : List ℕ
  zeros_behind = replicate (hall_bytes - used_of h.components) 0

  own_length : length own ≡ used_of h.components
  unfolding used_of
  own_length = length-append h.counts (all_bytes h.components) ∙ omega arith

  -- what is used, and zeros
  used_split : bytes_of h ≡ own ++ zeros_behind
  unfolding bytes_of padded all_bytes
  used_split = ap (λ n. own ++ replicate (hall_bytes - n) 0) own_length

  -- bytes that are what is used with zeros behind are a configuration's bytes
  stored_as : (n : ℕ) (bs : List ℕ) → bs ≡ own ++ replicate n 0 → length bs ≡ hall_bytes → bytes_of h ≡ bs
  unfolding bytes_of all_bytes
  stored_as n bs e l = padded_of hall_bytes own n bs e l

  pub bytes_length : FitsHall h.components → length (bytes_of h) ≡ hall_bytes
  unfolding bytes_of all_bytes
  bytes_length fits = length_padded hall_bytes own (rw own_length fits)

  -- nothing but zeros behind what is used
  pub bytes_clear : (i : ℕ) → used_of h.components ≤ i → get_or (bytes_of h) i 0 ≡ 0
  bytes_clear i l =
      rw used_split (get_d_padded own (hall_bytes - used_of h.components) i ∙ get_or-eq_default own 0 (rw own_length l))

  -- the bytes from the first component on
  pub components_cursor : drop channels (bytes_of h) ≡ all_bytes h.components ++ zeros_behind
  components_cursor = rw (used_split, append_assoc) (drop_at h.counts _ channels sixteen)

  module _ (p : ℕ) where
    -- the bytes from component number p on
    pub component_cursor : (c : Component) → get_elem? h.components p ≡ some c →
        drop (start_of h.components p) (bytes_of h) ≡ component_bytes c ++ (all_bytes (drop (suc p) h.components) ++ zeros_behind)
    unfolding start_of used_of
    component_cursor c e =
        over (bytes_of h) channels (all_bytes (take p h.components)) _ (components_cursor ∙ rw (entry_bytes_holds h.components p c e) (simp append_assoc))

    module _ (n : ℕ) (M : Expression) (σ : State) (t : Tree) (e : get_elem? h.components p ≡ some (transaction n M σ t)) (snapshot : length σ ≡ channels) where
      -- where its nodes begin
      abbrev pub tree : ℕ
      tree = start_of h.components p + transaction_head

      pub nodes_cursor : drop tree (bytes_of h) ≡ tree_bytes t ++ (all_bytes (drop (suc p) h.components) ++ zeros_behind)
      unfolding component_bytes
      nodes_cursor =
          let c = component_cursor (transaction n M σ t) e in
          let z : length (transaction_kind ∷ n ∷ σ) ≡ transaction_head = omega arith in
          rw z at (over (bytes_of h) (start_of h.components p) (transaction_kind ∷ n ∷ σ) _ (c ∙ ap (λ x. transaction_kind ∷ n ∷ x) (append_assoc σ (tree_bytes t) _)))

      -- the bytes from a node of a transaction on
      pub node_cursor : (k : ℕ) (x : Context) (u : Tree) → subtree_at t k ≡ node x u →
          drop (tree + length (before x)) (bytes_of h) ≡ tree_bytes u ++ (behind x ++ (all_bytes (drop (suc p) h.components) ++ zeros_behind))
      node_cursor k x u f = over (bytes_of h) tree (before x) _ (nodes_cursor ∙ rw (node_of t k x u f, plug_bytes) (simp append_assoc))

-- ---- what the walks find

module _ (ts : List Term) (h : Configuration) (w : WellFormed ts h) (p n : ℕ) (M : Expression) (σ : State) (t : Tree)
    (e : get_elem? h.components p ≡ some (transaction n M σ t)) where
  in_order_holds : ComponentOk ts (transaction n M σ t)
  in_order_holds = all_at (ComponentOk ts) h.components p (transaction n M σ t) w.each e

  -- node number k of a transaction begins where the bytes before it end, and the subtree there ends where its own do
  pub hall_node : (k : ℕ) (x : Context) (u : Tree) → subtree_at t k ≡ node x u →
      (node_start (bytes_of h) (start_of h.components p + transaction_head) k ≡ Some (start_of h.components p + transaction_head + length (before x)))
      × (tree_end (bytes_of h) (start_of h.components p + transaction_head + length (before x))
      ≡ start_of h.components p + transaction_head + length (before x) + length (tree_bytes u))
  unfolding ComponentOk
  hall_node k x u f =
      let ok = in_order_holds in
      let r = node_of t k x u f in
      let b = plug_branches x u in
      let o : TreeOk ts u = plug_ok ts x u (rw r at ok.2) in
      let m : branches_of (plug x u) ≤ max_branches = rw r at ok.3 in (
        node_starts ts t (bytes_of h) _ _ ok.2 (nodes_cursor h w.channel_counts.0 p n M σ t e ok.1.0) k x u f,
        tree_ends ts u (bytes_of h) _ _ o (node_cursor h w.channel_counts.0 p n M σ t e ok.1.0 k x u f) (omega arith),
      )

  pub hall_no_node : (k j : ℕ) → subtree_at t k ≡ beyond j → node_start (bytes_of h) (start_of h.components p + transaction_head) k ≡ None
  unfolding ComponentOk
  hall_no_node k j f = node_missing ts t (bytes_of h) _ _ in_order_holds.2 (nodes_cursor h w.channel_counts.0 p n M σ t e in_order_holds.1.0) k j f

-- ---- the links

-- two configurations that differ in one part of their bytes
by_splice : (h k : Configuration) (x y z v : List ℕ) (a b : ℕ) → length h.counts ≡ channels → length k.counts ≡ channels →
    FitsHall h.components → FitsHall k.components → h.counts ++ all_bytes h.components ≡ x ++ (y ++ z) →
    k.counts ++ all_bytes k.components ≡ x ++ (v ++ z) → length x ≡ a → a + length y ≡ b → BySplice h k a b v
by_splice h k x y z v a b sh sk fh fk eh ek la lb =
    let lh : length (h.counts ++ all_bytes h.components) ≡ length x + (length y + length z) = rw eh (simp length-append) in
    let lk : length (k.counts ++ all_bytes k.components) ≡ length x + (length v + length z) = rw ek (simp length-append) in
    let oh = own_length h sh in
    let ok = own_length k sk in
    let n = hall_bytes - used_of h.components in
    let lb' = bytes_length h sh fh in
    let parts : bytes_of h ≡ x ++ (y ++ (z ++ replicate n 0)) = used_split h sh ∙ rw eh (simp append_assoc) in
    let mid = spliced_mid (bytes_of h) x y z n a b v parts la lb (omega arith) in
    let m = length (bytes_of h) - (a + length v + length z) in
    let ends : spliced (bytes_of h) a b v ≡ (k.counts ++ all_bytes k.components) ++ replicate m 0 = mid ∙ rw ek (simp append_assoc) in
    record {
      ordered = omega arith;
      room = record { ordered = omega arith; held = omega arith; fits = omega arith; clear = bytes_clear h sh };
      bytes = sym (stored_as k sk m (spliced (bytes_of h) a b v) ends (spliced_length (bytes_of h) a b v ∙ lb'));
    }

-- component number p gives way to others
pub component_by_splice : (σ : State) (cs : List Component) (p : ℕ) (c : Component) (ds : List Component) → length σ ≡ channels → get_elem? cs p ≡ some c →
    FitsHall cs → FitsHall (replace_at p ds cs) →
    BySplice (record { counts = σ; components = cs }) (record { counts = σ; components = replace_at p ds cs }) (start_of cs p)
    (start_of cs p + length (component_bytes c)) (all_bytes ds)
unfolding start_of used_of
component_by_splice σ cs p c ds l e fh fk =
    let x = all_bytes (take p cs) in
    let z = all_bytes (drop (suc p) cs) in
    let m = length-append σ x in
    by_splice (record { counts = σ; components = cs }) (record { counts = σ; components = replace_at p ds cs }) (σ ++ x) (component_bytes c) z (all_bytes ds)
    (channels + length x) (channels + length x + length (component_bytes c)) l l fh fk
    (rw (entry_bytes_holds cs p c e) (sym (append_assoc σ x (component_bytes c ++ z))))
    (rw (replace_bytes cs p c ds e) (sym (append_assoc σ x (all_bytes ds ++ z))))
    (omega arith) refl

-- a part of component number p gives way to other bytes, which make it another component
pub part_by_splice : (σ : State) (cs : List Component) (p : ℕ) (c d : Component) (front old new back : List ℕ) → length σ ≡ channels →
    get_elem? cs p ≡ some c → component_bytes c ≡ front ++ (old ++ back) → component_bytes d ≡ front ++ (new ++ back) → FitsHall cs →
    FitsHall (replace_at p (d ∷ []) cs) →
    BySplice (record { counts = σ; components = cs }) (record { counts = σ; components = replace_at p (d ∷ []) cs })
    (start_of cs p + length front) (start_of cs p + length front + length old) new
unfolding start_of used_of
part_by_splice σ cs p c d front old new back l e was is fh fk =
    let a = all_bytes (take p cs) in
    let z = all_bytes (drop (suc p) cs) in
    let head = σ ++ (a ++ front) in
    let m : length head ≡ channels + length a + length front = simp length-append (omega arith) in
    let regroup : (x : List ℕ) → σ ++ (a ++ ((front ++ (x ++ back)) ++ z)) ≡ head ++ (x ++ (back ++ z)) = λ x. simp append_assoc in
    by_splice (record { counts = σ; components = cs }) (record { counts = σ; components = replace_at p (d ∷ []) cs })
    head old (back ++ z) new (channels + length a + length front) (channels + length a + length front + length old) l l fh fk
    (ap (λ y. σ ++ y) (entry_bytes_holds cs p c e) ∙ ap (λ y. σ ++ (a ++ (y ++ z))) was ∙ regroup old)
    (ap (λ y. σ ++ y) (replace_bytes cs p c (d ∷ []) e) ∙ ap (λ y. σ ++ (a ++ (y ++ z))) (one_bytes d ∙ is) ∙ regroup new)
    m refl

-- a transaction's bytes before a node, there, and behind it
pub transaction_bytes : (n : ℕ) (M : Expression) (s : State) (x : Context) (u : Tree) →
    component_bytes (transaction n M s (plug x u)) ≡ (transaction_kind ∷ n ∷ (s ++ before x)) ++ (tree_bytes u ++ behind x)
unfolding component_bytes
transaction_bytes n M s x u = ap (λ l. transaction_kind ∷ n ∷ l) (rw (plug_bytes x u) (sym (append_assoc s (before x) (tree_bytes u ++ behind x))))

-- what a call of `splice` requires on the bytes of h, and what it leaves
pub splice_can : (h k : Configuration) (s v : List ℕ) (a b n : ℕ) → BySplice h k a b v → s ≡ bytes_of h → n ≡ used_of h.components →
    (a ≤ b) × CanShift s b (a + length v) n
splice_can h k s v a b n x e f = rw (e, f) (x.ordered, x.room)

pub splice_does : (h k : Configuration) (s t v : List ℕ) (a b : ℕ) → BySplice h k a b v → s ≡ bytes_of h → t ≡ spliced s a b v → t ≡ bytes_of k
splice_does h k s t v a b x e f = f ∙ rw e x.bytes

-- ---- the counts

module _ (cs : List Component) (σ : State) (sixteen : length σ ≡ channels) where
  -- a count changes where it stands
  pub count_set : (a n : ℕ) → a < channels →
      bytes_of (record { counts = set σ a n; components = cs }) ≡ set (bytes_of (record { counts = σ; components = cs })) a n
  count_set a n h =
      let z : List ℕ = replicate (hall_bytes - used_of cs) 0 in
      let g : set ((σ ++ all_bytes cs) ++ z) a n ≡ (set σ a n ++ all_bytes cs) ++ z =
      rw (append_assoc σ (all_bytes cs) z, append_assoc (set σ a n) (all_bytes cs) z) (set-append_left σ (all_bytes cs ++ z) a n (omega arith)) in
      used_split (record { counts = set σ a n; components = cs }) (length-set σ a n ∙ sixteen) ∙ rw (used_split (record { counts = σ; components = cs }) sixteen) (sym g)

  -- all counts written anew
  pub counts_written : (τ : State) → length τ ≡ channels →
      bytes_of (record { counts = τ; components = cs }) ≡ written (bytes_of (record { counts = σ; components = cs })) 0 τ channels
  unfolding written
  counts_written τ k =
      let d = components_cursor (record { counts = σ; components = cs }) sixteen in
      used_split (record { counts = τ; components = cs }) k ∙ rw (append_assoc, take_all channels τ (omega arith)) (ap (λ x. τ ++ x) (sym d))
