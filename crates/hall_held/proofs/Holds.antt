-- What a run may rely on while a configuration is held: how long the bytes are, where each part stands in them, and
-- what code finds there.
-- Assumes nothing.
use Prim.Native.Nat.{ℕ, zero, suc, ◌+◌, ◌-◌, ◌≤◌, ◌<◌}
use native.Mathlib.Omega.{arith}
use mathlib.Core.Path.{◌≡◌, refl, sym, ap, ◌∙◌}
use mathlib.Core.Option.{Option, none, some}
use Rattle.std.specs.Prelude.{Some, None}
use mathlib.Core.List.{List, [], ◌∷◌, ◌++◌, map, flatten, append_assoc}
use lib.ListN.{length, get_or, take, drop, replicate, get_elem?, get_or-append}
use lib.Seq.{get_or-take, get_or-drop, take_at}
use mir.Syntax.{w8}
use mir.Val.{Fits}
use Rattle.calculus.specs.Syntax.{Name, State}
use Rattle.calculus.specs.State.{count}
use Rattle.semantics.specs.Definitions.Basics.{padded, Bytes}
use Rattle.semantics.specs.Definitions.Terms.{Expression, Program, take_t, repeat_t, atom_t, Term, process}
use Rattle.semantics.specs.Definitions.Configuration.{taking, repeating, block, output, Tree, Component, idle, transaction, Configuration}
use Rattle.semantics.specs.Definitions.Stored.{tree_bytes, component_bytes, bytes_of, ComponentOk, configuration_of}
use Rattle.semantics.specs.Checks.AcceptedTables.{GoodTable}
use Rattle.theorems.proofs.Lists.{found_below, found_at, all_at}
use Rattle.theorems.proofs.RoundTrip.{read_is_well_formed}
use Rattle.table_terms.specs.Decoded.{Decoded}
use Rattle.hall_layout.specs.Layout.{channels, hall_bytes, max_components, index_size, waiting_kind, transaction_kind, output_kind, component_body, idle_size, transaction_head}
use Rattle.hall_layout.specs.Nodes.{node_start, tree_end}
use Rattle.hall_laws.specs.Positions.{all_bytes, used_of, start_of, Context, before, behind, Node, node, beyond, subtree_at}
use Rattle.hall_laws.proofs.Cursors.{over}
use Rattle.hall_laws.proofs.Configurations.{well_formed_fits, zeros_behind, bytes_length, component_cursor, node_cursor, hall_node, hall_no_node}
use Rattle.hall_laws.proofs.Starts.{start_all, start_below, start_next, idle_size_holds}
use Rattle.hall_layout.specs.declared.Index.{Index}
use Rattle.hall_check.specs.Scans.{HallIs, HallRead}
use Rattle.hall_held.specs.Holds.{Holds}

none_behind : (cs : List Component) (p : ℕ) → length cs ≤ p → get_elem? cs p ≡ none
none_behind [] p l = refl
none_behind (c ∷ cs) zero l = absurd (omega arith)
none_behind (c ∷ cs) (suc p) l = none_behind cs p (omega arith)

-- ---- a hall that was found well formed

-- the elements of a slice of bytes are bytes
pub slice_bytes : (s : List ℕ) → ((i : ℕ) → Fits w8 (get_or s i 0)) → Bytes s
slice_bytes [] f = tt
slice_bytes (x ∷ s) f = (let b : Fits w8 x = f 0 in omega arith, slice_bytes s (λ i. f (suc i)))

-- what the scan tells of the configuration that was read
pub read_holds : (ts : List Term) (s : List ℕ) (x : Index) (h : Configuration) → GoodTable ts → Bytes s →
    length s ≡ hall_bytes → length x.starts ≡ index_size → configuration_of ts s ≡ some h →
    HallIs (Some x) (some h) → Holds ts h s x.starts x.components
read_holds ts s x h good b l sized e f =
    let w = read_is_well_formed ts s h good b l e in
    record { good = good; form = w.0; bytes = sym w.1; counted = f.0; sized = sized; index = f.2 }

-- there is one
pub record HeldConfiguration (ts : List Term) (s : List ℕ) (x : Index) : Type 0 where
  pub configuration : Configuration
  pub stored : configuration_of ts s ≡ some configuration
  pub holds : Holds ts configuration s x.starts x.components

pub well_formed_holds : (d s : List ℕ) (k : ℕ) (index : Index) (ts : List Term) → HallRead d k s (Some index) →
    Decoded ts d → length ts ≡ k → length s ≡ hall_bytes → Bytes s → HeldConfiguration ts s index
well_formed_holds d s k index ts x y c l b = go (configuration_of ts s) refl (x.found ts y c)
  where
    go : (o : Option Configuration) → configuration_of ts s ≡ o → HallIs (Some index) o → HeldConfiguration ts s index
    go none e f = absurd f
    go (some h) e f =
        record { configuration = h; stored = e; holds = read_holds ts s index h y.good b l x.sized e f }

-- ---- what a component begins with

two_bytes : (c : Component) → idle_size ≤ length (component_bytes c)
unfolding component_bytes
two_bytes (idle c) = let l = idle_size_holds c in omega arith
two_bytes (transaction n M σ t) = omega arith

-- a component that waits on term number n
pub data WaitsOn (ts : List Term) (n : ℕ) (c : Component) : Type 0 where
  takes : (a : Name) (P : Program) → c ≡ idle (taking n a P) → get_elem? ts n ≡ some (process (take_t n a P)) → WaitsOn ts n c
  repeats : (a : Name) (P : Program) → c ≡ idle (repeating n a P) → get_elem? ts n ≡ some (process (repeat_t n a P)) → WaitsOn ts n c
  blocks : (M : Expression) → c ≡ idle (block n M) → get_elem? ts n ≡ some (process (atom_t n M)) → WaitsOn ts n c

module _ (k n : ℕ) where
  by_output : (c : Component) → k ≡ get_or (component_bytes c) 0 0 → n ≡ get_or (component_bytes c) 1 0 → k ≡ output_kind →
      c ≡ idle (output n)
  unfolding component_bytes
  by_output (idle (taking m a P)) e f g = absurd (omega arith)
  by_output (idle (repeating m a P)) e f g = absurd (omega arith)
  by_output (idle (block m M)) e f g = absurd (omega arith)
  by_output (idle (output a)) e f g = rw f
  by_output (transaction m M σ t) e f g = absurd (omega arith)

  by_waiting : (ts : List Term) (c : Component) → ComponentOk ts c → k ≡ get_or (component_bytes c) 0 0 →
      n ≡ get_or (component_bytes c) 1 0 → k ≡ waiting_kind → WaitsOn ts n c
  unfolding component_bytes ComponentOk
  by_waiting ts (idle (taking m a P)) ok e f g = rw f (takes a P refl ok)
  by_waiting ts (idle (repeating m a P)) ok e f g = rw f (repeats a P refl ok)
  by_waiting ts (idle (block m M)) ok e f g = rw f (blocks M refl ok)
  by_waiting ts (idle (output a)) ok e f g = absurd (omega arith)
  by_waiting ts (transaction m M σ t) ok e f g = absurd (omega arith)

  by_transaction : (c : Component) → k ≡ get_or (component_bytes c) 0 0 → n ≡ get_or (component_bytes c) 1 0 → k ≡ transaction_kind →
      (M : Expression) × (σ : State) × (t : Tree) × (c ≡ transaction n M σ t)
  unfolding component_bytes
  by_transaction (idle (taking m a P)) e f g = absurd (omega arith)
  by_transaction (idle (repeating m a P)) e f g = absurd (omega arith)
  by_transaction (idle (block m M)) e f g = absurd (omega arith)
  by_transaction (idle (output a)) e f g = absurd (omega arith)
  by_transaction (transaction m M σ t) e f g = (M, σ, t, rw f)

-- ---- where a node stands

-- a node of the tree t at position p: where it begins, where its subtree ends, and the bytes from it on
pub record NodeAt (s starts : List ℕ) (p : ℕ) (t : Tree) (k at : ℕ) (y : Context) (u : Tree) : Type 0 where
  pub there : subtree_at t k ≡ node y u
  pub begins : at ≡ get_or starts p 0 + transaction_head + length (before y)
  pub found : node_start s (get_or starts p 0 + transaction_head) k ≡ Some at
  pub ends : tree_end s at ≡ at + length (tree_bytes u)
  pub bytes : drop at s ≡ tree_bytes u ++ (behind y ++ drop (get_or starts (p + 1) 0) s)

-- ---- the whole

module _ {ts : List Term} {h : Configuration} {s starts : List ℕ} {n : ℕ} (x : Holds ts h s starts n) where
  pub sixteen : length h.counts ≡ channels
  sixteen = x.form.channel_counts.0

  pub fits : used_of h.components ≤ hall_bytes
  fits = well_formed_fits ts h x.good x.form

  pub hall_length : length s ≡ hall_bytes
  hall_length = ap length x.bytes ∙ bytes_length h sixteen fits

  pub few_components : n ≤ max_components
  few_components = let l = x.form.few in let m = x.counted in omega arith

  -- the counts
  pub counts_here : take channels s ≡ h.counts
  unfolding bytes_of padded
  counts_here =
      let own = flatten (map component_bytes h.components) in
      let split : bytes_of h ≡ h.counts ++ (own ++ replicate (hall_bytes - length (h.counts ++ own)) 0) =
      append_assoc h.counts _ _ in
      ap (take channels) (x.bytes ∙ split) ∙ take_at h.counts _ channels sixteen

  pub count_here : (a : ℕ) → a < channels → get_or s a 0 ≡ count h.counts a
  count_here a l = sym (get_or-take 16 s a 0 l) ∙ ap (λ σ. get_or σ a 0) counts_here

  -- where components begin, and where the last one ends
  pub start_here : (p : ℕ) → p ≤ n → get_or starts p 0 ≡ start_of h.components p
  start_here p l = x.index p (rw (← x.counted) l)

  pub used_here : get_or starts n 0 ≡ used_of h.components
  used_here = start_here n (omega arith) ∙ rw x.counted (start_all h.components)

  pub start_below_used : (p : ℕ) → p ≤ n → get_or starts p 0 ≤ get_or starts n 0
  start_below_used p l = rw (used_here, start_here p l) (start_below h.components p)

  pub used_inside : get_or starts n 0 ≤ hall_bytes
  used_inside = rw used_here fits

  -- ---- a component

  -- there is one at each position below their number, and none behind
  pub component_at : (p : ℕ) → p < n → (c : Component) × (get_elem? h.components p ≡ some c)
  component_at p l = found_at h.components p (rw (← x.counted) l)

  pub no_component : (p : ℕ) → n ≤ p → get_elem? h.components p ≡ none
  no_component p l = none_behind h.components p (rw (← x.counted) l)

  module _ (p : ℕ) (c : Component) (e : get_elem? h.components p ≡ some c) where
    pub position_below : p < n
    position_below = rw x.counted (found_below h.components p c e)

    pub component_ok : ComponentOk ts c
    component_ok = all_at (ComponentOk ts) h.components p c x.form.each e

    -- it ends where the next one begins
    pub component_ends : get_or starts (p + 1) 0 ≡ get_or starts p 0 + length (component_bytes c)
    component_ends =
        let l = position_below in
        start_here (p + 1) (omega arith) ∙ rw (start_here p (omega arith)) (start_next h.components p c e)

    -- its kind and its body, and all of it, stand inside the bytes
    pub component_inside : (get_or starts p 0 + idle_size ≤ length s) × (get_or starts (p + 1) 0 ≤ length s)
    component_inside =
        let l = position_below in
        let ends = component_ends in
        let size = two_bytes c in
        let used = used_inside in
        let below = start_below_used (p + 1) (omega arith) in
        let all = hall_length in (omega arith, omega arith)

    -- what stands behind it
    rest : List ℕ
    rest = all_bytes (drop (suc p) h.components) ++ zeros_behind h sixteen

    from_here : drop (get_or starts p 0) s ≡ component_bytes c ++ rest
    unfolding rest
    from_here = let l = position_below in rw (start_here p (omega arith), x.bytes) (component_cursor h sixteen p c e)

    rest_here : drop (get_or starts (p + 1) 0) s ≡ rest
    rest_here = rw component_ends (over s (get_or starts p 0) (component_bytes c) rest from_here)

    -- the bytes from it on
    pub component_here : drop (get_or starts p 0) s ≡ component_bytes c ++ drop (get_or starts (p + 1) 0) s
    component_here = from_here ∙ ap (λ y. component_bytes c ++ y) (sym rest_here)

    -- a byte of it
    pub byte_here : (i : ℕ) → i < length (component_bytes c) → get_or s (get_or starts p 0 + i) 0 ≡ get_or (component_bytes c) i 0
    byte_here i l =
        sym (get_or-drop (get_or starts p 0) s i 0) ∙ ap (λ y. get_or y i 0) component_here ∙ get_or-append (component_bytes c) _ 0 i l

    -- its kind, and its term or channel
    pub kind_here : get_or s (get_or starts p 0) 0 ≡ get_or (component_bytes c) 0 0
    kind_here =
        let l = two_bytes c in
        let z : get_or starts p 0 + 0 ≡ get_or starts p 0 = omega arith in rw z at (byte_here 0 (omega arith))

    pub body_here : get_or s (get_or starts p 0 + component_body) 0 ≡ get_or (component_bytes c) component_body 0
    body_here = let l = two_bytes c in byte_here component_body (omega arith)

    -- by its kind: an output of the channel there
    pub output_here : get_or s (get_or starts p 0) 0 ≡ output_kind → c ≡ idle (output (get_or s (get_or starts p 0 + component_body) 0))
    output_here f = by_output _ _ c kind_here body_here f

    -- one that waits on the term there: a take, a repeated take or a block
    pub waiting_here : get_or s (get_or starts p 0) 0 ≡ waiting_kind → WaitsOn ts (get_or s (get_or starts p 0 + component_body) 0) c
    waiting_here f = by_waiting _ _ ts c component_ok kind_here body_here f

    -- a transaction of the block there
    pub transaction_here : get_or s (get_or starts p 0) 0 ≡ transaction_kind →
        (M : Expression) × (σ : State) × (t : Tree) × (c ≡ transaction (get_or s (get_or starts p 0 + component_body) 0) M σ t)
    transaction_here f = by_transaction _ _ c kind_here body_here f

  -- ---- a transaction

  module _ (p m : ℕ) (M : Expression) (σ : State) (t : Tree) (e : get_elem? h.components p ≡ some (transaction m M σ t)) where
    -- its snapshot
    pub snapshot_sixteen : length σ ≡ channels
    unfolding ComponentOk
    snapshot_sixteen = (component_ok p (transaction m M σ t) e).1.0

    pub snapshot_here : take channels (drop (get_or starts p 0 + idle_size) s) ≡ σ
    unfolding component_bytes
    snapshot_here =
        let c = component_here p (transaction m M σ t) e in
        let o = over s (get_or starts p 0) (transaction_kind ∷ m ∷ []) _
        (c ∙ ap (λ y. transaction_kind ∷ m ∷ y) (append_assoc σ (tree_bytes t) _)) in
        rw o (take_at σ _ 16 snapshot_sixteen)

    -- where a node of it stands
    pub node_here : (k : ℕ) (y : Context) (u : Tree) → subtree_at t k ≡ node y u →
        NodeAt s starts p t k (get_or starts p 0 + transaction_head + length (before y)) y u
    unfolding rest
    node_here k y u f =
        let l = position_below p (transaction m M σ t) e in
        let b = hall_node ts h x.form p m M σ t e k y u f in
        let r = rw (← x.bytes, ← start_here p (omega arith)) at b in
        let here : drop (get_or starts p 0 + transaction_head + length (before y)) s
        ≡ tree_bytes u ++ (behind y ++ rest p (transaction m M σ t) e) =
        rw (start_here p (omega arith), x.bytes) (node_cursor h sixteen p m M σ t e snapshot_sixteen k y u f) in
        let next = sym (rest_here p (transaction m M σ t) e) in
        record { there = f; begins = refl; found = r.0; ends = r.1; bytes = here ∙ ap (λ w. tree_bytes u ++ (behind y ++ w)) next }

    pub node_missing : (k j : ℕ) → subtree_at t k ≡ beyond j → node_start s (get_or starts p 0 + transaction_head) k ≡ None
    node_missing k j f =
        let l = position_below p (transaction m M σ t) e in
        rw (start_here p (omega arith), x.bytes) (hall_no_node ts h x.form p m M σ t e k j f)

    -- what code finds where it looks for a node
    pub node_found : (k at : ℕ) → node_start s (get_or starts p 0 + transaction_head) k ≡ Some at →
        (y : Context) × (u : Tree) × NodeAt s starts p t k at y u
    node_found k at f = go (subtree_at t k) refl
      where
        go : (N : Node) → subtree_at t k ≡ N → (y : Context) × (u : Tree) × NodeAt s starts p t k at y u
        go (node y u) g =
            let w = node_here k y u g in
            let z : get_or starts p 0 + transaction_head + length (before y) ≡ at = cc in (y, u, rw z at w)
        go (beyond j) g = let w = node_missing k j g in let z : ◌≡◌ {A = ℕ} 0 1 = cc in absurd (omega arith)

    pub node_nowhere : (k : ℕ) → node_start s (get_or starts p 0 + transaction_head) k ≡ None → (j : ℕ) × (subtree_at t k ≡ beyond j)
    node_nowhere k f = go (subtree_at t k) refl
      where
        go : (N : Node) → subtree_at t k ≡ N → (j : ℕ) × (subtree_at t k ≡ beyond j)
        go (node y u) g = let w = (node_here k y u g).found in let z : ◌≡◌ {A = ℕ} 0 1 = cc in absurd (omega arith)
        go (beyond j) g = (j, g)
