-- The lines of components, one behind another.
-- Assumes nothing.
use Prim.Native.Nat.{ℕ, zero, suc, ◌+◌, ◌*◌, ◌-◌, ◌≤◌, ◌<◌}
use native.Mathlib.Omega.{arith}
use native.Mathlib.Numerals.{add-one}
use mathlib.Core.Path.{◌≡◌, refl, sym, ap, ◌∙◌}
use mathlib.Core.Option.{some}
use mathlib.Core.List.{List, [], ◌∷◌, ◌++◌, map, flatten, append_assoc, append-nil}
use lib.ListN.{length, get_or, take, drop, get_elem?, length-append}
use lib.Seq.{take_all}
use mir.Syntax.{w64}
use mir.Val.{Fits}
use Rattle.calculus.specs.Syntax.{State}
use Rattle.semantics.specs.Definitions.Terms.{Term, Expression}
use Rattle.semantics.specs.Definitions.Configuration.{taking, repeating, block, output, Tree, leaf, fork, Component, idle, transaction, Configuration, nodes}
use Rattle.semantics.specs.Definitions.Stored.{tree_bytes, component_bytes, ComponentOk, TreeOk}
use Rattle.semantics.specs.Definitions.Report.{decimal, line, component_line}
use Rattle.theorems.proofs.Lists.{found_below}
use Rattle.hall_layout.specs.declared.Walk.{Walk}
use Rattle.hall_layout.specs.Layout.{max_nodes, output_kind, waiting_kind, transaction_kind, component_body, transaction_head, fork_kind, leaf_kind, fork_size}
use Rattle.hall_layout.specs.Nodes.{passed, node_size, pending_behind}
use Rattle.hall_laws.proofs.Cursors.{over, first_byte}
use Rattle.hall_laws.proofs.Nodes.{few_nodes, leaf_bytes, past_fork}
use Rattle.hall_held.specs.Holds.{Holds}
use Rattle.hall_held.proofs.Holds.{hall_length, few_components, component_at, component_ok, component_ends, component_inside, component_here, kind_here, body_here, output_here, waiting_here, transaction_here, snapshot_sixteen, WaitsOn, takes, repeats, blocks}
use Rattle.print_decimals.specs.declared.Page.{Page}
use Rattle.print_decimals.specs.Page.{HasRoom, Room, Appended, Printed}
use Rattle.print_decimals.proofs.Pages.{room_for, printed_none, printed_room, printed_more}
use Rattle.theorems.proofs.Decimals.{decimal_short}
use Rattle.print_lines.specs.Lines.{number_line}
use Rattle.print_sections.specs.Limits.{component_most, components_most}
use Rattle.print_sections.specs.Printed.{CanPrintComponents, ComponentPrinted, ComponentsPrinted}
use Rattle.print_sections.proofs.NumberLines.{one_length, two_length, byte_short}

-- ---- the walk over all nodes of a tree

past_tree : (ts : List Term) (t : Tree) (s : List ℕ) (at p k : ℕ) (rest : List ℕ) → TreeOk ts t →
    drop at s ≡ tree_bytes t ++ rest → passed s (nodes t + k) (suc p) at ≡ passed s k p (at + length (tree_bytes t))
unfolding TreeOk tree_bytes nodes passed node_size pending_behind
past_tree ts (leaf M δ) s at p k rest ok e =
    let h = ok.1 in
    let z : 1 + k ≡ suc k = omega arith in
    let q : suc p - 1 ≡ p = omega arith in
    rw (z, leaf_bytes M δ (omega arith), first_byte s at leaf_kind _ e, q) refl
past_tree ts (fork l r) s at p k rest ok e =
    let e' : drop (at + fork_size) s ≡ tree_bytes l ++ (tree_bytes r ++ rest) =
    over s at (fork_kind ∷ []) _ e ∙ append_assoc (tree_bytes l) (tree_bytes r) rest in
    let e'' = over s (at + fork_size) (tree_bytes l) (tree_bytes r ++ rest) e' in
    let z : 1 + (nodes l + nodes r) + k ≡ suc (nodes l + (nodes r + k)) = omega arith in
    let end : at + fork_size + length (tree_bytes l) + length (tree_bytes r)
    ≡ at + length (fork_kind ∷ (tree_bytes l ++ tree_bytes r)) =
    simp length-append (omega arith) in
    ap (λ n. passed s n (suc p) at) z
    ∙ past_fork s (nodes l + (nodes r + k)) p at (first_byte s at fork_kind _ e)
    ∙ past_tree ts l s (at + fork_size) (suc p) (nodes r + k) (tree_bytes r ++ rest) ok.0 e'
    ∙ past_tree ts r s (at + fork_size + length (tree_bytes l)) p k rest ok.1 e''
    ∙ ap (passed s k p) end

all_passed : (s : List ℕ) (k at : ℕ) → (passed s k 0 at).left ≡ k
unfolding passed
all_passed s zero at = refl
all_passed s (suc k) at = refl

-- ---- one component

module _ {ts : List Term} {h : Configuration} {s starts : List ℕ} {n : ℕ} (x : Holds ts h s starts n) (p : ℕ) where
  -- the byte behind its kind
  body_small : (c : Component) → get_elem? h.components p ≡ some c → get_or s (get_or starts p 0 + component_body) 0 < 256
  unfolding ComponentOk component_bytes
  body_small c e = rw (body_here x p c e) (go c (component_ok x p c e))
    where
      go : (c : Component) → ComponentOk ts c → get_or (component_bytes c) 1 0 < 256
      go (idle (taking m a P)) ok = let l = found_below ts m _ ok in let f = x.good.few in omega arith
      go (idle (repeating m a P)) ok = let l = found_below ts m _ ok in let f = x.good.few in omega arith
      go (idle (block m M)) ok = let l = found_below ts m _ ok in let f = x.good.few in omega arith
      go (idle (output a)) ok = omega arith
      go (transaction m M σ t) ok = let l = found_below ts m _ ok.0 in let f = x.good.few in omega arith

  -- it is a transaction where it is neither an output nor one that waits
  other_kind : (c : Component) → get_elem? h.components p ≡ some c → (get_or s (get_or starts p 0) 0 ≡ output_kind → ⊥) →
      (get_or s (get_or starts p 0) 0 ≡ waiting_kind → ⊥) → get_or s (get_or starts p 0) 0 ≡ transaction_kind
  unfolding component_bytes
  other_kind c e a b = go c (kind_here x p c e)
    where
      go : (c : Component) → get_or s (get_or starts p 0) 0 ≡ get_or (component_bytes c) 0 0 →
          get_or s (get_or starts p 0) 0 ≡ transaction_kind
      go (idle (taking m a P)) k = absurd (b k)
      go (idle (repeating m a P)) k = absurd (b k)
      go (idle (block m M)) k = absurd (b k)
      go (idle (output a')) k = absurd (a k)
      go (transaction m M σ t) k = k

  module _ (m : ℕ) (M : Expression) (σ : State) (t : Tree)
      (e : get_elem? h.components p ≡ some (transaction m M σ t)) where
    tree_inside : get_or starts p 0 + transaction_head ≤ length s
    unfolding component_bytes
    tree_inside =
        let i = (component_inside x p (transaction m M σ t) e).1 in
        let z = component_ends x p (transaction m M σ t) e in
        let l = snapshot_sixteen x p m M σ t e in
        let a = length-append σ (tree_bytes t) in omega arith

    nodes_few : nodes t ≤ max_nodes
    unfolding ComponentOk
    nodes_few =
        let b = (component_ok x p (transaction m M σ t) e).3 in
        let f = few_nodes t in omega arith

    nodes_left : (passed s max_nodes 1 (get_or starts p 0 + transaction_head)).left ≡ max_nodes - nodes t
    unfolding component_bytes ComponentOk
    nodes_left =
        let f = nodes_few in
        let l = snapshot_sixteen x p m M σ t e in
        let z : length (transaction_kind ∷ m ∷ σ) ≡ transaction_head = omega arith in
        let c = component_here x p (transaction m M σ t) e in
        let here = rw z at
        (over s (get_or starts p 0) (transaction_kind ∷ m ∷ σ) _
        (c ∙ ap (λ y. transaction_kind ∷ m ∷ y) (append_assoc σ (tree_bytes t) _))) in
        let k : nodes t + (max_nodes - nodes t) ≡ max_nodes = omega arith in
        let w = past_tree ts t s (get_or starts p 0 + transaction_head) 0 (max_nodes - nodes t) _
        (component_ok x p (transaction m M σ t) e).2 here in
        ap (λ (w : Walk). w.left) (rw k at w) ∙ all_passed s (max_nodes - nodes t) _

-- ---- its line

one_short : (letter n : ℕ) → n < 256 → length (number_line letter (n ∷ [])) ≤ component_most
one_short letter n l = let e = one_length letter n 0 0 in let b = byte_short n l in omega arith

two_short : (letter n k : ℕ) → n < 256 → k ≤ max_nodes → length (number_line letter (n ∷ k ∷ [])) ≤ component_most
two_short letter n k l m =
    let e = two_length letter n k 0 in
    let b = byte_short n l in
    let d = decimal_short 1 k (omega arith) in omega arith

module _ (s starts : List ℕ) (n p : ℕ) (st : CanPrintComponents s starts n) (there : p < n) where
  -- an offset not far behind its start
  pub offset_fits : (k : ℕ) → k ≤ transaction_head → Fits w64 (get_or starts p 0 + k)
  offset_fits k few =
      let c = component_at st.holds p there in
      let i = (component_inside st.holds p c.0 c.1).0 in
      let l = hall_length st.holds in record { fits = omega arith }

  -- neither an output nor one that waits
  module _ (kind : ℕ) (k : kind ≡ get_or s (get_or starts p 0) 0) (a : kind ≡ output_kind → ⊥)
      (o : kind ≡ waiting_kind → ⊥) where
    is_transaction : {ts : List Term} {h : Configuration} (x : Holds ts h s starts n) (c : Component) →
        get_elem? h.components p ≡ some c →
        (M : Expression) × (σ : State) × (t : Tree) ×
        (c ≡ transaction (get_or s (get_or starts p 0 + component_body) 0) M σ t)
    is_transaction x c e = transaction_here x p c e (other_kind x p c e (λ q. a (k ∙ q)) (λ q. o (k ∙ q)))

    pub walk_inside : get_or starts p 0 + transaction_head ≤ length s
    walk_inside =
        let c = component_at st.holds p there in
        let T = is_transaction st.holds c.0 c.1 in
        tree_inside st.holds p _ T.0 T.1 T.2 (c.1 ∙ ap some T.3)

    module _ (w : Walk) (u : w ≡ passed s max_nodes 1 (get_or starts p 0 + transaction_head)) where
      -- what is left of 15
      left_is : {ts : List Term} {h : Configuration} (x : Holds ts h s starts n) (c : Component)
          (e : get_elem? h.components p ≡ some c) →
          (w.left ≡ max_nodes - nodes (is_transaction x c e).2) × (nodes (is_transaction x c e).2 ≤ max_nodes)
      left_is x c e =
          let T = is_transaction x c e in
          let g = e ∙ ap some T.3 in (
            ap (λ (w : Walk). w.left) u ∙ nodes_left x p _ T.0 T.1 T.2 g,
            nodes_few x p _ T.0 T.1 T.2 g,
          )

      pub left_few : (top : ℕ) → top ≡ max_nodes → w.left ≤ top
      left_few top fifteen =
          let c = component_at st.holds p there in
          let l = (left_is st.holds c.0 c.1).0 in omega arith

  module _ (page : Page) (room : HasRoom component_most page) (body y : ℕ)
      (b : body ≡ get_or s (get_or starts p 0 + component_body) 0) (z : y ≡ body) where
    body_byte : y < 256
    body_byte =
        let c = component_at st.holds p there in
        let l = body_small st.holds p c.0 c.1 in omega arith

    pub one_fits : (letter : ℕ) → Room page (number_line letter (y ∷ []))
    one_fits letter = room_for component_most page _ room (one_short letter y body_byte)

    pub two_fits : (letter k top : ℕ) → top ≡ max_nodes → k ≤ top → Room page (number_line letter (y ∷ k ∷ []))
    two_fits letter k top fifteen few = room_for component_most page _ room (two_short letter y k body_byte (omega arith))

    pub output_printed : (kind : ℕ) → kind ≡ get_or s (get_or starts p 0) 0 → kind ≡ output_kind → (q : Page) →
        Appended page (number_line 80 (y ∷ [])) q → ComponentPrinted s starts n p page q
    unfolding component_line number_line
    output_printed kind k f q w = record {
      found = λ ts h c x e.
          rw (output_here x p c e (sym k ∙ f), ← b, ← z) (record { wrote = w; short = one_short 80 y body_byte });
    }

    pub waiting_printed : (kind : ℕ) → kind ≡ get_or s (get_or starts p 0) 0 → kind ≡ waiting_kind → (q : Page) →
        Appended page (number_line 87 (y ∷ [])) q → ComponentPrinted s starts n p page q
    unfolding component_line number_line
    waiting_printed kind k f q w = record { found = λ ts h c x e. go ts c (waiting_here x p c e (sym k ∙ f)) }
      where
        short : Printed component_most page
            (line 87 (decimal (get_or s (get_or starts p 0 + component_body) 0) ∷ [])) q
        short = rw (← b, ← z) (record { wrote = w; short = one_short 87 y body_byte })

        go : (ts : List Term) (c : Component) → WaitsOn ts (get_or s (get_or starts p 0 + component_body) 0) c →
            Printed component_most page (component_line c) q
        go ts c (takes a P q t) = rw q short
        go ts c (repeats a P q t) = rw q short
        go ts c (blocks M q t) = rw q short

    module _ (kind : ℕ) (k : kind ≡ get_or s (get_or starts p 0) 0) (a : kind ≡ output_kind → ⊥) (o : kind ≡ waiting_kind → ⊥)
        (w : Walk) (u : w ≡ passed s max_nodes 1 (get_or starts p 0 + transaction_head)) (top : ℕ)
        (fifteen : top ≡ max_nodes) where
      pub transaction_printed : (q : Page) → Appended page (number_line 65 (y ∷ (top - w.left) ∷ [])) q →
          ComponentPrinted s starts n p page q
      unfolding component_line number_line
      transaction_printed q v = record {
        found = λ ts h c x e.
            let T = is_transaction kind k a o x c e in
            let l = left_is kind k a o w u x c e in
            let l0 = l.0 in
            let l1 = l.1 in
            let m : nodes T.2 ≡ top - w.left = omega arith in
            let same : component_line c ≡ number_line 65 (y ∷ (top - w.left) ∷ []) =
            ap component_line T.3
            ∙ ap (λ j. line 65 (decimal j ∷ decimal (nodes T.2) ∷ [])) (sym b ∙ sym z)
            ∙ ap (λ j. line 65 (decimal y ∷ decimal j ∷ [])) m in
            rw same (record { wrote = v; short = two_short 65 y (top - w.left) body_byte (omega arith) });
      }

-- ---- all of them

lines_next : (cs : List Component) (p : ℕ) (c : Component) → get_elem? cs p ≡ some c →
    flatten (map component_line (take (p + 1) cs)) ≡ flatten (map component_line (take p cs)) ++ component_line c
unfolding flatten
lines_next cs p c e = rw (add-one p) (go cs p e)
  where
    go : (cs : List Component) (p : ℕ) → get_elem? cs p ≡ some c →
        flatten (map component_line (take (suc p) cs)) ≡ flatten (map component_line (take p cs)) ++ component_line c
    go [] zero e = let z : ◌≡◌ {A = ℕ} 0 1 = cc in absurd (omega arith)
    go [] (suc p) e = let z : ◌≡◌ {A = ℕ} 0 1 = cc in absurd (omega arith)
    go (x ∷ cs) zero e = let q : x ≡ c = cc in rw (q, append-nil) refl
    go (x ∷ cs) (suc p) e = rw (go cs p e) (sym (append_assoc (component_line x) _ _))

pub record ComponentsSoFar (s starts : List ℕ) (n : ℕ) (p q : Page) (i : ℕ) : Type 0 where
  pub standing : CanPrintComponents s starts n
  pub room : HasRoom components_most p
  pub printed : (ts : List Term) (h : Configuration) → Holds ts h s starts n →
      Printed (component_most * i) p (flatten (map component_line (take i h.components))) q

module _ (s starts : List ℕ) (n : ℕ) (p : Page) where
  pub no_component : CanPrintComponents s starts n → HasRoom components_most p → ComponentsSoFar s starts n p p 0
  unfolding flatten
  no_component st r = record { standing = st; room = r; printed = λ ts h x. printed_none 0 p }

  module _ (q : Page) (i : ℕ) (y : ComponentsSoFar s starts n p q i) where
    few : n ≤ 64
    few = few_components y.standing.holds

    room_here : i < n → HasRoom (component_most * i + component_most) p
    room_here l = let f = few in let r = y.room.fits in record { fits = omega arith }

    pub component_room : i < n → HasRoom component_most q
    component_room l =
        printed_room (component_most * i) component_most p _ q (room_here l) (y.printed _ _ y.standing.holds)

    pub component_more : i < n → (r : Page) → ComponentPrinted s starts n i q r → ComponentsSoFar s starts n p r (i + 1)
    component_more l r v =
        let z : component_most * i + component_most ≡ component_most * (i + 1) = omega arith in
        record {
          standing = y.standing;
          room = y.room;
          printed = λ ts h x.
              let c = component_at x i l in
              rw (lines_next h.components i c.0 c.1, ← z)
              (printed_more (component_most * i) component_most p _ q (room_here l) (y.printed ts h x) _ r (v.found ts h c.0 x c.1));
        }

    pub all_components : n ≤ i → i ≤ n → ComponentsPrinted s starts n p q
    all_components l m = record {
      found = λ ts h x.
          let k = x.counted in
          let f = few in
          let v = y.printed ts h x in
          let a : take i h.components ≡ h.components = take_all i h.components (omega arith) in
          record { wrote = rw a at v.wrote; short = let o = rw a at v.short in omega arith };
    }
