-- The trees of a transaction and their bytes: a tree is read back from its bytes, what is read has those bytes, and how many
-- bytes there are.
-- Assumes nothing.
use Prim.Native.Nat.{ℕ, zero, suc, ◌+◌, ◌-◌, ◌*◌, ◌≤◌, ◌<◌}
use native.Mathlib.Omega.{arith}
use mathlib.Core.Path.{◌≡◌, refl, sym, ap, ap₂, ◌∙◌}
use mathlib.Core.Bool.{Bool, true, false, cond}
use mathlib.Core.Option.{Option, none, some, bind}
use mathlib.Core.List.{List, [], ◌∷◌, ◌++◌, map, append_assoc}
use lib.ListN.{length, take, drop, replicate, get_elem?, length-append, length-map, length-replicate, take-append-drop}
use lib.Seq.{take_at, drop_at, length-take-le}
use lib.Dec.{leb, ltb, eqb}
use borrow.Author.Tests.{leb-true, le-leb, leb-false, lt-leb, eqb-true}
use Rattle.calculus.specs.Syntax.{Action, rd, wt, Log}
use Rattle.semantics.specs.Definitions.Basics.{only_if, padded, zeros, All, Bytes}
use Rattle.semantics.specs.Definitions.Terms.{Expression, retry_t, Term, process, expression, number, path_length}
use Rattle.semantics.specs.Definitions.Configuration.{Tree, leaf, fork, branches_of}
use Rattle.semantics.specs.Definitions.Stored.{action_byte, tree_bytes, leaf_expression, channel_of, TreeOk, split_bytes, action_of, log_of, leaf_from, NodeKind, fork_n, leaf_n, other_n, node_kind, node_from, tree_from}
use Rattle.semantics.specs.Checks.AcceptedTables.{term_number, GoodTable}
use Rattle.theorems.proofs.Measures.{branches_positive}
use Rattle.theorems.proofs.ByteReads.{and_true, given_some, provided_some, zeros_replicate, replicate_zeros}
use Rattle.theorems.proofs.Lists.{all_append, all_replicate, found_below}

-- ---- lists of bytes

-- what is cut off and what follows it
pub cut_back : (n : ℕ) (bs : List ℕ) (c : List ℕ × List ℕ) → split_bytes n bs ≡ some c → (length c.0 ≡ n) × (bs ≡ c.0 ++ c.1)
unfolding split_bytes
cut_back n bs c e =
    let h = provided_some (leb n (length bs)) _ c e in
    let l = leb-true n (length bs) h.0 in
    let p : take n bs ≡ c.0 = ap (λ x. x.0) h.1 in
    let q : drop n bs ≡ c.1 = ap (λ x. x.1) h.1 in
    (rw (← p) (length-take-le n bs l), rw (← p, ← q) (sym (take-append-drop n bs)))

pub cut_forth : (n : ℕ) (xs rest : List ℕ) → length xs ≡ n → split_bytes n (xs ++ rest) ≡ some (xs, rest)
unfolding split_bytes only_if
cut_forth n xs rest e = rw (le-leb n (length (xs ++ rest)) (rw length-append (omega arith)), take_at xs rest n e, drop_at xs rest n e)

pub length_padded : (n : ℕ) (xs : List ℕ) → length xs ≤ n → length (padded n xs) ≡ n
unfolding padded
length_padded n xs h = simp (length-append, length-replicate) (omega arith)

-- a list of n elements that is xs with zeros behind is xs padded
pub padded_of : (n : ℕ) (xs : List ℕ) (k : ℕ) (bs : List ℕ) → bs ≡ xs ++ replicate k 0 → length bs ≡ n → padded n xs ≡ bs
unfolding padded
padded_of n xs k bs e l =
    let p : length (xs ++ replicate k 0) ≡ length xs + k = length-append xs (replicate k 0) ∙ ap (λ m. length xs + m) (length-replicate k 0) in
    let q = ap length e in
    let z : n - length xs ≡ k = omega arith in rw (z, e)

-- a list that is zeros behind its first elements is those elements padded
padded_back : (n size : ℕ) (bs : List ℕ) → length bs ≡ n → zeros (drop size bs) ≡ true → padded n (take size bs) ≡ bs
padded_back n size bs l z =
    padded_of n (take size bs) (length (drop size bs)) bs (sym (take-append-drop size bs) ∙ ap (λ x. take size bs ++ x) (zeros_replicate (drop size bs) z)) l

-- ---- actions and logs

action_forth : (α : Action) → channel_of α < 16 → action_of (action_byte α) ≡ some α
unfolding action_of action_byte channel_of only_if
action_forth (rd a) h = rw (le-leb (suc a) 16 h)
action_forth (wt a) h =
    let p : 16 + a - 16 ≡ a = omega arith in
    rw (lt-leb (suc (16 + a)) 16 (omega arith), le-leb (suc (16 + a)) 32 (omega arith), p)

action_back : (b : ℕ) (α : Action) → action_of b ≡ some α → (action_byte α ≡ b) × (channel_of α < 16)
unfolding action_of action_byte channel_of only_if
action_back b α e = go (ltb b 16) refl (ltb b 32) refl e
  where
    go : (x : Bool) → ltb b 16 ≡ x → (y : Bool) → ltb b 32 ≡ y → cond x (some (rd b)) (only_if y (wt (b - 16))) ≡ some α →
        (action_byte α ≡ b) × (channel_of α < 16)
    go true p y q h = let z : rd b ≡ α = cc in rw (← z) (refl, leb-true (suc b) 16 p)
    go false p true q h =
        let z : wt (b - 16) ≡ α = cc in
        let l = leb-false (suc b) 16 p in
        let m = leb-true (suc b) 32 q in rw (← z) (omega arith, omega arith)
    go false p false q h = let z : ◌≡◌ {A = ℕ} 0 1 = cc in absurd (omega arith)

log_forth : (δ : Log) → All (λ α. channel_of α < 16) δ → log_of (map action_byte δ) ≡ some δ
unfolding log_of bind
log_forth [] h = refl
log_forth (α ∷ δ) h = rw (action_forth α h.0, log_forth δ h.1)

log_back : (bs : List ℕ) (δ : Log) → log_of bs ≡ some δ → (map action_byte δ ≡ bs) × All (λ α. channel_of α < 16) δ
unfolding log_of
log_back [] δ e = let z : [] ≡ δ = cc in rw (← z) (refl, tt)
log_back (b ∷ bs) δ e =
    given_some (action_of b) _ δ e (λ α p e'.
    given_some (log_of bs) _ δ e' (λ ε q e''.
    let h = action_back b α p in
    let g = log_back bs ε q in
    let z : α ∷ ε ≡ δ = cc in
    rw (← z) (ap₂ ◌∷◌ h.0 g.0, (h.1, g.1))))

-- ---- leaves

-- a leaf's byte is its term's number, and a byte
leaf_number : (ts : List Term) → GoodTable ts → (n : ℕ) (M : Expression) → leaf_expression ts n ≡ some M → (number M ≡ n) × (n ≤ 255)
unfolding leaf_expression term_number
leaf_number ts g n M e = go (eqb n 255) refl (get_elem? ts n) refl
  where
    go : (b : Bool) → eqb n 255 ≡ b → (o : Option Term) → get_elem? ts n ≡ o → (number M ≡ n) × (n ≤ 255)
    go true p o q =
        let h : some (retry_t 255) ≡ some M = rw p at e in
        let z : retry_t 255 ≡ M = cc in
        let l = eqb-true n 255 p in rw (← z) (sym l, omega arith)
    go false p none q = let h : none ≡ some M = rw (p, q) at e in let z : ◌≡◌ {A = ℕ} 0 1 = cc in absurd (omega arith)
    go false p (some (process P)) q = let h : none ≡ some M = rw (p, q) at e in let z : ◌≡◌ {A = ℕ} 0 1 = cc in absurd (omega arith)
    go false p (some (expression N)) q =
        let h : some N ≡ some M = rw (p, q) at e in
        let z : N ≡ M = cc in
        let l = found_below ts n (expression N) q in
        let f = g.few in rw (← z) (g.numbered n (expression N) q, omega arith)

leaf_forth : (ts : List Term) (M : Expression) (δ : Log) → TreeOk ts (leaf M δ) →
    leaf_from ts (number M ∷ length δ ∷ padded 16 (map action_byte δ)) ≡ some (leaf M δ)
unfolding TreeOk leaf_from padded bind only_if
leaf_forth ts M δ h =
    let l = length-map δ action_byte in
    rw (
      h.0,
      take_at (map action_byte δ) _ (length δ) l,
      log_forth δ h.2,
      drop_at (map action_byte δ) _ (length δ) l,
      le-leb (length δ + path_length M) 16 h.1,
      replicate_zeros (16 - length (map action_byte δ)),
    )

leaf_back : (ts : List Term) → GoodTable ts → (body : List ℕ) (t : Tree) → length body ≡ 18 → leaf_from ts body ≡ some t →
    (tree_bytes t ≡ 23 ∷ body) × TreeOk ts t
unfolding TreeOk leaf_from tree_bytes padded
leaf_back ts g [] t l e = absurd (omega arith)
leaf_back ts g (n ∷ []) t l e = absurd (omega arith)
leaf_back ts g (n ∷ size ∷ log) t l e =
    given_some (leaf_expression ts n) _ t e (λ M p e'.
    given_some (log_of (take size log)) _ t e' (λ δ q e''.
    let x = provided_some _ _ t e'' in
    let y = and_true _ _ x.0 in
    let k = leb-true (size + path_length M) 16 y.0 in
    let h = log_back (take size log) δ q in
    let m = leaf_number ts g n M p in
    let s : length δ ≡ size =
    sym (length-map δ action_byte) ∙ ap length h.0 ∙ length-take-le size log (omega arith) in
    rw (← x.1) (rw (m.0, s, h.0, padded_back 16 size log (omega arith) y.1), (rw m.0 p, rw s k, h.1))))

-- ---- trees

-- the byte that names a kind of node
fork_byte : (k : ℕ) → node_kind k ≡ fork_n → k ≡ 22
unfolding node_kind
fork_byte k e = go (eqb k 22) refl (eqb k 23) refl e
  where
    go : (x : Bool) → eqb k 22 ≡ x → (y : Bool) → eqb k 23 ≡ y → cond x fork_n (cond y leaf_n other_n) ≡ fork_n → k ≡ 22
    go true p y q h = eqb-true k 22 p
    go false p true q h = cc
    go false p false q h = cc

leaf_byte : (k : ℕ) → node_kind k ≡ leaf_n → k ≡ 23
unfolding node_kind
leaf_byte k e = go (eqb k 22) refl (eqb k 23) refl e
  where
    go : (x : Bool) → eqb k 22 ≡ x → (y : Bool) → eqb k 23 ≡ y → cond x fork_n (cond y leaf_n other_n) ≡ leaf_n → k ≡ 23
    go true p y q h = cc
    go false p true q h = eqb-true k 23 q
    go false p false q h = cc

-- what was read is a tree's bytes, and the tree is in order
TreeRead : List Term → List ℕ → Tree × List ℕ → Type 0
TreeRead ts bs y = (bs ≡ tree_bytes y.0 ++ y.1) × TreeOk ts y.0

node_back : (ts : List Term) → GoodTable ts → (sub : List ℕ → Option (Tree × List ℕ)) →
    ((bs : List ℕ) (y : Tree × List ℕ) → sub bs ≡ some y → TreeRead ts bs y) →
    (k : ℕ) (K : NodeKind) → node_kind k ≡ K → (bs : List ℕ) (y : Tree × List ℕ) → node_from ts sub K bs ≡ some y → TreeRead ts (k ∷ bs) y
unfolding node_from TreeRead TreeOk tree_bytes
node_back ts g sub back k fork_n d bs y e =
    given_some (sub bs) _ y e (λ l p e'.
    given_some (sub l.1) _ y e' (λ r q e''.
    let z : (fork l.0 r.0, r.1) ≡ y = cc in
    let h = back bs l p in
    let g = back l.1 r q in
    rw (← z) (rw (fork_byte k d, h.0, g.0, append_assoc) refl, (h.1, g.1))))
node_back ts g sub back k leaf_n d bs y e =
    given_some (split_bytes 18 bs) _ y e (λ c p e'.
    given_some (leaf_from ts c.0) _ y e' (λ t q e''.
    let z : (t, c.1) ≡ y = cc in
    let h = cut_back 18 bs c p in
    let g = leaf_back ts g c.0 t h.0 q in
    rw (← z) (rw (leaf_byte k d, h.1, g.0) refl, g.1)))
node_back ts g sub back k other_n d bs y e = let z : ◌≡◌ {A = ℕ} 0 1 = cc in absurd (omega arith)

-- what reading a tree gives has those bytes, and is in order
pub tree_back : (ts : List Term) → GoodTable ts → (f : ℕ) (bs : List ℕ) (y : Tree × List ℕ) → tree_from f ts bs ≡ some y →
    (bs ≡ tree_bytes y.0 ++ y.1) × TreeOk ts y.0
unfolding tree_from TreeRead
tree_back ts g zero bs y e = let z : ◌≡◌ {A = ℕ} 0 1 = cc in absurd (omega arith)
tree_back ts g (suc f) [] y e = let z : ◌≡◌ {A = ℕ} 0 1 = cc in absurd (omega arith)
tree_back ts g (suc f) (k ∷ bs) y e = node_back ts g (λ x. tree_from f ts x) (tree_back ts g f) k (node_kind k) refl bs y e

-- a tree in order is read back from its bytes, whatever follows them
pub tree_forth : (ts : List Term) (t : Tree) (f : ℕ) (rest : List ℕ) → TreeOk ts t → length (tree_bytes t) ≤ f →
    tree_from f ts (tree_bytes t ++ rest) ≡ some (t, rest)
unfolding tree_from node_from node_kind tree_bytes bind TreeOk
tree_forth ts (leaf M δ) zero rest ok l = absurd (omega arith)
tree_forth ts (fork l r) zero rest ok h = absurd (omega arith)
tree_forth ts (leaf M δ) (suc f) rest ok l =
    let n : length (map action_byte δ) ≤ 16 = rw (length-map δ action_byte) (let h = ok.1 in omega arith) in
    let p = length_padded 16 (map action_byte δ) n in
    rw (cut_forth 18 (number M ∷ length δ ∷ padded 16 (map action_byte δ)) rest (omega arith), leaf_forth ts M δ ok)
tree_forth ts (fork l r) (suc f) rest ok h =
    let n = length-append (tree_bytes l) (tree_bytes r) in
    rw (append_assoc (tree_bytes l) (tree_bytes r) rest, tree_forth ts l f (tree_bytes r ++ rest) ok.0 (omega arith), tree_forth ts r f rest ok.1 (omega arith))

-- ---- how many bytes

-- 19 bytes a leaf and 1 a fork: fewer than 20 for each branch
pub tree_size : (ts : List Term) (t : Tree) → TreeOk ts t → length (tree_bytes t) + 1 ≤ 20 * branches_of t
unfolding tree_bytes TreeOk branches_of
tree_size ts (leaf M δ) ok =
    let b = branches_positive M in
    let n : length (map action_byte δ) ≤ 16 = rw (length-map δ action_byte) (let h = ok.1 in omega arith) in
    let p = length_padded 16 (map action_byte δ) n in omega arith
tree_size ts (fork l r) ok =
    let n = length-append (tree_bytes l) (tree_bytes r) in
    let h = tree_size ts l ok.0 in
    let g = tree_size ts r ok.1 in omega arith

-- ---- each is a byte

actions_bytes : (δ : Log) → All (λ α. channel_of α < 16) δ → Bytes (map action_byte δ)
unfolding action_byte channel_of
actions_bytes [] h = tt
actions_bytes (rd a ∷ δ) h = let l = h.0 in (omega arith, actions_bytes δ h.1)
actions_bytes (wt a ∷ δ) h = let l = h.0 in (omega arith, actions_bytes δ h.1)

pub padded_bytes : (n : ℕ) (bs : List ℕ) → Bytes bs → Bytes (padded n bs)
unfolding padded
padded_bytes n bs h = all_append _ bs _ h (all_replicate _ (n - length bs) 0 (omega arith))

pub tree_bytes_holds : (ts : List Term) → GoodTable ts → (t : Tree) → TreeOk ts t → Bytes (tree_bytes t)
unfolding tree_bytes TreeOk
tree_bytes_holds ts g (leaf M δ) ok =
    let l = ok.1 in
    let n = leaf_number ts g (number M) M ok.0 in
    (omega arith, (n.1, (omega arith, padded_bytes 16 (map action_byte δ) (actions_bytes δ ok.2))))
tree_bytes_holds ts g (fork l r) ok =
    (omega arith, all_append _ (tree_bytes l) (tree_bytes r) (tree_bytes_holds ts g l ok.0) (tree_bytes_holds ts g r ok.1))
