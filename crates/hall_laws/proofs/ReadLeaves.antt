-- Leaves: what the bytes of a log and of a leaf give.
-- Assumes nothing.
use Prim.Native.Nat.{ℕ, zero, suc, ◌+◌, ◌-◌, ◌≤◌, ◌<◌}
use native.Mathlib.Nat.{zero-add, suc-add}
use native.Mathlib.Omega.{arith}
use mathlib.Core.Path.{◌≡◌, refl, sym, ap, ◌∙◌}
use mathlib.Core.Bool.{Bool, true, false, cond, ◌&&◌}
use mathlib.Core.Option.{Option, none, some}
use mathlib.Core.List.{List, [], ◌∷◌}
use lib.ListN.{length, get_or, take, drop}
use lib.Seq.{get_or-take, get_or-drop, drop-drop, take-nil, drop-cons}
use lib.Dec.{leb, ltb, eqb}
use borrow.Author.Tests.{ltb-true, ltb-false, lt-ltb, le-ltb, le-leb, lt-leb, eq-eqb, ne_eqb}
use Rattle.calculus.specs.Syntax.{rd, wt, Log}
use Rattle.semantics.specs.Definitions.Basics.{only_if, zeros}
use mathlib.Core.Option.{bind}
use Rattle.semantics.specs.Definitions.Terms.{Expression, Term, path_length}
use Rattle.semantics.specs.Definitions.Configuration.{Tree, leaf}
use Rattle.semantics.specs.Definitions.Stored.{action_of, log_of, leaf_expression, leaf_from}
use Rattle.hall_layout.specs.Layout.{action_bytes, log_size, leaf_term, leaf_log_length, leaf_log, leaf_head, leaf_body, write_offset}
use Rattle.hall_laws.specs.ReadParts.{there, is_log}

-- ---- logs, byte by byte

-- what byte number i of a log of so many actions is below: behind the log all is zero
unfoldable pub limit_at : (size i : ℕ) → ℕ
limit_at size i = cond (ltb i size) action_bytes 1

zero_test : (x : ℕ) → eqb 0 x ≡ ltb x 1
zero_test x = go (ltb x 1) refl
  where
    go : (b : Bool) → ltb x 1 ≡ b → eqb 0 x ≡ b
    go true e = let h = ltb-true x 1 e in eq-eqb 0 x (omega arith)
    go false e = let h = ltb-false x 1 e in ne_eqb 0 x (λ z. omega arith)

action_there : (x : ℕ) → there (action_of x) ≡ ltb x action_bytes
unfolding there action_of only_if
action_there x = go (ltb x write_offset) refl (ltb x action_bytes) refl
  where
    go : (a : Bool) → ltb x write_offset ≡ a → (b : Bool) → ltb x action_bytes ≡ b → there (cond a (some (rd x)) (only_if b (wt (x - write_offset)))) ≡ b
    go true p b q = let h = ltb-true x write_offset p in sym (lt-ltb x action_bytes (omega arith)) ∙ q
    go false p true q = refl
    go false p false q = refl

both_there : {A B C : Type 0} (k : A → B → C) (o : Option A) (p : Option B) (b : Bool) →
    (there (bind o (λ a. bind p (λ b. some (k a b)))) && b) ≡ (there o && (there p && b))
unfolding there bind
both_there k none p b = refl
both_there k (some a) none b = refl
both_there k (some a) (some c) b = refl

-- no byte
log_none : (size : ℕ) → is_log size [] ≡ true
unfolding is_log there log_of zeros
log_none zero = refl
log_none (suc size) = refl

-- the first byte
log_first : (size x : ℕ) (xs : List ℕ) → is_log size (x ∷ xs) ≡ (ltb x (limit_at size 0) && is_log (size - 1) xs)
unfolding is_log log_of zeros limit_at
log_first zero x xs = let z : 0 - 1 ≡ 0 = omega arith in rw (z, zero_test x)
log_first (suc size) x xs =
    let z : suc size - 1 ≡ size = omega arith in
    both_there (λ α δ. α ∷ δ) (action_of x) (log_of (take size xs)) (zeros (drop size xs)) ∙ rw (z, lt-ltb 0 (suc size) (omega arith), action_there x)

limit_later : (size i : ℕ) → limit_at (size - i) 0 ≡ limit_at size i
unfolding limit_at
limit_later size i = go (ltb i size) refl
  where
    go : (b : Bool) → ltb i size ≡ b → ◌≡◌ {A = ℕ} (cond (ltb 0 (size - i)) action_bytes 1) (cond b action_bytes 1)
    go true e = let h = ltb-true i size e in rw (lt-ltb 0 (size - i) (omega arith))
    go false e = let h = ltb-false i size e in rw (le-ltb 0 (size - i) (omega arith))

-- the bytes of a log from number i on
abbrev pub log_from : List ℕ → (at size i : ℕ) → Bool
log_from s at size i = is_log (size - i) (take (log_size - i) (drop (at + i) s))

module _ (s : List ℕ) (at size : ℕ) where
  pub log_start : is_log size (take log_size (drop at s)) ≡ log_from s at size 0
  log_start =
      let a : size - 0 ≡ size = omega arith in
      let b : log_size - 0 ≡ log_size = omega arith in
      let c : at + 0 ≡ at = omega arith in rw (a, b, c)

  pub log_next : (i : ℕ) → i < log_size → at + log_size ≤ length s → log_from s at size i ≡ (ltb (get_or s (at + i) 0) (limit_at size i) && log_from s at size (i + 1))
  log_next i h k =
      let a : log_size - i ≡ suc (log_size - (i + 1)) = omega arith in
      let b : size - i - 1 ≡ size - (i + 1) = omega arith in
      let c : suc (at + i) ≡ at + (i + 1) = omega arith in
      rw (a, drop-cons s (at + i) 0 (omega arith), c) (log_first (size - i) _ _ ∙ rw (limit_later size i, b))

  pub log_end : (i : ℕ) → log_size ≤ i → log_from s at size i ≡ true
  log_end i h = let a : log_size - i ≡ 0 = omega arith in rw a (log_none (size - i))

-- ---- a leaf

drop_take : (m n : ℕ) (l : List ℕ) → drop m (take (m + n) l) ≡ take n (drop m l)
drop_take zero n l = rw zero-add
drop_take (suc m) n [] = rw suc-add (sym (take-nil n))
drop_take (suc m) n (x ∷ l) = rw suc-add (drop_take m n l)

module _ (ts : List Term) (s : List ℕ) (at : ℕ) where
  -- the 18 bytes behind its kind; its log's length, and the 16 bytes of the log
  abbrev pub body_bytes : List ℕ
  body_bytes = take leaf_body (drop (at + leaf_term) s)

  abbrev size : ℕ
  size = get_or s (at + leaf_log_length) 0

  abbrev log : List ℕ
  log = take log_size (drop (at + leaf_log) s)

  leaf_parts : leaf_from ts body_bytes ≡
      bind (leaf_expression ts (get_or s (at + leaf_term) 0)) (λ M.
      bind (log_of (take size log)) (λ δ.
      only_if (leb (size + path_length M) log_size && zeros (drop size log)) (leaf M δ)))
  unfolding leaf_from
  leaf_parts =
      let byte : (i : ℕ) → i < leaf_body → get_or body_bytes i 0 ≡ get_or s (at + (1 + i)) 0 = λ i h.
      let q : at + leaf_term + i ≡ at + (1 + i) = omega arith in get_or-take leaf_body (drop (at + leaf_term) s) i 0 h ∙ get_or-drop (at + leaf_term) s i 0 ∙ ap (λ j. get_or s j 0) q in
      let r : drop leaf_head body_bytes ≡ log =
      let q : at + leaf_term + leaf_head ≡ at + leaf_log = omega arith in drop_take leaf_head log_size (drop (at + leaf_term) s) ∙ ap (take log_size) (drop-drop leaf_head (at + 1) s ∙ ap (λ j. drop j s) q) in
      rw (byte 0 (omega arith), byte 1 (omega arith), r)

  pub leaf_unknown : leaf_expression ts (get_or s (at + leaf_term) 0) ≡ none → leaf_from ts body_bytes ≡ none
  unfolding bind
  leaf_unknown e = leaf_parts ∙ rw e refl

  module _ (M : Expression) (e : leaf_expression ts (get_or s (at + leaf_term) 0) ≡ some M) where
    pub leaf_long : log_size < size + path_length M → leaf_from ts body_bytes ≡ none
    unfolding bind only_if
    leaf_long h = leaf_parts ∙ rw (e, lt-leb (size + path_length M) log_size h) (go (log_of (take size log)))
      where
        go : (o : Option Log) → ◌≡◌ {A = Option Tree} (bind o (λ δ. none)) none
        go none = refl
        go (some δ) = refl

    -- the log is in order, and there is a leaf, or neither
    abbrev pub LeafOf : Bool → Option Tree → Type 0
    LeafOf true o = (δ : Log) × (o ≡ some (leaf M δ))
    LeafOf false o = o ≡ none

    pub leaf_log_holds : size + path_length M ≤ log_size → LeafOf (is_log size log) (leaf_from ts body_bytes)
    unfolding bind only_if there is_log
    leaf_log_holds h = rw (leaf_parts, e, le-leb (size + path_length M) log_size h) (go (log_of (take size log)) (zeros (drop size log)))
      where
        go : (o : Option Log) (z : Bool) → LeafOf (there o && z) (bind o (λ δ. only_if z (leaf M δ)))
        go none true = refl
        go none false = refl
        go (some δ) true = (δ, refl)
        go (some δ) false = refl
