-- The component at an offset: the kinds of terms that it may name, and a law for each return of its scan.
-- Assumes nothing.
use Prim.Native.Nat.{ℕ, suc, ◌+◌, ◌≤◌, ◌<◌}
use native.Mathlib.Omega.{arith}
use mathlib.Core.Path.{◌≡◌, refl, sym, ap, ◌∙◌}
use mathlib.Core.Bool.{Bool, true, false, cond}
use mathlib.Core.Option as math
use mathlib.Core.Option.{none, some}
use mathlib.Core.List.{List}
use Rattle.std.specs.Prelude.{Option, None, Some}
use Rattle.std.specs.Bool.{then_some}
use lib.ListN.{length, get_or, take, drop, get_elem?, length-drop, drop_of_length-le}
use lib.Dec.{leb, ltb, eqb}
use borrow.Author.Tests.{eqb-false, ltb-true, ltb-false, lt-ltb, le-ltb, le-leb, lt-leb, eq-eqb, ne_eqb}
use Rattle.calculus.specs.Syntax.{State}
use Rattle.semantics.specs.Definitions.Basics.{only_if}
use mathlib.Core.Option.{bind}
use Rattle.semantics.specs.Definitions.Terms.{Term}
use Rattle.semantics.specs.Definitions.Configuration.{Idle, Tree, Component, idle, branches_of}
use Rattle.semantics.specs.Definitions.Stored.{channels, split_bytes, tree_from, waiting_component, transaction_on, transaction_c, component_kind, component_from}
use Rattle.theorems.proofs.Lists.{found_below, none_past}
use Rattle.table_terms.specs.Decoded.{kind_at, Decoded}
use Rattle.hall_layout.specs.Layout as layout
use Rattle.hall_laws.specs.ReadParts.{there, first_component, kind_in, waits}
use Rattle.hall_laws.proofs.Cursors.{here}
use Rattle.hall_laws.proofs.ReadTrees.{cut_there, cut_short}
use Rattle.hall_laws.proofs.TermKinds.{term_kind_holds, waiting_kinds, block_kind}
use Rattle.hall_nodes.specs.NodeTests.{EachTable}
use Rattle.hall_check.specs.Scans.{KindIs, KindRead, EndsFrom, TreeIs, TreeRead, ComponentIs, ComponentRead}
use Rattle.semantics.specs.Definitions.Table.{take_k, repeat_k, atom_k}
use Rattle.table_records.specs.Shapes.{kind_byte}

-- ---- terms

module _ (d : List ℕ) (n byte i : ℕ) (e : i ≡ byte) where
  pub kind_there : (k : ℕ) → k ≡ kind_at d i → i < n → KindRead d n byte (Some k)
  unfolding kind_in
  kind_there k q h = record { found = λ ts x c. go ts x c (get_elem? ts byte) refl }
    where
      go : (ts : List Term) → Decoded ts d → length ts ≡ n → (o : math.Option Term) → get_elem? ts byte ≡ o → KindIs (Some k) o
      go ts x c none p = let l = none_past ts byte p in absurd (omega arith)
      go ts x c (some t) p = q ∙ rw e (term_kind_holds ts d x byte t p)

  pub kind_none : n ≤ i → KindRead d n byte None
  kind_none h = record { found = λ ts x c. go ts c (get_elem? ts byte) refl }
    where
      go : (ts : List Term) → length ts ≡ n → (o : math.Option Term) → get_elem? ts byte ≡ o → KindIs None o
      go ts c none p = tt
      go ts c (some t) p = let l = found_below ts byte t p in absurd (omega arith)

-- of a kind that is told, and of none
kind_told : (k : ℕ) (o : math.Option Term) → KindIs (Some k) o → k ≡ kind_in o
kind_told k none q = absurd q
kind_told k (some t) q = q

not_waited_on : (o : math.Option Term) → KindIs None o → there (waiting_component o) ≡ false
unfolding there waiting_component
not_waited_on none q = refl
not_waited_on (some t) q = absurd q

not_begun : (o : math.Option Term) (σ : State) (t : Tree) → KindIs None o → there (transaction_on (waiting_component o) σ t) ≡ false
unfolding there transaction_on waiting_component
not_begun none σ t q = refl
not_begun (some u) σ t q = absurd q

-- takes have the numbers from the plain one's to the repeated one's
pub waits_takes : (k : ℕ) → kind_byte take_k ≤ k → k ≤ kind_byte repeat_k → true ≡ waits k
unfolding waits
waits_takes k f t = go (eqb k (kind_byte take_k)) refl
  where
    go : (b : Bool) → eqb k (kind_byte take_k) ≡ b → true ≡ cond b true (cond (eqb k (kind_byte repeat_k)) true (eqb k (kind_byte atom_k)))
    go true e = refl
    go false e = let m = eqb-false k (kind_byte take_k) e in rw (eq-eqb k (kind_byte repeat_k) (omega arith))

pub waits_block : (k : ℕ) → k ≡ kind_byte atom_k → true ≡ waits k
unfolding waits
waits_block k e = rw e

pub waits_no_other : (k : ℕ) → (k ≡ kind_byte take_k → ⊥) → (k ≡ kind_byte repeat_k → ⊥) → (k ≡ kind_byte atom_k → ⊥) → false ≡ waits k
unfolding waits
waits_no_other k a b c = rw (ne_eqb k (kind_byte take_k) a, ne_eqb k (kind_byte repeat_k) b, ne_eqb k (kind_byte atom_k) c)

-- ---- the component

given_none : {A B : Type 0} (o : math.Option A) (k : A → math.Option B) → ((a : A) → k a ≡ none) → bind o k ≡ none
unfolding bind
given_none none k h = refl
given_none (some a) k h = h a

none_given : {A B : Type 0} (o : math.Option A) (k : A → math.Option B) → there o ≡ false → bind o k ≡ none
unfolding bind there
none_given none k h = refl
none_given (some a) k h = let z : ◌≡◌ {A = ℕ} 0 1 = cc in absurd (omega arith)

module _ (d : List ℕ) (n : ℕ) (s : List ℕ) (at : ℕ) where
  -- nothing stands behind its kind
  pub component_short : at < length s → length s < at + layout.idle_size → ComponentRead d n s at None
  unfolding first_component
  component_short h l = record { ends = tt; found = λ ts x c. rw (here s at h, drop_of_length-le s {i = at + 1} (omega arith)) tt }

  module _ (h : at + layout.idle_size ≤ length s) where
    -- its kind and the byte behind it
    abbrev kind : ℕ
    kind = get_or s at 0

    abbrev body : ℕ
    body = get_or s (at + layout.component_body) 0

    read_by : (ts : List Term) → first_component ts (drop at s) ≡ component_from ts (component_kind kind) body (drop (at + layout.idle_size) s)
    unfolding first_component
    read_by ts =
        let p : at + layout.component_body + 1 ≡ at + layout.idle_size = omega arith in
        rw (here s at (omega arith), here s (at + 1) (omega arith), p)

    -- ---- 20 and 24

    module _ (e : kind ≡ layout.waiting_kind) where
      component_waiting : EachTable d n (λ ts. there (waiting_component (get_elem? ts body)) ≡ true) → ComponentRead d n s at (Some (at + layout.idle_size))
      unfolding component_kind component_from bind there
      component_waiting w = record { ends = (omega arith, h); found = λ ts x c. rw (read_by ts, e) (go (waiting_component (get_elem? ts body)) (w ts x c)) }
        where
          go : (o : math.Option Idle) → there o ≡ true → ComponentIs s (Some (at + layout.idle_size)) (bind o (λ c. some (idle c, drop (at + layout.idle_size) s)))
          go none p = let z : ◌≡◌ {A = ℕ} 0 1 = cc in absurd (omega arith)
          go (some c) p = refl

      component_not_waiting : EachTable d n (λ ts. there (waiting_component (get_elem? ts body)) ≡ false) → ComponentRead d n s at None
      unfolding component_kind component_from bind there
      component_not_waiting w = record { ends = tt; found = λ ts x c. rw (read_by ts, e) (go (waiting_component (get_elem? ts body)) (w ts x c)) }
        where
          go : (o : math.Option Idle) → there o ≡ false → ComponentIs s None (bind o (λ c. some (idle c, drop (at + layout.idle_size) s)))
          go none p = tt
          go (some c) p = let z : ◌≡◌ {A = ℕ} 0 1 = cc in absurd (omega arith)

      pub component_on_no_term : KindRead d n body None → ComponentRead d n s at None
      component_on_no_term q = component_not_waiting (λ ts x c. not_waited_on (get_elem? ts body) (q.found ts x c))

      pub component_by_kind : (k : ℕ) → KindRead d n body (Some k) → (w : Bool) → w ≡ waits k → (r : Option ℕ) → r ≡ then_some w (at + layout.idle_size) →
          ComponentRead d n s at r
      component_by_kind k q w v r p = rw p (go w refl)
        where
          waited_on : EachTable d n (λ ts. there (waiting_component (get_elem? ts body)) ≡ w)
          waited_on ts x c = waiting_kinds (get_elem? ts body) ∙ sym (v ∙ ap waits (kind_told k (get_elem? ts body) (q.found ts x c)))

          go : (b : Bool) → w ≡ b → ComponentRead d n s at (then_some b (at + layout.idle_size))
          go true f = component_waiting (λ ts x c. waited_on ts x c ∙ f)
          go false f = component_not_waiting (λ ts x c. waited_on ts x c ∙ f)

    pub component_output : kind ≡ layout.output_kind → (a : ℕ) → a ≡ body → (r : Option ℕ) → r ≡ then_some (ltb a layout.channels) (at + layout.idle_size) →
        ComponentRead d n s at r
    unfolding component_kind component_from only_if
    component_output e a p r q = rw q (go (ltb a layout.channels) refl)
      where
        go : (b : Bool) → ltb a layout.channels ≡ b → ComponentRead d n s at (then_some b (at + layout.idle_size))
        go true f = record {
          ends = (omega arith, h);
          found = λ ts x c. let l = ltb-true a layout.channels f in rw (read_by ts, e, lt-ltb body layout.channels (omega arith)) refl;
        }
        go false f = record {
          ends = tt;
          found = λ ts x c. let l = ltb-false a layout.channels f in rw (read_by ts, e, le-ltb body layout.channels (omega arith)) tt;
        }

    -- ---- 21

    module _ (e : kind ≡ layout.transaction_kind) where
      -- the bound on the depth of its tree
      abbrev depth : ℕ
      depth = suc (length (drop (at + layout.idle_size) s))

      -- whether a transaction is of what is named: of a block alone
      Begun : Bool → Type 0
      Begun b = EachTable d n (λ ts. (σ : State) (t : Tree) → there (transaction_on (waiting_component (get_elem? ts body)) σ t) ≡ b)

      begun_there : (k : ℕ) → KindRead d n body (Some k) → (b : Bool) → eqb k (kind_byte atom_k) ≡ b → Begun b
      unfolding Begun
      begun_there k q b f ts x c σ t =
          block_kind (get_elem? ts body) σ t ∙ ap (λ i. eqb i (kind_byte atom_k)) (sym (kind_told k (get_elem? ts body) (q.found ts x c))) ∙ f

      component_not_begun : Begun false → ComponentRead d n s at None
      unfolding component_kind component_from Begun
      component_not_begun none_there = record {
        ends = tt;
        found = λ ts x c.
            let all : component_from ts transaction_c body (drop (at + layout.idle_size) s) ≡ none =
            given_none (split_bytes layout.channels (drop (at + layout.idle_size) s)) _ (λ σ. given_none (tree_from depth ts σ.1) _ (λ t.
            none_given _ (λ c. only_if (leb (branches_of t.0) layout.max_branches) (c, t.1)) (none_there ts x c σ.0 t.0))) in
            rw (read_by ts, e, all) tt;
      }

      pub component_of_no_term : KindRead d n body None → ComponentRead d n s at None
      unfolding Begun
      component_of_no_term q = component_not_begun (λ ts x c σ t. not_begun (get_elem? ts body) σ t (q.found ts x c))

      pub component_no_block : (k : ℕ) → KindRead d n body (Some k) → (k ≡ kind_byte atom_k → ⊥) → ComponentRead d n s at None
      component_no_block k q f = component_not_begun (begun_there k q false (ne_eqb k (kind_byte atom_k) f))

      -- its snapshot is cut short
      pub component_cut : length s < at + layout.transaction_head → ComponentRead d n s at None
      unfolding component_kind component_from bind
      component_cut l = record { ends = tt; found = λ ts x c. rw (read_by ts, e, cut_short s (at + layout.idle_size) layout.channels (omega arith) (omega arith)) tt }

      pub component_tree : (k : ℕ) → KindRead d n body (Some k) → k ≡ kind_byte atom_k → at + layout.transaction_head ≤ length s → (r : Option ℕ) → TreeRead d n s (at + layout.transaction_head) r → ComponentRead d n s at r
      unfolding component_kind component_from bind only_if there Begun
      component_tree k q f l r w = record {
        ends = behind r w.ends;
        found = λ ts x c.
            let z : at + layout.idle_size + layout.channels ≡ at + layout.transaction_head = omega arith in
            rw (read_by ts, e, cut_there s (at + layout.idle_size) layout.channels (omega arith), z)
            (go (transaction_on (waiting_component (get_elem? ts body)) (take layout.channels (drop (at + layout.idle_size) s))) (begun_there k q true (eq-eqb k (kind_byte atom_k) f) ts x c (take layout.channels (drop (at + layout.idle_size) s))) (tree_from depth ts (drop (at + layout.transaction_head) s)) r
            (w.found ts x c depth (rw (length-drop (at + layout.idle_size) s) (omega arith))));
      }
        where
          behind : (r : Option ℕ) → EndsFrom s (at + layout.transaction_head) r → EndsFrom s (suc at) r
          behind (Some i) g = (omega arith, g.1)
          behind None g = tt

          block_of : (t : Tree × List ℕ) (r : Option ℕ) → TreeIs s r (some t) → (o : math.Option Component) → there o ≡ true →
              ComponentIs s r (bind o (λ c. only_if (leb (branches_of t.0) layout.max_branches) (c, t.1)))
          block_of t r g none p = let z : ◌≡◌ {A = ℕ} 0 1 = cc in absurd (omega arith)
          block_of t (Some i) g (some c) p = rw (le-leb (branches_of t.0) layout.max_branches g.0) g.1
          block_of t None g (some c) p = rw (lt-leb (branches_of t.0) layout.max_branches g) tt

          go : (B : Tree → math.Option Component) → ((t : Tree) → there (B t) ≡ true) → (o : math.Option (Tree × List ℕ)) (r : Option ℕ) → TreeIs s r o →
              ComponentIs s r (bind o (λ t. bind (B t.0) (λ c. only_if (leb (branches_of t.0) layout.max_branches) (c, t.1))))
          go B b none (Some i) g = absurd g
          go B b none None g = tt
          go B b (some t) r g = block_of t r g (B t.0) (b t.0)

    -- ---- no other

    pub component_other : (kind ≡ layout.waiting_kind → ⊥) → (kind ≡ layout.output_kind → ⊥) → (kind ≡ layout.transaction_kind → ⊥) → ComponentRead d n s at None
    unfolding component_kind component_from
    component_other a b c = record { ends = tt; found = λ ts x l. rw (read_by ts, ne_eqb kind layout.waiting_kind a, ne_eqb kind layout.output_kind b, ne_eqb kind layout.transaction_kind c) tt }
