-- Round trips of the stored form: well-formed configurations and their 11,344 bytes are the same thing twice, and opening gives
-- a well-formed one.
-- Assumes nothing.
use Prim.Native.Nat.{ℕ, zero, suc, ◌-◌, ◌*◌, ◌≤◌, ◌<◌}
use native.Mathlib.Omega.{arith}
use mathlib.Core.Path.{◌≡◌, refl, sym, ap, subst, ◌∙◌}
use mathlib.Core.Bool.{Bool, true, false, cond}
use mathlib.Core.Option.{Option, none, some, bind}
use mathlib.Core.List.{List, [], ◌∷◌, ◌++◌, map, append_assoc, flatten}
use lib.ListN.{length, replicate, get_elem?, length-append, length-map}
use lib.Dec.{leb, ltb, eqb}
use borrow.Author.Tests.{leb-true, le-leb, eqb-true}
use Rattle.calculus.specs.Syntax.{State}
use Rattle.semantics.specs.Definitions.Basics.{only_if, padded, zeros, All, Bytes}
use Rattle.semantics.specs.Definitions.Terms.{Expression, Program, nil_t, put_t, take_t, repeat_t, par_t, atom_t, Term, process, expression, width}
use Rattle.semantics.specs.Definitions.Configuration.{Idle, taking, repeating, block, output, Tree, Component, idle, transaction, Configuration, branches_of, opens, opening}
use Rattle.semantics.specs.Definitions.Stored.{hall_bytes, tree_bytes, component_bytes, bytes_of, ComponentOk, split_bytes, tree_from, waiting_component, transaction_on, ComponentKind, waiting_c, output_c, transaction_c, other_c, component_kind, component_from, components_from, configuration_of}
use Rattle.semantics.specs.Checks.AcceptedTables.{program_number, term_number, ProgramIn, GoodTable}
use Rattle.semantics.specs.Checks.StoredForm.{WidthBoundsOpening, ReadBack, BytesDiffer, ReadIsWellFormed, WellFormedAgrees, StoredFits, OpeningIsWellFormed}
use Rattle.theorems.proofs.ByteReads.{given_some, provided_some, zeros_replicate, replicate_zeros}
use Rattle.theorems.proofs.GoodTable.{accepted_is_good, start_is_term, tokens_are_counts}
use Rattle.theorems.proofs.Trees.{cut_back, cut_forth, length_padded, padded_of, padded_bytes, tree_back, tree_forth, tree_size, tree_bytes_holds}
use Rattle.theorems.proofs.Lists.{all_append, all_left, all_right, found_below, all_map}

-- ---- from a configuration to bytes and back

-- a component in order is read back from its bytes, and reading goes on behind them
component_forth : (ts : List Term) (c : Component) → ComponentOk ts c → (f : ℕ) (rest : List ℕ) →
    components_from (suc f) ts (component_bytes c ++ rest) ≡ bind (components_from f ts rest) (λ cs. some (c ∷ cs))
unfolding ComponentOk components_from component_from component_kind component_bytes waiting_component transaction_on bind only_if
component_forth ts (idle (taking n a P)) ok f rest = rw ok
component_forth ts (idle (repeating n a P)) ok f rest = rw ok
component_forth ts (idle (block n M)) ok f rest = rw ok
component_forth ts (idle (output a)) ok f rest = rw (le-leb (suc a) 16 ok)
component_forth ts (transaction n M s t) ok f rest =
    let l = length-append s (tree_bytes t ++ rest) in
    let m = length-append (tree_bytes t) rest in
    rw (
      append_assoc s (tree_bytes t) rest,
      cut_forth 16 s (tree_bytes t ++ rest) ok.1.0,
      tree_forth ts t (suc (length (s ++ (tree_bytes t ++ rest)))) rest ok.2 (omega arith),
      ok.0,
      le-leb (branches_of t) 8 ok.3,
    )

components_forth : (ts : List Term) (cs : List Component) (f n : ℕ) → All (ComponentOk ts) cs → length cs < f →
    components_from f ts (flatten (map component_bytes cs) ++ replicate n 0) ≡ some cs
unfolding components_from flatten bind only_if
components_forth ts [] zero n ok l = absurd (omega arith)
components_forth ts (c ∷ cs) zero n ok l = absurd (omega arith)
components_forth ts [] (suc f) zero ok l = refl
components_forth ts [] (suc f) (suc n) ok l = rw (replicate_zeros n)
components_forth ts (c ∷ cs) (suc f) n ok l =
    rw (append_assoc (component_bytes c) (flatten (map component_bytes cs)) (replicate n 0), component_forth ts c ok.0 f _, components_forth ts cs f n ok.1 (omega arith))

-- ---- how many bytes, and each is one

component_size : (ts : List Term) (c : Component) → ComponentOk ts c → length (component_bytes c) ≤ 177
unfolding component_bytes ComponentOk
component_size ts (idle (taking n a P)) ok = omega arith
component_size ts (idle (repeating n a P)) ok = omega arith
component_size ts (idle (block n M)) ok = omega arith
component_size ts (idle (output a)) ok = omega arith
component_size ts (transaction n M s t) ok =
    let l = length-append s (tree_bytes t) in
    let h = ok.1.0 in
    let b = ok.3 in
    let g = tree_size ts t ok.2 in omega arith

components_size : (ts : List Term) (cs : List Component) → All (ComponentOk ts) cs → length (flatten (map component_bytes cs)) ≤ 177 * length cs
unfolding flatten
components_size ts [] ok = omega arith
components_size ts (c ∷ cs) ok =
    let l = length-append (component_bytes c) (flatten (map component_bytes cs)) in
    let h = component_size ts c ok.0 in
    let g = components_size ts cs ok.1 in omega arith

component_bytes_holds : (ts : List Term) → GoodTable ts → (c : Component) → ComponentOk ts c → Bytes (component_bytes c)
unfolding component_bytes ComponentOk
component_bytes_holds ts g (idle (taking n a P)) ok = let h = found_below ts n _ ok in let f = g.few in (omega arith, (omega arith, tt))
component_bytes_holds ts g (idle (repeating n a P)) ok = let h = found_below ts n _ ok in let f = g.few in (omega arith, (omega arith, tt))
component_bytes_holds ts g (idle (block n M)) ok = let h = found_below ts n _ ok in let f = g.few in (omega arith, (omega arith, tt))
component_bytes_holds ts g (idle (output a)) ok = (omega arith, (omega arith, tt))
component_bytes_holds ts g (transaction n M s t) ok =
    let h = found_below ts n _ ok.0 in
    let f = g.few in
    (omega arith, (omega arith, all_append _ s (tree_bytes t) ok.1.1 (tree_bytes_holds ts g t ok.2)))

components_bytes_holds : (ts : List Term) → GoodTable ts → (cs : List Component) → All (ComponentOk ts) cs → Bytes (flatten (map component_bytes cs))
unfolding flatten
components_bytes_holds ts g [] ok = tt
components_bytes_holds ts g (c ∷ cs) ok =
    all_append _ (component_bytes c) (flatten (map component_bytes cs)) (component_bytes_holds ts g c ok.0) (components_bytes_holds ts g cs ok.1)

pub stored_fits : StoredFits
unfolding bytes_of
stored_fits ts h g w =
    let l = length-append h.counts (flatten (map component_bytes h.components)) in
    let n = components_size ts h.components w.each in
    let k = w.few in
    let s = w.channel_counts.0 in
    let f : length (h.counts ++ flatten (map component_bytes h.components)) ≤ 11344 = omega arith in (
      f,
      length_padded 11344 (h.counts ++ flatten (map component_bytes h.components)) f,
      padded_bytes 11344 (h.counts ++ flatten (map component_bytes h.components))
          (all_append _ h.counts _ w.channel_counts.1 (components_bytes_holds ts g h.components w.each)),
    )

-- 16 counts and the components' bytes, with zeros behind them, are read back
configuration_forth : (ts : List Term) (σ : State) (cs : List Component) (n : ℕ) → length σ ≡ 16 → length cs ≤ 64 → All (ComponentOk ts) cs →
    64 ≤ length (σ ++ (flatten (map component_bytes cs) ++ replicate n 0)) →
    configuration_of ts (σ ++ (flatten (map component_bytes cs) ++ replicate n 0)) ≡ some (record { counts = σ; components = cs })
unfolding configuration_of bind only_if
configuration_forth ts σ cs n l few ok long =
    rw (
      cut_forth 16 σ (flatten (map component_bytes cs) ++ replicate n 0) l,
      components_forth ts cs (suc (length (σ ++ (flatten (map component_bytes cs) ++ replicate n 0)))) n ok (omega arith),
      le-leb (length cs) 64 few,
    )

-- a configuration's bytes are its counts, its components' bytes and zeros
bytes_parts : (h : Configuration) →
    bytes_of h ≡ h.counts ++ (flatten (map component_bytes h.components) ++ replicate (hall_bytes - length (h.counts ++ flatten (map component_bytes h.components))) 0)
unfolding bytes_of padded
bytes_parts h = append_assoc h.counts (flatten (map component_bytes h.components)) _

pub read_back : ReadBack
read_back ts h g w =
    let s = stored_fits ts h g w in
    let p = bytes_parts h in
    let n = hall_bytes - length (h.counts ++ flatten (map component_bytes h.components)) in
    let l : 64 ≤ length (h.counts ++ (flatten (map component_bytes h.components) ++ replicate n 0)) = rw (← p) (rw s.1 (omega arith)) in
    rw p (configuration_forth ts h.counts h.components n w.channel_counts.0 w.few w.each l)

pub bytes_differ : BytesDiffer
bytes_differ ts h k g w v e =
    let a = read_back ts h g w in
    let b = read_back ts k g v in cc

-- ---- from bytes to a configuration and back

-- the byte that a kind of component has
KindByte : ℕ → ComponentKind → Type 0
KindByte k waiting_c = k ≡ 20
KindByte k output_c = k ≡ 24
KindByte k transaction_c = k ≡ 21
KindByte k other_c = Unit {0}

kind_byte_holds : (k : ℕ) (K : ComponentKind) → component_kind k ≡ K → KindByte k K
unfolding component_kind KindByte
kind_byte_holds k K e = go (eqb k 20) refl (eqb k 24) refl (eqb k 21) refl (sym e)
  where
    go : (x : Bool) → eqb k 20 ≡ x → (y : Bool) → eqb k 24 ≡ y → (z : Bool) → eqb k 21 ≡ z →
        K ≡ cond x waiting_c (cond y output_c (cond z transaction_c other_c)) → KindByte k K
    go true p y q z r e = rw e (eqb-true k 20 p)
    go false p true q z r e = rw e (eqb-true k 24 q)
    go false p false q true r e = rw e (eqb-true k 21 r)
    go false p false q false r e = rw e tt

-- what was read is a component's bytes, and the component is in order
ComponentRead : List Term → List ℕ → Component × List ℕ → Type 0
ComponentRead ts bs y = (bs ≡ component_bytes y.0 ++ y.1) × ComponentOk ts y.0

-- a waiting component stands for the term at its number
waiting_back : (ts : List Term) → GoodTable ts → (n : ℕ) (c : Idle) → waiting_component (get_elem? ts n) ≡ some c →
    (component_bytes (idle c) ≡ 20 ∷ n ∷ []) × ComponentOk ts (idle c)
unfolding waiting_component component_bytes ComponentOk term_number
waiting_back ts g n c e = go (get_elem? ts n) refl e
  where
    go : (o : Option Term) → get_elem? ts n ≡ o → waiting_component o ≡ some c → (component_bytes (idle c) ≡ 20 ∷ n ∷ []) × ComponentOk ts (idle c)
    go none p q = let z : ◌≡◌ {A = ℕ} 0 1 = cc in absurd (omega arith)
    go (some (expression M)) p q = let z : ◌≡◌ {A = ℕ} 0 1 = cc in absurd (omega arith)
    go (some (process (nil_t m))) p q = let z : ◌≡◌ {A = ℕ} 0 1 = cc in absurd (omega arith)
    go (some (process (put_t m a))) p q = let z : ◌≡◌ {A = ℕ} 0 1 = cc in absurd (omega arith)
    go (some (process (take_t m a P))) p q =
        let z : taking m a P ≡ c = cc in
        let k = g.numbered n _ p in rw (← z) (rw k refl, ap (get_elem? ts) k ∙ p)
    go (some (process (repeat_t m a P))) p q =
        let z : repeating m a P ≡ c = cc in
        let k = g.numbered n _ p in rw (← z) (rw k refl, ap (get_elem? ts) k ∙ p)
    go (some (process (par_t m P Q))) p q = let z : ◌≡◌ {A = ℕ} 0 1 = cc in absurd (omega arith)
    go (some (process (atom_t m M))) p q =
        let z : block m M ≡ c = cc in
        let k = g.numbered n _ p in rw (← z) (rw k refl, ap (get_elem? ts) k ∙ p)

-- a transaction is of the block that waits
begun_back : (o : Option Idle) (s : State) (t : Tree) (c : Component) → transaction_on o s t ≡ some c →
    (n : ℕ) × (M : Expression) × (o ≡ some (block n M)) × (transaction n M s t ≡ c)
unfolding transaction_on
begun_back none s t c e = let z : ◌≡◌ {A = ℕ} 0 1 = cc in absurd (omega arith)
begun_back (some (taking n a P)) s t c e = let z : ◌≡◌ {A = ℕ} 0 1 = cc in absurd (omega arith)
begun_back (some (repeating n a P)) s t c e = let z : ◌≡◌ {A = ℕ} 0 1 = cc in absurd (omega arith)
begun_back (some (block n M)) s t c e = (n, M, refl, cc)
begun_back (some (output a)) s t c e = let z : ◌≡◌ {A = ℕ} 0 1 = cc in absurd (omega arith)

component_back : (ts : List Term) → GoodTable ts → (k : ℕ) (K : ComponentKind) → component_kind k ≡ K → (n : ℕ) (bs : List ℕ) → Bytes bs →
    (y : Component × List ℕ) → component_from ts K n bs ≡ some y → ComponentRead ts (k ∷ n ∷ bs) y
unfolding component_from component_bytes ComponentOk ComponentRead KindByte
component_back ts g k waiting_c d n bs b y e =
    let i = kind_byte_holds k waiting_c d in
    given_some (waiting_component (get_elem? ts n)) _ y e (λ c p e'.
    let z : (idle c, bs) ≡ y = cc in
    let h = waiting_back ts g n c p in
    rw (← z) (rw (i, h.0) refl, h.1))
component_back ts g k output_c d a bs b y e =
    let i = kind_byte_holds k output_c d in
    let x = provided_some (ltb a 16) _ y e in
    rw (← x.1) (rw i refl, leb-true (suc a) 16 x.0)
component_back ts g k transaction_c d n bs b y e =
    let i = kind_byte_holds k transaction_c d in
    given_some (split_bytes 16 bs) _ y e (λ s p e'.
    given_some (tree_from (suc (length bs)) ts s.1) _ y e' (λ t q e''.
    given_some (transaction_on (waiting_component (get_elem? ts n)) s.0 t.0) _ y e'' (λ c r e'''.
    let x = provided_some (leb (branches_of t.0) 8) (c, t.1) y e''' in
    let h = cut_back 16 bs s p in
    let u = tree_back ts g (suc (length bs)) s.1 t q in
    let v = begun_back (waiting_component (get_elem? ts n)) s.0 t.0 c r in
    let w = waiting_back ts g n (block v.0 v.1) v.2 in
    let m : v.0 ≡ n = cc in
    rw (← x.1) (rw (← v.3) (
      rw (i, h.1, u.0, m, append_assoc) refl,
      (w.1, (h.0, all_left _ s.0 s.1 (rw h.1 at b)), u.1, leb-true (branches_of t.0) 8 x.0),
    )))))
component_back ts g k other_c d n bs b y e = let z : ◌≡◌ {A = ℕ} 0 1 = cc in absurd (omega arith)

-- what was read is the components' bytes with zeros behind them, and each component is in order
record ComponentsRead (ts : List Term) (bs : List ℕ) (cs : List Component) : Type 0 where
  behind : ℕ
  bytes : bs ≡ flatten (map component_bytes cs) ++ replicate behind 0
  each : All (ComponentOk ts) cs

components_back : (ts : List Term) → GoodTable ts → (f : ℕ) (bs : List ℕ) → Bytes bs → (cs : List Component) → components_from f ts bs ≡ some cs →
    ComponentsRead ts bs cs
unfolding components_from flatten ComponentRead
components_back ts g zero bs b cs e = let z : ◌≡◌ {A = ℕ} 0 1 = cc in absurd (omega arith)
components_back ts g (suc f) [] b cs e = let z : [] ≡ cs = cc in rw (← z) (record { behind = 0; bytes = refl; each = tt })
components_back ts g (suc f) (zero ∷ bs) b cs e =
    let x = provided_some (zeros bs) [] cs e in
    rw (← x.1) (record { behind = suc (length bs); bytes = ap (◌∷◌ zero) (zeros_replicate bs x.0); each = tt })
components_back ts g (suc f) (suc k ∷ []) b cs e = let z : ◌≡◌ {A = ℕ} 0 1 = cc in absurd (omega arith)
components_back ts g (suc f) (suc k ∷ n ∷ bs) b cs e =
    given_some (component_from ts (component_kind (suc k)) n bs) _ cs e (λ c p e'.
    given_some (components_from f ts c.1) _ cs e' (λ ds q e''.
    let z : c.0 ∷ ds ≡ cs = cc in
    let h = component_back ts g (suc k) (component_kind (suc k)) refl n bs b.1.1 c p in
    let r = components_back ts g f c.1 (all_right _ (component_bytes c.0) c.1 (subst Bytes h.0 b)) ds q in
    rw (← z) (record { behind = r.behind; bytes = rw (append_assoc, ← r.bytes) h.0; each = (h.1, r.each) })))

pub read_is_well_formed : ReadIsWellFormed
unfolding configuration_of bytes_of
read_is_well_formed ts bs h g b l e =
    given_some (split_bytes 16 bs) _ h e (λ c p e'.
    given_some (components_from (suc (length bs)) ts c.1) _ h e' (λ cs q e''.
    let x = provided_some (leb (length cs) 64) (record { counts = c.0; components = cs }) h e'' in
    let u = cut_back 16 bs c p in
    let v = rw u.1 at b in
    let r = components_back ts g (suc (length bs)) c.1 (all_right _ c.0 c.1 v) cs q in
    rw (← x.1) (
      record { channel_counts = (u.0, all_left _ c.0 c.1 v); few = leb-true (length cs) 64 x.0; each = r.each },
      padded_of hall_bytes (c.0 ++ flatten (map component_bytes cs)) r.behind bs
          (u.1 ∙ ap (λ x. c.0 ++ x) r.bytes ∙ sym (append_assoc c.0 (flatten (map component_bytes cs)) _)) l,
    )))

pub well_formed_agrees : WellFormedAgrees
well_formed_agrees ts bs g b l = (
  λ x. let h = read_is_well_formed ts bs x.0 g b l x.1 in (x.0, h.0, h.1),
  λ x. (x.0, rw (← x.2) (read_back ts x.0 g x.1)),
)

-- ---- opening

-- a good table's process opens into components in order
pub opens_ok : {ts : List Term} → GoodTable ts → (P : Program) → ProgramIn ts P → All (λ c. ComponentOk ts (idle c)) (opens P)
unfolding opens ComponentOk program_number
opens_ok g (nil_t n) e = tt
opens_ok g (put_t n a) e = (g.channel n _ e, tt)
opens_ok g (take_t n a P) e = (e, tt)
opens_ok g (repeat_t n a P) e = (e, tt)
opens_ok g (par_t n P Q) e = let s = g.subterms n _ e in all_append _ (opens P) (opens Q) (opens_ok g P s.0) (opens_ok g Q s.1)
opens_ok g (atom_t n M) e = (e, tt)

-- at most as many as its width
pub width_bounds_opening : WidthBoundsOpening
unfolding opens width
width_bounds_opening (nil_t n) = omega arith
width_bounds_opening (put_t n a) = omega arith
width_bounds_opening (take_t n a P) = omega arith
width_bounds_opening (repeat_t n a P) = omega arith
width_bounds_opening (par_t n P Q) = let p = width_bounds_opening P in let q = width_bounds_opening Q in rw (length-append (opens P) (opens Q)) (omega arith)
width_bounds_opening (atom_t n M) = omega arith

pub opening_is_well_formed : OpeningIsWellFormed
unfolding opening
opening_is_well_formed bs t b e =
    let s = start_is_term bs t e in
    let few = width_bounds_opening t.start in
    record {
      channel_counts = tokens_are_counts bs t b e;
      few = rw (length-map (opens t.start) idle) (omega arith);
      each = all_map idle (ComponentOk t.terms) (opens t.start) (opens_ok (accepted_is_good bs t e) t.start s.0);
    }
