-- The components behind an offset: the first of them, how many bytes it took, those that follow it, and the
-- configuration.
-- Assumes nothing.
use Prim.Native.Nat.{ℕ, zero, suc, ◌+◌, ◌≤◌, ◌<◌}
use native.Mathlib.Omega.{arith}
use mathlib.Core.Path.{◌≡◌, refl, ap, ◌∙◌}
use mathlib.Core.Option.{Option, none, some}
use mathlib.Core.List.{List, [], ◌∷◌, ◌++◌, append_assoc, append-nil}
use lib.ListN.{length, get_or, take, drop, get_elem?, length-append, drop_of_length-le}
use lib.Dec.{leb, ltb}
use borrow.Author.Tests.{le-leb, lt-leb}
use Rattle.calculus.specs.Syntax.{State}
use Rattle.semantics.specs.Definitions.Basics.{only_if, zeros}
use mathlib.Core.Option.{bind}
use Rattle.semantics.specs.Definitions.Terms.{Term}
use Rattle.semantics.specs.Checks.AcceptedTables.{GoodTable}
use Rattle.semantics.specs.Definitions.Configuration.{Idle, taking, repeating, block, output, Tree, Component, idle, transaction, branches_of}
use Rattle.semantics.specs.Definitions.Stored.{channels, tree_bytes, component_bytes, split_bytes, tree_from, waiting_component, transaction_on, ComponentKind, waiting_c, output_c, transaction_c, other_c, component_kind, component_from, components_from, configuration_of}
use Rattle.theorems.proofs.ByteReads.{given_some, provided_some}
use Rattle.theorems.proofs.Trees.{cut_back, tree_back}
use Rattle.hall_layout.specs.Layout as layout
use Rattle.hall_laws.specs.ReadParts.{first_component, configured}
use Rattle.hall_laws.proofs.Cursors.{here}
use Rattle.hall_laws.proofs.ReadTrees.{cut_there, cut_short}

-- ---- the bytes of the first

idle_bytes_holds : (c : Idle) → length (component_bytes (idle c)) ≡ layout.idle_size
unfolding component_bytes
idle_bytes_holds (taking n a P) = refl
idle_bytes_holds (repeating n a P) = refl
idle_bytes_holds (block n M) = refl
idle_bytes_holds (output a) = refl

begun_bytes_holds : (o : Option Idle) (σ : State) (t : Tree) (c : Component) → transaction_on o σ t ≡ some c → length (component_bytes c) ≡ 2 + length σ + length (tree_bytes t)
unfolding transaction_on component_bytes
begun_bytes_holds none σ t c e = let z : ◌≡◌ {A = ℕ} 0 1 = cc in absurd (omega arith)
begun_bytes_holds (some (taking n a P)) σ t c e = let z : ◌≡◌ {A = ℕ} 0 1 = cc in absurd (omega arith)
begun_bytes_holds (some (repeating n a P)) σ t c e = let z : ◌≡◌ {A = ℕ} 0 1 = cc in absurd (omega arith)
begun_bytes_holds (some (block n M)) σ t c e = let z : transaction n M σ t ≡ c = cc in let l = length-append σ (tree_bytes t) in rw (← z) (omega arith)
begun_bytes_holds (some (output a)) σ t c e = let z : ◌≡◌ {A = ℕ} 0 1 = cc in absurd (omega arith)

module _ (ts : List Term) (g : GoodTable ts) where
  component_bytes_holds : (K : ComponentKind) (n : ℕ) (bs : List ℕ) (y : Component × List ℕ) → component_from ts K n bs ≡ some y →
      2 + length bs ≡ length (component_bytes y.0) + length y.1
  unfolding component_from
  component_bytes_holds waiting_c n bs y e =
      given_some (waiting_component (get_elem? ts n)) _ y e (λ c p e'.
      let z : (idle c, bs) ≡ y = cc in let l = idle_bytes_holds c in rw (← z) (omega arith))
  component_bytes_holds output_c a bs y e =
      let x = provided_some (ltb a layout.channels) _ y e in let l = idle_bytes_holds (output a) in rw (← x.1) (omega arith)
  component_bytes_holds transaction_c n bs y e =
      given_some (split_bytes layout.channels bs) _ y e (λ s p e'.
      given_some (tree_from (suc (length bs)) ts s.1) _ y e' (λ t q e''.
      given_some (transaction_on (waiting_component (get_elem? ts n)) s.0 t.0) _ y e'' (λ c r e'''.
      let x = provided_some (leb (branches_of t.0) layout.max_branches) (c, t.1) y e''' in
      let h = ap length (cut_back layout.channels bs s p).1 ∙ length-append s.0 s.1 in
      let u = ap length (tree_back ts g (suc (length bs)) s.1 t q).0 ∙ length-append (tree_bytes t.0) t.1 in
      let v = begun_bytes_holds (waiting_component (get_elem? ts n)) s.0 t.0 c r in
      rw (← x.1) (omega arith))))
  component_bytes_holds other_c n bs y e = let z : ◌≡◌ {A = ℕ} 0 1 = cc in absurd (omega arith)

  -- a component takes its bytes
  pub first_bytes : (bs : List ℕ) (y : Component × List ℕ) → first_component ts bs ≡ some y → length bs ≡ length (component_bytes y.0) + length y.1
  unfolding first_component
  first_bytes [] y e = let z : ◌≡◌ {A = ℕ} 0 1 = cc in absurd (omega arith)
  first_bytes (k ∷ []) y e = let z : ◌≡◌ {A = ℕ} 0 1 = cc in absurd (omega arith)
  first_bytes (k ∷ n ∷ bs) y e = let l = component_bytes_holds (component_kind k) n bs y e in omega arith

-- ---- the components

module _ (ts : List Term) (s : List ℕ) (at f : ℕ) where
  pub components_end : length s ≤ at → components_from (suc f) ts (drop at s) ≡ some []
  unfolding components_from
  components_end h = rw (drop_of_length-le s h)

  module _ (h : at < length s) where
    -- a zero byte: only zeros follow
    pub components_zeros : get_or s at 0 ≡ 0 → components_from (suc f) ts (drop at s) ≡ only_if (zeros (drop at s)) []
    unfolding components_from zeros
    components_zeros e = rw (here s at h, e)

    -- another: a component, and others behind it
    pub components_first : (get_or s at 0 ≡ 0 → ⊥) →
        components_from (suc f) ts (drop at s) ≡ bind (first_component ts (drop at s)) (λ c. bind (components_from f ts c.1) (λ cs. some (c.0 ∷ cs)))
    unfolding components_from first_component bind
    components_first e = rw (here s at h) (go (get_or s at 0) (drop (at + 1) s) e)
      where
        go : (k : ℕ) (bs : List ℕ) → (k ≡ 0 → ⊥) →
            components_from (suc f) ts (k ∷ bs) ≡ bind (first_component ts (k ∷ bs)) (λ c. bind (components_from f ts c.1) (λ cs. some (c.0 ∷ cs)))
        go zero bs e = absurd (e refl)
        go (suc k) [] e = refl
        go (suc k) (n ∷ bs) e = refl

-- ---- the configuration

module _ (σ : State) (read : List Component) where
  pub configured_all : length read ≤ layout.max_components → configured σ read (some []) ≡ some (record { counts = σ; components = read })
  unfolding configured bind only_if
  configured_all h = rw (append-nil read, le-leb (length read) layout.max_components h)

  module _ (c : Component) where
    pub configured_next : (o : Option (List Component)) → configured σ read (bind o (λ cs. some (c ∷ cs))) ≡ configured σ (read ++ (c ∷ [])) o
    unfolding configured bind
    configured_next none = refl
    configured_next (some cs) = rw (append_assoc read (c ∷ []) cs)

    pub configured_many : length read ≡ layout.max_components → (o : Option (List Component)) → configured σ read (bind o (λ cs. some (c ∷ cs))) ≡ none
    unfolding configured bind only_if
    configured_many h none = refl
    configured_many h (some cs) = let l = length-append read (c ∷ cs) in rw (lt-leb (length (read ++ (c ∷ cs))) layout.max_components (omega arith))

module _ (ts : List Term) (s : List ℕ) where
  pub configuration_short : length s < layout.channels → configuration_of ts s ≡ none
  unfolding configuration_of bind
  configuration_short h = rw (cut_short s 0 layout.channels (omega arith) (omega arith))

  pub configuration_start : layout.channels ≤ length s →
      configuration_of ts s ≡ configured (take layout.channels s) [] (components_from (suc (length s)) ts (drop layout.channels s))
  unfolding configuration_of bind configured
  configuration_start h = rw (cut_there s 0 layout.channels (omega arith))
