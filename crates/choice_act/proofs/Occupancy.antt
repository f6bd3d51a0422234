-- The occupant of a position, as the code reads it.
-- Assumes nothing.
use Rattle.std.specs.Prelude.{Some, None}
use Prim.Native.Nat.{ℕ, ◌+◌, ◌≤◌, ◌<◌}
use native.Mathlib.Omega.{arith}
use mathlib.Core.Path.{◌≡◌, ap, ◌∙◌}
use mathlib.Core.Bool.{Bool, true, false}
use mathlib.Core.Option.{some}
use mathlib.Core.List.{List}
use lib.ListN.{length, get_or, get_elem?}
use mir.Syntax.{w64}
use mir.Val.{Fits}
use Rattle.calculus.specs.Syntax.{Name}
use Rattle.semantics.specs.Definitions.Layout.{max_terms}
use Rattle.semantics.specs.Definitions.Terms.{Expression, Program, Term}
use Rattle.semantics.specs.Definitions.Configuration.{taking, repeating, block, output, Component, idle, transaction, Configuration}
use Rattle.semantics.specs.Definitions.Stored.{component_bytes}
use Rattle.semantics.specs.Definitions.Table.{atom_k}
use Rattle.semantics.specs.Checks.AcceptedTables.{kind_byte}
use Rattle.theorems.proofs.Lists.{found_below}
use Rattle.table_terms.specs.Decoded.{kind_at, Decoded}
use Rattle.hall_laws.specs.ReadParts.{term_kind}
use Rattle.hall_laws.proofs.TermKinds.{term_kind_holds}
use Rattle.hall_layout.specs.Layout.{waiting_kind, transaction_kind, output_kind, component_body}
use Rattle.hall_held.specs.Holds.{Holds, Running}
use Rattle.hall_held.proofs.Holds.{hall_length, WaitsOn, takes, repeats, blocks, component_at, no_component, component_inside, kind_here, output_here, transaction_here, waiting_here}
use Rattle.move_tokens.specs.Tokens.{take_of}
use Rattle.choice_act.specs.declared.occupants.Occupant.TheVariants.{Transaction, Output, Block, Take}
use Rattle.choice_act.specs.Occupants.{OccupantRead}

-- ---- the bytes there

-- the kind and the body of the component there
abbrev pub kind_held : (s starts : List ℕ) → ℕ → ℕ
kind_held s starts p = get_or s (get_or starts p 0) 0

abbrev pub body_held : (s starts : List ℕ) → ℕ → ℕ
body_held s starts p = get_or s (get_or starts p 0 + component_body) 0

module _ {d s starts : List ℕ} {n p : ℕ} (x : Running d s starts n) (l : p < n) where
  pub kind_inside : get_or starts p 0 < length s
  kind_inside = let (c, e) = component_at x.holds p l in let i = (component_inside x.holds p c e).0 in omega arith

  pub body_inside : get_or starts p 0 + component_body < length s
  body_inside = let (c, e) = component_at x.holds p l in let i = (component_inside x.holds p c e).0 in omega arith

pub body_fits : {d s starts : List ℕ} {n p : ℕ} → Running d s starts n → p < n →
    Fits w64 (get_or starts p 0 + component_body)
body_fits x l = let i = body_inside x l in let all = hall_length x.holds in record { fits = omega arith }

-- a component that is neither a transaction nor an output waits
waits : {s starts : List ℕ} {n p : ℕ} → p < n → (kind_held s starts p ≡ transaction_kind → ⊥) → (kind_held s starts p ≡ output_kind → ⊥) →
    {ts : List Term} {h : Configuration} → Holds ts h s starts n →
    (c : Component) × (get_elem? h.components p ≡ some c) × WaitsOn ts (body_held s starts p) c
unfolding component_bytes
waits {s} {starts} {n} {p} l no_transaction no_output x =
    let (c, e) = component_at x p l in (c, e, waiting_here x p c e (go c (kind_here x p c e)))
  where
    go : (c : Component) → kind_held s starts p ≡ get_or (component_bytes c) 0 0 → kind_held s starts p ≡ waiting_kind
    go (idle (taking m a P)) e = e
    go (idle (repeating m a P)) e = e
    go (idle (block m M)) e = e
    go (idle (output a)) e = absurd (no_output e)
    go (transaction m M σ t) e = absurd (no_transaction e)

-- the kind of a term, as the code reads it
kind_read : {d : List ℕ} {ts : List Term} {i k : ℕ} (m : ℕ) → i ≡ m → k ≡ kind_at d i → Decoded ts d → (t : Term) →
    get_elem? ts m ≡ some t →
    k ≡ term_kind t
kind_read {d} {ts} m named read y t f = read ∙ rw named (term_kind_holds ts d y m t f)

-- ---- the occupant

module _ {d s starts : List ℕ} {n p : ℕ} where
  pub nothing_read : n ≤ p → OccupantRead d s starts n p None
  nothing_read l = record { found = λ ts h y x. no_component x p l }

  module _ (l : p < n) where
    pub transaction_read : kind_held s starts p ≡ transaction_kind → OccupantRead d s starts n p (Some Transaction)
    transaction_read k = record {
      found = λ ts h y x.
          let (c, e) = component_at x p l in
          let (M, σ, t, same) = transaction_here x p c e k in
          (body_held s starts p, M, σ, t, e ∙ ap some same);
    }

    pub output_read : kind_held s starts p ≡ output_kind → OccupantRead d s starts n p (Some (Output (body_held s starts p)))
    output_read k = record {
      found = λ ts h y x.
          let (c, e) = component_at x p l in e ∙ ap some (output_here x p c e k);
    }

    -- one that is neither waits
    module _ (no_transaction : kind_held s starts p ≡ transaction_kind → ⊥) (no_output : kind_held s starts p ≡ output_kind → ⊥) where
      -- it has the number of a term
      pub waiting_term : {i : ℕ} → Running d s starts n → i ≡ body_held s starts p → i < max_terms
      waiting_term {i} x e = go (waits l no_transaction no_output x.holds).2
        where
          below : (t : Term) → get_elem? x.terms (body_held s starts p) ≡ some t → body_held s starts p < max_terms
          below t f =
              let b = found_below x.terms (body_held s starts p) t f in
              let few = x.decoded.good.few in omega arith

          go : {c : Component} → WaitsOn x.terms (body_held s starts p) c → i < max_terms
          go (takes a P q f) = rw e (below _ f)
          go (repeats a P q f) = rw e (below _ f)
          go (blocks M q f) = rw e (below _ f)

      -- and is told by the kind of that term
      module _ {i k : ℕ} (named : i ≡ body_held s starts p) (read : k ≡ kind_at d i) where
        pub block_read : k ≡ kind_byte atom_k → OccupantRead d s starts n p (Some Block)
        unfolding term_kind
        block_read is = record { found = λ ts h y x. let (c, e, w) = waits l no_transaction no_output x in go h y e w }
          where
            go : {ts : List Term} (h : Configuration) → Decoded ts d → {c : Component} → get_elem? h.components p ≡ some c →
                WaitsOn ts (body_held s starts p) c → (m : ℕ) × (M : Expression) × (get_elem? h.components p ≡ some (idle (block m M)))
            go h y e (takes a P q f) = absurd (let z = kind_read (body_held s starts p) named read y _ f in omega arith)
            go h y e (repeats a P q f) = absurd (let z = kind_read (body_held s starts p) named read y _ f in omega arith)
            go h y e (blocks M q f) = (body_held s starts p, M, e ∙ ap some q)

        pub take_read : (k ≡ kind_byte atom_k → ⊥) → OccupantRead d s starts n p (Some (Take (body_held s starts p)))
        unfolding term_kind
        take_read other = record { found = λ ts h y x. let (c, e, w) = waits l no_transaction no_output x in go h y e w }
          where
            go : {ts : List Term} (h : Configuration) → Decoded ts d → {c : Component} → get_elem? h.components p ≡ some c →
                WaitsOn ts (body_held s starts p) c →
                (b : Bool) × (a : Name) × (P : Program) ×
                (get_elem? h.components p ≡ some (idle (take_of b (body_held s starts p) a P)))
            go h y e (takes a P q f) = (false, a, P, e ∙ ap some q)
            go h y e (repeats a P q f) = (true, a, P, e ∙ ap some q)
            go h y e (blocks M q f) = absurd (other (kind_read (body_held s starts p) named read y _ f))
