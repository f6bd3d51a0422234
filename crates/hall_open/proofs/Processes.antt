-- What a process opens into, by its kind, in bytes; and writing that of one that is not two side by side.
-- Assumes nothing.
use Prim.Native.Nat.{ℕ, ◌+◌, ◌*◌, ◌≤◌, ◌<◌}
use native.Mathlib.Omega.{arith}
use mathlib.Core.Path.{◌≡◌, refl, sym, subst, ◌∙◌}
use mathlib.Core.Option.{some}
use mathlib.Core.List.{List, [], ◌∷◌, ◌++◌, map, map-append}
use lib.ListN.{length, get_elem?, length-append}
use mir.Syntax.{w8}
use mir.Val.{Fits}
use mathlib.Core.List.{flatten}
use Rattle.semantics.specs.Definitions.Terms.{Program, nil_t, put_t, take_t, repeat_t, par_t, atom_t, Term, process, width}
use Rattle.semantics.specs.Checks.AcceptedTables.{program_number, term_number, SubtermsIn}
use Rattle.semantics.specs.Definitions.Configuration.{Idle, taking, repeating, block, output, idle, opens}
use Rattle.semantics.specs.Definitions.Stored.{component_bytes}
use Rattle.theorems.proofs.Lists.{found_below}
use Rattle.theorems.proofs.RoundTrip.{width_bounds_opening}
use Rattle.theorems.proofs.Turns.{width_some}
use Rattle.table_terms.specs.Decoded.{kind_at, first_at, second_at, RecordOf, Decoded, max_terms}
use Rattle.buffer.specs.Splice.{written}
use Rattle.buffer.proofs.Written.{written_none}
use Rattle.hall_layout.specs.Layout.{waiting_kind, output_kind, idle_size}
use Rattle.hall_laws.specs.Positions.{all_bytes}
use Rattle.hall_laws.proofs.Configurations.{all_bytes_append}
use Rattle.hall_open.specs.Opening.{idle_bytes, components_bytes, CanWriteComponents, ComponentsWritten}

-- ---- the bytes of what a process opens into

pub idle_append : (cs ds : List Idle) → idle_bytes (cs ++ ds) ≡ idle_bytes cs ++ idle_bytes ds
unfolding idle_bytes
idle_append cs ds = rw (map-append idle cs ds) (all_bytes_append (map idle cs) (map idle ds))

-- a component is two bytes
one_length : (c : Idle) → length (component_bytes (idle c)) ≡ idle_size
unfolding component_bytes
one_length (taking n a P) = refl
one_length (repeating n a P) = refl
one_length (block n M) = refl
one_length (output a) = refl

pub idle_length : (cs : List Idle) → length (idle_bytes cs) ≡ idle_size * length cs
unfolding idle_bytes all_bytes flatten
idle_length [] = refl
idle_length (c ∷ cs) =
    let h = idle_length cs in
    let e = one_length c in
    let l = length-append (component_bytes (idle c)) (idle_bytes cs) in omega arith

pub opened_length : (P : Program) → length (components_bytes P) ≡ idle_size * length (opens P)
unfolding components_bytes
opened_length P = idle_length (opens P)

pub opened_fits : (P : Program) → length (components_bytes P) ≤ idle_size * width P
opened_fits P =
    let l = opened_length P in
    let w = width_bounds_opening P in omega arith

-- ---- by the kind of a process

module _ (ts : List Term) (i l r : ℕ) where
  -- the two sides of a process, at the numbers that its fields say
  pub record Sides (P : Program) : Type 0 where
    pub number : ℕ
    pub left : Program
    pub right : Program
    pub both : P ≡ par_t number left right
    pub at_left : get_elem? ts l ≡ some (process left)
    pub at_right : get_elem? ts r ≡ some (process right)

  -- what is written for the process whose record has kind k and fields l and r
  by_kind : (k : ℕ) (P : Program) → RecordOf i k l r (process P) → SubtermsIn ts (process P) → program_number P ≡ i → (C : Type 0) →
      (k ≡ 1 → components_bytes P ≡ [] → C) → (k ≡ 2 → components_bytes P ≡ output_kind ∷ l ∷ [] → C) → (k ≡ 5 → Sides P → C) →
      ((k ≡ 1 → ⊥) → (k ≡ 2 → ⊥) → (k ≡ 5 → ⊥) → components_bytes P ≡ waiting_kind ∷ i ∷ [] → C) → C
  unfolding idle_bytes components_bytes opens all_bytes flatten component_bytes program_number
  by_kind k (nil_t n) e s p C nothing putting beside waiting = nothing e refl
  by_kind k (put_t n a) e s p C nothing putting beside waiting = putting e.0 (rw e.1)
  by_kind k (take_t n a P) e s p C nothing putting beside waiting = let z = e.0 in waiting (λ h. omega arith) (λ h. omega arith) (λ h. omega arith) (rw p)
  by_kind k (repeat_t n a P) e s p C nothing putting beside waiting = let z = e.0 in waiting (λ h. omega arith) (λ h. omega arith) (λ h. omega arith) (rw p)
  by_kind k (par_t n P Q) e s p C nothing putting beside waiting =
      beside e.0 (record {
        number = n;
        left = P;
        right = Q;
        both = refl;
        at_left = rw e.1 s.0;
        at_right = rw e.3 s.1;
      })
  by_kind k (atom_t n M) e s p C nothing putting beside waiting = let z = e.0 in waiting (λ h. omega arith) (λ h. omega arith) (λ h. omega arith) (rw p)

-- ---- process number i

module _ (d : List ℕ) (i k : ℕ) (kind : k ≡ kind_at d i) where
  module _ (ts : List Term) (P : Program) (x : Decoded ts d) (e : get_elem? ts i ≡ some (process P)) where
    abbrev pub SidesAt : Type 0
    SidesAt = Sides ts i (first_at d i) (second_at d i) P

    at_kind : (C : Type 0) → (k ≡ 1 → components_bytes P ≡ [] → C) → (k ≡ 2 → components_bytes P ≡ output_kind ∷ first_at d i ∷ [] → C) → (k ≡ 5 → SidesAt → C) →
        ((k ≡ 1 → ⊥) → (k ≡ 2 → ⊥) → (k ≡ 5 → ⊥) → components_bytes P ≡ waiting_kind ∷ i ∷ [] → C) → C
    unfolding term_number
    at_kind =
        by_kind ts i (first_at d i) (second_at d i) k P (subst (λ n. RecordOf i n (first_at d i) (second_at d i) (process P)) (sym kind) (x.records i (process P) e)) (x.good.subterms i (process P) e) (x.good.numbered i (process P) e)

    pub sides_at : k ≡ 5 → SidesAt
    sides_at h = at_kind SidesAt (λ f b. absurd (omega arith)) (λ f b. absurd (omega arith)) (λ f s. s) (λ a b c o. absurd (c h))

    nothing_at : k ≡ 1 → components_bytes P ≡ []
    nothing_at h = at_kind _ (λ f b. b) (λ f b. absurd (omega arith)) (λ f s. absurd (omega arith)) (λ a b c o. absurd (a h))

    output_at : k ≡ 2 → components_bytes P ≡ output_kind ∷ first_at d i ∷ []
    output_at h = at_kind _ (λ f b. absurd (omega arith)) (λ f b. b) (λ f s. absurd (omega arith)) (λ a b c o. absurd (b h))

    waiting_at : (k ≡ 5 → ⊥) → (k ≡ 1 → ⊥) → (k ≡ 2 → ⊥) → components_bytes P ≡ waiting_kind ∷ i ∷ []
    waiting_at h f g = at_kind _ (λ z b. absurd (f z)) (λ z b. absurd (g z)) (λ z s. absurd (h z)) (λ a b c o. o)

  module _ (s : List ℕ) (at : ℕ) where
    pub nothing_written : k ≡ 1 → ComponentsWritten d i s at s at
    nothing_written h = record { found = λ ts P x e. rw (nothing_at ts P x e h) (omega arith, written_none s at []) }

    module _ (s' : List ℕ) (end : ℕ) (p : end ≡ at + idle_size) where
      pub output_written : k ≡ 2 → (f : ℕ) → f ≡ first_at d i → s' ≡ written s at (output_kind ∷ f ∷ []) idle_size → ComponentsWritten d i s at s' end
      output_written h f o q = record { found = λ ts P x e. rw (output_at ts P x e h) (p, rw (← o) q) }

      pub waiting_written : (k ≡ 5 → ⊥) → (k ≡ 1 → ⊥) → (k ≡ 2 → ⊥) → s' ≡ written s at (waiting_kind ∷ i ∷ []) idle_size → ComponentsWritten d i s at s' end
      waiting_written h f g q = record { found = λ ts P x e. rw (waiting_at ts P x e h f g) (p, q) }

  -- ---- a component of a process that is not two side by side

  module _ (single : kind_at d i ≡ 5 → ⊥) where
    pub single_written : (s : List ℕ) (at : ℕ) (s' : List ℕ) (end : ℕ) → end ≡ at + idle_size → (k ≡ 1 → ⊥) → (k ≡ 2 → ⊥) →
        s' ≡ written s at (waiting_kind ∷ i ∷ []) idle_size → ComponentsWritten d i s at s' end
    single_written s at s' end p f g q = waiting_written s at s' end p (λ e. single (sym kind ∙ e)) f g q

-- a process's number is below 200, and a byte
module _ (d : List ℕ) (i : ℕ) (s : List ℕ) (at : ℕ) (x : CanWriteComponents d i s at) where
  pub inside : i < max_terms
  inside = let h = found_below x.terms i (process x.tree) x.at in let g = x.decoded.good.few in omega arith

  -- whatever it is, one component fits
  pub one_fits : at + idle_size ≤ length s
  one_fits = let w = width_some x.tree in let f = x.fits in omega arith

  pub number_fits : Fits w8 i
  number_fits = let h = inside in record { fits = omega arith }

pub is_single : (d : List ℕ) (i k : ℕ) → k ≡ kind_at d i → (k ≡ 5 → ⊥) → kind_at d i ≡ 5 → ⊥
is_single d i k kind h e = h (kind ∙ e)
