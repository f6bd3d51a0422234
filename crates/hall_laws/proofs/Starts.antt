-- Where components begin: behind one another, and when one of them has given way to others.
-- Assumes nothing.
use Prim.Native.Nat.{ℕ, zero, suc, ◌+◌, ◌*◌, ◌≤◌}
use native.Mathlib.Omega.{arith}
use mathlib.Core.Path.{◌≡◌, refl, sym, ap, ◌∙◌}
use mathlib.Core.Option.{some}
use mathlib.Core.List.{List, [], ◌∷◌, ◌++◌, map, flatten}
use lib.ListN.{length, take, drop, get_elem?, length-append, take-append-drop}
use lib.Seq.{length-take-le, take_all, take-append-le, take-append-add}
use Rattle.semantics.specs.Definitions.Basics.{replace_at}
use Rattle.semantics.specs.Definitions.Configuration.{Idle, taking, repeating, block, output, Component, idle}
use Rattle.semantics.specs.Definitions.Stored.{component_bytes}
use Rattle.theorems.proofs.Lists.{found_below}
use Rattle.hall_layout.specs.Layout.{channels, idle_size}
use Rattle.hall_laws.specs.Positions.{all_bytes, used_of, start_of}
use Rattle.hall_laws.proofs.Configurations.{all_bytes_append, entry_split, replace_split}

-- ---- the bytes of components

all_length : (cs ds : List Component) → length (all_bytes (cs ++ ds)) ≡ length (all_bytes cs) + length (all_bytes ds)
all_length cs ds = ap length (all_bytes_append cs ds) ∙ length-append (all_bytes cs) (all_bytes ds)

first_length : (c : Component) (cs : List Component) → length (all_bytes (c ∷ cs)) ≡ length (component_bytes c) + length (all_bytes cs)
unfolding all_bytes flatten
first_length c cs = length-append (component_bytes c) (all_bytes cs)

-- an idle component's
pub idle_size_holds : (c : Idle) → length (component_bytes (idle c)) ≡ idle_size
unfolding component_bytes
idle_size_holds (taking n a P) = refl
idle_size_holds (repeating n a P) = refl
idle_size_holds (block n M) = refl
idle_size_holds (output a) = refl

pub idle_sizes : (cs : List Idle) → length (all_bytes (map idle cs)) ≡ idle_size * length cs
unfolding all_bytes flatten
idle_sizes [] = refl
idle_sizes (c ∷ cs) =
    let l = first_length (idle c) (map idle cs) in
    let m = idle_size_holds c in
    let n = idle_sizes cs in omega arith

pub take_map : (j : ℕ) (cs : List Idle) → take j (map idle cs) ≡ map idle (take j cs)
take_map zero cs = refl
take_map (suc j) [] = refl
take_map (suc j) (c ∷ cs) = ap (◌∷◌ (idle c)) (take_map j cs)

-- ---- where a component begins

-- the bytes of the k components behind number p
abbrev pub bytes_behind : List Component → (p k : ℕ) → ℕ
bytes_behind cs p k = length (all_bytes (take k (drop (suc p) cs)))

module _ (cs : List Component) where
  -- the last one ends where what is used ends, and none begins behind that
  pub start_all : start_of cs (length cs) ≡ used_of cs
  unfolding start_of
  start_all = ap used_of (take_all (length cs) cs (omega arith))

  pub start_below : (i : ℕ) → start_of cs i ≤ used_of cs
  unfolding start_of used_of
  start_below i =
      let e = ap (λ l. length (all_bytes l)) (take-append-drop i cs) in
      let l = all_length (take i cs) (drop i cs) in omega arith

  module _ (p : ℕ) (c : Component) (e : get_elem? cs p ≡ some c) where
    before_length : length (take p cs) ≡ p
    before_length = let h = found_below cs p c e in length-take-le p cs (omega arith)

    -- of the list that stands at p and behind it
    from_here : (l : List Component) (m : ℕ) → take (p + m) (take p cs ++ l) ≡ take p cs ++ take m l
    from_here l m = let r = take-append-add (take p cs) l m in rw before_length at r

    start_from : (l : List Component) (m : ℕ) → start_of (take p cs ++ l) (p + m) ≡ start_of cs p + length (all_bytes (take m l))
    unfolding start_of used_of
    start_from l m = let n = all_length (take p cs) (take m l) in ap (λ x. channels + length (all_bytes x)) (from_here l m) ∙ omega arith

    -- the component behind it, and those behind that
    pub start_later : (k : ℕ) → start_of cs (p + 1 + k) ≡ start_of cs p + length (component_bytes c) + bytes_behind cs p k
    start_later k =
        let l = first_length c (take k (drop (suc p) cs)) in
        let z : p + 1 + k ≡ p + suc k = omega arith in
        let s = start_from (c ∷ drop (suc p) cs) (suc k) in
        let t : start_of cs (p + suc k) ≡ start_of (take p cs ++ (c ∷ drop (suc p) cs)) (p + suc k) = ap (λ x. start_of x (p + suc k)) (entry_split cs p c e) in
        ap (start_of cs) z ∙ t ∙ s ∙ omega arith

    pub start_next : start_of cs (p + 1) ≡ start_of cs p + length (component_bytes c)
    unfolding all_bytes flatten
    start_next = let z : p + 1 + 0 ≡ p + 1 = omega arith in (rw z at (start_later 0)) ∙ omega arith

    -- where it has given way to ds
    module _ (ds : List Component) where
      here : (m : ℕ) → start_of (replace_at p ds cs) (p + m) ≡ start_of cs p + length (all_bytes (take m (ds ++ drop (suc p) cs)))
      here m = ap (λ x. start_of x (p + m)) (replace_split cs p c ds e) ∙ start_from (ds ++ drop (suc p) cs) m

      pub start_before : (i : ℕ) → i ≤ p → start_of (replace_at p ds cs) i ≡ start_of cs i
      unfolding start_of
      start_before i h =
          let l = before_length in
          let same : take i (replace_at p ds cs) ≡ take i (take p cs) =
          ap (take i) (replace_split cs p c ds e) ∙ take-append-le i (take p cs) (ds ++ drop (suc p) cs) (omega arith) in
          let own : take i cs ≡ take i (take p cs) =
          ap (take i) (entry_split cs p c e) ∙ take-append-le i (take p cs) (c ∷ drop (suc p) cs) (omega arith) in
          ap used_of (same ∙ sym own)

      pub start_inside : (j : ℕ) → j ≤ length ds → start_of (replace_at p ds cs) (p + j) ≡ start_of cs p + length (all_bytes (take j ds))
      start_inside j h = here j ∙ ap (λ x. start_of cs p + length (all_bytes x)) (take-append-le j ds (drop (suc p) cs) h)

      pub start_behind : (k : ℕ) → start_of (replace_at p ds cs) (p + length ds + k) ≡ start_of cs p + length (all_bytes ds) + bytes_behind cs p k
      start_behind k =
          let z : p + length ds + k ≡ p + (length ds + k) = omega arith in
          let n = all_length ds (take k (drop (suc p) cs)) in
          ap (start_of (replace_at p ds cs)) z ∙ here (length ds + k)
          ∙ ap (λ x. start_of cs p + length (all_bytes x)) (take-append-add ds (drop (suc p) cs) k) ∙ omega arith
