-- A component that gives way to others, and a part of one that gives way to other bytes: what the code may do, and that
-- the configuration after it is held.
-- Assumes nothing.
use Prim.Native.Nat.{ℕ, ◌+◌, ◌*◌, ◌-◌, ◌≤◌, ◌<◌}
use native.Mathlib.Omega.{arith}
use mathlib.Core.Path.{◌≡◌, refl, sym, ap, ◌∙◌}
use mathlib.Core.Bool.{Bool, true, false}
use mathlib.Core.Option.{some}
use mathlib.Core.List.{List, [], ◌∷◌, map, flatten}
use lib.ListN.{length, get_or, take, get_elem?, length-append, length-map}
use lib.Seq.{length-take-le}
use lib.Dec.{ltb}
use borrow.Author.Tests.{ltb-true, ltb-false}
use Rattle.semantics.specs.Definitions.Basics.{replace_at}
use Rattle.semantics.specs.Definitions.Terms.{Term}
use Rattle.semantics.specs.Definitions.Configuration.{Idle, Component, idle, Configuration}
use Rattle.semantics.specs.Definitions.Stored.{component_bytes, WellFormed}
use Rattle.theorems.proofs.Lists.{found_below, length_replace_at}
use Rattle.buffer.specs.Splice.{written, spliced, CanShift}
use Rattle.buffer.proofs.Splices.{shifted_none, spliced_from}
use Rattle.hall_layout.specs.Layout.{idle_size}
use Rattle.hall_laws.specs.Positions.{all_bytes, start_of, IsIndex, BySplice}
use Rattle.hall_laws.proofs.Configurations.{well_formed_fits, component_by_splice, part_by_splice, one_bytes, splice_can, splice_does}
use Rattle.hall_laws.proofs.Starts.{bytes_behind, start_below, start_later, start_before, start_inside, start_behind, idle_sizes, take_map}
use Rattle.hall_held.specs.Starts.{CanRenumber, Renumbered}
use Rattle.hall_held.specs.Holds.{Holds, replaced_at, Spaced, Replaces, CanReplace, Replaced, ReplacesPart, CanReplacePart, ReplacedPart}
use Rattle.hall_held.proofs.Starts.{renumbered_none}
use Rattle.hall_held.proofs.Holds.{sixteen, fits, start_here, few_components, used_here, start_below_used, used_inside, component_at, position_below, component_ends}

-- ---- what is laid down

-- idle components, and a single one of any kind
pub idle_spaced : (cs : List Idle) → Spaced (map idle cs)
idle_spaced cs j l =
    let m = length-map cs idle in
    ap (λ ds. length (all_bytes ds)) (take_map j cs) ∙ idle_sizes (take j cs) ∙ ap (◌*◌ idle_size) (length-take-le j cs (omega arith))

pub one_spaced : (c : Component) → Spaced (c ∷ [])
unfolding all_bytes flatten
one_spaced c j l = let z : j ≡ 0 = omega arith in rw z

-- ---- one splice

-- one splice, of `new` in the place of the bytes from..to, makes of the bytes that are held those in which component
-- number p has given way to ds: the bytes there are fewer by `less` and then more by those of `new`
record ReplacementStep (ts : List Term) (h : Configuration) (s starts : List ℕ) (n p : ℕ) (ds : List Component) (from to : ℕ)
    (new : List ℕ) (less : ℕ) : Type 0 where
  holds : Holds ts h s starts n
  component : Component
  there : get_elem? h.components p ≡ some component
  even : Spaced ds
  form : WellFormed ts (replaced_at p ds h)
  bytes : BySplice h (replaced_at p ds h) from to new
  part : less ≤ length (component_bytes component)
  change : length (component_bytes component) + length new ≡ length (all_bytes ds) + less

module _ {ts : List Term} {h : Configuration} {s starts : List ℕ} {n p : ℕ} {ds : List Component} {from to : ℕ}
    {new : List ℕ} {less : ℕ} (x : ReplacementStep ts h s starts n p ds from to new less) where
  cs : List Component
  cs = h.components

  below : p < n
  below = position_below x.holds p x.component x.there

  -- what the code may do
  may_splice : (from ≤ to) × CanShift s to (from + length new) (get_or starts n 0)
  may_splice = splice_can h (replaced_at p ds h) s new from to (get_or starts n 0) x.bytes x.holds.bytes (used_here x.holds)

  many_after : length (replace_at p ds cs) ≡ n - 1 + length ds
  unfolding cs
  many_after =
      let l = below in
      let m = x.holds.counted in
      let q = length_replace_at cs ds p (found_below cs p x.component x.there) in omega arith

  -- behind the component, in the old index and in the new one
  behind : (k : ℕ) → k < n - p →
      (get_or starts (p + 1 + k) 0 ≡ start_of cs p + length (component_bytes x.component) + bytes_behind cs p k) ×
      (start_of (replace_at p ds cs) (p + length ds + k) ≡ start_of cs p + length (all_bytes ds) + bytes_behind cs p k)
  unfolding cs
  behind k l =
      let m = x.holds.counted in (
        x.holds.index (p + 1 + k) (omega arith) ∙ start_later cs p x.component x.there k,
        start_behind cs p x.component x.there ds k,
      )

  may_renumber : CanRenumber starts n p (length ds) less (length new)
  unfolding cs
  may_renumber =
      let l = below in
      let m = many_after in
      let f = x.form.few in
      let u = used_inside x.holds in
      let few = few_components x.holds in
      let b = start_below_used x.holds p (omega arith) in
      let part = x.part in
      let change = x.change in
      record {
        there = l;
        room = omega arith;
        begins = omega arith;
        movable = record {
          sized = x.holds.sized;
          inside = omega arith;
          above = λ k o. let y = (behind k o).0 in omega arith;
          below = λ k o.
              let y = behind k o in
              let i = start_below (replace_at p ds cs) (p + length ds + k) in
              let g = well_formed_fits ts (replaced_at p ds h) x.holds.good x.form in omega (arith, y.0, y.1);
        };
      }

  -- what it has done
  module _ {starts' : List ℕ} (r : Renumbered starts n p (length ds) less (length new) starts') where
    index_after : IsIndex starts' (replace_at p ds cs)
    unfolding cs
    index_after i l = go (ltb i p) refl (ltb i (p + length ds)) refl
      where
        go : (a : Bool) → ltb i p ≡ a → (b : Bool) → ltb i (p + length ds) ≡ b → get_or starts' i 0 ≡ start_of (replace_at p ds cs) i
        go true f b g =
            let k = ltb-true i p f in
            let m = below in
            r.before i k ∙ start_here x.holds i (omega arith)
            ∙ sym (start_before cs p x.component x.there ds i (omega arith))
        go false f true g =
            let k = ltb-false i p f in
            let o = ltb-true i (p + length ds) g in
            let m = below in
            let z : p + (i - p) ≡ i = omega arith in
            let s = start_inside cs p x.component x.there ds (i - p) (omega arith) in
            let v = x.even (i - p) (omega arith) in
            let w = r.inside (i - p) (omega arith) in
            let y = start_here x.holds p (omega arith) in
            rw (← z) (w ∙ omega arith)
        go false f false g =
            let k = ltb-false i (p + length ds) g in
            let m = below in
            let q = many_after in
            let z : p + length ds + (i - (p + length ds)) ≡ i = omega arith in
            let j = i - (p + length ds) in
            let w = r.behind j (omega arith) in
            let y = behind j (omega arith) in
            let part = x.part in
            let change = x.change in
            rw (← z) (w ∙ omega (arith, y.0, y.1))

    held_after : {s' : List ℕ} (n' : ℕ) → s' ≡ spliced s from to new → n' ≡ n - 1 + length ds →
        Holds ts (replaced_at p ds h) s' starts' n'
    unfolding cs
    held_after {s'} n' q m = record {
      good = x.holds.good;
      form = x.form;
      bytes = splice_does h (replaced_at p ds h) s s' new from to x.bytes x.holds.bytes q;
      counted = m ∙ sym many_after;
      sized = r.sized;
      index = index_after;
    }

-- ---- a component gives way to others

module _ {ts : List Term} {h : Configuration} {ds : List Component} {s starts : List ℕ} {n p : ℕ} {new : List ℕ} {pieces : ℕ}
    (x : Replaces ts h ds s starts n p new pieces) where
  replaces_step : ReplacementStep ts h s starts n p ds (get_or starts p 0) (get_or starts (p + 1) 0) new
      (get_or starts (p + 1) 0 - get_or starts p 0)
  replaces_step =
      let l = x.there in
      let (c, e) = component_at x.holds p l in
      let b = component_by_splice h.counts h.components p c ds (sixteen x.holds) e (fits x.holds)
      (well_formed_fits ts (replaced_at p ds h) x.holds.good x.form) in
      let ends = component_ends x.holds p c e in
      let m = ap length x.bytes in
      record {
        holds = x.holds;
        component = c;
        there = e;
        even = x.even;
        form = x.form;
        bytes = rw (← start_here x.holds p (omega arith), ← component_ends x.holds p c e, ← x.bytes) at b;
        part = omega arith;
        change = omega arith;
      }

module _ {s starts : List ℕ} {n p : ℕ} {new : List ℕ} {pieces : ℕ} (x : CanReplace s starts n p new pieces) where
  pub component_ordered : get_or starts p 0 ≤ get_or starts (p + 1) 0
  component_ordered = (may_splice (replaces_step x.replaces)).0

  pub component_room : CanShift s (get_or starts (p + 1) 0) (get_or starts p 0 + length new) (get_or starts n 0)
  component_room = (may_splice (replaces_step x.replaces)).1

  pub can_renumber : CanRenumber starts n p pieces (get_or starts (p + 1) 0 - get_or starts p 0) (length new)
  can_renumber = rw x.replaces.many (may_renumber (replaces_step x.replaces))

pub component_replaced : (s starts : List ℕ) (n p : ℕ) (new : List ℕ) (pieces : ℕ) (s' starts' : List ℕ) →
    s' ≡ spliced s (get_or starts p 0) (get_or starts (p + 1) 0) new →
    Renumbered starts n p pieces (get_or starts (p + 1) 0 - get_or starts p 0) (length new) starts' →
    Replaced s starts n p new pieces s' starts' (n - 1 + pieces)
component_replaced s starts n p new pieces s' starts' q r = record {
  found = λ ts h ds x. let many = x.many in held_after (replaces_step x) (rw many at r) (n - 1 + pieces) q (omega arith);
}

-- ---- a part of a component gives way

module _ {ts : List Term} {h : Configuration} {d : Component} {s starts : List ℕ} {n p from to : ℕ} {new : List ℕ}
    (x : ReplacesPart ts h d s starts n p from to new) where
  replaces_part_step : ReplacementStep ts h s starts n p (d ∷ []) from to new (to - from)
  replaces_part_step =
      let l = position_below x.holds p x.component x.there in
      let back = x.differ.back in
      let b = part_by_splice h.counts h.components p x.component d x.front x.old new back
      (sixteen x.holds) x.there x.differ.was x.differ.is (fits x.holds)
      (well_formed_fits ts (replaced_at p (d ∷ []) h) x.holds.good x.form) in
      let ends = x.ends in
      let was : length (component_bytes x.component) ≡ length x.front + (length x.old + length back) =
      rw x.differ.was (simp length-append) in
      let is : length (all_bytes (d ∷ [])) ≡ length x.front + (length new + length back) =
      rw (one_bytes d, x.differ.is) (simp length-append) in
      record {
        holds = x.holds;
        component = x.component;
        there = x.there;
        even = one_spaced d;
        form = x.form;
        bytes = rw (← start_here x.holds p (omega arith), ← x.begins, ← ends) at b;
        part = omega arith;
        change = omega arith;
      }

module _ {s starts : List ℕ} {n p from to : ℕ} {new : List ℕ} (x : CanReplacePart s starts n p from to new) where
  pub part_ordered : from ≤ to
  part_ordered = (may_splice (replaces_part_step x.replaces)).0

  pub part_room : CanShift s to (from + length new) (get_or starts n 0)
  part_room = (may_splice (replaces_part_step x.replaces)).1

  pub can_renumber_part : CanRenumber starts n p 1 (to - from) (length new)
  can_renumber_part = may_renumber (replaces_part_step x.replaces)

pub part_replaced : (s starts : List ℕ) (n p from to : ℕ) (new s' starts' : List ℕ) → s' ≡ spliced s from to new →
    Renumbered starts n p 1 (to - from) (length new) starts' → ReplacedPart s starts n p from to new s' starts'
part_replaced s starts n p from to new s' starts' q r = record {
  found = λ ts h d x.
      let l = position_below x.holds p x.component x.there in held_after (replaces_part_step x) r n q (omega arith);
}

-- by as many others, stored in its place: neither what stands behind it nor the index changes
pub replaced_part_in_place : {ts : List Term} {h : Configuration} {d : Component} {s starts : List ℕ} {n p from to : ℕ}
    {new : List ℕ} → ReplacesPart ts h d s starts n p from to new → to ≡ from + length new → (s' : List ℕ) → s' ≡ written s from new (length new) →
    Holds ts (replaced_at p (d ∷ []) h) s' starts n
replaced_part_in_place {s = s} {starts = starts} {n = n} {p = p} {from = from} {to = to} {new = new} x e s' q =
    let step = replaces_part_step x in
    let l = position_below x.holds p x.component x.there in
    let room = (may_splice step).1 in
    let still = shifted_none s to (from + length new) (get_or starts n 0) room (omega arith) (omega arith) in
    held_after step (renumbered_none starts n p 1 (to - from) (length new) (may_renumber step) refl (omega arith)) n
    (spliced_from s s s' from to new (get_or starts n 0) still q room) (omega arith)
