-- The scan of a hall: how far it came, with the index so far, and a law for each way on which it goes.
-- Assumes nothing.
use Prim.Native.Nat.{ℕ, suc, ◌+◌, ◌-◌, ◌≤◌, ◌<◌}
use native.Mathlib.Omega.{arith}
use mathlib.Core.Path.{◌≡◌, refl, sym, ap, ap₂, ◌∙◌}
use mathlib.Core.Bool.{Bool, true, false}
use mathlib.Core.Option as math
use mathlib.Core.Option.{none, some}
use mathlib.Core.List.{List, [], ◌∷◌, ◌++◌}
use Rattle.std.specs.Prelude.{Option, None, Some}
use Rattle.hall_layout.specs.declared.Index.{Index}
use Rattle.std.specs.Bool.{then_some}
use lib.ListN.{length, get_or, take, drop, set, length-append, length-drop, length-set}
use lib.Dec.{ltb}
use borrow.Author.Tests.{ltb-true, ltb-false}
use lib.Seq.{get_or-set_same, get_or-set_other, take-append-le}
use Rattle.semantics.specs.Definitions.Basics.{only_if, zeros}
use mathlib.Core.Option.{bind}
use mathlib.Core.List.{flatten}
use Rattle.semantics.specs.Definitions.Terms.{Term}
use Rattle.semantics.specs.Definitions.Configuration.{Component, Configuration}
use Rattle.semantics.specs.Definitions.Stored.{components_from, configuration_of}
use Rattle.table_terms.specs.Decoded.{Decoded}
use Rattle.hall_layout.specs.Layout.{channels, max_components, index_size}
use Rattle.hall_laws.specs.Positions.{all_bytes, used_of, start_of, IsIndex}
use Rattle.hall_laws.specs.ReadParts.{first_component, configured}
use Rattle.hall_laws.proofs.Configurations.{used_more, start_all}
use Rattle.hall_laws.proofs.ReadComponents.{first_bytes, components_end, components_zeros, components_first, configured_all, configured_next, configured_many, configuration_short, configuration_start}
use Rattle.hall_nodes.specs.NodeTests.{EachTable}
use Rattle.hall_check.specs.Scans.{ComponentIs, ComponentRead, HallRead}

-- ---- positions

-- an index with one component more
index_more : (starts : List ℕ) (cs : List Component) (c : Component) (i e : ℕ) → IsIndex starts cs → length cs ≡ i → i + 1 < length starts →
    e ≡ used_of (cs ++ (c ∷ [])) → IsIndex (set starts (i + 1) e) (cs ++ (c ∷ []))
unfolding start_of
index_more starts cs c i e x l k h j m = go (ltb i j) refl
  where
    size : length (cs ++ (c ∷ [])) ≡ i + 1
    size = length-append cs (c ∷ []) ∙ omega arith

    go : (b : Bool) → ltb i j ≡ b → get_or (set starts (i + 1) e) j 0 ≡ start_of (cs ++ (c ∷ [])) j
    go true p =
        let o = ltb-true i j p in
        let z : j ≡ i + 1 = omega (arith, size) in
        rw z (get_or-set_same starts (i + 1) e 0 k ∙ h ∙ sym (start_all (cs ++ (c ∷ []))) ∙ ap (start_of (cs ++ (c ∷ []))) size)
    go false p =
        let o = ltb-false i j p in
        get_or-set_other starts (i + 1) j e 0 (λ z. omega arith) ∙ x j (omega arith) ∙ ap used_of (sym (take-append-le j cs (c ∷ []) (omega arith)))

-- ---- how far a scan came

-- the components before an offset are read, and the hall is what they and those behind it make
record ReadBefore (s starts : List ℕ) (components at : ℕ) (ts : List Term) : Type 0 where
  read : List Component
  counted : length read ≡ components
  ends : at ≡ used_of read
  index : IsIndex starts read
  bound : ℕ
  enough : length s - at ≤ bound
  rest : configuration_of ts s ≡ configured (take channels s) read (components_from (suc bound) ts (drop at s))

module _ (d : List ℕ) (n : ℕ) (s : List ℕ) where
  pub record HallSoFar (starts : List ℕ) (components at : ℕ) : Type 0 where
    pub inside : at ≤ length s
    pub few : components ≤ max_components
    pub sized : length starts ≡ index_size
    found : EachTable d n (ReadBefore s starts components at)

  pub hall_short : length s < channels → HallRead d n s None
  hall_short h = record { sized = tt; found = λ ts x c. rw (configuration_short ts s h) tt }

  pub hall_begun : (starts : List ℕ) → length starts ≡ index_size → channels ≤ length s → HallSoFar (set starts 0 channels) 0 channels
  unfolding start_of used_of all_bytes flatten
  hall_begun starts l h = record {
    inside = h;
    few = omega arith;
    sized = length-set starts 0 channels ∙ l;
    found = λ ts x c. record {
      read = [];
      counted = refl;
      ends = refl;
      index = λ i m. let z : i ≡ 0 = omega arith in rw z (get_or-set_same starts 0 channels 0 (omega arith));
      bound = length s;
      enough = omega arith;
      rest = configuration_start ts s h;
    };
  }

  module _ (index : Index) (at : ℕ) (x : HallSoFar index.starts index.components at) where
    -- the index says where the last component ends
    ends_there : (ts : List Term) (w : ReadBefore s index.starts index.components at ts) → get_or index.starts index.components 0 ≡ used_of w.read
    ends_there ts w = let l = w.counted in
        w.index index.components (omega arith) ∙ ap (start_of w.read) (sym l) ∙ start_all w.read

    -- no component follows: the hall is what was read
    hall_is : EachTable d n (λ ts. (f : ℕ) → components_from (suc f) ts (drop at s) ≡ some []) → HallRead d n s (Some index)
    hall_is e = record {
      sized = x.sized;
      found = λ ts y c.
          let w = x.found ts y c in
          let l = w.counted in
          let m = x.few in
          rw (w.rest, e ts y c w.bound, configured_all (take channels s) w.read (omega arith)) (sym l, ends_there ts w, w.index);
    }

    -- what follows is malformed, and so is the hall
    hall_none : EachTable d n (λ ts. (read : List Component) (f : ℕ) → length read ≡ index.components →
        configured (take channels s) read (components_from (suc f) ts (drop at s)) ≡ none) → HallRead d n s None
    hall_none e = record { sized = tt; found = λ ts y c. let w = x.found ts y c in rw (w.rest, e ts y c w.read w.bound w.counted) tt }

    -- the bytes are over
    pub hall_over : length s ≤ at → HallRead d n s (Some index)
    hall_over h = hall_is (λ ts y c f. components_end ts s at f h)

    module _ (h : at < length s) where
      -- a zero byte
      pub hall_zeros : get_or s at 0 ≡ 0 → (b : Bool) → b ≡ zeros (drop at s) → (r : Option Index) → r ≡ then_some b index → HallRead d n s r
      unfolding only_if configured bind
      hall_zeros e b z r p = rw p (go b z)
        where
          go : (b : Bool) → b ≡ zeros (drop at s) → HallRead d n s (then_some b index)
          go true z = hall_is (λ ts y c f. components_zeros ts s at f h e ∙ rw (← z))
          go false z = hall_none (λ ts y c read f l. rw (components_zeros ts s at f h e, ← z))

      -- another component
      module _ (e : get_or s at 0 ≡ 0 → ⊥) where
        -- by the component that is read
        Behind : List Component → ℕ → List Term → math.Option (Component × List ℕ) → math.Option Configuration
        Behind read f ts o = configured (take channels s) read (bind o (λ c. bind (components_from f ts c.1) (λ cs. some (c.0 ∷ cs))))

        pub hall_full : index.components ≡ max_components → HallRead d n s None
        unfolding Behind bind configured
        hall_full g = hall_none (λ ts y c read f l. rw (components_first ts s at f h e) (go ts read f (omega arith) (first_component ts (drop at s))))
          where
            go : (ts : List Term) (read : List Component) (f : ℕ) → length read ≡ max_components → (o : math.Option (Component × List ℕ)) → Behind read f ts o ≡ none
            go ts read f l none = refl
            go ts read f l (some c) = configured_many (take channels s) read c.0 l (components_from f ts c.1)

        pub hall_broken : ComponentRead d n s at None → HallRead d n s None
        unfolding Behind bind configured
        hall_broken w =
            hall_none (λ ts y c read f l. rw (components_first ts s at f h e) (go ts read f (first_component ts (drop at s)) (w.found ts y c)))
          where
            go : (ts : List Term) (read : List Component) (f : ℕ) (o : math.Option (Component × List ℕ)) → ComponentIs s None o → Behind read f ts o ≡ none
            go ts read f none p = refl
            go ts read f (some c) p = absurd p

        module _ (i : ℕ) (w : ComponentRead d n s at (Some i)) where
          next_inside : (suc at ≤ i) × (i ≤ length s)
          next_inside = w.ends

          pub hall_next : (index.components ≡ max_components → ⊥) → HallSoFar (set index.starts (index.components + 1) i) (index.components + 1) i
          unfolding bind
          hall_next m = record {
            inside = next_inside.1;
            few = let o = x.few in omega arith;
            sized = length-set index.starts (index.components + 1) i ∙ x.sized;
            found = λ ts y c. let v = x.found ts y c in go ts y v (first_component ts (drop at s)) refl (w.found ts y c);
          }
            where
              go : (ts : List Term) → Decoded ts d → (v : ReadBefore s index.starts index.components at ts) → (o : math.Option (Component × List ℕ)) → first_component ts (drop at s) ≡ o →
                  ComponentIs s (Some i) o → ReadBefore s (set index.starts (index.components + 1) i) (index.components + 1) i ts
              go ts y v none p q = absurd q
              go ts y v (some c) p q =
                  let o = next_inside in
                  let b = first_bytes ts y.good (drop at s) c p in
                  let l = length-drop at s in
                  let j = ap length q ∙ length-drop i s in
                  let u = used_more v.read c.0 in
                  let a = v.ends in
                  let z = v.counted in
                  let ends : i ≡ used_of (v.read ++ (c.0 ∷ [])) = omega arith in
                  let f = v.enough in
                  let bound : v.bound ≡ suc (v.bound - 1) = omega arith in
                  record {
                    read = v.read ++ (c.0 ∷ []);
                    counted = length-append v.read (c.0 ∷ []) ∙ omega arith;
                    ends = ends;
                    index = let few = x.few in let size = x.sized in index_more index.starts v.read c.0 index.components i v.index z (omega arith) ends;
                    bound = v.bound - 1;
                    enough = omega arith;
                    rest = v.rest ∙ rw (components_first ts s at v.bound h e, p)
                        (configured_next (take channels s) v.read c.0 (components_from v.bound ts c.1)
                        ∙ ap₂ (λ b bs. configured (take channels s) (v.read ++ (c.0 ∷ [])) (components_from b ts bs)) bound q);
                  }

          pub hall_falls : length s - i < length s - at
          hall_falls = let o = next_inside in omega arith
