-- The stack of terms that wait to be opened: what a turn finds there, what it leaves and lays down, and many turns.
-- Assumes nothing.
use Prim.Native.Nat.{ℕ, zero, suc, ◌+◌, ◌-◌, ◌*◌, ◌≤◌, ◌<◌}
use native.Mathlib.Omega.{arith}
use mathlib.Core.Path.{◌≡◌, refl, sym, ap, ◌∙◌}
use mathlib.Core.Logic.{◌⊎◌, inl, inr}
use mathlib.Core.Option.{some}
use mathlib.Core.List.{List, [], ◌∷◌, ◌++◌, flatten}
use lib.ListN.{length, get_or, set, get_elem?, length-append, length-set}
use lib.Seq.{get_or-set_same, get_or-set_other}
use mir.Syntax.{w64}
use mir.Val.{Fits}
use Rattle.semantics.specs.Definitions.Terms.{Program, nil_t, put_t, take_t, repeat_t, par_t, atom_t, Term, process, width}
use Rattle.semantics.specs.Definitions.Configuration.{Idle, opens}
use Rattle.semantics.specs.Definitions.Turns.{turn, waiting_after, listed, laid_by}
use Rattle.semantics.specs.Claims.Turns.{turns_to_go, TurnsFall}
use Rattle.theorems.specs.Widths.{widths}
use Rattle.theorems.proofs.Turns.{width_some, terms_narrow, waiting_narrow, waiting_more, laid_more, waiting_ended, laid_ended, ends, all_laid, alone_wide, turns_fall}
use Rattle.table_terms.specs.Decoded.{kind_at, first_at, second_at, breadth_at, breadth, RecordOf, Decoded, max_terms}
use Rattle.buffer.specs.Splice.{written}
use Rattle.buffer.proofs.Written.{written_none, written_length, written_twice}
use Rattle.hall_layout.specs.Layout.{idle_size, max_components}
use Rattle.hall_laws.specs.Positions.{all_bytes}
use Rattle.hall_open.specs.Opening.{idle_bytes, components_bytes, CanWriteComponents, ComponentsWritten}
use Rattle.hall_open.specs.Turns.{WaitingTerms, LaidDown, AfterNext, OnTop, CanTurn, TurnMade, TurnsBegun, TurnsMade}
use Rattle.hall_open.proofs.Processes.{sides_at, inside, idle_append, idle_length}

-- ---- what waits

module _ (ts : List Term) where
  -- an entry above those that wait may change
  waiting_set : (stack : List ℕ) (n : ℕ) (Ps : List Program) (j v : ℕ) → n ≤ j → WaitingTerms ts stack n Ps → WaitingTerms ts (set stack j v) n Ps
  waiting_set stack n [] j v h w = w
  waiting_set stack n (P ∷ Ps) j v h (m, e, at, w) =
      let below : get_or (set stack j v) m 0 ≡ get_or stack m 0 = get_or-set_other stack j m v 0 (λ q. omega arith) in
      (m, e, rw below at, waiting_set stack m Ps j v (omega arith) w)

  -- as many as the stack says
  pub waiting_length : (stack : List ℕ) (n : ℕ) (Ps : List Program) → WaitingTerms ts stack n Ps → n ≡ length Ps
  waiting_length stack n [] w = w
  waiting_length stack n (P ∷ Ps) (m, e, at, w) = let h = waiting_length stack m Ps w in omega arith

  -- a term put on top of those that wait
  pub waiting_push : (stack : List ℕ) (n : ℕ) (Ps : List Program) (v : ℕ) (P : Program) → n < length stack → WaitingTerms ts stack n Ps →
      get_elem? ts v ≡ some (process P) → WaitingTerms ts (set stack n v) (suc n) (P ∷ Ps)
  waiting_push stack n Ps v P h w at =
      (n, refl, rw (get_or-set_same stack n v 0 h) at, waiting_set stack n Ps n v (omega arith) w)

-- the next one stands on top
top_stands : (ts : List Term) (stack : List ℕ) (n v u : ℕ) → OnTop stack n v u → (P : Program) (Ps : List Program) → WaitingTerms ts stack n (P ∷ Ps) →
    get_elem? ts v ≡ some (process P)
top_stands ts stack n v u top P Ps (m, e, at, w) = let q : n - 1 ≡ m = omega arith in rw (top.next (omega arith), q) at

-- the entry after it, where two or more wait
pub after_stands : (stack : List ℕ) (n at u : ℕ) → u ≡ get_or stack at 0 → (n < 2) ⊎ (at ≡ n - 2) → AfterNext stack n u
after_stands stack n at u e (inl few) = record { stands = λ h. absurd (omega arith) }
after_stands stack n at u e (inr there) = record { stands = λ h. e ∙ ap (λ j. get_or stack j 0) there }

-- ---- what a turn finds

module _ (d stack : List ℕ) (n v u : ℕ) (hall : List ℕ) (at : ℕ) (x : CanTurn d stack n v u hall at) where
  pub some_waits : 1 ≤ n
  some_waits = let e = x.waiting.1 in omega arith

  pub few_wait : n ≤ max_components
  few_wait =
      let l = waiting_length x.terms stack n (x.next ∷ x.rest) x.waiting in
      let t = terms_narrow (x.next ∷ x.rest) in
      let h = x.narrow in omega arith

  pub top_inside : n - 1 < max_components
  top_inside = let h = few_wait in omega arith

  pub fewer_wait : n - 1 ≤ max_components
  fewer_wait = let h = few_wait in omega arith

  pub one_more_fits : Fits w64 (n + 1)
  one_more_fits = let h = few_wait in record { fits = omega arith }

  next_stands : get_elem? x.terms v ≡ some (process x.next)
  next_stands = top_stands x.terms stack n v u x.on_top x.next x.rest x.waiting

  pub next_fits : CanWriteComponents d v hall at
  unfolding widths
  next_fits = let h = x.fits in record { terms = x.terms; tree = x.next; decoded = x.decoded; at = next_stands; fits = omega arith }

  pub next_inside : v < max_terms
  next_inside = inside d v hall at next_fits

  -- two side by side leave room for one entry more
  pub room_above : (k : ℕ) → k ≡ kind_at d v → k ≡ 5 → n < max_components
  unfolding widths width
  room_above k kind h =
      let s = sides_at d v k kind x.terms x.next x.decoded next_stands h in
      let l = waiting_length x.terms stack n (x.next ∷ x.rest) x.waiting in
      let t = terms_narrow x.rest in
      let w : width x.next ≡ width s.left + width s.right = ap width s.both in
      let f = width_some s.left in
      let g = width_some s.right in
      let r = x.narrow in omega arith

-- ---- what a turn leaves and lays down

nothing_laid : (hall : List ℕ) (at : ℕ) → LaidDown [] hall at hall at
unfolding idle_bytes all_bytes flatten
nothing_laid hall at = record { end = omega arith; bytes = written_none hall at [] }

-- of a process whose record is not of two side by side: it goes, and what it opens into is laid down
one_opens : (i k l r : ℕ) (P : Program) (Ps : List Program) → RecordOf i k l r (process P) → (k ≡ 5 → ⊥) →
    ((turn P Ps).waiting ≡ Ps) × (listed (turn P Ps).laid ≡ opens P)
unfolding turn listed opens
one_opens i k l r (nil_t n) Ps e h = (refl, refl)
one_opens i k l r (put_t n a) Ps e h = (refl, refl)
one_opens i k l r (take_t n a P) Ps e h = (refl, refl)
one_opens i k l r (repeat_t n a P) Ps e h = (refl, refl)
one_opens i k l r (par_t n P Q) Ps e h = absurd (h e.0)
one_opens i k l r (atom_t n M) Ps e h = (refl, refl)

module _ (d stack : List ℕ) (n v u : ℕ) (hall : List ℕ) (at : ℕ) (y : CanTurn d stack n v u hall at) (b : ℕ) (o : b ≡ n - 1) (k : ℕ) (kind : k ≡ kind_at d v) where
  -- of any terms that wait: the next one, and those below it
  module _ (ts : List Term) (P : Program) (Ps : List Program) (w : WaitingTerms ts stack n (P ∷ Ps)) where
    top_at : get_elem? ts v ≡ some (process P)
    top_at = top_stands ts stack n v u y.on_top P Ps w

    below_top : WaitingTerms ts stack b Ps
    below_top = let e = w.1 in let q : b ≡ w.0 = omega arith in rw q w.3

  pub sides_wait : k ≡ 5 → (l : ℕ) → l ≡ first_at d v → (r : ℕ) → r ≡ second_at d v → (v' : ℕ) → v' ≡ l → (u' : ℕ) → u' ≡ r →
      TurnMade d stack n hall at (set (set stack b r) n l) (n + 1) v' u' hall at
  unfolding turn listed
  sides_wait h l f r q v' i u' j =
      let top = get_or-set_same (set stack b r) n l 0 (rw (length-set stack b r) room) in
      let under = get_or-set_other (set stack b r) n b l 0 (λ e. let z = some in omega arith) ∙ get_or-set_same stack b r 0 (let z = some in let g = room in omega arith) in
      let n_top : n + 1 - 1 ≡ n = omega arith in
      let n_under : n + 1 - 2 ≡ b = omega arith in
      record {
        sized = length-set (set stack b r) n l ∙ length-set stack b r;
        on_top = record { next = λ e. rw n_top (i ∙ sym top); after = record { stands = λ e. rw n_under (j ∙ sym under) } };
        found = go;
      }
    where
      some : 1 ≤ n
      some = some_waits d stack n v u hall at y

      room : n < length stack
      room = let z = room_above d stack n v u hall at y k kind h in let sized = y.sized in omega arith

      go : (ts : List Term) (P : Program) (Ps : List Program) → Decoded ts d → WaitingTerms ts stack n (P ∷ Ps) →
          WaitingTerms ts (set (set stack b r) n l) (n + 1) (turn P Ps).waiting × LaidDown (listed (turn P Ps).laid) hall at hall at
      go ts P Ps x w =
          let s = sides_at d v k kind ts P x (top_at ts P Ps w) h in
          let e = w.1 in
          let above : suc b ≡ n = omega arith in
          let below : b < length stack = let z = room in omega arith in
          let top : n + 1 ≡ suc n = omega arith in
          let right = waiting_push ts stack b Ps r s.right below (below_top ts P Ps w) (rw q s.at_right) in
          let both = waiting_push ts (set stack b r) n (s.right ∷ Ps) l s.left (rw (length-set stack b r) room) (rw above at right) (rw f s.at_left) in
          rw (s.both, top) (both, nothing_laid hall at)

  pub one_laid : (kind_at d v ≡ 5 → ⊥) → (hall' : List ℕ) (end : ℕ) → ComponentsWritten d v hall at hall' end → (u' : ℕ) → AfterNext stack b u' →
      TurnMade d stack n hall at stack b u u' hall' end
  unfolding components_bytes
  one_laid h hall' end c u' under =
      let n_next : n - 2 ≡ b - 1 = omega arith in
      record {
        sized = refl;
        on_top = record { next = λ e. rw n_next at (y.on_top.after.stands (omega arith)); after = under };
        found = go;
      }
    where
      go : (ts : List Term) (P : Program) (Ps : List Program) → Decoded ts d → WaitingTerms ts stack n (P ∷ Ps) →
          WaitingTerms ts stack b (turn P Ps).waiting × LaidDown (listed (turn P Ps).laid) hall at hall' end
      go ts P Ps x w =
          let at_top = top_at ts P Ps w in
          let one = one_opens v (kind_at d v) (first_at d v) (second_at d v) P Ps (x.records v (process P) at_top) h in
          let laid = c.found ts P x at_top in
          rw (one.0, one.1) (below_top ts P Ps w, record { end = laid.0; bytes = laid.1 })

-- ---- the measure

-- the turns that the terms on the stack take, by their breadths in the decoded table
unfoldable pub to_go : (d stack : List ℕ) → ℕ → ℕ
to_go d stack zero = 0
to_go d stack (suc m) = (2 * breadth_at d (get_or stack m 0) - 1) + to_go d stack m

waiting_to_go : (ts : List Term) (d : List ℕ) → Decoded ts d → (stack : List ℕ) (n : ℕ) (Ps : List Program) → WaitingTerms ts stack n Ps → to_go d stack n ≡ turns_to_go Ps
unfolding to_go turns_to_go breadth
waiting_to_go ts d x stack n [] w = rw w
waiting_to_go ts d x stack n (P ∷ Ps) (m, e, at, w) =
    let wide = (x.measures (get_or stack m 0) (process P) at).0 in
    let below = waiting_to_go ts d x stack m Ps w in rw e (omega arith)

pub to_go_falls : (d stack : List ℕ) (n v u : ℕ) (hall : List ℕ) (at : ℕ) → CanTurn d stack n v u hall at →
    (stack' : List ℕ) (n' v' u' : ℕ) (hall' : List ℕ) (end : ℕ) → TurnMade d stack n hall at stack' n' v' u' hall' end → to_go d stack' n' < to_go d stack n
unfolding TurnsFall
to_go_falls d stack n v u hall at x stack' n' v' u' hall' end z =
    let before = waiting_to_go x.terms d x.decoded stack n (x.next ∷ x.rest) x.waiting in
    let next = z.found x.terms x.next x.rest x.decoded x.waiting in
    let after = waiting_to_go x.terms d x.decoded stack' n' (turn x.next x.rest).waiting next.0 in
    let falls = turns_fall x.next x.rest in omega arith

-- ---- many turns

-- what is laid down, and more behind it
laid_twice : (cs ds : List Idle) (s : List ℕ) (at : ℕ) (s' : List ℕ) (middle : ℕ) (s'' : List ℕ) (end : ℕ) → at ≤ length s →
    LaidDown cs s at s' middle → LaidDown ds s' middle s'' end → LaidDown (cs ++ ds) s at s'' end
laid_twice cs ds s at s' middle s'' end h a b =
    let both = idle_append cs ds in
    let l = length-append (idle_bytes cs) (idle_bytes ds) in
    record {
      end = rw both (omega (arith, a.end, b.end));
      bytes = rw both (b.bytes ∙ rw (a.bytes, a.end) (written_twice s (idle_bytes cs) (idle_bytes ds) at h));
    }

-- the hall is as long as it was
laid_long : (cs : List Idle) (s : List ℕ) (at : ℕ) (s' : List ℕ) (end : ℕ) → LaidDown cs s at s' end → at + idle_size * length cs ≤ length s →
    length s' ≡ length s
laid_long cs s at s' end a h =
    let l = idle_length cs in ap length a.bytes ∙ written_length s at (idle_bytes cs) (length (idle_bytes cs)) (omega arith) (omega arith)

module _ (d : List ℕ) (i : ℕ) (hall : List ℕ) (at : ℕ) (x : CanWriteComponents d i hall at) (made : ℕ) (stack : List ℕ) (n v u : ℕ) (hall' : List ℕ) (end : ℕ)
    (y : TurnsMade d i made hall at stack n v u hall' end) where
  pub turns_long : length hall' ≡ length hall
  turns_long =
      let now = y.found x.terms x.tree x.decoded x.at in
      let cs = laid_by made (x.tree ∷ []) in
      let narrow = waiting_narrow made (x.tree ∷ []) in
      let one = alone_wide x.tree in
      let fits = x.fits in laid_long cs hall at hall' end now.1 (omega arith)

  -- something waits, and it fits
  pub can_turn : (n ≡ 0 → ⊥) → CanTurn d stack n v u hall' end
  can_turn h = go (waiting_after made (x.tree ∷ [])) refl
    where
      go : (Ps : List Program) → waiting_after made (x.tree ∷ []) ≡ Ps → CanTurn d stack n v u hall' end
      go [] e = absurd (h (rw e at (y.found x.terms x.tree x.decoded x.at).0))
      go (P ∷ Ps) e =
          let now = y.found x.terms x.tree x.decoded x.at in
          let narrow = waiting_narrow made (x.tree ∷ []) in
          let w : widths (waiting_after made (x.tree ∷ [])) ≡ widths (P ∷ Ps) = ap widths e in
          let one = alone_wide x.tree in
          let limit = x.decoded.good.limits i (process x.tree) x.at in
          let fits = x.fits in
          let l = idle_length (laid_by made (x.tree ∷ [])) in
          let to = now.1.end in
          let long = turns_long in
          record {
            terms = x.terms;
            next = P;
            rest = Ps;
            decoded = x.decoded;
            on_top = y.on_top;
            sized = y.sized;
            waiting = rw e at now.0;
            narrow = omega arith;
            fits = omega arith;
          }

  -- one more
  pub one_made : (n ≡ 0 → ⊥) → (stack' : List ℕ) (n' v' u' : ℕ) (hall'' : List ℕ) (end' : ℕ) → TurnMade d stack n hall' end stack' n' v' u' hall'' end' →
      TurnsMade d i (made + 1) hall at stack' n' v' u' hall'' end'
  one_made h stack' n' v' u' hall'' end' z = record { sized = z.sized ∙ y.sized; on_top = z.on_top; found = λ ts P u e. go ts P u e (waiting_after made (P ∷ [])) refl }
    where
      go : (ts : List Term) (P : Program) → Decoded ts d → get_elem? ts i ≡ some (process P) → (Ps : List Program) → waiting_after made (P ∷ []) ≡ Ps →
          WaitingTerms ts stack' n' (waiting_after (made + 1) (P ∷ [])) × LaidDown (laid_by (made + 1) (P ∷ [])) hall at hall'' end'
      go ts P u e [] q = absurd (h (rw q at (y.found ts P u e).0))
      go ts P u e (Q ∷ Qs) q =
          let now = y.found ts P u e in
          let next = z.found ts Q Qs u (rw q at now.0) in
          let more : made + 1 ≡ suc made = omega arith in
          let fits = x.fits in
          rw (more, waiting_more made (P ∷ []) Q Qs q, laid_more made (P ∷ []) Q Qs q)
          (next.0, laid_twice (laid_by made (P ∷ [])) (listed (turn Q Qs).laid) hall at hall' end hall'' end' (omega arith) now.1 next.1)

  -- nothing waits: more turns change nothing
  pub none_waits : n ≡ 0 → (turns : ℕ) → made ≤ turns → TurnsMade d i turns hall at stack n v u hall' end
  none_waits h turns few = record { sized = y.sized; on_top = y.on_top; found = λ ts P u e. go ts P u e (waiting_after made (P ∷ [])) refl }
    where
      go : (ts : List Term) (P : Program) → Decoded ts d → get_elem? ts i ≡ some (process P) → (Ps : List Program) → waiting_after made (P ∷ []) ≡ Ps →
          WaitingTerms ts stack n (waiting_after turns (P ∷ [])) × LaidDown (laid_by turns (P ∷ [])) hall at hall' end
      go ts P u e [] q = rw (waiting_ended made turns (P ∷ []) q few, laid_ended made turns (P ∷ []) q few) (h, (y.found ts P u e).1)
      go ts P u e (Q ∷ Qs) q = let w = rw q at (y.found ts P u e).0 in let z = w.1 in absurd (omega arith)

  -- nothing waits: all that the process opens into is written
  pub all_written : n ≡ 0 → ComponentsWritten d i hall at hall' end
  unfolding components_bytes
  all_written h = record { found = λ ts P u e. go ts P u e (waiting_after made (P ∷ [])) refl }
    where
      go : (ts : List Term) (P : Program) → Decoded ts d → get_elem? ts i ≡ some (process P) → (Ps : List Program) → waiting_after made (P ∷ []) ≡ Ps →
          (end ≡ at + length (components_bytes P)) × (hall' ≡ written hall at (components_bytes P) (length (components_bytes P)))
      go ts P u e [] q = let laid = rw (all_laid P made ((ends P made).0 q)) at (y.found ts P u e).1 in (laid.end, laid.bytes)
      go ts P u e (Q ∷ Qs) q = let w = rw q at (y.found ts P u e).0 in let z = w.1 in absurd (omega arith)

-- ---- the loops

-- before the first turn
pub begun_made : (d : List ℕ) (i : ℕ) (hall : List ℕ) (at : ℕ) (stack stack' : List ℕ) (n v u end : ℕ) → length stack ≡ max_components → TurnsBegun stack i at stack' n v end →
    TurnsMade d i 0 hall at stack' n v u hall end
unfolding waiting_after laid_by
begun_made d i hall at stack stack' n v u end h z =
    let here = get_or-set_same stack 0 i 0 (omega arith) in
    rw (z.alone, z.next, z.stands, z.nowhere) (record {
      sized = length-set stack 0 i ∙ h;
      on_top = record { next = λ e. sym here; after = record { stands = λ e. absurd (omega arith) } };
      found = λ ts P x e. (waiting_push ts stack 0 [] i P (omega arith) refl e, nothing_laid hall at);
    })

-- some turns are made, whatever their number
pub record SomeMade (d : List ℕ) (i : ℕ) (hall : List ℕ) (at : ℕ) (stack : List ℕ) (n v u : ℕ) (hall' : List ℕ) (end : ℕ) : Type 0 where
  pub made : ℕ
  pub so_far : TurnsMade d i made hall at stack n v u hall' end

pub none_made : (d : List ℕ) (i : ℕ) (hall : List ℕ) (at : ℕ) (stack stack' : List ℕ) (n v u end : ℕ) → length stack ≡ max_components → TurnsBegun stack i at stack' n v end →
    SomeMade d i hall at stack' n v u hall end
none_made d i hall at stack stack' n v u end h z = record { made = 0; so_far = begun_made d i hall at stack stack' n v u end h z }

module _ (d : List ℕ) (i : ℕ) (hall : List ℕ) (at : ℕ) (x : CanWriteComponents d i hall at) where
  module _ (stack : List ℕ) (n v u : ℕ) (hall' : List ℕ) (end : ℕ) (y : SomeMade d i hall at stack n v u hall' end) where
    pub some_can : (n ≡ 0 → ⊥) → CanTurn d stack n v u hall' end
    some_can h = can_turn d i hall at x y.made stack n v u hall' end y.so_far h

    module _ (h : n ≡ 0 → ⊥) (stack' : List ℕ) (n' v' u' : ℕ) (hall'' : List ℕ) (end' : ℕ) (z : TurnMade d stack n hall' end stack' n' v' u' hall'' end') where
      pub some_made : SomeMade d i hall at stack' n' v' u' hall'' end'
      some_made = record { made = y.made + 1; so_far = one_made d i hall at x y.made stack n v u hall' end y.so_far h stack' n' v' u' hall'' end' z }

      pub some_falls : to_go d stack' n' < to_go d stack n
      some_falls = to_go_falls d stack n v u hall' end (some_can h) stack' n' v' u' hall'' end' z

    pub some_long : length hall' ≡ length hall
    some_long = turns_long d i hall at x y.made stack n v u hall' end y.so_far

    pub some_written : n ≡ 0 → ComponentsWritten d i hall at hall' end
    some_written h = all_written d i hall at x y.made stack n v u hall' end y.so_far h

-- as many turns are made as were asked for
pub all_made : (d : List ℕ) (i turns : ℕ) (hall : List ℕ) (at made : ℕ) (stack : List ℕ) (n v u : ℕ) (hall' : List ℕ) (end : ℕ) →
    TurnsMade d i made hall at stack n v u hall' end → made ≤ turns → turns ≤ made → TurnsMade d i turns hall at stack n v u hall' end
all_made d i turns hall at made stack n v u hall' end y few h = let same : turns ≡ made = omega arith in rw same y
