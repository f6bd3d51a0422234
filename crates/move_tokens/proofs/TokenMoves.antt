-- A token put or taken in the bytes that are held is the abstract move: a count is stored, and the component gives way.
-- Assumes nothing.
use Prim.Native.Nat.{ℕ, suc, ◌+◌, ◌-◌, ◌/◌, ◌≤◌, ◌<◌}
use native.Mathlib.Omega.{arith}
use mathlib.Core.Path.{◌≡◌, refl, sym, ap, ◌∙◌}
use mathlib.Core.Bool.{Bool, true, false}
use mathlib.Core.Option.{some}
use mathlib.Core.List.{List, [], map, flatten}
use lib.ListN.{length, get_or, take, set, get_elem?, length-map}
use Rattle.calculus.specs.Syntax.{Name}
use Rattle.calculus.specs.State.{count, without}
use Rattle.calculus.specs.Reduction.{Rule}
use Rattle.semantics.specs.Definitions.Layout.{max_count, max_terms}
use Rattle.semantics.specs.Definitions.Terms.{Program, Term, process}
use Rattle.semantics.specs.Definitions.Table.{take_k, repeat_k}
use Rattle.semantics.specs.Checks.AcceptedTables.{program_number}
use Rattle.semantics.specs.Definitions.Logs.{add_token, take_token}
use Rattle.semantics.specs.Definitions.Configuration.{Idle, taking, repeating, output, idle, Configuration}
use Rattle.semantics.specs.Definitions.Stored.{component_bytes, ComponentOk}
use Rattle.semantics.specs.Definitions.Moves.{act, moved, transition_of, transition}
use Rattle.theorems.proofs.Lists.{found_below}
use Rattle.theorems.proofs.WellFormedKept.{count_byte, well_formed_step}
use Rattle.table_records.specs.Shapes.{kind_byte}
use Rattle.table_terms.specs.Decoded.{kind_at, first_at, second_at, Decoded}
use Rattle.hall_layout.specs.Layout.{channels, max_components, hall_bytes, component_body, idle_size}
use Rattle.hall_laws.specs.Positions.{all_bytes}
use Rattle.hall_laws.proofs.Starts.{idle_size_holds, idle_sizes}
use Rattle.hall_held.specs.Holds.{Holds, replaced_at, with_counts}
use Rattle.hall_held.specs.Choices.{afterwards, AcceptedBy}
use Rattle.hall_held.proofs.Holds.{few_components, count_here, start_below_used, used_inside, position_below, component_ok, component_ends, body_here}
use Rattle.hall_held.proofs.AcceptedActs.{Replacement}
use Rattle.hall_held.proofs.Replacements.{idle_spaced}
use Rattle.hall_held.proofs.MovesInPlace.{count_stored}
use Rattle.move_tokens.specs.Tokens.{take_of, take_term, successors, take_number, SuccessorsWritten}
use Rattle.move_tokens.proofs.TokenReplies.{put_accepted, take_accepted, PutsHere, TakesHere, puts_there, takes_there}

-- ---- a take in the decoded table

-- the byte of its kind
abbrev pub take_kind : (repeated : Bool) → ℕ
take_kind false = kind_byte take_k
take_kind true = kind_byte repeat_k

-- what the decoded table says of the take of this number
pub record TakeIn (ts : List Term) (d : List ℕ) (b : Bool) (m : ℕ) (a : Name) (P : Program) : Type 0 where
  pub inside : m < max_terms
  pub kind : kind_at d m ≡ take_kind b
  pub channel : first_at d m ≡ a
  pub below : a < channels
  pub continuation : get_elem? ts (second_at d m) ≡ some (process P)

module _ {ts : List Term} {d : List ℕ} (y : Decoded ts d) where
  number_inside : (m : ℕ) (t : Term) → get_elem? ts m ≡ some t → m < max_terms
  number_inside m t e = let l = found_below ts m t e in let f = y.good.few in omega arith

  -- by what the table says of its term
  told : (b : Bool) (m : ℕ) (a : Name) (P : Program) → m < max_terms →
      (kind_at d m ≡ take_kind b) × (first_at d m ≡ a) × (second_at d m ≡ program_number P) × (second_at d m < m) →
      a < channels → get_elem? ts (program_number P) ≡ some (process P) → TakeIn ts d b m a P
  told b m a P i r l c = record { inside = i; kind = r.0; channel = r.1; below = l; continuation = rw r.2 c }

  pub take_in : (b : Bool) (m : ℕ) (a : Name) (P : Program) → get_elem? ts m ≡ some (take_term b m a P) →
      TakeIn ts d b m a P
  take_in false m a P e =
      told false m a P (number_inside m _ e) (y.records m _ e) (y.good.channel m _ e) (y.good.subterms m _ e)
  take_in true m a P e =
      told true m a P (number_inside m _ e) (y.records m _ e) (y.good.channel m _ e) (y.good.subterms m _ e)

-- ---- where an idle component stands

module _ {ts : List Term} {h : Configuration} {s starts : List ℕ} {n : ℕ} (x : Holds ts h s starts n) (p : ℕ) (c : Idle)
    (e : get_elem? h.components p ≡ some (idle c)) where
  pub position_inside : p < max_components
  position_inside = let l = position_below x p (idle c) e in let f = few_components x in omega arith

  pub body_inside : get_or starts p 0 + component_body < hall_bytes
  body_inside =
      let l = position_below x p (idle c) e in
      let z = idle_size_holds c in
      let o = component_ends x p (idle c) e in
      let u = start_below_used x (p + 1) (omega arith) in
      let i = used_inside x in omega arith

-- ---- a move as one replacement

-- what an act makes of a configuration that is held: in the bytes s₁, which have the new counts, component number p
-- gives way to those whose bytes are `new`
abbrev pub Linked : (ts : List Term) (h : Configuration) (s₁ starts : List ℕ) (n p : ℕ) (new : List ℕ) (pieces : ℕ) → Type 0
Linked ts h s₁ starts n p new pieces =
    Replacement ts (afterwards (transition h (act p)) h) s₁ starts n p new pieces

module _ {ts : List Term} {h : Configuration} {s starts : List ℕ} {n : ℕ} (x : Holds ts h s starts n) (p : ℕ) where
  -- a count is stored, and idle components are laid down
  stored_and_laid : (a c : ℕ) (r : Rule) (cs : List Idle) (new : List ℕ) (pieces : ℕ) → a < channels → c ≤ max_count →
      p < n → new ≡ all_bytes (map idle cs) → pieces ≡ length cs →
      transition h (act p) ≡ moved r (replaced_at p (map idle cs) (with_counts (set h.counts a c) h)) →
      Linked ts h (set s a c) starts n p new pieces
  unfolding afterwards
  stored_and_laid a c r cs new pieces l m there bytes many q =
      record {
        from = with_counts (set h.counts a c) h;
        successors = map idle cs;
        replaces = record {
          holds = count_stored x a c l m;
          there = there;
          bytes = bytes;
          many = many ∙ sym (length-map cs idle);
          even = idle_spaced cs;
          form = well_formed_step (act p) x.good x.form q;
        };
        makes = ap (λ y. afterwards y h) q;
      }

  -- ---- OUT

  module _ (q : AcceptedBy h (act p) 1) where
    there : PutsHere h p
    there = puts_there h p q

    out_below : there.channel < channels
    unfolding ComponentOk
    out_below = component_ok x p (idle (output there.channel)) there.there

    out_channel : get_or s (get_or starts p 0 + component_body) 0 ≡ there.channel
    unfolding component_bytes
    out_channel = body_here x p (idle (output there.channel)) there.there

    module _ (a : ℕ) (e : a ≡ get_or s (get_or starts p 0 + component_body) 0) where
      -- the channel that the bytes name is one, and not full
      pub out_room : (a < channels) × (get_or s a 0 < max_count)
      out_room =
          let z : a ≡ there.channel = e ∙ out_channel in
          rw z (out_below, rw (count_here x there.channel out_below) there.room)

      -- the token goes to that channel, and the output goes
      pub out_link : Linked ts h (set s a (get_or s a 0 + 1)) starts n p [] 0
      unfolding add_token all_bytes flatten transition transition_of
      out_link =
          let l = out_below in
          let r = there.room in
          let f = x.form.few in
          let z : a ≡ there.channel = e ∙ out_channel in
          let m = count_here x there.channel l in
          let k : get_or s there.channel 0 + 1 ≡ suc (count h.counts there.channel) = omega arith in
          rw (z, k)
          (stored_and_laid there.channel (suc (count h.counts there.channel)) _ [] [] 0 l (omega arith)
          (position_below x p _ there.there) refl refl
          (ap transition_of (put_accepted h p there.channel there.there f r)))

  -- ---- IN and REP

  module _ (b : Bool) (m : ℕ) (a : Name) (P : Program)
      (e : get_elem? h.components p ≡ some (idle (take_of b m a P))) where
    pub waits_on : get_elem? ts m ≡ some (take_term b m a P)
    unfolding ComponentOk
    waits_on = by b e
      where
        by : (b : Bool) → get_elem? h.components p ≡ some (idle (take_of b m a P)) →
            get_elem? ts m ≡ some (take_term b m a P)
        by false e = component_ok x p (idle (taking m a P)) e
        by true e = component_ok x p (idle (repeating m a P)) e

    pub take_body : get_or s (get_or starts p 0 + component_body) 0 ≡ m
    unfolding component_bytes
    take_body = by b e
      where
        by : (b : Bool) → get_elem? h.components p ≡ some (idle (take_of b m a P)) →
            get_or s (get_or starts p 0 + component_body) 0 ≡ m
        by false e = body_here x p (idle (taking m a P)) e
        by true e = body_here x p (idle (repeating m a P)) e

  -- by rule 2 or 3
  module _ {d : List ℕ} (y : Decoded ts d) (b : Bool) (q : AcceptedBy h (act p) (take_number b)) where
    pub taker : TakesHere h p b
    taker = takes_there h p b q

    term_here : get_elem? ts taker.number ≡ some (take_term b taker.number taker.channel taker.continuation)
    term_here = waits_on b taker.number taker.channel taker.continuation taker.there

    module _ (m a : ℕ) (t : m ≡ get_or s (get_or starts p 0 + component_body) 0) (f : a ≡ first_at d m) where
      number_here : m ≡ taker.number
      number_here = t ∙ take_body b taker.number taker.channel taker.continuation taker.there

      -- the term that the bytes name is the take
      pub take_there : get_elem? ts m ≡ some (take_term b m taker.channel taker.continuation)
      take_there = rw number_here term_here

      channel_here : a ≡ taker.channel
      channel_here = f ∙ (take_in y b m taker.channel taker.continuation take_there).channel

      -- its channel is one, and not empty
      pub take_token_holds : (a < channels) × (0 < get_or s a 0)
      take_token_holds =
          let l = (take_in y b m taker.channel taker.continuation take_there).below in
          let k = taker.token in
          let c = count_here x taker.channel l in
          rw channel_here (l, positive (count h.counts taker.channel) k c)
        where
          positive : (n : ℕ) → (n ≡ 0 → ⊥) → {z : ℕ} → z ≡ n → 0 < z
          positive n k c = omega arith

      -- a token is taken from it, and what is laid down stands in the take's place
      pub take_link : (bytes : List ℕ) (size : ℕ) → SuccessorsWritten d m bytes size →
          Linked ts h (set s a (get_or s a 0 - 1)) starts n p (take size bytes) (size / idle_size)
      unfolding take_token without transition transition_of
      take_link bytes size w =
          let l = (take_in y b m taker.channel taker.continuation take_there).below in
          let laid = successors b m taker.channel taker.continuation in
          let v = w.found ts b taker.channel taker.continuation y take_there in
          let z = idle_sizes laid in
          let c = count_byte h.counts taker.channel x.form.channel_counts in
          rw (channel_here, count_here x taker.channel l)
          (stored_and_laid taker.channel (count h.counts taker.channel - 1) _ laid (take size bytes)
          (size / idle_size) l (omega arith) (position_below x p _ taker.there) v.1 (omega (arith, v.0))
          (ap transition_of (take_accepted h p b m taker.channel taker.continuation (rw number_here taker.there) taker.token
          (rw number_here taker.few))))

-- rule 2, and rule 3
module _ {ts : List Term} {h : Configuration} {d s starts : List ℕ} {n : ℕ} (y : Decoded ts d)
    (x : Holds ts h s starts n) (p m a : ℕ) (t : m ≡ get_or s (get_or starts p 0 + component_body) 0)
    (f : a ≡ first_at d m) (bytes : List ℕ) (size : ℕ) (w : SuccessorsWritten d m bytes size) where
  pub in_link : AcceptedBy h (act p) 2 →
      Linked ts h (set s a (get_or s a 0 - 1)) starts n p (take size bytes) (size / idle_size)
  in_link q = take_link x p y false q m a t f bytes size w

  pub rep_link : AcceptedBy h (act p) 3 →
      Linked ts h (set s a (get_or s a 0 - 1)) starts n p (take size bytes) (size / idle_size)
  rep_link q = take_link x p y true q m a t f bytes size w
