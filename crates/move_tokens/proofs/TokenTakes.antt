-- IN and REP: a law for each need of the code.
-- Assumes nothing.
use Prim.Native.Nat.{ℕ, ◌+◌, ◌-◌, ◌/◌, ◌≤◌, ◌<◌}
use native.Mathlib.Omega.{arith}
use mathlib.Core.Path.{◌≡◌, refl, sym, ap, ◌∙◌}
use mathlib.Core.Bool.{Bool, true, false}
use mathlib.Core.Option.{some}
use mathlib.Core.List.{List, [], ◌∷◌, ◌++◌, map, flatten, map-append}
use lib.ListN.{length, get_or, take, set, get_elem?, length-append, length-take}
use lib.Seq.{take_at, take-length}
use lib.Dec.{ltb}
use borrow.Author.Tests.{ltb-true, ltb-false, le-ltb}
use Rattle.std.specs.Prelude.{Result, None, Ok, Err}
use Rattle.std.specs.Int.{from_bool}
use Rattle.calculus.specs.Syntax.{Name}
use Rattle.semantics.specs.Definitions.Layout.{max_terms, max_components}
use Rattle.semantics.specs.Definitions.Terms.{Program, nil_t, put_t, take_t, repeat_t, par_t, atom_t, Term, process, width}
use Rattle.semantics.specs.Definitions.Table.{par_k}
use Rattle.semantics.specs.Definitions.Configuration.{repeating, idle, Configuration, opens}
use Rattle.semantics.specs.Definitions.Stored.{component_bytes}
use Rattle.semantics.specs.Definitions.Moves as moves
use Rattle.semantics.specs.Definitions.Shortage.{enough}
use Rattle.semantics.specs.Definitions.Moves.{act, entry_answer, as_reply}
use Rattle.theorems.proofs.Lists.{found_below}
use Rattle.theorems.proofs.RoundTrip.{width_bounds_opening}
use Rattle.table_records.specs.Shapes.{kind_byte}
use Rattle.table_terms.specs.Decoded.{kind_at, first_at, second_at, breadth_at, breadth, RecordOf, Decoded}
use Rattle.buffer.specs.Splice.{written}
use Rattle.buffer.proofs.Written.{written_length, written_twice}
use Rattle.hall_layout.specs.Layout.{channels, idle_size, component_body, waiting_kind}
use Rattle.hall_laws.specs.Positions.{all_bytes}
use Rattle.hall_laws.proofs.Configurations.{all_bytes_append}
use Rattle.hall_open.specs.Opening.{components_bytes, CanWriteComponents, ComponentsWritten, ComponentsCounted}
use Rattle.hall_open.proofs.Processes.{opened_fits}
use Rattle.answers.specs.declared.refusals.Reason.{Reason}
use Rattle.answers.specs.declared.refusals.Reason.TheVariants.{EmptyChannel, TooManyComponents}
use Rattle.answers.specs.declared.rules.Rule.{Rule}
use Rattle.answers.specs.declared.rules.Rule.TheVariants.{In, Rep}
use Rattle.answers.specs.declared.replies.Move.{Move}
use Rattle.answers.specs.Answers.{number_of_rule, reason_number, shortage_of, reply_of}
use Rattle.hall_held.specs.Holds.{Holds, CanReplace, Replaced}
use Rattle.hall_held.proofs.Holds.{hall_length, few_components, count_here, position_below}
use Rattle.move_tokens.specs.Tokens.{take_of, take_term, successors, staying, take_number, repeats, term_of, successors_size, single_size, ATake, CanLookTake, TakeLooked, CanTestCrowded, CrowdedTested, CanWriteSuccessors, SuccessorsWritten, CanTake, TokenTaken}
use Rattle.move_tokens.proofs.TokenReplies.{TakesHere, takes_there, many_after, empty_refused, crowded_refused, take_accepted, take_number_holds}
use Rattle.move_tokens.proofs.TokenMoves.{take_kind, TakeIn, take_in, position_inside, body_inside, waits_on, take_body, take_token_holds, take_link}
use Rattle.hall_held.proofs.AcceptedActs.{replacement_can, replacement_held}

-- ---- room for what opens

module _ (d : List ℕ) (i more n : ℕ) where
  pub room_inside : CanTestCrowded d i more n → i < max_terms
  room_inside x =
      let y = x.continuation in
      let l = found_below y.terms i _ y.at in
      let f = y.decoded.good.few in omega arith

  pub opened_few : (k : ℕ) → CanTestCrowded d i more n → ComponentsCounted d i k → k ≤ max_components
  opened_few k x w =
      let y = x.continuation in
      let e = w.found y.terms y.tree y.decoded y.at in
      let l = y.decoded.good.limits i _ y.at in
      let o = width_bounds_opening y.tree in omega arith

  module _ (others : ℕ) (o : others ≡ n - 1 + more) where
    -- a process that is not too wide opens into no more
    pub narrow_enough : (b w : ℕ) → b ≡ breadth_at d i → w ≡ b → others + w ≤ max_components → CrowdedTested d i more n false
    unfolding breadth
    narrow_enough b w p q l = record {
      found = λ ts P y e.
          let m = (y.measures i (process P) e).0 in
          let v = width_bounds_opening P in sym (le-ltb max_components (n - 1 + more + length (opens P)) (omega arith));
    }

    pub counted_enough : (k : ℕ) → ComponentsCounted d i k → CrowdedTested d i more n (ltb max_components (others + k))
    counted_enough k w = record {
      found = λ ts P y e.
          let z = w.found ts P y e in
          let v : others + k ≡ n - 1 + more + length (opens P) = omega arith in rw v;
    }

-- ---- the look

-- by whether the take is repeated
pub rep_is : (b : Bool) → b ≡ true → number_of_rule Rep ≡ take_number b
unfolding number_of_rule
rep_is b e = rw e

pub in_is : (b : Bool) → b ≡ false → number_of_rule In ≡ take_number b
unfolding number_of_rule
in_is b e = rw e

stays_is : (b : Bool) → from_bool b ≡ staying b
stays_is false = refl
stays_is true = refl

repeats_is : (kind : ℕ) (b : Bool) → kind ≡ take_kind b → b ≡ repeats kind
unfolding repeats
repeats_is kind false e = rw e
repeats_is kind true e = rw e

staying_few : (b : Bool) → staying b ≤ 1
staying_few false = omega arith
staying_few true = omega arith

-- the answer where a token is there, by the room for what opens
abbrev room_reply : (repeated crowded : Bool) → moves.Reply
room_reply b true = moves.refused_by 19
room_reply b false = moves.moved_by (take_number b) enough

module _ (d s : List ℕ) (n m i : ℕ) (same : i ≡ m) where
  module _ (x : CanLookTake d s n m) where
    held_at : get_elem? x.terms m ≡ some (take_term x.repeated m x.channel x.continuation)
    held_at = waits_on x.holds x.position x.repeated m x.channel x.continuation x.there

    held_in : TakeIn x.terms d x.repeated m x.channel x.continuation
    held_in = take_in x.decoded x.repeated m x.channel x.continuation held_at

    pub looked_inside : i < max_terms
    looked_inside = rw same held_in.inside

    pub looked_channel : (f a : ℕ) → f ≡ first_at d i → a ≡ f → a < length s
    looked_channel f a p q =
        let l = held_in.below in
        let e = held_in.channel in
        let z = hall_length x.holds in
        let v : a ≡ first_at d m = q ∙ rw same at p in omega arith

    room_asked : (g k more : ℕ) (b : Bool) → g ≡ second_at d i → k ≡ g → more ≡ staying b →
        CanTestCrowded d k more n
    room_asked g k more b p q l =
        let f = staying_few b in
        let v : k ≡ second_at d m = q ∙ rw same at p in
        let b = position_below x.holds x.position _ x.there in
        record {
          continuation = record {
            terms = x.terms;
            tree = x.continuation;
            decoded = x.decoded;
            at = rw v held_in.continuation;
          };
          any = omega arith;
          few = few_components x.holds;
          one = omega arith;
        }

  module _ (f a : ℕ) (p : f ≡ first_at d i) (q : a ≡ f) where
    -- the count of the channel is that of the component's
    counted : {ts : List Term} {h : Configuration} {starts : List ℕ} (y : Decoded ts d) (x : Holds ts h s starts n)
        (b : Bool) (c : Name) (P : Program) → get_elem? ts m ≡ some (take_term b m c P) →
        get_or s a 0 ≡ get_or h.counts c 0
    counted y x b c P e =
        let v : a ≡ c = q ∙ (rw same at p) ∙ (take_in y b m c P e).channel in
        rw v (count_here x c (take_in y b m c P e).below)

    pub empty_looked : get_or s a 0 ≡ 0 → TakeLooked d s n m (Err EmptyChannel)
    unfolding reply_of reason_number
    empty_looked z = record {
      found = λ ts h starts p b c P y x e.
          let v = counted y x b c P (waits_on x p b m c P e) in sym (empty_refused h p b m c P e (sym v ∙ z));
    }

    module _ (z : get_or s a 0 ≡ 0 → ⊥) (g k : ℕ) (o : g ≡ second_at d i) (t : k ≡ g) (kind : ℕ)
        (u : kind ≡ kind_at d i) where
      room_looked : (b : Bool) → b ≡ repeats kind → (r : Bool) → CrowdedTested d k (staying b) n r →
          (v : Result Move Reason) → reply_of v ≡ room_reply b r → TakeLooked d s n m v
      unfolding as_reply
      room_looked b w r told answer is = record {
        found = λ ts h starts p b' c P y x e.
            let l = waits_on x p b' m c P e in
            let v = counted y x b' c P l in
            let of_kind : kind ≡ kind_at d m = rw same at u in
            let like : b' ≡ b = repeats_is kind b' (of_kind ∙ (take_in y b' m c P l).kind) ∙ sym w in
            let at_second : k ≡ second_at d m = t ∙ rw same at o in
            let there : get_elem? ts k ≡ some (process P) = rw at_second (take_in y b' m c P l).continuation in
            is ∙ go h p c P (rw like at e) (λ j. z (v ∙ j)) r (rw x.counted at (told.found ts P y there));
      }
        where
          go : (h : Configuration) (p : ℕ) (c : Name) (P : Program) →
              get_elem? h.components p ≡ some (idle (take_of b m c P)) → (get_or h.counts c 0 ≡ 0 → ⊥) → (r : Bool) →
              r ≡ ltb max_components (length h.components - 1 + staying b + length (opens P)) →
              room_reply b r ≡ as_reply (entry_answer h (act p))
          go h p c P e j true told =
              let l = ltb-true max_components (length h.components - 1 + staying b + length (opens P)) (sym told) in
              let f = many_after h p b m c P e in
              sym (crowded_refused h p b m c P e j (omega arith))
          go h p c P e j false told =
              let l = ltb-false max_components (length h.components - 1 + staying b + length (opens P)) (sym told) in
              let f = many_after h p b m c P e in
              sym (ap as_reply (take_accepted h p b m c P e j (omega arith)) ∙ ap (λ k. moves.moved_by k enough) (take_number_holds b c))

      module _ (b : Bool) (w : b ≡ repeats kind) (more : ℕ) (stays : more ≡ from_bool b) (r : Bool)
          (told : CrowdedTested d k more n r) where
        pub crowded_looked : r ≡ true → TakeLooked d s n m (Err TooManyComponents)
        unfolding reply_of reason_number
        crowded_looked e = room_looked b w true (rw (e, stays, stays_is b) at told) (Err TooManyComponents) refl

        pub take_looked : r ≡ false → (rule : Rule) → number_of_rule rule ≡ take_number b → (v : Move) →
            v ≡ record { rule = rule; short = None } → TakeLooked d s n m (Ok v)
        unfolding reply_of shortage_of
        take_looked e rule number v by =
            room_looked b w false (rw (e, stays, stays_is b) at told) (Ok v)
            (rw by (ap (λ k. moves.moved_by k enough) number))

-- the room for what opens may be asked for
pub can_ask_room : (d s : List ℕ) (n m : ℕ) → CanLookTake d s n m → (i g k more : ℕ) → k ≡ g → g ≡ second_at d i →
    i ≡ m → (b : Bool) → more ≡ from_bool b → CanTestCrowded d k more n
can_ask_room d s n m x i g k more q p same b stays = room_asked d s n m i same x g k more b p q (stays ∙ stays_is b)

-- ---- what is laid down

-- what is written at the front stands there
written_front : (s v : List ℕ) → take (length v) (written s 0 v (length v)) ≡ v
unfolding written
written_front s v = rw (take-length v) (take_at v _ (length v) refl)

-- the repeated take stays behind what opens
staying_bytes : (m : ℕ) (a : Name) (P : Program) →
    all_bytes (map idle (successors true m a P)) ≡ components_bytes P ++ (waiting_kind ∷ m ∷ [])
unfolding components_bytes all_bytes flatten component_bytes
staying_bytes m a P =
    rw (map-append idle (opens P) (repeating m a P ∷ []))
    (all_bytes_append (map idle (opens P)) (idle (repeating m a P) ∷ []))

module _ (d : List ℕ) (m i : ℕ) (same : i ≡ m) (s : List ℕ) (x : CanWriteSuccessors d m s) where
  write_successors_in : TakeIn x.take.terms d x.take.repeated m x.take.channel x.take.continuation
  write_successors_in = let y = x.take in take_in y.decoded y.repeated m y.channel y.continuation y.at

  pub write_successors_inside : i < max_terms
  write_successors_inside = rw same write_successors_in.inside

  module _ (g k : ℕ) (o : g ≡ second_at d i) (t : k ≡ g) where
    at_second : k ≡ second_at d m
    at_second = t ∙ rw same at o

    continuation_at : get_elem? x.take.terms k ≡ some (process x.take.continuation)
    continuation_at = rw at_second write_successors_in.continuation

    pub continuation_fits : CanWriteComponents d k s 0
    continuation_fits =
        let y = x.take in
        let z = x.room in
        record {
          terms = y.terms;
          tree = y.continuation;
          decoded = y.decoded;
          at = continuation_at;
          fits = omega arith;
        }

    module _ (s₁ : List ℕ) (end : ℕ) (w : ComponentsWritten d k s 0 s₁ end) where
      opened : (ts : List Term) (b : Bool) (a : Name) (P : Program) → Decoded ts d →
          get_elem? ts m ≡ some (take_term b m a P) →
          (end ≡ 0 + length (components_bytes P)) × (s₁ ≡ written s 0 (components_bytes P) (length (components_bytes P)))
      opened ts b a P y e = w.found ts P y (rw at_second (take_in y b m a P e).continuation)

      -- the take fits behind what opens
      pub behind_fits : end + idle_size ≤ length s₁
      behind_fits =
          let y = x.take in
          let v = components_bytes y.continuation in
          let q = opened y.terms y.repeated y.channel y.continuation y.decoded y.at in
          let f = opened_fits y.continuation in
          let z = x.room in
          let u : length s₁ ≡ length s =
          ap length q.1 ∙ written_length s 0 v (length v) (omega arith) (omega arith) in
          omega (arith, q.0)

      module _ (kind : ℕ) (u : kind ≡ kind_at d i) where
        of_kind : kind ≡ kind_at d m
        of_kind = rw same at u

        pub take_laid : {r : Bool} → r ≡ repeats kind → r ≡ false → SuccessorsWritten d m s₁ end
        unfolding components_bytes
        take_laid f h = record {
          found = λ ts b a P y e.
              let like = repeats_is kind b (of_kind ∙ (take_in y b m a P e).kind) ∙ (sym f ∙ h) in
              let q = opened ts b a P y e in
              let z : end ≡ length (components_bytes P) = omega (arith, q.0) in
              rw (like, z, q.1) (refl, written_front s (components_bytes P));
        }

        pub repeat_laid : {t : Bool} → t ≡ repeats kind → t ≡ true → (r : ℕ) → r ≡ end + idle_size → (s₂ : List ℕ) →
            s₂ ≡ written s₁ end (waiting_kind ∷ m ∷ []) idle_size → SuccessorsWritten d m s₂ r
        repeat_laid f h r j s₂ p = record {
          found = λ ts b a P y e.
              let like = repeats_is kind b (of_kind ∙ (take_in y b m a P e).kind) ∙ (sym f ∙ h) in
              let q = opened ts b a P y e in
              let v = components_bytes P ++ (waiting_kind ∷ m ∷ []) in
              let l = length-append (components_bytes P) (waiting_kind ∷ m ∷ []) in
              let z : r ≡ length v = omega (arith, q.0) in
              let all : s₂ ≡ written s 0 v (length v) =
              p ∙ rw (q.0, q.1) (written_twice s (components_bytes P) (waiting_kind ∷ m ∷ []) 0 (omega arith)) in
              rw (like, staying_bytes m a P, z, all) (refl, written_front s v);
        }

-- a process that is not two side by side is of width 1
narrow : (P : Program) (i kind l r : ℕ) → RecordOf i kind l r (process P) → (kind ≡ kind_byte par_k → ⊥) → width P ≡ 1
unfolding width
narrow (nil_t n) i kind l r e other = refl
narrow (put_t n a) i kind l r e other = refl
narrow (take_t n a P) i kind l r e other = refl
narrow (repeat_t n a P) i kind l r e other = refl
narrow (par_t n P Q) i kind l r e other = absurd (other e.0)
narrow (atom_t n M) i kind l r e other = refl

-- ---- the move

module _ (d s starts : List ℕ) (n p : ℕ) where
  abbrev term : ℕ
  term = term_of s starts p

  module _ (x : CanTake d s starts n p) where
    taker_here : TakesHere x.accepts.configuration p x.repeated
    taker_here = takes_there x.accepts.configuration p x.repeated x.accepts.by

    pub take_position : p < max_components
    take_position = position_inside x.accepts.holds p _ taker_here.there

    pub take_body_inside : get_or starts p 0 + component_body < length s
    take_body_inside =
        let l = body_inside x.accepts.holds p _ taker_here.there in
        let z = hall_length x.accepts.holds in omega arith

    term_at_holds : get_elem? x.accepts.terms term
        ≡ some (take_term x.repeated term taker_here.channel taker_here.continuation)
    term_at_holds =
        let y = taker_here in
        let v = take_body x.accepts.holds p x.repeated y.number y.channel y.continuation y.there in
        rw v (waits_on x.accepts.holds p x.repeated y.number y.channel y.continuation y.there)

    pub take_term_inside : (i : ℕ) → i ≡ term → i < max_terms
    take_term_inside i e =
        let y = taker_here in
        rw e (take_in x.accepts.decoded x.repeated term y.channel y.continuation term_at_holds).inside

    -- the take there, with its continuation
    abbrev here : ATake d term
    here = record {
      terms = x.accepts.terms;
      repeated = x.repeated;
      channel = taker_here.channel;
      continuation = taker_here.continuation;
      decoded = x.accepts.decoded;
      at = term_at_holds;
    }

    module _ (i g k : ℕ) (e : i ≡ term) (o : g ≡ second_at d i) (t : k ≡ g) where
      continued_at : get_elem? x.accepts.terms k ≡ some (process taker_here.continuation)
      continued_at =
          let y = taker_here in
          let at_second : k ≡ second_at d term = t ∙ rw e at o in
          rw at_second
          (take_in x.accepts.decoded x.repeated term y.channel y.continuation term_at_holds).continuation

      pub continuation_inside : k < max_terms
      continuation_inside =
          let l = found_below x.accepts.terms k _ continued_at in
          let f = x.accepts.decoded.good.few in omega arith

      -- whatever the continuation, there is room for all that a take may lay down
      pub can_write_many : (buffer : List ℕ) → length buffer ≡ successors_size → CanWriteSuccessors d term buffer
      can_write_many buffer l =
          let w = x.accepts.decoded.good.limits k _ continued_at in record { take = here; room = omega arith }

      -- one that is not two side by side is of width 1
      pub can_write_few : (kind : ℕ) → kind ≡ kind_at d k → (kind ≡ kind_byte par_k → ⊥) → (buffer : List ℕ) → length buffer ≡ single_size →
          CanWriteSuccessors d term buffer
      can_write_few kind r other buffer l =
          let w = narrow taker_here.continuation k kind (first_at d k) (second_at d k)
          (rw r (x.accepts.decoded.records k _ continued_at)) other in
          record { take = here; room = omega arith }

    module _ (bytes : List ℕ) (size : ℕ) (w : SuccessorsWritten d term bytes size) where
      -- so many bytes are there
      pub laid_counted : size ≡ length (take size bytes)
      laid_counted =
          let y = taker_here in
          let z = x.accepts in
          let v = w.found z.terms x.repeated y.channel y.continuation z.decoded term_at_holds in
          v.0 ∙ ap length (sym v.1)

      pub laid_inside : size ≤ length bytes
      laid_inside = let l = laid_counted in let m = length-take size bytes in omega arith

  module _ (i f a : ℕ) (e : i ≡ term) (u : f ≡ first_at d i) (q : a ≡ f) where
    at_first : a ≡ first_at d term
    at_first = q ∙ rw e at u

    module _ (x : CanTake d s starts n p) where
      token_there : (a < channels) × (0 < get_or s a 0)
      token_there =
          let y = x.accepts in take_token_holds y.holds p y.decoded x.repeated y.by term a refl at_first

      pub take_channel_inside : a < length s
      take_channel_inside =
          let l = token_there.0 in
          let z = hall_length x.accepts.holds in omega arith

      pub take_some : 1 ≤ get_or s a 0
      take_some = token_there.1

      pub can_replace_take : (bytes : List ℕ) (size : ℕ) → SuccessorsWritten d term bytes size →
          CanReplace (set s a (get_or s a 0 - 1)) starts n p (take size bytes) (size / idle_size)
      can_replace_take bytes size w =
          let y = x.accepts in
          replacement_can (take_link y.holds p y.decoded x.repeated y.by term a refl at_first bytes size w)

    pub token_taken : (bytes : List ℕ) (size : ℕ) → SuccessorsWritten d term bytes size → (s' starts' : List ℕ) (n' : ℕ) →
        Replaced (set s a (get_or s a 0 - 1)) starts n p (take size bytes) (size / idle_size) s' starts' n' →
        TokenTaken d s starts n p s' starts' n'
    token_taken bytes size w s' starts' n' r = record {
      applied = λ b. record {
        found = λ ts h y x z. replacement_held (take_link x p y b z term a refl at_first bytes size w) r;
      };
    }
