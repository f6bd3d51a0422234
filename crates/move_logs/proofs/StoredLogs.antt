-- What the code finds in the bytes of a log is what the definitions say of the log: the test is `shortage`, the counts
-- fall by RD, the outputs are those of WT.
-- Assumes nothing.
use Prim.Native.Nat.{ℕ, ◌+◌, ◌*◌, ◌-◌, ◌≤◌, ◌<◌}
use native.Mathlib.Omega.{arith}
use native.Mathlib.Decide.{dec_lt}
use mathlib.Core.Path.{◌≡◌, refl, sym, ap, ◌∙◌}
use mathlib.Core.Bool.{Bool, true, false}
use mathlib.Core.List.{List, [], ◌∷◌, ◌++◌, map}
use lib.ListN.{length, get_or, take, drop, length-map, take-append-drop}
use lib.Seq.{take_at, take_all, take-take, get_or-take, get_or-drop, ext_get_or}
use borrow.Author.Tests.{lt-ltb, le-ltb}
use Rattle.calculus.specs.Syntax.{Name, Action, rd, wt, Log, State}
use Rattle.calculus.specs.State.{count, same, occurrences, without, Included}
use Rattle.calculus.specs.Log.{RD, WT}
use Rattle.calculus.proofs.States.{same_other, length_without, count_without}
use Rattle.semantics.specs.Definitions.Basics.{padded, All}
use mathlib.Core.List.{flatten}
use Rattle.semantics.specs.Definitions.Layout.{channels, max_actions, write_offset, output_kind}
use Rattle.semantics.specs.Definitions.Logs.{shortage, readable}
use Rattle.semantics.specs.Definitions.Shortage.{Shortage}
use Rattle.semantics.specs.Definitions.Configuration.{idle, output}
use Rattle.semantics.specs.Definitions.Stored.{action_byte, channel_of, component_bytes}
use Rattle.theorems.proofs.Lists.{all_append}
use Rattle.theorems.proofs.ReadableLogs.{readable_included, included_readable}
use Rattle.buffer.specs.Splice.{written}
use Rattle.move_logs.specs.declared.Log as code
use Rattle.move_logs.specs.declared.Outputs.{Outputs}
use Rattle.move_logs.specs.Needs.{reads_of, short_at, needs_of, within_at, lowered}
use Rattle.move_logs.specs.Writes.{writes_of, output_bytes}
use Rattle.move_logs.specs.Values.{LogIs, OutputsAre}
use Rattle.move_logs.specs.LogOffsets.{LogAt, CountsAt}
use Rattle.move_logs.proofs.Needs.{needs_count, needs_sixteen}
use Rattle.move_logs.proofs.NeedsAndCounts.{covered, all_covered, lowered_count, lowered_length, lowered_before}
use Rattle.move_logs.proofs.Writes.{output_length}

-- a log on the channels that there are
abbrev Named : Log → Type 0
Named δ = All (λ α. channel_of α < channels) δ

map_snoc : (δ : Log) (α : Action) → map action_byte (δ ++ (α ∷ [])) ≡ map action_byte δ ++ (action_byte α ∷ [])
map_snoc [] α = refl
map_snoc (β ∷ δ) α = ap (◌∷◌ (action_byte β)) (map_snoc δ α)

-- ---- reads

-- a channel stands among a log's bytes as often as it is read
read_bytes_holds : (δ : Log) (a : Name) → a < channels → occurrences a (map action_byte δ) ≡ occurrences a (RD δ)
unfolding occurrences RD action_byte
read_bytes_holds [] a h = refl
read_bytes_holds (rd b ∷ δ) a h = ap (λ (n : ℕ). same a b + n) (read_bytes_holds δ a h)
read_bytes_holds (wt b ∷ δ) a h =
    let z = same_other a (write_offset + b) (λ q. omega arith) in
    let p = read_bytes_holds δ a h in omega arith

-- no other channel is read
none_read : (δ : Log) (a : Name) → Named δ → channels ≤ a → occurrences a (RD δ) ≡ 0
unfolding occurrences RD channel_of
none_read [] a n h = refl
none_read (rd b ∷ δ) a n h =
    let k = n.0 in
    let z = same_other a b (λ q. omega arith) in
    let p = none_read δ a n.1 h in omega arith
none_read (wt b ∷ δ) a n h = none_read δ a n.1 h

-- the needs of a log's bytes are its reads, channel by channel
log_needs : (δ : Log) (a : Name) → a < channels → get_or (needs_of (map action_byte δ)) a 0 ≡ occurrences a (RD δ)
log_needs δ a h = needs_count (map action_byte δ) a h ∙ read_bytes_holds δ a h

-- ---- the test

same_answer : (x y : Bool) → (x ≡ true → y ≡ true) → (y ≡ true → x ≡ true) → x ≡ y
same_answer true y f g = sym (f refl)
same_answer false true f g = g refl
same_answer false false f g = refl

module _ (s : List ℕ) (k : ℕ) (σ : State) (there : CountsAt s k σ) where
  counts_at : (a : ℕ) → a < channels → get_or s (k + a) 0 ≡ count σ a
  counts_at a h =
      sym (get_or-drop k s a 0) ∙ sym (get_or-take channels (drop k s) a 0 h)
      ∙ ap (λ (l : List ℕ). get_or l a 0) there.bytes

  -- the test of a log's needs is the test of the log
  within_log : (δ : Log) → Named δ → within_at (needs_of (map action_byte δ)) s k ≡ readable σ δ
  unfolding Included
  within_log δ n = same_answer _ _ forth back
    where
      need : List ℕ
      need = needs_of (map action_byte δ)

      forth : within_at need s k ≡ true → readable σ δ ≡ true
      forth e = included_readable σ δ (λ a. elim (dec_lt a channels) [
        | yes h ↦ (let p = covered need s k a e h in let q = log_needs δ a h in let c = counts_at a h in omega arith)
        | no h ↦ (let z = none_read δ a n (omega arith) in omega arith)
      ])

      back : readable σ δ ≡ true → within_at need s k ≡ true
      back e =
          let i = readable_included σ δ e in
          all_covered need s k (λ a h. let p = i a in let q = log_needs δ a h in let c = counts_at a h in omega arith)

-- the bytes of a log read what the log reads
reads_log : (δ : Log) → Named δ → reads_of (map action_byte δ) ≡ RD δ
unfolding reads_of RD action_byte channel_of
reads_log [] n = refl
reads_log (rd a ∷ δ) n = rw (lt-ltb a write_offset n.0) (ap (◌∷◌ a) (reads_log δ n.1))
reads_log (wt a ∷ δ) n = rw (le-ltb (write_offset + a) write_offset (omega arith)) (reads_log δ n.1)

-- so they are short of the same
short_log : (s : List ℕ) (k : ℕ) (σ : State) → CountsAt s k σ → (δ : Log) → Named δ → short_at (map action_byte δ) s k ≡ shortage σ δ
unfolding short_at shortage
short_log s k σ there δ n = rw (there.bytes, reads_log δ n)

-- ---- taking what is needed

lowered_without : (σ : State) (δ : Log) → length σ ≡ channels →
    lowered (needs_of (map action_byte δ)) σ ≡ without σ (RD δ)
lowered_without σ δ l =
    let need = needs_of (map action_byte δ) in
    let k = lowered_length need σ in
    ext_get_or 0 (lowered need σ) (without σ (RD δ)) (k ∙ sym (length_without (RD δ) σ)) (λ a h.
    let q = log_needs δ a (omega arith) in
    let c = lowered_count need σ a in
    let w = count_without (RD δ) σ a in omega arith)

-- ---- writes

written_log : (δ : Log) → Named δ → writes_of (map action_byte δ) ≡ WT δ
unfolding writes_of WT action_byte channel_of
written_log [] n = refl
written_log (rd a ∷ δ) n = rw (lt-ltb a write_offset n.0) (written_log δ n.1)
written_log (wt a ∷ δ) n =
    let z : write_offset + a - write_offset ≡ a = omega arith in
    rw (le-ltb (write_offset + a) write_offset (omega arith), z) (ap (◌∷◌ a) (written_log δ n.1))

output_components : (xs : List Name) → output_bytes xs ≡ flatten (map component_bytes (map (λ a. idle (output a)) xs))
unfolding output_bytes flatten component_bytes
output_components [] = refl
output_components (x ∷ xs) = ap (λ (l : List ℕ). output_kind ∷ x ∷ l) (output_components xs)

-- ---- a stored log

module _ (s : List ℕ) (at n : ℕ) (δ : Log) (stored : LogAt s at δ) (size : n ≡ length δ) where
  pub stored_bytes : take n (drop at s) ≡ map action_byte δ
  unfolding padded
  stored_bytes =
      let f = stored.few in
      let l = length-map δ action_byte in
      sym (take-take n max_actions (drop at s) (omega arith))
      ∙ rw stored.bytes (take_at (map action_byte δ) _ n (l ∙ sym size))

  -- how often each channel is read
  pub stored_needs : (need : List ℕ) (a : Name) → need ≡ needs_of (take n (drop at s)) → a < channels →
      get_or need a 0 ≡ occurrences a (RD δ)
  stored_needs need a e h = rw (e, stored_bytes) (log_needs δ a h)

  -- rule 7: the log is readable at these counts
  pub stored_readable : (k : ℕ) (σ : State) (need : List ℕ) (r : Bool) → CountsAt s k σ →
      need ≡ needs_of (take n (drop at s)) → r ≡ within_at need s k → r ≡ readable σ δ
  stored_readable k σ need r c e f = f ∙ rw (e, stored_bytes) (within_log s k σ c δ stored.named)

  -- rules 6 and 7: what the log is short of at these counts
  pub stored_shortage : (k : ℕ) (σ : State) (w : Shortage) → CountsAt s k σ → w ≡ short_at (take n (drop at s)) s k → w ≡ shortage σ δ
  stored_shortage k σ w c f = f ∙ rw stored_bytes (short_log s k σ c δ stored.named)

  -- rules 8 and 9: what the log with one more read is
  pub stored_shortage_with : (k : ℕ) (σ : State) (a : Name) (w : Shortage) → CountsAt s k σ → a < channels →
      w ≡ short_at (take n (drop at s) ++ (a ∷ [])) s k → w ≡ shortage σ (δ ++ (rd a ∷ []))
  unfolding action_byte channel_of
  stored_shortage_with k σ a w c h f =
      let named = all_append _ δ (rd a ∷ []) stored.named (h, tt) in
      f ∙ rw (stored_bytes, ← map_snoc δ (rd a)) (short_log s k σ c (δ ++ (rd a ∷ [])) named)

  -- rule 7: the counts fall by the reads
  pub stored_taken : (σ : State) (need t : List ℕ) → CountsAt s 0 σ → need ≡ needs_of (take n (drop at s)) →
      t ≡ lowered need s →
      t ≡ written s 0 (without σ (RD δ)) channels
  unfolding written
  stored_taken σ need t c e f =
      let bs = map action_byte δ in
      let l = length_without (RD δ) σ in
      let h = c.channel_counts in
      let split : s ≡ σ ++ drop channels s =
      sym (take-append-drop channels s) ∙ ap (λ (x : List ℕ). x ++ drop channels s) c.bytes in
      let low : lowered (needs_of bs) (σ ++ drop channels s) ≡ without σ (RD δ) ++ drop channels s =
      lowered_before (needs_of bs) σ (drop channels s) (needs_sixteen bs ∙ sym h) ∙ rw (lowered_without σ δ h) in
      let whole = take_all channels (without σ (RD δ)) (omega arith) in
      rw (f, e, stored_bytes, whole) (ap (lowered (needs_of bs)) split ∙ low)

  -- rule 7: one output for each write, in log order
  module _ (o : Outputs) (made : OutputsAre o (writes_of (take n (drop at s)))) where
    are : OutputsAre o (WT δ)
    are = rw (← (written_log δ stored.named), ← stored_bytes) made

    pub stored_outputs_count : o.count ≡ length (WT δ)
    stored_outputs_count = are.counted

    pub stored_outputs :
        take (o.count * 2) o.bytes ≡ flatten (map component_bytes (map (λ a. idle (output a)) (WT δ)))
    unfolding padded
    stored_outputs =
        let l = output_length (WT δ) in
        rw (are.bytes, are.counted, ← (output_components (WT δ))) (take_at (output_bytes (WT δ)) _ (length (WT δ) * 2) l)

  -- the log as a value
  pub stored_log : (l : code.Log) → l.length ≡ n → l.actions ≡ take max_actions (drop at s) → LogIs l δ
  stored_log l e f = record { counted = e ∙ size; bytes = f ∙ stored.bytes }
