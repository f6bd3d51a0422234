-- OUT: a law for each need of the code.
-- Assumes nothing.
use Prim.Native.Nat.{ℕ, ◌+◌, ◌≤◌, ◌<◌}
use native.Mathlib.Omega.{arith}
use mathlib.Core.Path.{◌≡◌, sym, ap}
use mathlib.Core.List.{List, []}
use lib.ListN.{length, get_or, set}
use Rattle.std.specs.Prelude.{None, Ok, Err}
use Rattle.semantics.specs.Definitions.Layout.{max_count}
use Rattle.semantics.specs.Definitions.Configuration.{output, idle}
use Rattle.semantics.specs.Definitions.Stored.{ComponentOk}
use Rattle.semantics.specs.Definitions.Moves.{as_reply, rule_number}
use Rattle.theorems.proofs.WellFormedKept.{count_byte}
use Rattle.hall_layout.specs.Layout.{channels, max_components, component_body}
use Rattle.answers.specs.declared.refusals.Reason.TheVariants.{FullChannel}
use Rattle.answers.specs.declared.rules.Rule.TheVariants.{Out}
use Rattle.answers.specs.declared.replies.Move.{Move}
use Rattle.answers.specs.Answers.{number_of_rule, reason_number, reply_of}
use Rattle.hall_held.specs.Holds.{CanReplace, Replaced}
use Rattle.hall_held.proofs.Holds.{hall_length, count_here, component_ok}
use Rattle.move_tokens.specs.Tokens.{CanLookOutput, OutputLooked, CanPut, TokenPut}
use Rattle.move_tokens.proofs.TokenReplies.{full_refused, put_accepted, puts_there}
use Rattle.move_tokens.proofs.TokenMoves.{position_inside, body_inside, out_room, out_link}
use Rattle.hall_held.proofs.AcceptedActs.{replacement_can, replacement_held}

-- ---- the look

module _ (s : List ℕ) (a : ℕ) where
  pub output_inside : CanLookOutput s a → (i : ℕ) → i ≡ a → i < length s
  unfolding ComponentOk
  output_inside x i e =
      let l : a < channels = component_ok x.holds x.position (idle (output a)) x.there in
      let z = hall_length x.holds in omega arith

  module _ (i : ℕ) (e : i ≡ a) where
    pub full_looked : get_or s i 0 ≡ max_count → OutputLooked s a (Err FullChannel)
    unfolding ComponentOk reply_of reason_number
    full_looked q = record {
      found = λ ts h starts n p x f.
          let c = count_here x a (component_ok x p (idle (output a)) f) in
          let k : get_or s a 0 ≡ max_count = rw e at q in sym (full_refused h p a f (omega arith));
    }

    pub put_looked : (get_or s i 0 ≡ max_count → ⊥) → (m : Move) → m ≡ record { rule = Out; short = None } →
        OutputLooked s a (Ok m)
    unfolding ComponentOk reply_of number_of_rule as_reply rule_number
    put_looked q m by = record {
      found = λ ts h starts n p x f.
          let c = count_here x a (component_ok x p (idle (output a)) f) in
          let b = count_byte h.counts a x.form.channel_counts in
          let k : get_or s a 0 ≡ max_count → ⊥ = rw e at q in
          let l = below (get_or s a 0) (omega arith) k in
          rw by (sym (ap as_reply (put_accepted h p a f x.form.few (omega arith))));
    }
      where
        below : (n : ℕ) → n ≤ max_count → (n ≡ max_count → ⊥) → n < max_count
        below n l k = omega arith

-- ---- the move

module _ (s starts : List ℕ) (n p : ℕ) where
  module _ (x : CanPut s starts n p) where
    pub put_position : p < max_components
    put_position =
        let a = x.accepts in position_inside a.holds p _ (puts_there a.configuration p a.by).there

    pub put_body : get_or starts p 0 + component_body < length s
    put_body =
        let a = x.accepts in
        let l = body_inside a.holds p _ (puts_there a.configuration p a.by).there in
        let z = hall_length a.holds in omega arith

    module _ (a : ℕ) (e : a ≡ get_or s (get_or starts p 0 + component_body) 0) where
      pub put_channel : a < length s
      put_channel =
          let l = (out_room x.accepts.holds p x.accepts.by a e).0 in
          let z = hall_length x.accepts.holds in omega arith

      pub put_room : get_or s a 0 < max_count
      put_room = (out_room x.accepts.holds p x.accepts.by a e).1

      pub can_replace_output : CanReplace (set s a (get_or s a 0 + 1)) starts n p [] 0
      can_replace_output = replacement_can (out_link x.accepts.holds p x.accepts.by a e)

  pub token_put : (a : ℕ) → a ≡ get_or s (get_or starts p 0 + component_body) 0 → (s' starts' : List ℕ) (n' : ℕ) →
      Replaced (set s a (get_or s a 0 + 1)) starts n p [] 0 s' starts' n' → TokenPut s starts n p s' starts' n'
  token_put a e s' starts' n' r = record {
    applied = λ d. record { found = λ ts h y x q. replacement_held (out_link x p q a e) r };
  }
