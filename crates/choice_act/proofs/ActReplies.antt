-- Acts looked at, by the occupant of their position: what each look may ask, and that its answer is the entry's.
--
-- p is the position as the code has it, and q the same as the entry has it.
-- Assumes nothing.
use Rattle.std.specs.Prelude.{Option, Some, None, Result, Ok, Err}
use Prim.Native.Nat.{ℕ, ◌<◌}
use mathlib.Core.Path.{◌≡◌, refl, sym}
use mathlib.Core.List.{List}
use lib.ListN.{get_or}
use Rattle.semantics.specs.Definitions.Terms.{Term}
use Rattle.semantics.specs.Definitions.Configuration.{transaction, Configuration}
use Rattle.semantics.specs.Definitions.Stored.{component_bytes}
use Rattle.semantics.specs.Definitions.Moves.{act, at_position, entry_answer, as_reply}
use Rattle.table_terms.specs.Decoded.{Decoded}
use Rattle.hall_layout.specs.Layout.{index_size}
use Rattle.answers.specs.declared.refusals.Reason.{Reason}
use Rattle.answers.specs.declared.refusals.Reason.TheVariants.{NoComponent}
use Rattle.answers.specs.declared.rules.Rule.TheVariants.{Atst}
use Rattle.answers.specs.declared.replies.Move.{Move}
use Rattle.answers.specs.Answers.{reason_number, number_of_rule, shortage_of, reply_of}
use Rattle.hall_held.specs.Holds.{Holds, Running}
use Rattle.hall_held.specs.Choices.{EntryLooked}
use Rattle.hall_held.proofs.AcceptedActs.{held_position}
use Rattle.hall_held.proofs.Holds.{position_below, kind_here}
use Rattle.move_tokens.specs.Tokens.{CanLookOutput, OutputLooked, CanLookTake, TakeLooked}
use Rattle.move_leaves.specs.Leaves.{TransactionAt}
use Rattle.move_blocks.proofs.TransactionBegin.{block_begins}
use Rattle.move_blocks.specs.TransactionEnd.{CanLookEnd, EndLooked}
use Rattle.choice_act.specs.declared.occupants.Occupant.{Occupant}
use Rattle.choice_act.specs.declared.occupants.Occupant.TheVariants.{Transaction, Output, Block, Take}
use Rattle.choice_act.specs.Occupants.{OccupantRead}

-- one that stands there, as what it is
pub occupant_is : {d s starts : List ℕ} {n p : ℕ} {o : Option Occupant} → OccupantRead d s starts n p o → {r x : Occupant} →
    o ≡ Some r → r ≡ x → OccupantRead d s starts n p (Some x)
occupant_is f there is = rw (there, is) at f

module _ {d s starts : List ℕ} {n p : ℕ} where
  -- refusal 14
  pub nothing_looked : OccupantRead d s starts n p None → {q : ℕ} → p ≡ q → EntryLooked d s starts n (act q) (Err NoComponent)
  unfolding entry_answer at_position as_reply reason_number reply_of
  nothing_looked f e = rw (← e) (record { found = λ ts h y x. rw (f.found ts h y x) refl })

  -- a transaction
  module _ (f : OccupantRead d s starts n p (Some Transaction)) where
    open_here : {ts : List Term} {h : Configuration} → Decoded ts d → Holds ts h s starts n →
        TransactionAt ts h d s starts n p (get_or starts p 0)
    unfolding component_bytes
    open_here {ts} {h} y x =
        let (m, M, σ, t, e) = f.found ts h y x in
        record {
          decoded = y;
          holds = x;
          there = position_below x p _ e;
          begins = refl;
          kind = kind_here x p (transaction m M σ t) e;
        }

    pub transaction_position : Running d s starts n → p < index_size
    transaction_position x = held_position x.holds p (open_here x.decoded x.holds).there

    pub end_held : Running d s starts n → CanLookEnd d s n (get_or starts p 0)
    end_held x = record {
      terms = x.terms;
      configuration = x.configuration;
      starts = starts;
      position = p;
      there = open_here x.decoded x.holds;
    }

    pub end_looked : {q : ℕ} {a : Result Move Reason} → EndLooked d s n (get_or starts p 0) a → p ≡ q → EntryLooked d s starts n (act q) a
    end_looked g e = rw (← e) (record { found = λ ts h y x. g.found ts h starts p (open_here y x) })

  -- an output
  module _ {a : ℕ} (f : OccupantRead d s starts n p (Some (Output a))) where
    pub can_look_output : Running d s starts n → CanLookOutput s a
    can_look_output x = record {
      terms = x.terms;
      configuration = x.configuration;
      starts = starts;
      components = n;
      position = p;
      holds = x.holds;
      there = f.found x.terms x.configuration x.decoded x.holds;
    }

    pub output_looked : {q : ℕ} {t : Result Move Reason} → OutputLooked s a t → p ≡ q → EntryLooked d s starts n (act q) t
    output_looked g e = rw (← e) (record {
      found = λ ts h y x. g.found ts h starts n p x (f.found ts h y x);
    })

  -- a block: ATST
  pub block_looked : OccupantRead d s starts n p (Some Block) → {q : ℕ} → p ≡ q → {m : Move} → m ≡ record { rule = Atst; short = None } →
      EntryLooked d s starts n (act q) (Ok m)
  unfolding number_of_rule shortage_of reply_of
  block_looked f e made = rw (← e, made) (record {
    found = λ ts h y x. let (m, M, there) = f.found ts h y x in sym (block_begins x p m M there);
  })

  -- a take or a repeated take
  module _ {m : ℕ} (f : OccupantRead d s starts n p (Some (Take m))) where
    pub can_look_take : Running d s starts n → CanLookTake d s n m
    can_look_take x =
        let (b, a, P, e) = f.found x.terms x.configuration x.decoded x.holds in
        record {
          terms = x.terms;
          configuration = x.configuration;
          starts = starts;
          position = p;
          repeated = b;
          channel = a;
          continuation = P;
          decoded = x.decoded;
          holds = x.holds;
          there = e;
        }

    pub take_looked : {q : ℕ} {t : Result Move Reason} → TakeLooked d s n m t → p ≡ q → EntryLooked d s starts n (act q) t
    take_looked g e = rw (← e) (record {
      found = λ ts h y x. let (b, a, P, there) = f.found ts h y x in g.found ts h starts p b a P y x there;
    })
