-- An act that is made, by the occupant of its position: what a look would find may be made, and after it the
-- configuration that the definitions give is held.
-- Assumes nothing.
use Rattle.std.specs.Prelude.{Some, None, Result, Ok, Err}
use Prim.Native.Nat.{ℕ, ◌≤◌, ◌<◌}
use native.Mathlib.Decide.{ℕ_discrete}
use native.Mathlib.Omega.{arith}
use mathlib.Core.Path.{◌≡◌, refl, sym, ap, ◌∙◌}
use mathlib.Core.Logic.{inl, inr}
use mathlib.Core.Bool.{Bool, true, false}
use mathlib.Core.Option.{some}
use mathlib.Core.List.{List}
use lib.ListN.{get_or, get_elem?}
use Rattle.calculus.specs.Syntax.{Name, State}
use Rattle.semantics.specs.Definitions.Terms.{Expression, Program}
use Rattle.semantics.specs.Definitions.Configuration.{output, Tree, Component, idle, transaction, Configuration}
use Rattle.hall_held.proofs.AcceptedActs.{acted}
use Rattle.move_tokens.proofs.TokenReplies.{Local, acts_local}
use Rattle.move_blocks.proofs.BlockMoves.{BlockMove, begins, retries, fails, commits, block_acted}
use Rattle.semantics.specs.Definitions.Moves.{act, ComponentAnswer, moves}
use Rattle.answers.specs.declared.refusals.Reason.{Reason}
use Rattle.answers.specs.declared.refusals.Reason.TheVariants.{NoComponent}
use Rattle.answers.specs.declared.rules.Rule.TheVariants.{Atst, Atok}
use Rattle.answers.specs.declared.replies.Move.{Move}
use Rattle.answers.specs.Answers.{number_of_rule}
use Rattle.answers.proofs.Numbers.{rules_differ}
use Rattle.hall_held.specs.Holds.{Running}
use Rattle.choice_act.specs.declared.occupants.Occupant.TheVariants.{Transaction, Output, Block, Take}
use Rattle.choice_act.specs.Occupants.{OccupantRead}
use Rattle.choice_act.proofs.ActReplies.{nothing_looked, output_looked, end_looked, block_looked, take_looked}
use Rattle.move_tokens.specs.Tokens.{take_of, take_number, OutputLooked, CanPut, TokenPut, TakeLooked, CanTake, TokenTaken}
use Rattle.move_blocks.specs.TransactionEnd.{EndLooked, Restarts, CanRestart, Restarted, CanCommit, Committed}
use Rattle.hall_held.specs.Choices.{EntryLooked, CanApply, Applied, EntryMade}
use Rattle.hall_held.proofs.Choices.{looked_can_apply, entry_made_moved, entry_made_refused}

-- what a component's own move says of it, by another name
local_as : (σ : State) (b c : Component) (a : ComponentAnswer) → b ≡ c → Local σ b a → Local σ c a
local_as σ b c a e x = rw (← e) x

module _ {d s starts : List ℕ} {n p rule : ℕ} (x : CanApply d s starts n (act p) rule) where
  abbrev h : Configuration
  h = x.configuration

  own_move : (c : Component) → get_elem? h.components p ≡ some c →
      let a = acted h p rule x.by in Local h.counts c (moves a.rule a.lacks a.result.counts a.laid)
  own_move c f =
      let a = acted h p rule x.by in
      let there = a.found in
      let same : a.component ≡ c = cc in
      local_as h.counts a.component c (moves a.rule a.lacks a.result.counts a.laid) same
      (rw a.local at (acts_local h.counts a.component))

  -- the numbers of the rules by which it acts
  output_number : {a : ℕ} → OccupantRead d s starts n p (Some (Output a)) → rule ≡ 1
  output_number {a} f =
      sym (acted h p rule x.by).number ∙ (own_move (idle (output a)) (f.found x.terms h x.decoded x.holds)).0

  take_number_holds : {m : ℕ} → OccupantRead d s starts n p (Some (Take m)) → (b : Bool) × (rule ≡ take_number b)
  take_number_holds {m} f = let (b, a, P, e) = f.found x.terms h x.decoded x.holds in (b, go b a P e)
    where
      go : (b : Bool) (a : Name) (P : Program) → get_elem? h.components p ≡ some (idle (take_of b m a P)) → rule ≡ take_number b
      go false a P e = sym (acted h p rule x.by).number ∙ (own_move _ e).0
      go true a P e = sym (acted h p rule x.by).number ∙ (own_move _ e).0

  end_number : OccupantRead d s starts n p (Some Transaction) → (4 < rule) × (rule ≤ 7)
  end_number f =
      let (m, M, σ, t, e) = f.found x.terms h x.decoded x.holds in
      let above = own_move (transaction m M σ t) e in
      let same = (acted h p rule x.by).number in
      let made = block_acted h p rule (omega arith) x.by in
      let there = made.acted.found in
      go made.acted.component m M σ t (cc) made.move
    where
      go : (c : Component) (m : ℕ) (M : Expression) (σ : State) (t : Tree) → c ≡ transaction m M σ t → {τ υ : State} {cs : List Component} →
          BlockMove τ c rule υ cs → (4 < rule) × (rule ≤ 7)
      go c m M σ t e (begins n N is k f g) = absurd (let z : ◌≡◌ {A = ℕ} 0 1 = cc in omega arith)
      go c m M σ t e (retries n N s u δ is k f g) = (omega arith, omega arith)
      go c m M σ t e (fails n N s u δ is k f g) = (omega arith, omega arith)
      go c m M σ t e (commits n N s u δ is q k f g) = (omega arith, omega arith)

module _ {d s starts : List ℕ} {n p rule : ℕ} where
  renamed : {k : ℕ} → rule ≡ k → CanApply d s starts n (act p) rule → CanApply d s starts n (act p) k
  renamed is x = rw is at x

  renamed_back : {k : ℕ} → rule ≡ k → {s' starts' : List ℕ} {n' : ℕ} → Applied d s starts n (act p) k s' starts' n' →
      Applied d s starts n (act p) rule s' starts' n'
  renamed_back is x = rw is x

-- the position, as the entry has it
pub act_named : {d s starts : List ℕ} {n p q : ℕ} {r : Result Move Reason} {s' starts' : List ℕ} {n' : ℕ} →
    EntryMade d s starts n (act p) r s' starts' n' → p ≡ q →
    EntryMade d s starts n (act q) r s' starts' n'
act_named c e = rw (← e) c

module _ {d s starts : List ℕ} {n p : ℕ} where
  pub act_nothing : OccupantRead d s starts n p None → {q : ℕ} → p ≡ q →
      EntryMade d s starts n (act q) (Err NoComponent) s starts n
  act_nothing f e = entry_made_refused (nothing_looked f e) refl

  -- OUT
  module _ {a : ℕ} (f : OccupantRead d s starts n p (Some (Output a))) {r : Result Move Reason} (g : OutputLooked s a r) {m : Move} (moves : r ≡ Ok m)
      (x : Running d s starts n) where
    put_can_apply : CanApply d s starts n (act p) (number_of_rule m.rule)
    put_can_apply = looked_can_apply x (output_looked f g refl) moves

    pub can_put : CanPut s starts n p
    can_put = record { decoded = d; accepts = renamed (output_number put_can_apply f) put_can_apply }

    pub act_put : {q : ℕ} {s' starts' : List ℕ} {n' : ℕ} → TokenPut s starts n p s' starts' n' → p ≡ q →
        EntryMade d s starts n (act q) (Ok m) s' starts' n'
    act_put t e =
        act_named
        (entry_made_moved (output_looked f g refl) moves
        (renamed_back (output_number put_can_apply f) (t.applied d))) e

  -- ATST
  module _ (f : OccupantRead d s starts n p (Some Block)) where
    block_begun : EntryLooked d s starts n (act p) (Ok (record { rule = Atst; short = None }))
    block_begun = block_looked f refl refl

    pub can_begin : Running d s starts n → CanApply d s starts n (act p) 4
    unfolding number_of_rule
    can_begin x = looked_can_apply x block_begun refl

    pub act_begin : {q : ℕ} {s' starts' : List ℕ} {n' : ℕ} → Applied d s starts n (act p) 4 s' starts' n' → p ≡ q → {m : Move} →
        m ≡ record { rule = Atst; short = None } → EntryMade d s starts n (act q) (Ok m) s' starts' n'
    unfolding number_of_rule
    act_begin t e made = rw made (act_named (entry_made_moved block_begun refl t) e)

  -- IN, and REP
  module _ {m : ℕ} (f : OccupantRead d s starts n p (Some (Take m))) {r : Result Move Reason} (g : TakeLooked d s n m r) {w : Move} (moves : r ≡ Ok w)
      (x : Running d s starts n) where
    take_can_apply : CanApply d s starts n (act p) (number_of_rule w.rule)
    take_can_apply = looked_can_apply x (take_looked f g refl) moves

    pub can_take : CanTake d s starts n p
    can_take =
        let (b, same) = take_number_holds take_can_apply f in
        record { repeated = b; accepts = renamed same take_can_apply }

    pub act_take : {q : ℕ} {s' starts' : List ℕ} {n' : ℕ} → TokenTaken d s starts n p s' starts' n' → p ≡ q →
        EntryMade d s starts n (act q) (Ok w) s' starts' n'
    act_take t e =
        let (b, same) = take_number_holds take_can_apply f in
        act_named (entry_made_moved (take_looked f g refl) moves (renamed_back same (t.applied b))) e

  -- ATOK, ATRE and ATFAIL
  module _ (f : OccupantRead d s starts n p (Some Transaction)) {r : Result Move Reason} (g : EndLooked d s n (get_or starts p 0) r) {m : Move}
      (moves : r ≡ Ok m) (x : Running d s starts n) where
    end_can_apply : CanApply d s starts n (act p) (number_of_rule m.rule)
    end_can_apply = looked_can_apply x (end_looked f g refl) moves

    module _ (commits : m.rule ≡ Atok) where
      seven : number_of_rule m.rule ≡ 7
      unfolding number_of_rule
      seven = ap number_of_rule commits

      pub can_commit : CanCommit s starts n p
      can_commit = record { decoded = d; accepts = renamed seven end_can_apply }

      pub act_commit : {s' starts' : List ℕ} {n' : ℕ} → Committed s starts n p s' starts' n' →
          EntryMade d s starts n (act p) (Ok m) s' starts' n'
      act_commit t = entry_made_moved (end_looked f g refl) moves (renamed_back seven (t.found d))

    module _ (other : m.rule ≡ Atok → ⊥) where
      not_seven : number_of_rule m.rule ≡ 7 → ⊥
      unfolding number_of_rule
      not_seven q = other (rules_differ m.rule Atok q)

      restarts : Restarts (number_of_rule m.rule)
      restarts =
          let b = end_number end_can_apply f in
          let k = not_seven in
          elim (ℕ_discrete (number_of_rule m.rule) 5) [ yes same ↦ inl same | no z ↦ inr (omega arith) ]

      pub can_restart : CanRestart s starts n p
      can_restart = record { decoded = d; rule = number_of_rule m.rule; either = restarts; accepts = end_can_apply }

      pub act_restart : {s' starts' : List ℕ} {n' : ℕ} → Restarted s starts n p s' starts' → n' ≡ n →
          EntryMade d s starts n (act p) (Ok m) s' starts' n'
      act_restart t same =
          rw same (entry_made_moved (end_looked f g refl) moves (t.found d (number_of_rule m.rule) restarts))
