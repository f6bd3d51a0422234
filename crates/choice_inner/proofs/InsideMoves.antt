-- An entry that is made by its node: after it the configuration that the definitions give is held.
-- Assumes nothing.
use Rattle.std.specs.Prelude.{Result, Ok, Err}
use Prim.Native.Nat.{ℕ}
use mathlib.Core.Path.{◌≡◌, refl}
use mathlib.Core.List.{List}
use Rattle.semantics.specs.Definitions.Moves.{inside}
use Rattle.answers.specs.declared.refusals.Reason.{Reason}
use Rattle.answers.specs.declared.replies.Move.{Move}
use Rattle.move_inside.specs.MadeMoves.{NodeMoved}
use Rattle.choice_inner.specs.NodeLookups.{NodeFound}
use Rattle.choice_inner.proofs.InsideReplies.{refused_there, node_there, node_looked}
use Rattle.hall_held.specs.Choices.{EntryLooked, EntryMade}
use Rattle.hall_held.proofs.Choices.{entry_made_moved, entry_made_refused}

module _ {s starts : List ℕ} {n p k : ℕ} {r : Result ℕ Reason} (f : NodeFound s starts n p k r) {d : List ℕ} where
  pub node_refused : {m : Reason} → r ≡ Err m → {q : ℕ} → p ≡ q → EntryMade d s starts n (inside q k) (Err m) s starts n
  node_refused is e = entry_made_refused (refused_there f is e) refl

  module _ {at : ℕ} (is : r ≡ Ok at) where
    pub node_entry_made : {a : Result Move Reason} {s' starts' : List ℕ} → NodeMoved d s starts n p at a s' starts' → {q : ℕ} → p ≡ q →
        EntryMade d s starts n (inside q k) a s' starts' n
    node_entry_made {a} {s'} {starts'} m e = rw (← e) (go a refl)
      where
        looks : EntryLooked d s starts n (inside p k) a
        looks = node_looked f is m.read refl

        go : (b : Result Move Reason) → a ≡ b → EntryMade d s starts n (inside p k) b s' starts' n
        go (Ok w) same =
            entry_made_moved looks same (record {
              found = λ ts h y x by.
                  (m.made w same).found ts h k
                  (record { decoded = y; holds = x; place = (node_there f is).place; by = by });
            })
        go (Err j) same = let z = m.unchanged j same in rw (z.0, z.1) (entry_made_refused looks same)
