-- The rows on the notation, by computation and by the laws of states.
-- Assumes nothing.
use Prim.Native.Nat.{ℕ}
use native.Mathlib.Omega.{arith}
use mathlib.Core.Path.{◌≡◌, refl, sym}
use mathlib.Core.Logic.{◌↔◌}
use mathlib.Core.List.{[], ◌∷◌}
use Rattle.calculus.specs.Syntax.{State}
use Rattle.calculus.specs.State.{same, occurrences, Included, Plus, without, SameNames}
use Rattle.calculus.specs.Log.{RD, WT}
use Rattle.calculus.specs.Reduction.{nodes_of, outputs, LogOrder}
use Rattle.calculus.specs.Checks.Notation.{few, NotationRows}
use Rattle.calculus.proofs.States.{grown, without_added, included_nil, included_cons}

one_more : (σ : State) → Plus few 1 σ ↔ (σ ≡ 0 ∷ 3 ∷ 1 ∷ [])
one_more σ = (λ p. p.added, λ e. record { counted = omega arith; added = e })

the_first : (σ : State) → Plus few 0 σ ↔ (σ ≡ 1 ∷ 2 ∷ 1 ∷ [])
the_first σ = (λ p. p.added, λ e. record { counted = omega arith; added = e })

none_more : (σ : State) → ¬ Plus few 3 σ
none_more σ p = let h = p.counted in omega arith

one_fewer : (σ : State) → Plus σ 1 few ↔ (σ ≡ 0 ∷ 1 ∷ 1 ∷ [])
one_fewer σ = (λ p. sym (without_added few 1 σ p), λ e. rw e (record { counted = omega arith; added = refl }))

none_fewer : (σ : State) → ¬ Plus σ 0 few
none_fewer σ p = let h = grown σ 0 few p in omega arith

all_of_it : Included (1 ∷ 2 ∷ 1 ∷ []) few
all_of_it =
    included_cons 1 (2 ∷ 1 ∷ []) few (omega arith)
    (included_cons 2 (1 ∷ []) (0 ∷ 1 ∷ 1 ∷ []) (omega arith)
    (included_cons 1 [] (0 ∷ 1 ∷ 0 ∷ []) (omega arith) (included_nil (0 ∷ 0 ∷ 0 ∷ []))))

once_too_often : ¬ Included (1 ∷ 1 ∷ 1 ∷ []) few
unfolding Included occurrences same
once_too_often i = let h = i 1 in omega arith

one_of_them_missing : ¬ Included (1 ∷ 0 ∷ []) few
unfolding Included occurrences same
one_of_them_missing i = let h = i 0 in omega arith

name_not_counted : ¬ Included (3 ∷ []) few
unfolding Included occurrences same
name_not_counted i = let h = i 3 in omega arith

another_order : SameNames (1 ∷ 2 ∷ 1 ∷ []) (2 ∷ 1 ∷ 1 ∷ [])
unfolding SameNames occurrences
another_order a = omega arith

one_missing : ¬ SameNames (1 ∷ 2 ∷ 1 ∷ []) (1 ∷ 2 ∷ [])
unfolding SameNames occurrences same
one_missing h = let z = h 1 in omega arith

other_repeated : ¬ SameNames (1 ∷ 2 ∷ 1 ∷ []) (2 ∷ 1 ∷ 2 ∷ [])
unfolding SameNames occurrences same
other_repeated h = let z = h 1 in omega arith

one_too_many : ¬ SameNames [] (1 ∷ [])
unfolding SameNames occurrences same
one_too_many h = let z = h 1 in omega arith

any_order : SameNames (1 ∷ 2 ∷ []) (2 ∷ 1 ∷ [])
unfolding SameNames occurrences
any_order a = omega arith

not_any_names : ¬ SameNames (1 ∷ 2 ∷ []) (2 ∷ 2 ∷ [])
unfolding SameNames occurrences same
not_any_names h = let z = h 1 in omega arith

not_log_order : ¬ LogOrder (1 ∷ 2 ∷ []) (2 ∷ 1 ∷ [])
not_log_order e = let z : ◌≡◌ {A = ℕ} 1 2 = cc in omega arith

pub notation_rows : NotationRows
unfolding RD WT same occurrences without outputs nodes_of
notation_rows = record {
  read = refl;
  written = refl;
  nothing_read = refl;
  nothing_written = refl;
  counted_twice = refl;
  counted_never = refl;
  not_counted = refl;
  same_name = refl;
  another_name = refl;
  listed_twice = refl;
  not_listed = refl;
  all_of_it = all_of_it;
  nothing_in_nothing = included_nil [];
  once_too_often = once_too_often;
  one_of_them_missing = one_of_them_missing;
  name_not_counted = name_not_counted;
  one_more = one_more;
  the_first = the_first;
  none_more = none_more;
  one_fewer = one_fewer;
  none_fewer = none_fewer;
  less_one_each = refl;
  less_both = refl;
  less_nothing = refl;
  less_what_is_not_there = refl;
  another_order = another_order;
  one_missing = one_missing;
  other_repeated = other_repeated;
  one_too_many = one_too_many;
  any_order = any_order;
  not_any_names = not_any_names;
  log_order = refl;
  not_log_order = not_log_order;
  three_outputs = refl;
  no_output = refl;
  one_node = refl;
  five_nodes = refl;
}
