-- The rows on what terms and attempts denote follow from the definitions, by computation; those on what a process stands
-- for by its components in order.
-- Assumes nothing.
use Prim.Native.Nat.{ℕ}
use native.Mathlib.Omega.{arith}
use mathlib.Core.Path.{◌≡◌, refl}
use mathlib.Core.List.{[], ◌∷◌}
use Rattle.calculus.specs.Syntax.{nil, out, inp, par}
use Rattle.semantics.specs.Definitions.Terms.{nil_t}
use Rattle.semantics.specs.Definitions.Configuration.{taking, idle}
use Rattle.semantics.specs.Claims.Denotation.{proc, component_process, Denotes, nothing, alone, beside, in_order}
use Rattle.semantics.specs.Checks.DenotationExamples.{putting, waiting, DenotationExamples}
use Rattle.semantics.proofs.Denotation.{denotes_in_order}

puts : Denotes (out 3) (putting ∷ [])
unfolding component_process
puts = alone putting refl

waits : Denotes (inp 4 nil) (waiting ∷ [])
unfolding component_process
waits = alone waiting refl

not_exchanged : Denotes (par (out 3) (inp 4 nil)) (waiting ∷ putting ∷ []) → ⊥
unfolding component_process in_order
not_exchanged d = let e = denotes_in_order d in let z : ◌≡◌ {A = ℕ} 0 1 = cc in omega arith

last_not_first : Denotes (par (out 3) (par (inp 4 nil) (out 3))) (putting ∷ putting ∷ waiting ∷ []) → ⊥
unfolding component_process in_order
last_not_first d = let e = denotes_in_order d in let z : ◌≡◌ {A = ℕ} 0 1 = cc in omega arith

nil_is_no_station : Denotes nil (putting ∷ []) → ⊥
unfolding component_process in_order
nil_is_no_station d = let e = denotes_in_order d in let z : ◌≡◌ {A = ℕ} 0 1 = cc in omega arith

not_once_for_two : Denotes (par (out 3) (out 3)) (putting ∷ []) → ⊥
unfolding component_process in_order
not_once_for_two d = let e = denotes_in_order d in let z : ◌≡◌ {A = ℕ} 0 1 = cc in omega arith

not_another : Denotes (inp 3 nil) (putting ∷ []) → ⊥
unfolding component_process in_order
not_another d = let e = denotes_in_order d in let z : ◌≡◌ {A = ℕ} 0 1 = cc in omega arith

pub denotation_examples : DenotationExamples
unfolding proc component_process
denotation_examples = record {
  term = refl;
  attempt = refl;
  in_order_holds = beside puts waits;
  not_exchanged = not_exchanged;
  other_way_round = beside waits puts;
  nil_within = beside (beside puts nothing) waits;
  nil_behind = beside puts (beside waits nothing);
  to_the_left = beside (beside puts waits) puts;
  to_the_right = beside puts (beside waits puts);
  last_not_first = last_not_first;
  nothing_but_nil = beside nothing nothing;
  nil_is_no_station = nil_is_no_station;
  not_once_for_two = not_once_for_two;
  not_another = not_another;
  numbered_otherwise = alone (idle (taking 9 4 (nil_t 7))) refl;
}
