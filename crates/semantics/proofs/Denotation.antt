-- A process stands for its components in one order: as many processes from left to right, nil left out.
-- Assumes nothing.
use Prim.Native.Nat.{ℕ}
use native.Mathlib.Omega.{arith}
use mathlib.Core.Path.{◌≡◌, refl, sym, ap}
use mathlib.Core.List.{List, [], ◌∷◌, ◌++◌, map, map-append}
use Rattle.calculus.specs.Syntax.{Process, nil, out, inp, rep, par, atom, ongoing}
use Rattle.semantics.specs.Definitions.Configuration.{taking, repeating, block, output, Component, idle, transaction}
use Rattle.semantics.specs.Claims.Denotation.{component_process, Denotes, nothing, alone, beside, in_order}
use Rattle.semantics.specs.Claims.Correspondence.{OneOrder}

-- a component is one process
itself : (c : Component) → in_order (component_process c) ≡ component_process c ∷ []
unfolding in_order component_process
itself (idle (taking n a P)) = refl
itself (idle (repeating n a P)) = refl
itself (idle (block n M)) = refl
itself (idle (output a)) = refl
itself (transaction n M s t) = refl

pub denotes_in_order : {P : Process} {cs : List Component} → Denotes P cs → map component_process cs ≡ in_order P
unfolding in_order
denotes_in_order nothing = refl
denotes_in_order (alone c e) = rw e (sym (itself c))
denotes_in_order (beside {cs = cs} {ds = ds} p q) = rw (map-append, denotes_in_order p, denotes_in_order q)

-- ---- and back

nothing_there : (cs : List Component) → map component_process cs ≡ [] → Denotes nil cs
nothing_there [] e = nothing
nothing_there (c ∷ cs) e = absurd (let z : ◌≡◌ {A = ℕ} 0 1 = cc in omega arith)

one_there : (P : Process) (cs : List Component) → map component_process cs ≡ P ∷ [] → Denotes P cs
one_there P [] e = absurd (let z : ◌≡◌ {A = ℕ} 0 1 = cc in omega arith)
one_there P (c ∷ []) e = let q : P ≡ component_process c = cc in alone c q
one_there P (c ∷ d ∷ cs) e = absurd (let z : ◌≡◌ {A = ℕ} 0 1 = cc in omega arith)

-- components whose processes are those of two lists, one behind the other, are two such lists
pub record Parted (Ps Qs : List Process) (cs : List Component) : Type 0 where
  pub before : List Component
  pub behind : List Component
  pub whole : cs ≡ before ++ behind
  pub first : map component_process before ≡ Ps
  pub second : map component_process behind ≡ Qs

part : (Ps Qs : List Process) (cs : List Component) → map component_process cs ≡ Ps ++ Qs → Parted Ps Qs cs
part [] Qs cs e = record { before = []; behind = cs; whole = refl; first = refl; second = e }
part (P ∷ Ps) Qs [] e = absurd (let z : ◌≡◌ {A = ℕ} 0 1 = cc in omega arith)
part (P ∷ Ps) Qs (c ∷ cs) e =
    let r = part Ps Qs cs (cc) in
    record { before = c ∷ r.before; behind = r.behind; whole = ap (◌∷◌ c) r.whole; first = cc r.first; second = r.second }

in_order_denotes : (P : Process) (cs : List Component) → map component_process cs ≡ in_order P → Denotes P cs
unfolding in_order
in_order_denotes nil cs e = nothing_there cs e
in_order_denotes (out a) cs e = one_there (out a) cs e
in_order_denotes (inp a P) cs e = one_there (inp a P) cs e
in_order_denotes (rep a P) cs e = one_there (rep a P) cs e
in_order_denotes (par P Q) cs e =
    let r = part (in_order P) (in_order Q) cs e in
    rw r.whole (beside (in_order_denotes P r.before r.first) (in_order_denotes Q r.behind r.second))
in_order_denotes (atom M) cs e = one_there (atom M) cs e
in_order_denotes (ongoing A M) cs e = one_there (ongoing A M) cs e

pub one_order : OneOrder
unfolding OneOrder
one_order P cs = (λ d. denotes_in_order d, λ e. in_order_denotes P cs e)
