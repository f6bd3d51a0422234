-- Laws of a list with zeros behind it: what is written over the first of them stands behind the list.
-- Assumes nothing.
use Prim.Native.Nat.{ℕ, suc, ◌+◌, ◌-◌, ◌≤◌, ◌<◌}
use native.Mathlib.Omega.{arith}
use mathlib.Core.Path.{◌≡◌, sym, ap, ◌∙◌}
use mathlib.Core.List.{List, [], ◌∷◌, ◌++◌, append_assoc, append-nil}
use lib.ListN.{length, set, replicate, length-append}
use lib.Seq.{set_at}
use Rattle.semantics.specs.Definitions.Basics.{padded}

pub padded_one : (n : ℕ) (v : List ℕ) (x k : ℕ) → length v ≡ k → k < n → set (padded n v) k x ≡ padded n (v ++ (x ∷ []))
unfolding padded
padded_one n v x k e h =
    let z : List ℕ = replicate (n - length (v ++ (x ∷ []))) 0 in
    let l = length-append v (x ∷ []) in
    let r : n - length v ≡ suc (n - length (v ++ (x ∷ []))) = omega arith in
    rw r (set_at v 0 z x k e ∙ sym (append_assoc v (x ∷ []) z))

pub padded_two : (n : ℕ) (v : List ℕ) (x y k : ℕ) → length v ≡ k → k + 2 ≤ n →
    set (set (padded n v) k x) (k + 1) y ≡ padded n (v ++ (x ∷ y ∷ []))
padded_two n v x y k e h =
    let l : length (v ++ (x ∷ [])) ≡ k + 1 = length-append v (x ∷ []) ∙ ap (λ (j : ℕ). j + 1) e in
    rw (padded_one n v x k e (omega arith), padded_one n (v ++ (x ∷ [])) y (k + 1) l (omega arith), append_assoc)

pub padded_whole : (n : ℕ) (v : List ℕ) → length v ≡ n → padded n v ≡ v
unfolding padded
padded_whole n v e = let z : n - length v ≡ 0 = omega arith in rw z (append-nil v)
