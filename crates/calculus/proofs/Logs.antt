-- The laws of RD and WT: of a log and its continuation, and which reads a longer log asks for.
-- Assumes nothing.
use Rattle.calculus.specs.Syntax.{Name, rd, wt, Log, State}
use Rattle.calculus.specs.State.{occurrences, Included}
use Rattle.calculus.specs.Log.{RD, WT}
use Rattle.calculus.proofs.States.{occurrences_append}
use mathlib.Core.Path.{◌≡◌, refl, ap}
use mathlib.Core.List.{[], ◌∷◌, ◌++◌}
use native.Mathlib.Omega.{arith}

pub RD_append : (δ ε : Log) → RD (δ ++ ε) ≡ RD δ ++ RD ε
unfolding RD
RD_append [] ε = refl
RD_append (rd a ∷ δ) ε = ap (◌∷◌ a) (RD_append δ ε)
RD_append (wt a ∷ δ) ε = RD_append δ ε

pub WT_append : (δ ε : Log) → WT (δ ++ ε) ≡ WT δ ++ WT ε
unfolding WT
WT_append [] ε = refl
WT_append (rd a ∷ δ) ε = WT_append δ ε
WT_append (wt a ∷ δ) ε = ap (◌∷◌ a) (WT_append δ ε)

-- the empty log reads nothing that could be missing
pub empty_included : (σ : State) → Included (RD []) σ
unfolding Included RD occurrences
empty_included σ a = omega arith

-- what a longer log reads is there only where what a shorter one reads is
pub prefix_included : (δ ε : Log) (σ : State) → Included (RD (δ ++ ε)) σ → Included (RD δ) σ
unfolding Included
prefix_included δ ε σ h a = let g = rw (RD_append δ ε, occurrences_append) at (h a) in omega arith

-- a write reads nothing
pub write_included : (δ : Log) (a : Name) (ε : Log) → RD (δ ++ (wt a ∷ ε)) ≡ RD (δ ++ ε)
unfolding RD
write_included δ a ε = rw (RD_append, RD_append)
