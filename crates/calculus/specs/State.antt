-- States as multisets of names (document 004, "Notation"), with the operations that Table 2 uses. Their laws: proofs/States.
-- Assumes nothing.
use Rattle.calculus.specs.Syntax.{Name, State}
use Rattle.std.specs.Prelude.{◌≡◌, cond, List, [], ◌∷◌, ℕ, suc, ◌+◌, ◌-◌, ◌≤◌, ◌<◌, length, get_or, set, eqb}

-- how often a name occurs in a state
abbrev pub count : State → Name → ℕ
count σ a = get_or σ a 0

-- one for the same name, none for another
unfoldable pub same : Name → Name → ℕ
same a b = cond (eqb a b) 1 0

-- how often a name occurs in a list of names
unfoldable pub occurrences : Name → List Name → ℕ
unfolding same
occurrences a [] = 0
occurrences a (b ∷ bs) = same a b + occurrences a bs

-- bs ⊆ σ, multiset inclusion: each name occurs in bs at most as often as in σ
unfoldable pub Included : List Name → State → Type 0
Included bs σ = (a : Name) → occurrences a bs ≤ count σ a

-- σ' is σ ⊎ {a}; the name is one that the state counts
pub record Plus (σ : State) (a : Name) (σ' : State) : Type 0 where
  pub counted : a < length σ
  pub added : σ' ≡ set σ a (suc (count σ a))

-- σ ∖ bs: one occurrence fewer for each name of bs
unfoldable pub without : State → List Name → State
without σ [] = σ
without σ (b ∷ bs) = without (set σ b (count σ b - 1)) bs

-- two lists of names that are the same multiset
unfoldable pub SameNames : List Name → List Name → Type 0
SameNames bs cs = (a : Name) → occurrences a bs ≡ occurrences a cs
