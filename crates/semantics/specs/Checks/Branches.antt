-- The branches of an expression, said a second time: as a relation, with the way to each. The measures and paths of
-- Definitions/Terms and Definitions/Logs are held against it (document 01, "The rule table": branches and length;
-- "Choices and moves": a path of a block is a branch of its unfolded expression, its actions in order, that finishes in
-- end). Proved in theorems/proofs/Branches; the rows are in Checks/MeasureExamples. The third measure, width, is held
-- by the number of turns that opening a process takes (Claims/Turns, TurnsEnd).
-- Assumes nothing.
use Rattle.std.specs.Prelude.{ℕ, ◌≤◌, ◌≡◌, ◌⊎◌, List, [], ◌∷◌, ◌++◌, length}
use Rattle.std.proofs.Math.Option.{none, some}
use Rattle.std.proofs.Math.ListN.{get_elem?}
use Rattle.calculus.specs.Syntax.{Name, rd, wt, Log, State}
use Rattle.calculus.specs.State.{Included}
use Rattle.calculus.specs.Log.{RD}
use Rattle.semantics.specs.Definitions.Basics.{All}
use Rattle.semantics.specs.Definitions.Terms.{Expression, end_t, retry_t, rd_t, wt_t, or_else_t, branches, path_length}
use Rattle.semantics.specs.Definitions.Logs.{paths, first_readable}

-- ---- a branch

pub data Finish : Type 0 where
  in_end in_retry : Finish

-- the side that is taken at an orElse
pub data Side : Type 0 where
  on_left on_right : Side

-- a branch of an expression: the sides taken on the way to it, its actions in order, and how it finishes. Two branches
-- with the same actions are two by their ways.
pub data Branch : Expression → List Side → Log → Finish → Type 0 where
  at_end_holds : {n : ℕ} → Branch (end_t n) [] [] in_end
  at_retry : {n : ℕ} → Branch (retry_t n) [] [] in_retry
  after_read : {n : ℕ} {a : Name} {M : Expression} {w : List Side} {δ : Log} {f : Finish} →
      Branch M w δ f → Branch (rd_t n a M) w (rd a ∷ δ) f
  after_write : {n : ℕ} {a : Name} {M : Expression} {w : List Side} {δ : Log} {f : Finish} →
      Branch M w δ f → Branch (wt_t n a M) w (wt a ∷ δ) f
  in_left : {n : ℕ} {M N : Expression} {w : List Side} {δ : Log} {f : Finish} →
      Branch M w δ f → Branch (or_else_t n M N) (on_left ∷ w) δ f
  in_right : {n : ℕ} {M N : Expression} {w : List Side} {δ : Log} {f : Finish} →
      Branch N w δ f → Branch (or_else_t n M N) (on_right ∷ w) δ f

-- ---- from left to right

-- one way stands to the left of another: where they part, it goes left and the other goes right
pub data LeftOf : List Side → List Side → Type 0 where
  parts : {v w : List Side} → LeftOf (on_left ∷ v) (on_right ∷ w)
  parts_later : {s : Side} {v w : List Side} → LeftOf v w → LeftOf (s ∷ v) (s ∷ w)

-- that orders the branches of an expression: none stands to the left of itself, and of two on different ways one does;
-- a way leads to one branch
pub record BranchesStandInOrder : Type 0 where
  pub not_itself : (w : List Side) → LeftOf w w → ⊥
  pub onwards : (u v w : List Side) → LeftOf u v → LeftOf v w → LeftOf u w
  pub one_is_left : (M : Expression) (v w : List Side) (δ ε : Log) (f g : Finish) → Branch M v δ f → Branch M w ε g →
      LeftOf v w ⊎ (LeftOf w v ⊎ ((v ≡ w) × (δ ≡ ε) × (f ≡ g)))

-- ---- how many, and which of them are paths

-- a branch written down
pub record Told : Type 0 where
  pub way : List Side
  pub actions : Log
  pub finish : Finish

-- each stands to the left of all that follow it
abbrev pub LeftToRight : List Told → Type 0
LeftToRight [] = Unit {0}
LeftToRight (b ∷ bs) = All (λ c. LeftOf b.way c.way) bs × LeftToRight bs

-- the branches of an expression, all of them, each once, from left to right
pub record AllBranches (M : Expression) (bs : List Told) : Type 0 where
  pub each_is_one : All (λ b. Branch M b.way b.actions b.finish) bs
  pub every_one : (w : List Side) (δ : Log) (f : Finish) → Branch M w δ f →
      (p : ℕ) × (get_elem? bs p ≡ some (record { way = w; actions = δ; finish = f }))
  pub left_to_right : LeftToRight bs

-- the actions of those that finish in end, in the order given
unfoldable pub ending : Finish → Log → List Log
ending in_end δ = δ ∷ []
ending in_retry δ = []

unfoldable pub endings : List Told → List Log
unfolding ending
endings [] = []
endings (b ∷ bs) = ending b.finish b.actions ++ endings bs

-- `branches` is their number, and `paths` are those that finish in end, in order, each once
unfoldable pub BranchesAndPaths : Type 0
unfolding branches endings paths
BranchesAndPaths =
    (M : Expression) → (bs : List Told) × AllBranches M bs × (length bs ≡ branches M) × (endings bs ≡ paths M)

-- ---- the longest

-- `path_length` is reached by a branch and passed by none
unfoldable pub LongestBranch : Type 0
unfolding path_length
LongestBranch =
    (M : Expression) →
    ((w : List Side) × (δ : Log) × (f : Finish) × Branch M w δ f × (length δ ≡ path_length M)) ×
    ((w : List Side) (δ : Log) (f : Finish) → Branch M w δ f → length δ ≤ path_length M)

-- ---- the first that is readable

-- `first_readable` has the actions of a branch that finishes in end and whose reads are there, as those of none further
-- left are; or it is none, and there is no such branch
unfoldable pub FirstReadableIsLeftmost : Type 0
unfolding first_readable
FirstReadableIsLeftmost =
    (σ : State) (M : Expression) →
    ((δ : Log) → first_readable σ M ≡ some δ →
    (w : List Side) × Branch M w δ in_end × Included (RD δ) σ ×
    ((v : List Side) (ε : Log) → Branch M v ε in_end → LeftOf v w → ¬ Included (RD ε) σ)) ×
    (first_readable σ M ≡ none → (w : List Side) (δ : Log) → Branch M w δ in_end → ¬ Included (RD δ) σ)
