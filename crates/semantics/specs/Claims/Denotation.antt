-- What a configuration stands for in the calculus, and what lies within the limits there
-- (document 01, "Choices and moves", on what a hall stands for).
-- Assumes nothing.
use Rattle.std.specs.Prelude.{ℕ, ◌+◌, ◌≤◌, ◌≡◌, List, [], ◌∷◌, ◌++◌}
use Rattle.calculus.specs.Syntax.{rd, wt, State, Expr, end, retry, prefix, or_else, Ongoing, running, or_else', Process, nil, out, inp, rep, par, atom, ongoing}
use Rattle.calculus.specs.Reduction.{Label, by, COM}
use Rattle.semantics.specs.Definitions.Layout.{max_count, max_components}
use Rattle.semantics.specs.Definitions.Basics.{All}
use Rattle.semantics.specs.Definitions.Terms.{Expression, end_t, retry_t, rd_t, wt_t, or_else_t, Program, nil_t, put_t, take_t, repeat_t, par_t, atom_t}
use Rattle.semantics.specs.Definitions.Logs.{add_token}
use Rattle.semantics.specs.Definitions.Configuration.{Idle, taking, repeating, block, output, Tree, leaf, fork, Component, idle, transaction}

-- ---- a term without its numbers

unfoldable pub expr : Expression → Expr
expr (end_t n) = end
expr (retry_t n) = retry
expr (rd_t n a M) = prefix (rd a) (expr M)
expr (wt_t n a M) = prefix (wt a) (expr M)
expr (or_else_t n M N) = or_else (expr M) (expr N)

unfoldable pub proc : Program → Process
unfolding expr
proc (nil_t n) = nil
proc (put_t n a) = out a
proc (take_t n a P) = inp a (proc P)
proc (repeat_t n a P) = rep a (proc P)
proc (par_t n P Q) = par (proc P) (proc Q)
proc (atom_t n M) = atom (expr M)

-- ---- a component as a process

-- every leaf of a transaction has the transaction's snapshot for its state
unfoldable pub ongoing_of : State → Tree → Ongoing
unfolding expr
ongoing_of s (leaf M δ) = running (expr M) s δ
ongoing_of s (fork l r) = or_else' (ongoing_of s l) (ongoing_of s r)

unfoldable pub idle_process : Idle → Process
unfolding proc expr
idle_process (taking n a P) = inp a (proc P)
idle_process (repeating n a P) = rep a (proc P)
idle_process (block n M) = atom (expr M)
idle_process (output a) = out a

unfoldable pub component_process : Component → Process
unfolding idle_process ongoing_of expr
component_process (idle c) = idle_process c
component_process (transaction n M s t) = ongoing (ongoing_of s t) (expr M)

-- a process and the components in parallel that it is, in order, up to nil and grouping
pub data Denotes : Process → List Component → Type 0 where
  nothing : Denotes nil []
  alone : {P : Process} (c : Component) → P ≡ component_process c → Denotes P (c ∷ [])
  beside : {P Q : Process} {cs ds : List Component} → Denotes P cs → Denotes Q ds → Denotes (par P Q) (cs ++ ds)

-- the components of a process from left to right, in the calculus's terms alone
unfoldable pub in_order : Process → List Process
in_order nil = []
in_order (out a) = out a ∷ []
in_order (inp a P) = inp a P ∷ []
in_order (rep a P) = rep a P ∷ []
in_order (par P Q) = in_order P ++ in_order Q
in_order (atom M) = atom M ∷ []
in_order (ongoing A M) = ongoing A M ∷ []

-- ---- within the limits, in the calculus's terms alone

-- how many components that are not nil stand in parallel
unfoldable pub parallel : Process → ℕ
parallel nil = 0
parallel (out a) = 1
parallel (inp a P) = 1
parallel (rep a P) = 1
parallel (par P Q) = parallel P + parallel Q
parallel (atom M) = 1
parallel (ongoing A M) = 1

-- every count at most 255, at most 64 components
unfoldable pub Bounded : Process → State → Type 0
unfolding parallel
Bounded P σ = All (λ c. c ≤ max_count) σ × (parallel P ≤ max_components)

-- a reduction from σ with this label to P' and σ' is within the limits: what it leaves is, and for COM the state
-- between its two moves too. (One component fewer stands there than before, so of the two bounds only that of the
-- counts is left to ask: Checks/Handovers has what stands there, bounded as a whole.)
unfoldable pub WithinLimits : Label → State → Process → State → Type 0
unfolding Bounded add_token
WithinLimits (by r) σ P' σ' = Bounded P' σ'
WithinLimits (COM a) σ P' σ' = Bounded P' σ' × All (λ c. c ≤ max_count) (add_token σ a)
