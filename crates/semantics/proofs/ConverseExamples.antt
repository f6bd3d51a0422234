-- The rows on the converse's steps.
-- Assumes nothing.
use Prim.Native.Nat.{ℕ, ◌<◌}
use native.Mathlib.Omega.{arith}
use mathlib.Core.Path.{◌≡◌, refl, sym, ap, ◌∙◌}
use mathlib.Core.Option.{some}
use mathlib.Core.List.{[], ◌∷◌, map}
use lib.ListN.{length}
use Rattle.calculus.specs.Syntax.{Log, rd, wt}
use Rattle.calculus.specs.State.{without}
use Rattle.calculus.specs.Log.{WT}
use Rattle.semantics.specs.Definitions.Basics.{replace_at}
use Rattle.semantics.specs.Definitions.Terms.{Expression, end_t, rd_t, wt_t}
use Rattle.semantics.specs.Definitions.Configuration.{output}
use Rattle.semantics.specs.Definitions.Logs.{first_readable, add_token}
use Rattle.semantics.specs.Claims.ConverseRuns.{PlainState, replacing, ConverseStep, step_out, step_in, step_rep, step_commit, ConverseSteps, no_step, step_then}
use Rattle.semantics.specs.Checks.ConverseExamples.{handover, handed_over, two_puts, crowded, ConverseExamples}

-- the block has committed, and its token is about to be laid down
abbrev committed : PlainState
committed = record { counts = 0 ∷ 0 ∷ []; stations = output 1 ∷ [] }

commits : ConverseStep handover 0 committed
unfolding first_readable replacing replace_at WT without
commits = step_commit 3 (rd_t 2 0 (wt_t 1 1 (end_t 0))) (rd 0 ∷ wt 1 ∷ []) refl refl (λ h. omega (arith, h))

puts : ConverseStep committed 0 handed_over
unfolding replacing add_token
puts = step_out 1 refl (λ h. omega (arith, h))

hands_over : ConverseSteps handover handed_over
hands_over = step_then 0 commits (step_then 0 puts no_step)

-- the only path of the block
only_path : (M : Expression) (δ : Log) → M ≡ two_puts → first_readable (0 ∷ []) M ≡ some δ → δ ≡ wt 0 ∷ wt 0 ∷ []
unfolding first_readable
only_path M δ m f =
    let g : first_readable (0 ∷ []) two_puts ≡ some δ = sym (ap (first_readable (0 ∷ [])) m) ∙ f in
    cc

too_many : 64 < length (replace_at 0 (map output (WT (wt 0 ∷ wt 0 ∷ []))) crowded.stations)
unfolding replace_at WT
too_many = omega arith

leaves_65 : (u : PlainState) → ConverseStep crowded 0 u → ⊥
leaves_65 u (step_out a e h) = let z : ◌≡◌ {A = ℕ} 0 1 = cc in omega arith
leaves_65 u (step_in n a P e h k) = let z : ◌≡◌ {A = ℕ} 0 1 = cc in omega arith
leaves_65 u (step_rep n a P e h k) = let z : ◌≡◌ {A = ℕ} 0 1 = cc in omega arith
leaves_65 u (step_commit n M δ e f h) =
    let m : M ≡ two_puts = cc in
    let d = only_path M δ m f in
    h (rw d too_many)

pub converse_examples : ConverseExamples
converse_examples = record { hands_over = hands_over; leaves_65 = leaves_65 }
