-- Laws of a counter that rises, one for each way on which the code goes, and of the three together.
-- Assumes nothing.
use Prim.Native.Nat.{ℕ, ◌+◌, ◌<◌, min}
use native.Mathlib.Omega.{arith}
use mathlib.Core.Path.{◌≡◌, sym, ap, ◌∙◌}
use mathlib.Core.List.{[]}
use borrow.Author.Tests.{eq-eqb, ne_eqb}
use Rattle.calculus.specs.Reduction.{Rule, ATRE, ATFAIL, ATOK}
use Rattle.semantics.specs.Definitions.Moves.{rule_number}
use Rattle.semantics.specs.Definitions.Run.{saturating_suc, counted_at, counted}
use Rattle.answers.specs.declared.tallies.Counters as code
use Rattle.answers.specs.Answers.{counters_of, counted_by}

-- ---- one counter

module _ (counts rule counter : ℕ) where
  -- another rule, or one more up to the top
  pub raised_not : (n : ℕ) → n ≡ counts → (rule ≡ n → ⊥) → counter ≡ counted_at counts rule counter
  unfolding counted_at
  raised_not n e h = rw (ne_eqb rule counts (λ q. h (q ∙ sym e)))

  pub raised_one : (n : ℕ) → n ≡ counts → rule ≡ n → (r : ℕ) → r ≡ min (counter + 1) 4294967295 →
      counter < 4294967296 → r ≡ counted_at counts rule counter
  unfolding counted_at saturating_suc
  raised_one n e h r q l = rw (q, eq-eqb rule counts (h ∙ e)) (omega arith)

-- ---- the three

-- after a move by a rule of this number the tally is what the definitions make of it
pub counted_by_holds : (t : code.Counters) (rule : ℕ) (done : Rule) → rule_number done ≡ rule →
    counters_of (counted_by t rule) ≡ counted done (counters_of t)
unfolding counted counted_at counted_by
counted_by_holds t rule done e = ap (λ number. counters_of (counted_by t number)) (sym e)

-- and a number that no rule has leaves it as it is
pub counted_by_none : (t : code.Counters) (rule : ℕ) → ((done : Rule) → rule_number done ≡ rule → ⊥) →
    counted_by t rule ≡ t
unfolding counted_at counted_by rule_number
counted_by_none t rule none =
    rw (
      ne_eqb rule 7 (λ e. none (ATOK []) (sym e)),
      ne_eqb rule 6 (λ e. none ATFAIL (sym e)),
      ne_eqb rule 5 (λ e. none ATRE (sym e)),
    )

-- no two values of the code are one tally
pub counters_injective : (t u : code.Counters) → counters_of t ≡ counters_of u → t ≡ u
counters_injective t u e =
    let x = ap (λ w. w.commits) e in let y = ap (λ w. w.failed) e in let z = ap (λ w. w.retries) e in
    λ i. record { commits = x i; failed = y i; retries = z i }
