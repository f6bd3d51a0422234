-- A told number 0 means that nothing is refused.
-- Assumes nothing.
use Prim.Native.Nat.{ℕ, ◌≤◌}
use native.Mathlib.Omega.{arith}
use mathlib.Core.Path.{◌≡◌, refl, ap}
use mathlib.Core.Logic.{◌↔◌}
use mathlib.Core.List.{List}
use Rattle.semantics.specs.Definitions.Calls.{Verdict, ok, rejected, verdict_number, check_table, check_hall, opened, Opening, open_hall, open_verdict}
use Rattle.semantics.specs.Checks.Conditions.{OpenAnswered, not_opened_holds, is_opened, OpenNumbers, RefusalNumbers}
use Rattle.semantics.specs.Checks.Answers.{ZeroIsAccepted}
use Rattle.theorems.proofs.HallConditions.{open_numbers, refusal_numbers}

-- a verdict that never refuses with 0 is told as 0 exactly where it is ok
zero_verdict : (v : Verdict) → ((n p : ℕ) → v ≡ rejected n p → 1 ≤ n) → (verdict_number v ≡ 0) ↔ (v ≡ ok)
zero_verdict ok positive = (λ e. refl, λ e. refl)
zero_verdict (rejected n p) positive = (
  λ e. absurd (let z = positive n p refl in omega arith),
  λ e. absurd (let z : ◌≡◌ {A = ℕ} 0 1 = cc in omega arith),
)

-- an opening's answer
zero_opening : (table hall : List ℕ) (o : Opening) → open_hall table hall ≡ o → OpenAnswered table hall o →
    (verdict_number (open_verdict o.answer) ≡ 0) ↔ (o.answer ≡ opened (record { commits = 0; failed = 0; retries = 0 }))
unfolding open_verdict RefusalNumbers
zero_opening table hall o e (not_opened_holds {n} {p} c) = (
  λ z. absurd (let y = (refusal_numbers table hall n p).1 (ap (λ x. x.answer) e) in omega arith),
  λ z. absurd (let y : ◌≡◌ {A = ℕ} 0 1 = cc in omega arith),
)
zero_opening table hall o e (is_opened t c l) = (λ z. refl, λ z. refl)

pub zero_is_accepted : ZeroIsAccepted
unfolding ZeroIsAccepted RefusalNumbers OpenNumbers
zero_is_accepted table hall = (
  zero_verdict (check_table table) (λ n p e. ((refusal_numbers table hall n p).0 e).0),
  zero_verdict (check_hall table hall) (λ n p e. ((refusal_numbers table hall n p).2 e).0),
  zero_opening table hall (open_hall table hall) refl ((open_numbers table hall (open_hall table hall)).0 refl),
)
