-- The rows on decimals and printed lines: what is printed by computation, the rest by derivations.
-- Assumes nothing.
use Prim.Native.Nat.{ℕ, suc, ◌+◌, ◌≤◌}
use native.Mathlib.Omega.{arith}
use mathlib.Core.Path.{◌≡◌, refl}
use mathlib.Core.Logic.{inl, inr}
use mathlib.Core.List.{List, [], ◌∷◌, ◌++◌}
use lib.IntN.{ℤ, pos, negsuc}
use Rattle.semantics.specs.Definitions.Configuration.{preorder}
use Rattle.semantics.specs.Definitions.Report.{decimal, signed, lines}
use Rattle.semantics.specs.Definitions.Sentence.{ascii}
use Rattle.semantics.specs.Checks.Decimals.{place_value, DecimalOf, SignedOf, not_negative, negative}
use Rattle.semantics.specs.Checks.PrintedLines.{newline, space, Line, begins, gained, lost, TrayLines, no_more, passed_over, told}
use Rattle.semantics.specs.Checks.PrintedLines.{puts, takes, repeats, waits, attempts, StationLines, no_station, station, RunPrinted}
use Rattle.semantics.specs.Checks.LineExamples.{first_hall, answered, answer_text, LineExamples}

-- ---- decimals

four_digits : DecimalOf 4096 (ascii "4096")
unfolding ascii place_value
four_digits = record { each = omega arith; front = omega arith; worth = refl }

no_digit : DecimalOf 10 (ascii ":") → ⊥
unfolding ascii
no_digit d = let l : 58 ≤ 57 = d.each.0.1 in omega arith

reversed : DecimalOf 12 (ascii "21") → ⊥
unfolding ascii place_value
reversed d = let e : ◌≡◌ {A = ℕ} 21 12 = d.worth in omega arith

minus_zero : SignedOf (pos 0) (ascii "-0") → ⊥
unfolding ascii
minus_zero (not_negative d) = let l : 48 ≤ 45 = d.each.0.0 in omega arith

-- ---- lines of numbers of one digit

digit : (n : ℕ) → n ≤ 9 → DecimalOf n ((48 + n) ∷ [])
unfolding place_value
digit n l = record { each = ((omega arith, omega arith), tt); front = tt; worth = omega arith }

abbrev one_digit : ℤ → List ℕ
one_digit (pos n) = (48 + n) ∷ []
one_digit (negsuc n) = 45 ∷ (48 + suc n) ∷ []

abbrev Small : ℤ → Type 0
Small (pos n) = n ≤ 9
Small (negsuc n) = suc n ≤ 9

one_digit_holds : (z : ℤ) → Small z → SignedOf z (one_digit z)
one_digit_holds (pos n) l = not_negative (digit n l)
one_digit_holds (negsuc n) l = negative (digit (suc n) l)

one : (letter : ℕ) (x : ℤ) → Small x → Line letter (x ∷ []) (letter ∷ 32 ∷ (one_digit x ++ (10 ∷ [])))
one letter x l = begins (space (one_digit_holds x l) newline)

two : (letter : ℕ) (x y : ℤ) → Small x → Small y →
    Line letter (x ∷ y ∷ []) (letter ∷ 32 ∷ (one_digit x ++ (32 ∷ (one_digit y ++ (10 ∷ [])))))
two letter x y l m = begins (space (one_digit_holds x l) (space (one_digit_holds y m) newline))

three : (letter : ℕ) (x y z : ℤ) → Small x → Small y → Small z →
    Line letter (x ∷ y ∷ z ∷ [])
    (letter ∷ 32 ∷ (one_digit x ++ (32 ∷ (one_digit y ++ (32 ∷ (one_digit z ++ (10 ∷ [])))))))
three letter x y z l m n = begins (space (one_digit_holds x l) (space (one_digit_holds y m) (space (one_digit_holds z n) newline)))

four : (letter : ℕ) (w x y z : ℤ) → Small w → Small x → Small y → Small z →
    Line letter (w ∷ x ∷ y ∷ z ∷ [])
    (letter ∷ 32 ∷ (one_digit w ++ (32 ∷ (one_digit x ++ (32 ∷ (one_digit y ++ (32 ∷ (one_digit z ++ (10 ∷ [])))))))))
four letter w x y z k l m n =
    begins (space (one_digit_holds w k) (space (one_digit_holds x l) (space (one_digit_holds y m) (space (one_digit_holds z n) newline))))

-- ---- a run

trays_told : TrayLines 0 first_hall.counts answered.configuration.counts (ascii "T 0 3 -3 0\nT 2 0 1 1\nT 3 2 0 2\n")
unfolding first_hall answered ascii
trays_told =
    told {f = 3} {l = 0} (inl (omega arith)) (lost 2 refl)
    (four 84 (pos 0) (pos 3) (negsuc 2) (pos 0) (omega arith) (omega arith) (omega arith) (omega arith))
    (passed_over
    (told {f = 0} {l = 1} (inr (omega arith)) (gained 1 refl)
    (four 84 (pos 2) (pos 0) (pos 1) (pos 1) (omega arith) (omega arith) (omega arith) (omega arith))
    (told {f = 2} {l = 2} (inl (omega arith)) (gained 0 refl)
    (four 84 (pos 3) (pos 2) (pos 0) (pos 2) (omega arith) (omega arith) (omega arith) (omega arith)) no_more)))

stations_told : StationLines answered.configuration.components (ascii "P 7\nW 5\nW 6\nW 2\nA 2 3\n")
unfolding answered ascii preorder
stations_told =
    station (puts (one 80 (pos 7) (omega arith)))
    (station (takes (one 87 (pos 5) (omega arith)))
    (station (repeats (one 87 (pos 6) (omega arith)))
    (station (waits (one 87 (pos 2) (omega arith)))
    (station (attempts (two 65 (pos 2) (pos 3) (omega arith) (omega arith))) no_station))))

run_told : RunPrinted first_hall answered (ascii answer_text)
unfolding answered ascii answer_text
run_told = record {
  run = ascii "R 0 9 4\n";
  run_line_holds = three 82 (pos 0) (pos 9) (pos 4) (omega arith) (omega arith) (omega arith);
  tally = ascii "C 1 2 3\n";
  tally_line = three 67 (pos 1) (pos 2) (pos 3) (omega arith) (omega arith) (omega arith);
  trays = ascii "T 0 3 -3 0\nT 2 0 1 1\nT 3 2 0 2\n";
  tray_lines = trays_told;
  stations = ascii "P 7\nW 5\nW 6\nW 2\nA 2 3\n";
  station_lines = stations_told;
  all = refl;
}

pub line_examples : LineExamples
unfolding decimal signed ascii lines first_hall answered answer_text
line_examples = record {
  decimals = refl;
  signs = refl;
  told = four_digits;
  nothing = λ d. d.front;
  zero_in_front = λ d. d.front refl;
  no_digit = no_digit;
  reversed = reversed;
  minus_zero = minus_zero;
  printed = refl;
  lines_told = run_told;
}
