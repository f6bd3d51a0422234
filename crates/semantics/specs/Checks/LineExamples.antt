-- Worked rows for Checks/Decimals and Checks/PrintedLines: decimals printed and told, and the lines of a run with a
-- tray passed over and every kind of station. Proved in proofs/LineExamples.
-- Assumes nothing.
use Prim.Native.String.{String}
use Rattle.std.specs.Prelude.{◌≡◌, [], ◌∷◌, map, pos, negsuc}
use Rattle.calculus.specs.Syntax.{rd}
use Rattle.semantics.specs.Definitions.Terms.{Expression, end_t, rd_t, nil_t}
use Rattle.semantics.specs.Definitions.Configuration.{taking, repeating, block, output, leaf, fork, idle, transaction, Configuration}
use Rattle.semantics.specs.Definitions.Run.{RunAnswer}
use Rattle.semantics.specs.Definitions.Report.{decimal, signed, lines}
use Rattle.semantics.specs.Definitions.Sentence.{ascii}
use Rattle.semantics.specs.Checks.Decimals.{DecimalOf, SignedOf}
use Rattle.semantics.specs.Checks.PrintedLines.{RunPrinted}

-- rd 0.end
abbrev pub reading : Expression
reading = rd_t 1 0 (end_t 0)

unfoldable pub first_hall : Configuration
first_hall = record { counts = 3 ∷ 0 ∷ 0 ∷ 2 ∷ []; components = [] }

unfoldable pub answered : RunAnswer
answered = record {
  number = 0;
  place = 9;
  done = 4;
  configuration =
      record {
        counts = 0 ∷ 0 ∷ 1 ∷ 2 ∷ [];
        components =
            idle (output 7) ∷ idle (taking 5 0 (nil_t 4)) ∷ idle (repeating 6 1 (nil_t 4)) ∷ idle (block 2 reading) ∷
            transaction 2 reading [] (fork (leaf reading []) (leaf (end_t 0) (rd 0 ∷ []))) ∷ [];
      };
  counters = record { commits = 1; failed = 2; retries = 3 };
}

unfoldable pub answer_text : String
answer_text = "R 0 9 4\nC 1 2 3\nT 0 3 -3 0\nT 2 0 1 1\nT 3 2 0 2\nP 7\nW 5\nW 6\nW 2\nA 2 3\n"

pub record LineExamples : Type 0 where
  -- digits of every place, at most twenty
  pub decimals :
      map decimal (0 ∷ 7 ∷ 10 ∷ 909 ∷ 16384 ∷ 4294967295 ∷ 99999999999999999999 ∷ [])
      ≡ map ascii ("0" ∷ "7" ∷ "10" ∷ "909" ∷ "16384" ∷ "4294967295" ∷ "99999999999999999999" ∷ [])
  pub signs : map signed (pos 0 ∷ pos 255 ∷ negsuc 0 ∷ negsuc 254 ∷ []) ≡ map ascii ("0" ∷ "255" ∷ "-1" ∷ "-255" ∷ [])
  pub told : DecimalOf 4096 (ascii "4096")
  -- no digit, a zero in front, a byte that is no digit, digits in reverse, a minus sign before zero
  pub nothing : DecimalOf 0 [] → ⊥
  pub zero_in_front : DecimalOf 7 (ascii "07") → ⊥
  pub no_digit : DecimalOf 10 (ascii ":") → ⊥
  pub reversed : DecimalOf 12 (ascii "21") → ⊥
  pub minus_zero : SignedOf (pos 0) (ascii "-0") → ⊥
  pub printed : lines first_hall answered ≡ ascii answer_text
  pub lines_told : RunPrinted first_hall answered (ascii answer_text)
