-- What was written from the first byte on is printed whole, and what is read of an input prints as all of it.
-- Assumes nothing.
use Rattle.std.proofs.Common.{◌≡◌, ◌∙◌, ℕ, ◌+◌, true, false, ltb, List, length, take, drop, Option, None, Some, IfSome, OnOk, Result, ap, refl, subst, arith, length-take-le}
use Rattle.std.specs.Io.KnownBytes.{Appends}
use Rattle.std.proofs.Math.Seq.{take-length, take-append_seam}
use Rattle.std.proofs.lemmas.Result.{on_ok_weaker}
use Rattle.std.proofs.lemmas.List.{take_all}
use Rattle.std.proofs.lemmas.Bool.{lt-ltb, ltb-true, ltb-false}
use Rattle.semantics.specs.Definitions.Layout.{max_input}
use Rattle.semantics.specs.Definitions.Report.{printed_run, sized_report}
use Rattle.buffer.specs.Splice.{written}
use Rattle.print_decimals.specs.Wrote.{Wrote}

module _ (s v s₁ : List ℕ) (r : ℕ) (x : Wrote s 0 v s₁ r) where
  -- the part that is printed
  pub written_part : take r s₁ ≡ v
  unfolding written
  written_part =
      let e : r ≡ length v = omega (arith, x.end) in
      rw (e, x.bytes, take-length v) (take-append_seam v (drop (0 + length v) s))

-- one byte more than the longest input tells that the input is longer
pub printed_cut : (bs : List ℕ) → printed_run (take (max_input + 1) bs) ≡ printed_run bs
unfolding printed_run sized_report
printed_cut bs = elim (ltb (max_input + 1) (length bs)) as (λ b. ltb (max_input + 1) (length bs) ≡ b → printed_run (take (max_input + 1) bs) ≡ printed_run bs) [
  | true ↦ λ h.
      let long = ltb-true (max_input + 1) (length bs) h in
      let cut = length-take-le (max_input + 1) bs (omega arith) in
      rw (lt-ltb max_input (length (take (max_input + 1) bs)) (omega (arith, cut)), lt-ltb max_input (length bs) (omega arith)) refl
  | false ↦ λ h. ap printed_run (take_all (max_input + 1) bs (ltb-false _ _ h))
] refl

-- what the reader has up to the limit is printed, and so all that it has
pub replayed : {T E : Type 0} (r : Result T E) (before after known : Option (List ℕ)) (size : ℕ) (items text : List ℕ) →
    IfSome known (λ xs. items ≡ take size xs) → text ≡ printed_run items → OnOk r (Appends before after text) →
    size ≡ max_input + 1 → OnOk r (IfSome known (λ bytes. Appends before after (printed_run bytes)))
replayed r before after None size items text e z a l = on_ok_weaker r (λ _. tt) a
replayed r before after (Some xs) size items text e z a l =
    on_ok_weaker r (λ b. subst (Appends before after) (z ∙ ap printed_run (e ∙ ap (λ n. take n xs) l) ∙ printed_cut xs) b) a
