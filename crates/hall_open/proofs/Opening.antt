-- What a process opens into, counted; and the opening of a decoded table: the counts, the components, and zeros to the
-- end.
-- Assumes nothing.
use Prim.Native.Nat.{ℕ, ◌+◌, ◌*◌, ◌-◌, ◌/◌, ◌≤◌}
use native.Mathlib.Omega.{arith}
use mathlib.Core.Path.{◌≡◌, sym, ◌∙◌}
use mathlib.Core.List.{List, ◌++◌}
use lib.ListN.{length, replicate, length-append}
use lib.Seq.{length-take-le}
use Rattle.semantics.specs.Definitions.Basics.{padded}
use Rattle.semantics.specs.Definitions.Configuration.{opening}
use Rattle.semantics.specs.Definitions.Stored.{bytes_of, hall_bytes}
use Rattle.table_terms.specs.Decoded.{tokens_in, AProcess}
use Rattle.buffer.specs.Splice.{written}
use Rattle.buffer.proofs.Written.{filled}
use Rattle.hall_layout.specs.Layout.{channels, max_components, hall_bytes, idle_size}
use Rattle.hall_laws.specs.Positions.{all_bytes}
use Rattle.hall_open.specs.Opening.{components_bytes, CanWriteComponents, ComponentsWritten, ComponentsCounted, OpeningWritten}
use Rattle.hall_open.proofs.Processes.{opened_length, opened_fits}

module _ (d : List ℕ) (i : ℕ) where
  pub tokens_length : AProcess d i → channels ≡ length (tokens_in d)
  tokens_length x = sym (length-take-le channels d (omega (arith, x.decoded.sized)))

  -- its components fit where as many do as a hall may have
  pub process_fits : (s : List ℕ) (at : ℕ) → AProcess d i → at + idle_size * max_components ≤ length s →
      CanWriteComponents d i s at
  process_fits s at x h =
      let w = x.decoded.good.limits i _ x.at in
      record { terms = x.terms; tree = x.tree; decoded = x.decoded; at = x.at; fits = omega arith }

  pub opened_counted : (s s' : List ℕ) (end : ℕ) → ComponentsWritten d i s 0 s' end → ComponentsCounted d i (end / idle_size)
  opened_counted s s' end w = record {
    found = λ ts P x e. let l = opened_length P in let m = (w.found ts P x e).0 in omega arith;
  }

  -- the components end behind the counts and within the hall
  pub components_inside : (s s' : List ℕ) (end : ℕ) → AProcess d i → ComponentsWritten d i s channels s' end → length s' ≡ hall_bytes →
      (channels ≤ end) × (end ≤ length s')
  components_inside s s' end x w h =
      let l = x.decoded.good.limits i _ x.at in
      let f = opened_fits x.tree in
      let e = (w.found x.terms x.tree x.decoded x.at).0 in (omega arith, omega arith)

  -- the counts written, the components written, the rest cleared
  pub opening_written : (ws s s₁ s₂ s₃ : List ℕ) (end : ℕ) → ws ≡ tokens_in d → length s ≡ hall_bytes → s₁ ≡ written s 0 ws (length ws) →
      ComponentsWritten d i s₁ channels s₂ end → s₃ ≡ written s₂ end (replicate (length s₂ - end) 0) (length s₂ - end) → length s₂ ≡ length s →
      OpeningWritten d i s₃
  unfolding bytes_of opening padded components_bytes all_bytes
  opening_written ws s s₁ s₂ s₃ end tokens h p w q m = record {
    found = λ t x k e.
        let v = components_bytes t.start in
        let g = x.good.limits i _ e in
        let f = opened_fits t.start in
        let a = w.found t.terms t.start x e in
        let l = length-append ws v in
        let n = length s - length (ws ++ v) in
        let z : length ws ≡ channels = rw tokens (length-take-le channels d (omega (arith, x.sized))) in
        let to : end ≡ 0 + length (ws ++ v) = omega (arith, a.0) in
        let from : channels ≡ 0 + length ws = omega arith in
        let r : length s₂ - end ≡ n = omega arith in
        q ∙ rw (r, a.1, p, to, from) (filled s ws v (omega arith) ∙ rw (k ∙ sym tokens, h));
  }
