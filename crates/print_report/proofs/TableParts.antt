-- Stepping over records to where the table of an input ends.
-- Assumes nothing.
use Prim.Native.Nat.{ℕ, zero, suc, ◌+◌, ◌-◌, ◌≤◌, ◌<◌}
use native.Mathlib.Omega.{arith}
use mathlib.Core.Path.{◌≡◌, refl, sym, ap, ◌∙◌}
use mathlib.Core.Logic.{◌⊎◌, inl, inr}
use mathlib.Core.Bool.{Bool, true, false}
use mathlib.Core.Option.{some}
use mathlib.Core.List.{List, [], ◌∷◌}
use lib.ListN.{length, get_or, take, drop, drop_of_length-le}
use lib.Dec.{eqb}
use borrow.Author.Tests.{eqb-true, eqb-false}
use Rattle.theorems.proofs.Lists.{found_below}
use lib.Seq.{drop-cons, drop-drop, take_all, take-length}
use Rattle.semantics.specs.Definitions.Table.{Kind, kind_by_number, kinds, fields}
use Rattle.semantics.specs.Checks.PrintedRun.{TableEnds, at_start, after_record, up_to_start, all_of_it}
use Rattle.table_records.specs.declared.Record.{Record}
use Rattle.std.specs.Prelude.{Ok, Err}
use Rattle.table_records.specs.declared.NoRecord.{NoRecord}
use Rattle.table_records.specs.declared.NoRecord.TheVariants.{End, UnknownKind, CutShort}
use Rattle.table_records.specs.Shapes.{body_of}
use Rattle.table_records.specs.ParsedRecords.{ShortRecord, ParsedRecordIs}
use Rattle.table_records.proofs.Shapes.{body_of_kind}
use Rattle.table_laws.proofs.KindBytes.{kind_at}
use Rattle.print_report.specs.Tables.{TableUpTo}

-- ---- one record

no_end : (n : ℕ) → TableEnds [] n → ⊥
no_end n x = elim x [ ]

-- what a table ends with behind a record that is no start
ends_behind : (bs : List ℕ) (n : ℕ) → TableEnds bs n → (k : ℕ) (rest : List ℕ) → bs ≡ k ∷ rest → (k ≡ 13 → ⊥) →
    (K : Kind) × (kind_by_number k ≡ some K) × (m : ℕ) × TableEnds (drop (length (fields K)) rest) m
ends_behind bs n at_start k rest e ne = absurd (ne (cc))
ends_behind bs n (after_record {k = j} {n = m} {bs = others} K named other x) k rest e ne =
    let p : j ≡ k = cc in
    let q : others ≡ rest = cc in (K, rw p at named, m, rw q at x)

-- a byte of a kind is one of 1 to 13
kind_bounds : (k : ℕ) (K : Kind) → kind_by_number k ≡ some K → (1 ≤ k) × (k ≤ 13)
unfolding kind_by_number kinds
kind_bounds zero K e = let z : ◌≡◌ {A = ℕ} 0 1 = cc in absurd (omega arith)
kind_bounds (suc k) K e = let l = found_below kinds k K e in (omega arith, omega arith)

-- ---- so far

-- the records before an offset have been stepped over, and none of them is a start
pub record SteppedTo (s : List ℕ) (at : ℕ) : Type 0 where
  pub inside : at ≤ length s
  pub onwards : (n : ℕ) → TableEnds (drop at s) n → TableEnds s (at + n)
  pub only : (n : ℕ) → TableEnds s n → (m : ℕ) × TableEnds (drop at s) m

pub not_yet : (s : List ℕ) → SteppedTo s 0
not_yet s = record {
  inside = omega arith;
  onwards = λ n x. let z : 0 + n ≡ n = omega arith in rw z x;
  only = λ n x. (n, x);
}

module _ (s : List ℕ) (at : ℕ) (x : SteppedTo s at) where
  -- a whole record
  module _ (r : Record) (w : ParsedRecordIs s at (Ok r)) where
    pub less_left : length s - r.next < length s - at
    less_left = let b = w.behind in let i = w.inside in omega arith

    first_byte : drop at s ≡ r.kind ∷ drop (suc at) s
    first_byte = let b = w.behind in let i = w.inside in rw w.kind (drop-cons s at 0 (omega arith))

    pub start_reached : r.kind ≡ 13 → TableUpTo s r.next
    unfolding body_of kind_by_number kinds fields
    start_reached k =
        let b = w.behind in
        let size : r.next ≡ at + 2 = b ∙ rw k (omega arith) in
        let here : TableEnds (drop at s) 2 = rw (first_byte, k) at_start in
        rw size
        (record { inside = let i = w.inside in omega arith; part = up_to_start (at + 2) (x.onwards 2 here) })

    pub stepped_over : (r.kind ≡ 13 → ⊥) → SteppedTo s r.next
    stepped_over other =
        let K = kind_at r.kind w.known in
        let size = length (fields K.kind) in
        let b = w.behind in
        let body = ap length (body_of_kind r.kind K.kind K.named) in
        let here : r.next ≡ suc at + size = omega arith in
        let rest : drop size (drop (suc at) s) ≡ drop r.next s =
        drop-drop size (suc at) s ∙ ap (λ i. drop i s) (sym here) in
        record {
          inside = let i = w.inside in omega arith;
          onwards = λ n y.
              let z : at + (suc size + n) ≡ r.next + n = omega arith in
              let over = after_record {n = n} {bs = drop (suc at) s} K.kind K.named other (rw rest y) in
              rw (← z) (x.onwards (suc size + n) (rw first_byte over));
          only = λ n y.
              let m = x.only n y in
              let o = ends_behind (drop at s) m.0 m.1 r.kind (drop (suc at) s) first_byte other in
              let same : o.0 ≡ K.kind = cc (o.1, K.named) in
              (o.2, rw (← rest, ← same) o.3);
        }

  -- no whole record
  none_more : ((n : ℕ) → TableEnds (drop at s) n → ⊥) → TableUpTo s (length s)
  none_more never = record {
    inside = omega arith;
    part = rw take-length (all_of_it (λ n y. let m = x.only n y in never m.0 m.1));
  }

  -- a byte that is no kind's, and a record that is cut short
  unknown_more : at < length s → (get_or s at 0 ≡ 0) ⊎ (13 < get_or s at 0) → TableUpTo s (length s)
  unknown_more l u = none_more (λ n y.
      let o = ends_behind (drop at s) n y (get_or s at 0) (drop (suc at) s) (drop-cons s at 0 l) (λ z. no_thirteen z u) in
      let b = kind_bounds (get_or s at 0) o.0 o.1 in outside b.0 b.1 u)
    where
      no_thirteen : get_or s at 0 ≡ 13 → (get_or s at 0 ≡ 0) ⊎ (13 < get_or s at 0) → ⊥
      no_thirteen z (inl e) = omega arith
      no_thirteen z (inr e) = omega arith

      outside : 1 ≤ get_or s at 0 → get_or s at 0 ≤ 13 → (get_or s at 0 ≡ 0) ⊎ (13 < get_or s at 0) → ⊥
      outside a b (inl e) = omega arith
      outside a b (inr e) = omega arith

  cut_more : ShortRecord s at → TableUpTo s (length s)
  unfolding body_of kind_by_number kinds fields
  cut_more w = go (eqb (get_or s at 0) 13) refl
    where
      first : drop at s ≡ get_or s at 0 ∷ drop (suc at) s
      first = drop-cons s at 0 w.inside

      go : (b : Bool) → eqb (get_or s at 0) 13 ≡ b → TableUpTo s (length s)
      go true e =
          let k = eqb-true (get_or s at 0) 13 e in
          let here : TableEnds (drop at s) 2 = rw (first, k) at_start in
          let past : length s < at + 1 + 1 = rw k at w.cut in
          let all : take (at + 2) s ≡ s = take_all (at + 2) s (omega arith) in
          record { inside = omega arith; part = rw take-length (rw all at (up_to_start (at + 2) (x.onwards 2 here))) }
      go false e = none_more (λ n y.
          let o = ends_behind (drop at s) n y (get_or s at 0) (drop (suc at) s) first (eqb-false (get_or s at 0) 13 e) in
          let body = ap length (body_of_kind (get_or s at 0) o.0 o.1) in
          let past = w.cut in
          let size = length (fields o.0) in
          let end : drop size (drop (suc at) s) ≡ [] =
          drop-drop size (suc at) s ∙ drop_of_length-le s {i = suc at + size} (omega arith) in
          no_end o.2 (rw end at o.3))

  pub none_found : (e : NoRecord) → ParsedRecordIs s at (Err e) → TableUpTo s (length s)
  none_found End x = none_more (λ n y. no_end n (rw (drop_of_length-le s x) at y))
  none_found UnknownKind x = unknown_more x.0 x.1
  none_found CutShort x = cut_more x
