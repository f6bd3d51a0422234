-- Every term of an accepted table can be walked with none stored.
-- Assumes nothing.
use Rattle.std.proofs.Common.{ℕ, ◌<◌, List, arith}
use Rattle.theorems.proofs.Lists.{found_at}
use Rattle.table_terms.specs.TermMeasures.{CanMeasure}
use Rattle.table_read.specs.RecordTests.{DecodedSoFar}

-- each of the decoded terms stands at its number
pub walkable : (d : List ℕ) (n : ℕ) → DecodedSoFar d n → (i : ℕ) → i < n → CanMeasure d 0 i
walkable d n x i h =
    let c = x.counted in
    let good = x.decoded.good in
    let few = good.few in
    let t = found_at x.terms i (omega arith) in
    record {
      terms = x.terms;
      tree = t.0;
      there = record {
        good = good;
        records = x.decoded.records;
        measures = λ j u e g. x.decoded.measures j u e;
        inside = omega arith;
        own = x.decoded.records i t.0 t.1;
        subterms = good.subterms i t.0 t.1;
        listed = λ g. t.1;
      };
    }
