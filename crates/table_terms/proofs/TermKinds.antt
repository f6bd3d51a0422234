-- A term's class is that of the kind of its record.
-- Assumes nothing.
use Prim.Native.Nat.{ℕ}
use mathlib.Core.Path.{◌≡◌}
use Rattle.std.specs.Prelude.{Some}
use Rattle.semantics.specs.Definitions.Terms.{end_t, retry_t, rd_t, wt_t, or_else_t, nil_t, put_t, take_t, repeat_t, par_t, atom_t, Term, process, expression}
use Rattle.table_records.specs.Shapes.{term_class, class_of}
use Rattle.table_terms.specs.Decoded.{RecordOf}

pub record_class : (i k l r : ℕ) (t : Term) → RecordOf i k l r t → class_of k ≡ Some (term_class t)
unfolding class_of
record_class i k l r (process (nil_t n)) e = rw e
record_class i k l r (process (put_t n a)) e = rw e.0
record_class i k l r (process (take_t n a P)) e = rw e.0
record_class i k l r (process (repeat_t n a P)) e = rw e.0
record_class i k l r (process (par_t n P Q)) e = rw e.0
record_class i k l r (process (atom_t n M)) e = rw e.0
record_class i k l r (expression (end_t n)) e = rw e
record_class i k l r (expression (retry_t n)) e = rw e
record_class i k l r (expression (rd_t n a M)) e = rw e.0
record_class i k l r (expression (wt_t n a M)) e = rw e.0
record_class i k l r (expression (or_else_t n M N)) e = rw e.0
