-- The kinds of terms: those that a decoded table holds, and those that a stored component may name.
-- Assumes nothing.
use Prim.Native.Nat.{ℕ}
use mathlib.Core.Path.{◌≡◌, refl}
use mathlib.Core.Option.{Option, none, some}
use mathlib.Core.List.{List}
use lib.ListN.{get_elem?}
use lib.Dec.{eqb}
use Rattle.calculus.specs.Syntax.{State}
use Rattle.semantics.specs.Definitions.Terms.{end_t, retry_t, rd_t, wt_t, or_else_t, nil_t, put_t, take_t, repeat_t, par_t, atom_t, Term, process, expression}
use Rattle.semantics.specs.Definitions.Configuration.{Tree}
use Rattle.semantics.specs.Definitions.Stored.{waiting_component, transaction_on}
use Rattle.table_terms.specs.Decoded.{kind_at, RecordOf, Decoded}
use Rattle.hall_laws.specs.ReadParts.{there, term_kind, kind_in, waits}
use Rattle.semantics.specs.Definitions.Table.{atom_k}
use Rattle.table_records.specs.Shapes.{kind_byte}

-- a record's kind is its term's
record_kind : (i k l r : ℕ) (t : Term) → RecordOf i k l r t → k ≡ term_kind t
unfolding term_kind
record_kind i k l r (process (nil_t n)) h = h
record_kind i k l r (process (put_t n a)) h = h.0
record_kind i k l r (process (take_t n a P)) h = h.0
record_kind i k l r (process (repeat_t n a P)) h = h.0
record_kind i k l r (process (par_t n P Q)) h = h.0
record_kind i k l r (process (atom_t n M)) h = h.0
record_kind i k l r (expression (end_t n)) h = h
record_kind i k l r (expression (retry_t n)) h = h
record_kind i k l r (expression (rd_t n a M)) h = h.0
record_kind i k l r (expression (wt_t n a M)) h = h.0
record_kind i k l r (expression (or_else_t n M N)) h = h.0

module _ (ts : List Term) (d : List ℕ) (x : Decoded ts d) where
  pub term_kind_holds : (i : ℕ) (t : Term) → get_elem? ts i ≡ some t → kind_at d i ≡ term_kind t
  term_kind_holds i t e = record_kind i _ _ _ t (x.records i t e)

-- which terms a component waits on
pub waiting_kinds : (o : Option Term) → there (waiting_component o) ≡ waits (kind_in o)
unfolding there waiting_component kind_in term_kind waits
waiting_kinds none = refl
waiting_kinds (some (process (nil_t n))) = refl
waiting_kinds (some (process (put_t n a))) = refl
waiting_kinds (some (process (take_t n a P))) = refl
waiting_kinds (some (process (repeat_t n a P))) = refl
waiting_kinds (some (process (par_t n P Q))) = refl
waiting_kinds (some (process (atom_t n M))) = refl
waiting_kinds (some (expression (end_t n))) = refl
waiting_kinds (some (expression (retry_t n))) = refl
waiting_kinds (some (expression (rd_t n a M))) = refl
waiting_kinds (some (expression (wt_t n a M))) = refl
waiting_kinds (some (expression (or_else_t n M N))) = refl

-- a transaction is of a block
pub block_kind : (o : Option Term) (s : State) (t : Tree) → there (transaction_on (waiting_component o) s t) ≡ eqb (kind_in o) (kind_byte atom_k)
unfolding there transaction_on waiting_component kind_in term_kind
block_kind none s t = refl
block_kind (some (process (nil_t n))) s t = refl
block_kind (some (process (put_t n a))) s t = refl
block_kind (some (process (take_t n a P))) s t = refl
block_kind (some (process (repeat_t n a P))) s t = refl
block_kind (some (process (par_t n P Q))) s t = refl
block_kind (some (process (atom_t n M))) s t = refl
block_kind (some (expression (end_t n))) s t = refl
block_kind (some (expression (retry_t n))) s t = refl
block_kind (some (expression (rd_t n a M))) s t = refl
block_kind (some (expression (wt_t n a M))) s t = refl
block_kind (some (expression (or_else_t n M N))) s t = refl
