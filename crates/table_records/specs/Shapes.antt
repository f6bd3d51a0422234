-- The shapes of a table's records by numbers, as the code has them: the byte of a kind, the fields behind it, its
-- class, a test of one field.
-- Assumes nothing.
use Rattle.std.specs.Prelude.{ℕ, zero, suc, Bool, false, List, [], ◌∷◌, Option, Some, None}
use Rattle.std.proofs.Math.Option.{none, some}
use Rattle.std.proofs.Math.Option as option
use Rattle.semantics.specs.Definitions.Terms.{Term, process, expression}
pub use Rattle.semantics.specs.Checks.AcceptedTables.{kind_byte}
use Rattle.semantics.specs.Definitions.Table.{Kind, start_k, kind_by_number, channel_f, program_f, expression_f, amount_f, fields, adds}
use Rattle.semantics.specs.Definitions.Table as fields
use Rattle.table_records.specs.declared.Class.{Class}
use Rattle.table_records.specs.declared.Class.TheVariants.{Process, Expression}
use Rattle.table_records.specs.declared.Field.{Field}
use Rattle.table_records.specs.declared.Field.TheVariants.{Channel, Reference, Count}
use Rattle.table_records.specs.declared.Shape.{Shape}

-- no byte past it is a kind
abbrev pub last_kind : ℕ
last_kind = kind_byte start_k

-- the fields behind a byte of kind; none where the byte is no kind
unfoldable pub fields_of : option.Option Kind → List fields.Field
unfolding fields
fields_of none = []
fields_of (some K) = fields K

unfoldable pub body_of : ℕ → List fields.Field
unfolding kind_by_number fields_of
body_of k = fields_of (kind_by_number k)

-- a field of the definitions as the code has it, and back
abbrev pub field_of : fields.Field → Field
field_of channel_f = Channel
field_of program_f = Reference Process
field_of expression_f = Reference Expression
field_of amount_f = Count

abbrev pub field_from : Field → fields.Field
field_from Channel = channel_f
field_from (Reference Process) = program_f
field_from (Reference Expression) = expression_f
field_from Count = amount_f

-- a test of a field and its byte, where there is such a field
unfoldable pub fails_at : (fields.Field → ℕ → Bool) → Option Field → ℕ → Bool
fails_at fails None b = false
fails_at fails (Some f) b = fails (field_from f) b

-- a field of a body, where it has so many
unfoldable pub field_at : List fields.Field → ℕ → Option Field
field_at [] i = None
field_at (f ∷ fs) zero = Some (field_of f)
field_at (f ∷ fs) (suc i) = field_at fs i

-- ---- classes

-- a term's class
abbrev pub term_class : Term → Class
term_class (process P) = Process
term_class (expression M) = Expression

-- the class that a field refers to
abbrev pub class_from : option.Option fields.Field → Option Class
class_from none = None
class_from (some program_f) = Some Process
class_from (some expression_f) = Some Expression
class_from (some channel_f) = None
class_from (some amount_f) = None

-- by the byte of its kind: the class of the term that it adds, where it adds one
unfoldable pub class_of_kind : option.Option Kind → Option Class
class_of_kind none = None
class_of_kind (some K) = class_from (adds K)

unfoldable pub class_of : ℕ → Option Class
unfolding kind_by_number class_of_kind
class_of k = class_of_kind (kind_by_number k)

-- ---- all of it

-- by the byte of a kind: its class and its fields
unfoldable pub shape_of : ℕ → Shape
unfolding body_of class_of field_at
shape_of k = record { class = class_of k; first = field_at (body_of k) 0; second = field_at (body_of k) 1 }
