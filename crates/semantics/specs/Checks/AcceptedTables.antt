-- What every accepted table's list of terms has (document 01, "The rule table"): few terms, each numbered by its place,
-- each made of terms of the same list, each within the limits.
-- Assumes nothing.
use Rattle.std.specs.Prelude.{ℕ, ◌≤◌, ◌<◌, ◌≡◌, List, length}
use Rattle.std.proofs.Math.Option.{some}
use Rattle.std.proofs.Math.ListN.{get_elem?}
use Rattle.semantics.specs.Definitions.Layout.{channels, max_terms, max_components, max_branches, max_actions}
use Rattle.semantics.specs.Definitions.Table.{Kind, nil_k, put_k, take_k, repeat_k, par_k, atom_k, end_k, retry_k, rd_k, wt_k, or_else_k, tokens_k, start_k}
use Rattle.semantics.specs.Definitions.Terms.{Expression, end_t, retry_t, rd_t, wt_t, or_else_t, Program, nil_t, put_t, take_t, repeat_t, par_t, atom_t, Term, process, expression, number, width, branches, path_length}

-- the byte that names a kind
abbrev pub kind_byte : Kind → ℕ
kind_byte nil_k = 1
kind_byte put_k = 2
kind_byte take_k = 3
kind_byte repeat_k = 4
kind_byte par_k = 5
kind_byte atom_k = 6
kind_byte end_k = 7
kind_byte retry_k = 8
kind_byte rd_k = 9
kind_byte wt_k = 10
kind_byte or_else_k = 11
kind_byte tokens_k = 12
kind_byte start_k = 13

-- a process's term number
unfoldable pub program_number : Program → ℕ
program_number (nil_t n) = n
program_number (put_t n a) = n
program_number (take_t n a P) = n
program_number (repeat_t n a P) = n
program_number (par_t n P Q) = n
program_number (atom_t n M) = n

-- a term's own number
unfoldable pub term_number : Term → ℕ
unfolding program_number number
term_number (process P) = program_number P
term_number (expression M) = number M

-- a process, an expression, that is the list's entry at its own number
abbrev pub ProgramIn : List Term → Program → Type 0
ProgramIn ts P = get_elem? ts (program_number P) ≡ some (process P)

abbrev pub ExpressionIn : List Term → Expression → Type 0
ExpressionIn ts M = get_elem? ts (number M) ≡ some (expression M)

-- the direct subterms of a term are entries at their own numbers
abbrev pub SubtermsIn : List Term → Term → Type 0
SubtermsIn ts (process (nil_t n)) = Unit {0}
SubtermsIn ts (process (put_t n a)) = Unit {0}
SubtermsIn ts (process (take_t n a P)) = ProgramIn ts P
SubtermsIn ts (process (repeat_t n a P)) = ProgramIn ts P
SubtermsIn ts (process (par_t n P Q)) = ProgramIn ts P × ProgramIn ts Q
SubtermsIn ts (process (atom_t n M)) = ExpressionIn ts M
SubtermsIn ts (expression (end_t n)) = Unit {0}
SubtermsIn ts (expression (retry_t n)) = Unit {0}
SubtermsIn ts (expression (rd_t n a M)) = ExpressionIn ts M
SubtermsIn ts (expression (wt_t n a M)) = ExpressionIn ts M
SubtermsIn ts (expression (or_else_t n M N)) = ExpressionIn ts M × ExpressionIn ts N

-- the channel that a term names is one of the 16
abbrev pub ChannelBelow : Term → Type 0
ChannelBelow (process (nil_t n)) = Unit {0}
ChannelBelow (process (put_t n a)) = a < channels
ChannelBelow (process (take_t n a P)) = a < channels
ChannelBelow (process (repeat_t n a P)) = a < channels
ChannelBelow (process (par_t n P Q)) = Unit {0}
ChannelBelow (process (atom_t n M)) = Unit {0}
ChannelBelow (expression (end_t n)) = Unit {0}
ChannelBelow (expression (retry_t n)) = Unit {0}
ChannelBelow (expression (rd_t n a M)) = a < channels
ChannelBelow (expression (wt_t n a M)) = a < channels
ChannelBelow (expression (or_else_t n M N)) = Unit {0}

-- a term's measures are within the limits
abbrev pub MeasuresWithinLimits : Term → Type 0
MeasuresWithinLimits (process P) = width P ≤ max_components
MeasuresWithinLimits (expression M) = (branches M ≤ max_branches) × (path_length M ≤ max_actions)

-- the terms of an accepted table
pub record GoodTable (ts : List Term) : Type 0 where
  pub few : length ts ≤ max_terms
  pub numbered : (n : ℕ) (t : Term) → get_elem? ts n ≡ some t → term_number t ≡ n
  pub subterms : (n : ℕ) (t : Term) → get_elem? ts n ≡ some t → SubtermsIn ts t
  pub channel : (n : ℕ) (t : Term) → get_elem? ts n ≡ some t → ChannelBelow t
  pub limits : (n : ℕ) (t : Term) → get_elem? ts n ≡ some t → MeasuresWithinLimits t
