-- Reading a rule table (document 01, "The rule table" and refusals 1 to 9).
-- Any list of bytes is accepted, with its terms, tokens and start, or refused with a number and a place.
-- Assumes nothing.
use Rattle.std.specs.Prelude.{ℕ, zero, suc, ◌+◌, Bool, true, false, not, ◌||◌, List, [], ◌∷◌, ◌++◌, length, get_or, drop, set, replicate, leb, ltb, eqb}
use Rattle.std.proofs.Math.Option.{Option, none, some}
use Rattle.std.proofs.Math.ListN.{get_elem?}
use Rattle.calculus.specs.Syntax.{Name, State}
use Rattle.calculus.specs.State.{count}
use Rattle.semantics.specs.Definitions.Layout.{channels, max_terms, max_components, max_branches, max_actions}
use Rattle.semantics.specs.Definitions.Basics.{first_of}
use Rattle.semantics.specs.Definitions.Terms.{Expression, end_t, retry_t, rd_t, wt_t, or_else_t, Program, nil_t, put_t, take_t, repeat_t, par_t, atom_t, Term, process, expression, width, branches, path_length}

-- ---- the record shapes

-- the kinds, 1 to 13
pub data Kind : Type 0 where
  nil_k put_k take_k repeat_k par_k atom_k end_k retry_k rd_k wt_k or_else_k tokens_k start_k : Kind

unfoldable pub kinds : List Kind
kinds = nil_k ∷ put_k ∷ take_k ∷ repeat_k ∷ par_k ∷ atom_k ∷ end_k ∷ retry_k ∷ rd_k ∷ wt_k ∷ or_else_k ∷
    tokens_k ∷ start_k ∷ []

-- the kind that a byte names
unfoldable pub kind_by_number : ℕ → Option Kind
unfolding kinds
kind_by_number zero = none
kind_by_number (suc k) = get_elem? kinds k

-- what a byte of a body is: a tray, a reference to a process or to an expression, a count of tokens
pub data Field : Type 0 where
  channel_f program_f expression_f amount_f : Field

-- the bytes that follow a kind, and the class of the term that its record adds, as a reference to that term has it; none
-- where it adds no term
abbrev pub shape : Kind → List Field × Option Field
shape nil_k = ([], some program_f)
shape put_k = (channel_f ∷ [], some program_f)
shape take_k = (channel_f ∷ program_f ∷ [], some program_f)
shape repeat_k = (channel_f ∷ program_f ∷ [], some program_f)
shape par_k = (program_f ∷ program_f ∷ [], some program_f)
shape atom_k = (expression_f ∷ [], some program_f)
shape end_k = ([], some expression_f)
shape retry_k = ([], some expression_f)
shape rd_k = (channel_f ∷ expression_f ∷ [], some expression_f)
shape wt_k = (channel_f ∷ expression_f ∷ [], some expression_f)
shape or_else_k = (expression_f ∷ expression_f ∷ [], some expression_f)
shape tokens_k = (channel_f ∷ amount_f ∷ [], none)
shape start_k = (program_f ∷ [], none)

unfoldable pub fields : Kind → List Field
fields K = (shape K).0

abbrev pub adds : Kind → Option Field
adds K = (shape K).1

-- ---- what has been read so far

-- the terms in order, so that a term's number is its place; the tokens given, 0 where none were
pub record TableSoFar : Type 0 where
  pub terms : List Term
  pub tokens : State

-- an accepted table
pub record Table : Type 0 where
  pub terms : List Term
  pub tokens : State
  pub start : Program

pub data TableAnswer : Type 0 where
  accepted : Table → TableAnswer
  refused_at : (number place : ℕ) → TableAnswer

-- what a record says: kinds 1 to 11 are terms, 12 gives tokens, 13 names the start; nothing, where a reference of it is
-- not to a term of the class that belongs there
pub data Content : Type 0 where
  term_record : Term → Content
  tokens_record : Name → ℕ → Content
  start_record : Program → Content
  nothing : Content

-- what is said of the process, or of the expression, that a reference is to
unfoldable pub of_program : Option Term → (Program → Content) → Content
of_program none says = nothing
of_program (some (process P)) says = says P
of_program (some (expression M)) says = nothing

unfoldable pub of_expression : Option Term → (Expression → Content) → Content
of_expression none says = nothing
of_expression (some (process P)) says = nothing
of_expression (some (expression M)) says = says M

-- the record of this kind with this body, after the terms ts: a new term's number is how many came before it
module _ (ts : List Term) (body : List ℕ) where
  unfoldable pub with_program : ℕ → (Program → Content) → Content
  unfolding of_program
  with_program i says = of_program (get_elem? ts (get_or body i 0)) says

  unfoldable pub with_expression : ℕ → (Expression → Content) → Content
  unfolding of_expression
  with_expression i says = of_expression (get_elem? ts (get_or body i 0)) says

  unfoldable pub record_content : Kind → Content
  unfolding with_program with_expression
  record_content nil_k = term_record (process (nil_t (length ts)))
  record_content put_k = term_record (process (put_t (length ts) (get_or body 0 0)))
  record_content take_k = with_program 1 (λ P. term_record (process (take_t (length ts) (get_or body 0 0) P)))
  record_content repeat_k = with_program 1 (λ P. term_record (process (repeat_t (length ts) (get_or body 0 0) P)))
  record_content par_k = with_program 0 (λ P. with_program 1 (λ Q. term_record (process (par_t (length ts) P Q))))
  record_content atom_k = with_expression 0 (λ M. term_record (process (atom_t (length ts) M)))
  record_content end_k = term_record (expression (end_t (length ts)))
  record_content retry_k = term_record (expression (retry_t (length ts)))
  record_content rd_k = with_expression 1 (λ M. term_record (expression (rd_t (length ts) (get_or body 0 0) M)))
  record_content wt_k = with_expression 1 (λ M. term_record (expression (wt_t (length ts) (get_or body 0 0) M)))
  record_content or_else_k =
      with_expression 0 (λ M. with_expression 1 (λ N. term_record (expression (or_else_t (length ts) M N))))
  record_content tokens_k = tokens_record (get_or body 0 0) (get_or body 1 0)
  record_content start_k = with_program 0 start_record

-- ---- the tests on one record, each on all of its fields

-- some field of the body fails
unfoldable pub any_field : (Field → ℕ → Bool) → List Field → List ℕ → Bool
any_field fails [] bs = false
any_field fails (f ∷ fs) [] = false
any_field fails (f ∷ fs) (b ∷ bs) = fails f b || any_field fails fs bs

-- 3: one term more than a table may have, where a record adds one
unfoldable pub too_many_terms : List Term → Option Field → Bool
too_many_terms ts none = false
too_many_terms ts (some F) = leb max_terms (length ts)

-- 4: a channel that no hall has
unfoldable pub channel_out_of_range : Field → ℕ → Bool
channel_out_of_range channel_f b = leb channels b
channel_out_of_range program_f b = false
channel_out_of_range expression_f b = false
channel_out_of_range amount_f b = false

-- 5: a reference to a term that has not come yet
unfoldable pub forward_reference : List Term → Field → ℕ → Bool
forward_reference ts channel_f b = false
forward_reference ts program_f b = leb (length ts) b
forward_reference ts expression_f b = leb (length ts) b
forward_reference ts amount_f b = false

-- 6: a process where an expression belongs, or the other way round
unfoldable pub is_program : Option Term → Bool
is_program none = false
is_program (some (process P)) = true
is_program (some (expression M)) = false

unfoldable pub is_expression : Option Term → Bool
is_expression none = false
is_expression (some (process P)) = false
is_expression (some (expression M)) = true

unfoldable pub class_mismatch : List Term → Field → ℕ → Bool
unfolding is_program is_expression
class_mismatch ts channel_f b = false
class_mismatch ts program_f b = not (is_program (get_elem? ts b))
class_mismatch ts expression_f b = not (is_expression (get_elem? ts b))
class_mismatch ts amount_f b = false

-- 7: a term past one of the three limits
unfoldable pub over_limit : Content → Bool
unfolding width branches path_length
over_limit (term_record (process P)) = ltb max_components (width P)
over_limit (term_record (expression M)) = ltb max_branches (branches M) || ltb max_actions (path_length M)
over_limit (tokens_record a n) = false
over_limit (start_record P) = false
over_limit nothing = false

-- 8: tokens of no count, or given to a channel for the second time
unfoldable pub bad_tokens : State → Content → Bool
bad_tokens σ (term_record t) = false
bad_tokens σ (tokens_record a n) = eqb n 0 || not (eqb (count σ a) 0)
bad_tokens σ (start_record P) = false
bad_tokens σ nothing = false

-- a refusal's number with its test
pub record Test : Type 0 where
  pub code : ℕ
  pub holds : Bool

-- tests 2 to 8 on a record of kind K, in number order; `bs` is all that follows its first byte
unfoldable pub tests : TableSoFar → Kind → List ℕ → List Test
unfolding fields record_content any_field too_many_terms channel_out_of_range forward_reference class_mismatch over_limit bad_tokens
tests r K bs =
    let ts = r.terms in
    let content = record_content ts bs K in
    record { code = 2; holds = ltb (length bs) (length (fields K)) } ∷
    record { code = 3; holds = too_many_terms ts (adds K) } ∷
    record { code = 4; holds = any_field channel_out_of_range (fields K) bs } ∷
    record { code = 5; holds = any_field (forward_reference ts) (fields K) bs } ∷
    record { code = 6; holds = any_field (class_mismatch ts) (fields K) bs } ∷
    record { code = 7; holds = over_limit content } ∷
    record { code = 8; holds = bad_tokens r.tokens content } ∷ []

-- ---- record by record

-- what a turn gives: the answer, or the reading after a record of so many bytes
pub data RecordAnswer : Type 0 where
  stop : TableAnswer → RecordAnswer
  more : TableSoFar → ℕ → RecordAnswer

-- refusal 9, at the byte behind the start record where there is one
unfoldable pub table_end : TableSoFar → Program → ℕ → List ℕ → TableAnswer
table_end r P at [] = accepted (record { terms = r.terms; tokens = r.tokens; start = P })
table_end r P at (b ∷ bs) = refused_at 9 at

-- a record of w bytes at a place that passed its tests; `next` is the place behind it and `bs` what follows there. By
-- tests 2 and 6 it says something.
unfoldable pub record_passed : TableSoFar → ℕ → Content → (w next : ℕ) → List ℕ → RecordAnswer
unfolding table_end
record_passed r at (term_record t) w next bs = more (record { terms = r.terms ++ (t ∷ []); tokens = r.tokens }) w
record_passed r at (tokens_record a n) w next bs = more (record { terms = r.terms; tokens = set r.tokens a n }) w
record_passed r at (start_record P) w next bs = stop (table_end r P next bs)
record_passed r at nothing w next bs = stop (refused_at 6 at)

unfoldable pub record_tested : TableSoFar → ℕ → Kind → List ℕ → Option Test → RecordAnswer
unfolding record_passed record_content fields
record_tested r at K bs (some t) = stop (refused_at t.code at)
record_tested r at K bs none =
    let size = length (fields K) in
    record_passed r at (record_content r.terms bs K) (suc size) (at + suc size) (drop size bs)

unfoldable pub record_of_kind : TableSoFar → ℕ → List ℕ → Option Kind → RecordAnswer
unfolding record_tested tests first_of
record_of_kind r at bs none = stop (refused_at 1 at)
record_of_kind r at bs (some K) = record_tested r at K bs (first_of (λ t. t.holds) (tests r K bs))

-- the record at a place; where the table ends there without a start record, refusal 9 at that place
unfoldable pub read_record : TableSoFar → ℕ → List ℕ → RecordAnswer
unfolding record_of_kind kind_by_number
read_record r at [] = stop (refused_at 9 at)
read_record r at (k ∷ bs) = record_of_kind r at bs (kind_by_number k)

unfoldable pub then_read : RecordAnswer → (TableSoFar → ℕ → TableAnswer) → TableAnswer
then_read (stop answer) next = answer
then_read (more r w) next = next r w

-- the rest of a table from a place; each record takes a byte at least, so the first argument never runs out
unfoldable pub read_from : ℕ → TableSoFar → ℕ → List ℕ → TableAnswer
unfolding read_record then_read
read_from zero r at bs = refused_at 9 at
read_from (suc f) r at bs = then_read (read_record r at bs) (λ s w. read_from f s (at + w) (drop w bs))

unfoldable pub empty_table : TableSoFar
empty_table = record { terms = []; tokens = replicate channels 0 }

-- the answer on any list of bytes
unfoldable pub read_table : List ℕ → TableAnswer
unfolding read_from empty_table
read_table bs = read_from (suc (length bs)) empty_table 0 bs
