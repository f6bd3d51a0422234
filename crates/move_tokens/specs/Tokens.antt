-- Tokens passed by an idle component (station): what a look at one answers, and what putting (rule 1, OUT) and taking
-- (rules 2 and 3, IN and REP) make of what is held.
--
-- d is a decoded table; s has the bytes, starts the index, n the number of components.
-- Assumes nothing.
use Rattle.std.specs.Prelude.{ℕ, ◌+◌, ◌*◌, ◌-◌, ◌≤◌, ◌<◌, ◌≡◌, Bool, true, false, Result, List, [], ◌∷◌, ◌++◌, map, length, take, get_or, eqb, ltb}
use Rattle.std.proofs.Math.Option.{some}
use Rattle.std.proofs.Math.ListN.{get_elem?}
use Rattle.calculus.specs.Syntax.{Name}
use Rattle.calculus.specs.Reduction.{Rule, IN, REP}
use Rattle.semantics.specs.Definitions.Layout.{max_components}
use Rattle.semantics.specs.Definitions.Terms.{Program, take_t, repeat_t, Term, process, width}
use Rattle.semantics.specs.Definitions.Configuration.{Idle, taking, repeating, output, idle, Configuration, opens}
use Rattle.semantics.specs.Definitions.Moves.{act, entry_answer, as_reply}
use Rattle.semantics.specs.Definitions.Table.{repeat_k}
use Rattle.table_records.specs.Shapes.{kind_byte}
use Rattle.table_terms.specs.Decoded.{Decoded, AProcess}
use Rattle.hall_layout.specs.Layout.{idle_size, component_body}
use Rattle.hall_laws.specs.Positions.{all_bytes}
use Rattle.answers.specs.declared.refusals.Reason.{Reason}
use Rattle.answers.specs.declared.replies.Move.{Move}
use Rattle.answers.specs.Answers.{reply_of}
use Rattle.hall_held.specs.Holds.{Holds}
use Rattle.hall_held.specs.Choices.{CanApply, Applied}

-- ---- OUT

-- an output of this channel stands somewhere in some configuration that is held
pub record CanLookOutput (s : List ℕ) (channel : ℕ) : Type 0 where
  pub terms : List Term
  pub configuration : Configuration
  pub starts : List ℕ
  pub components : ℕ
  pub position : ℕ
  pub holds : Holds terms configuration s starts components
  pub there : get_elem? configuration.components position ≡ some (idle (output channel))

-- r is what an entry of kind 1 is answered there, whichever configuration is held and wherever such an output stands
pub record OutputLooked (s : List ℕ) (channel : ℕ) (r : Result Move Reason) : Type 0 where
  pub found : (ts : List Term) (h : Configuration) (starts : List ℕ) (n p : ℕ) → Holds ts h s starts n →
      get_elem? h.components p ≡ some (idle (output channel)) → reply_of r ≡ as_reply (entry_answer h (act p))

-- the entry of kind 1 at position p is accepted by rule 1: of a table only this is asked, that there is one
pub record CanPut (s starts : List ℕ) (n p : ℕ) : Type 0 where
  pub decoded : List ℕ
  pub accepts : CanApply decoded s starts n (act p) 1

-- what it makes of the configuration is held now, whatever the table
pub record TokenPut (s starts : List ℕ) (n p : ℕ) (s' starts' : List ℕ) (n' : ℕ) : Type 0 where
  pub applied : (d : List ℕ) → Applied d s starts n (act p) 1 s' starts' n'

-- ---- IN and REP

-- a component that takes a token of channel a and goes on as P: it waits on a take, or on a repeated take
abbrev pub take_of : (repeated : Bool) → ℕ → Name → Program → Idle
take_of false n a P = taking n a P
take_of true n a P = repeating n a P

-- the term that it waits on
abbrev pub take_term : (repeated : Bool) → ℕ → Name → Program → Term
take_term false n a P = process (take_t n a P)
take_term true n a P = process (repeat_t n a P)

-- what stands in its place afterwards: what P opens into, and behind that the repeated take, which stays
abbrev pub successors : (repeated : Bool) → ℕ → Name → Program → List Idle
successors false n a P = opens P
successors true n a P = opens P ++ (repeating n a P ∷ [])

abbrev pub staying : (repeated : Bool) → ℕ
staying false = 0
staying true = 1

-- by this rule, of this number
abbrev pub take_rule : (repeated : Bool) → Name → Rule
take_rule false a = IN a
take_rule true a = REP a

abbrev pub take_number : (repeated : Bool) → ℕ
take_number false = 2
take_number true = 3

-- whether the record of a take, of this kind, is a repeated take's
unfoldable pub repeats : (kind : ℕ) → Bool
repeats kind = eqb kind (kind_byte repeat_k)

-- a component that waits on the take or repeated take of this number stands somewhere in some configuration of n
-- components that is held
pub record CanLookTake (d s : List ℕ) (n term : ℕ) : Type 0 where
  pub terms : List Term
  pub configuration : Configuration
  pub starts : List ℕ
  pub position : ℕ
  pub repeated : Bool
  pub channel : Name
  pub continuation : Program
  pub decoded : Decoded terms d
  pub holds : Holds terms configuration s starts n
  pub there : get_elem? configuration.components position ≡ some (idle (take_of repeated term channel continuation))

-- r is what an entry of kind 1 is answered there, whichever configuration of whichever table is held and wherever such
-- a component stands
pub record TakeLooked (d s : List ℕ) (n term : ℕ) (r : Result Move Reason) : Type 0 where
  pub found : (ts : List Term) (h : Configuration) (starts : List ℕ) (p : ℕ) (b : Bool) (a : Name) (P : Program) →
      Decoded ts d → Holds ts h s starts n → get_elem? h.components p ≡ some (idle (take_of b term a P)) →
      reply_of r ≡ as_reply (entry_answer h (act p))

-- one of n components may give way to what process number i opens into and to so many more, at most one
pub record CanTestCrowded (d : List ℕ) (i more n : ℕ) : Type 0 where
  pub continuation : AProcess d i
  pub any : 0 < n
  pub few : n ≤ max_components
  pub one : more ≤ 1

-- whether the components are too many then
pub record CrowdedTested (d : List ℕ) (i more n : ℕ) (r : Bool) : Type 0 where
  pub found : (ts : List Term) (P : Program) → Decoded ts d → get_elem? ts i ≡ some (process P) →
      r ≡ ltb max_components (n - 1 + more + length (opens P))

-- a take or a repeated take has this number, in some table that d decodes
pub record ATake (d : List ℕ) (term : ℕ) : Type 0 where
  pub terms : List Term
  pub repeated : Bool
  pub channel : Name
  pub continuation : Program
  pub decoded : Decoded terms d
  pub at : get_elem? terms term ≡ some (take_term repeated term channel continuation)

-- there, and in a buffer for what the continuation opens into, at most as many components as it is wide, and for the
-- take itself
pub record CanWriteSuccessors (d : List ℕ) (term : ℕ) (buffer : List ℕ) : Type 0 where
  pub take : ATake d term
  pub room : idle_size * (width take.continuation + 1) ≤ length buffer

-- of any table that d decodes, the first so many of these bytes are those of what stands in the take's place afterwards
pub record SuccessorsWritten (d : List ℕ) (term : ℕ) (bytes : List ℕ) (size : ℕ) : Type 0 where
  pub found : (ts : List Term) (b : Bool) (a : Name) (P : Program) → Decoded ts d →
      get_elem? ts term ≡ some (take_term b term a P) →
      (size ≡ length (all_bytes (map idle (successors b term a P)))) ×
      (take size bytes ≡ all_bytes (map idle (successors b term a P)))

-- as many bytes as a take may lay down, and as many where its continuation opens into one component at most
abbrev pub successors_size : ℕ
successors_size = idle_size * (max_components + 1)

abbrev pub single_size : ℕ
single_size = idle_size * 2

-- the term that the bytes name at position p
abbrev pub term_of : (s starts : List ℕ) (p : ℕ) → ℕ
term_of s starts p = get_or s (get_or starts p 0 + component_body) 0

-- the entry of kind 1 at position p is accepted by rule 2 or by rule 3
pub record CanTake (d s starts : List ℕ) (n p : ℕ) : Type 0 where
  pub repeated : Bool
  pub accepts : CanApply d s starts n (act p) (take_number repeated)

-- by whichever of them it was accepted, what it makes of the configuration is held now
pub record TokenTaken (d s starts : List ℕ) (n p : ℕ) (s' starts' : List ℕ) (n' : ℕ) : Type 0 where
  pub applied : (repeated : Bool) → Applied d s starts n (act p) (take_number repeated) s' starts' n'
