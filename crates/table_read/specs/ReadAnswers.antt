-- What reading a table answers, in the terms of the definitions.
-- Assumes nothing.
use Rattle.std.specs.Prelude.{ℕ, ◌≡◌, List, length, Result, Ok, Err}
use Rattle.std.proofs.Math.Option.{some}
use Rattle.std.proofs.Math.ListN.{get_elem?}
use Rattle.semantics.specs.Definitions.Terms.{process}
use Rattle.semantics.specs.Checks.AcceptedTables.{program_number}
use Rattle.semantics.specs.Definitions.Table.{Table, TableAnswer, accepted, refused_at}
use Rattle.table_terms.specs.Decoded.{tokens_in, Decoded}
use Rattle.answers.specs.declared.refusals.Refusal.{Refusal}
use Rattle.answers.specs.Answers.{reason_number}
use Rattle.table_read.specs.declared.Accepted.{Accepted}

-- ---- with the decoded table as it is left

-- an accepted table of n terms that starts with number p: its terms and its tokens, decoded
pub record IsTable (t : Table) (n p : ℕ) (d : List ℕ) : Type 0 where
  pub decoded : Decoded t.terms d
  pub counted : length t.terms ≡ n
  pub tokens : t.tokens ≡ tokens_in d
  pub start : program_number t.start ≡ p
  pub at : get_elem? t.terms p ≡ some (process t.start)

abbrev pub ReadAnswerIs : Result Accepted Refusal → TableAnswer → List ℕ → Type 0
ReadAnswerIs (Ok a) (accepted t) d = IsTable t a.terms a.start d
ReadAnswerIs (Ok a) (refused_at m q) d = ⊥
ReadAnswerIs (Err e) (accepted t) d = ⊥
ReadAnswerIs (Err e) (refused_at m q) d = (reason_number e.reason ≡ m) × (e.place ≡ q)
