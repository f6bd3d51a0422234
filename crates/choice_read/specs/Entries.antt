-- What the code finds at an offset of a schedule (list of choices), said by the schedule that begins there.
-- Assumes nothing.
use Rattle.std.specs.Prelude.{ℕ, ◌+◌, ◌≤◌, ◌<◌, ◌≡◌, List, [], ◌∷◌, length, drop, Option, Some, None, Result, Ok, Err}
use Rattle.semantics.specs.Definitions.Moves as moves
use Rattle.semantics.specs.Definitions.Run.{entry, malformed, schedule}
use Rattle.answers.specs.declared.refusals.Reason.{Reason}
use Rattle.answers.specs.Answers.{reason_number, entry_of}
use Rattle.choice_read.specs.declared.Parsed.{Parsed}

-- an entry of some bytes stands at an offset, and the rest of the schedule behind it
pub record EntryAt (s : List ℕ) (at : ℕ) (e : moves.Entry) (next : ℕ) : Type 0 where
  pub size : ℕ
  pub some : 0 < size
  pub here : schedule (drop at s) ≡ entry e size ∷ schedule (drop next s)
  pub behind : next ≡ at + size
  pub held : next ≤ length s

-- what was found at an offset is what the schedule that begins there says; each case is that of one schedule alone
abbrev pub ParsedIs : List ℕ → ℕ → Option (Result Parsed Reason) → Type 0
ParsedIs s at (Some (Ok p)) = EntryAt s at (entry_of p.entry) p.next
ParsedIs s at (Some (Err e)) = schedule (drop at s) ≡ malformed (reason_number e) ∷ []
ParsedIs s at None = schedule (drop at s) ≡ []
