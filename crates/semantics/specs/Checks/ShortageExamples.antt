-- Worked examples of what is told short (document 02, Q-3): of reads and counts, and of choices, also on halls that no
-- run reached.
-- Assumes nothing.
use Rattle.std.specs.Prelude.{◌-◌, ◌≡◌, [], ◌∷◌, map, replicate, set}
use Rattle.calculus.specs.Syntax.{rd, wt, State}
use Rattle.semantics.specs.Definitions.Basics.{count_up}
use Rattle.semantics.specs.Definitions.Shortage.{Shortage, enough, short, shortage_against}
use Rattle.semantics.specs.Definitions.Terms.{Expression, end_t, retry_t, rd_t, wt_t}
use Rattle.semantics.specs.Definitions.Configuration.{Tree, leaf, fork, transaction}
use Rattle.semantics.specs.Definitions.Moves.{Entry, act, inside, EntryAnswer, does, refuses, entry_answer}
use Rattle.semantics.specs.Checks.Examples.{numbers, trays}

-- ---- reads and counts

pub record ReadsShort : Type 0 where
  pub nothing_read : shortage_against [] (trays "") ≡ enough
  pub all_there : shortage_against (numbers "3 0 3") (trays "1 0 0 2") ≡ enough
  pub one_lacks : shortage_against (numbers "3 0 3") (trays "1 0 0 1") ≡ short 3 1
  -- of trays 3 and 5 the lower, though it is read last, lacks fewer and is not empty
  pub two_lack : shortage_against (numbers "5 5 5 3 3") (trays "0 0 0 1 0 1") ≡ short 3 1
  -- a tray that has enough is passed over, and so is one that is not read
  pub lower_has_enough : shortage_against (numbers "2 9 9 9") (trays "0 0 1") ≡ short 9 3
  pub every_tray :
      map (λ a. shortage_against (a ∷ []) (trays "")) (count_up 0 16) ≡ map (λ a. short a 1) (count_up 0 16)
  -- sixteen reads of tray 7, with sixteen tokens there and then fewer and fewer
  pub every_shortage :
      map (λ k. shortage_against (replicate 16 7) (set (trays "") 7 (16 - k))) (count_up 0 17) ≡
      enough ∷ map (short 7) (count_up 1 16)

-- ---- choices

-- the shortage that an answer tells; a refusal tells none
unfoldable pub shortage_in : EntryAnswer → Shortage
shortage_in (does r w h) = w
shortage_in (refuses n) = enough

-- an attempt alone, with the counts of now and those of its snapshot: what a choice tells
unfoldable pub told_on : (present snapshot : State) → Tree → Entry → Shortage
unfolding shortage_in entry_answer
told_on σ s t e =
    shortage_in (entry_answer (record { counts = σ; components = transaction 5 (end_t 0) s t ∷ [] }) e)

-- rd 5, and then end
unfoldable pub read_five : Expression
read_five = rd_t 1 5 (end_t 0)

pub record ChoicesShort : Type 0 where
  -- a commit goes by the counts of now: they lack what the snapshot had, and they have what it lacked
  pub commit_fails : told_on (trays "1") (trays "2") (leaf (end_t 0) (rd 0 ∷ rd 0 ∷ [])) (act 0) ≡ short 0 1
  pub commit_passes : told_on (trays "2") (trays "1") (leaf (end_t 0) (rd 0 ∷ rd 0 ∷ [])) (act 0) ≡ enough
  pub commit_lowest :
      told_on (trays "1 0 1") (trays "1 2 2") (leaf (end_t 0) (rd 2 ∷ rd 2 ∷ wt 0 ∷ rd 1 ∷ rd 1 ∷ [])) (act 0) ≡ short 1 2
  pub commit_by_sixteen :
      told_on (trays "") (trays "") (leaf (end_t 0) (replicate 16 (rd 15))) (act 0) ≡ short 15 16
  -- a read goes by the snapshot: likewise
  pub read_fails : told_on (trays "0 0 0 0 0 9") (trays "") (leaf read_five []) (inside 0 0) ≡ short 5 1
  pub read_passes : told_on (trays "") (trays "0 0 0 0 0 1") (leaf read_five []) (inside 0 0) ≡ enough
  pub read_again : told_on (trays "") (trays "0 0 0 0 0 1") (leaf read_five (rd 5 ∷ [])) (inside 0 0) ≡ short 5 1
  -- where the log itself was not there, another tray than the one read may be told, and more than one lacking
  pub read_of_another : told_on (trays "") (trays "0 0 0 0 0 1") (leaf read_five (rd 2 ∷ rd 2 ∷ [])) (inside 0 0) ≡ short 2 2
  -- a higher tray of the log lacks more, and the one that is read is told
  pub read_is_lower : told_on (trays "") (trays "") (leaf read_five (rd 7 ∷ rd 7 ∷ [])) (inside 0 0) ≡ short 5 1
  pub read_by_sixteen : told_on (trays "") (trays "") (leaf read_five (replicate 15 (rd 5))) (inside 0 0) ≡ short 5 16
  -- a write of the same tray, logged before, lends nothing
  pub commit_behind_a_write : told_on (trays "") (trays "") (leaf (end_t 0) (wt 5 ∷ rd 5 ∷ [])) (act 0) ≡ short 5 1
  pub read_behind_a_write : told_on (trays "") (trays "") (leaf read_five (wt 5 ∷ [])) (inside 0 0) ≡ short 5 1
  -- at the node that is named
  pub read_at_a_node :
      told_on (trays "") (trays "") (fork (leaf (end_t 0) []) (leaf read_five (rd 3 ∷ []))) (inside 0 2) ≡ short 3 1
  -- no other rule tells any, whatever its log lacks; nor does a refusal
  pub retry : told_on (trays "") (trays "") (leaf (retry_t 255) (rd 0 ∷ [])) (act 0) ≡ enough
  pub write : told_on (trays "") (trays "") (leaf (wt_t 1 0 (end_t 0)) (rd 0 ∷ [])) (inside 0 0) ≡ enough
  pub left_ends : told_on (trays "") (trays "") (fork (leaf (end_t 0) (rd 0 ∷ [])) (leaf read_five [])) (inside 0 0) ≡ enough
  pub refused : told_on (trays "") (trays "") (leaf read_five []) (act 0) ≡ enough

pub record ShortageExamples : Type 0 where
  pub reads : ReadsShort
  pub choices : ChoicesShort
