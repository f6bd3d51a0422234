-- Worked examples of a suggestion (document 02, Q-2): which choice is the first where one is accepted and where several
-- are; the call on bytes, on the hall just opened, on stored halls and where table or hall is turned down; still.
-- Assumes nothing.
use Rattle.std.specs.Prelude.{ℕ, ◌≡◌, List, [], ◌∷◌, ◌++◌, replicate}
use Prim.Native.String.{String}
use Rattle.std.proofs.Math.Option.{Option, some}
use Rattle.calculus.specs.Syntax.{rd, wt}
use Rattle.semantics.specs.Definitions.Terms.{Expression, end_t, retry_t, rd_t, wt_t, or_else_t, nil_t}
use Rattle.semantics.specs.Definitions.Configuration.{taking, repeating, block, output, Tree, leaf, fork, Component, idle, transaction}
use Rattle.semantics.specs.Definitions.Moves.{Entry, act, inside}
use Rattle.semantics.specs.Definitions.Run.{Quiescent}
use Rattle.semantics.specs.Definitions.Calls.{open_hall}
use Rattle.semantics.specs.Definitions.Suggestion.{first_accepted, SuggestAnswer, suggested, still, not_suggested, suggest_call}
use Rattle.semantics.specs.Checks.Examples.{numbers, noise, trays, hall_of, attempt, leaf_of}

-- ---- stations, their terms numbered as in the table below

unfoldable pub end : Expression
end = end_t 0

unfoldable pub read : Expression
unfolding end
read = rd_t 7 0 end

unfoldable pub write : Expression
unfolding end
write = wt_t 1 1 end

unfoldable pub either : Expression
unfolding write end
either = or_else_t 3 write (wt_t 2 2 end)

-- a block, a take from tray 0, a repeated take from tray 1, a put
unfoldable pub waiting : Component
unfolding either
waiting = idle (block 4 either)

unfoldable pub take : Component
take = idle (taking 6 0 (nil_t 5))

unfoldable pub again : Component
again = idle (repeating 8 1 (nil_t 5))

unfoldable pub put : ℕ → Component
put a = idle (output a)

-- an attempt of the block with this tree, begun with these counts in the trays from 0 on
unfoldable pub begun : String → Tree → Component
unfolding either trays
begun counts t = transaction 4 either (trays counts) t

unfoldable pub way : Expression → Tree
way M = leaf M []

-- the first accepted choice of a hall with these counts and stations
unfoldable pub first_on : (counts : String) → List Component → Option Entry
unfolding first_accepted trays
first_on counts cs = first_accepted (record { counts = trays counts; components = cs })

-- a fork at the left of a fork, and so on, down to this tree; every right side can write
unfoldable pub leaning : ℕ → Tree → Tree
unfolding write way
leaning n t = down (replicate n (way write)) t
  where
    down : List Tree → Tree → Tree
    down [] t = t
    down (r ∷ rs) t = down rs (fork t r)

pub record FirstExamples : Type 0 where
  -- a station goes before a block, by whichever of the rules 1 to 13 it moves
  pub puts : first_on "0" (put 1 ∷ waiting ∷ []) ≡ some (act 0)
  pub takes : first_on "1" (take ∷ waiting ∷ []) ≡ some (act 0)
  pub takes_again : first_on "0 1" (again ∷ waiting ∷ []) ≡ some (act 0)
  pub begins : first_on "0" (waiting ∷ waiting ∷ waiting ∷ []) ≡ some (act 0)
  pub retries : first_on "0" (begun "0" (way (retry_t 255)) ∷ waiting ∷ []) ≡ some (act 0)
  pub fails : first_on "0" (begun "0" (leaf end (rd 0 ∷ [])) ∷ waiting ∷ []) ≡ some (act 0)
  pub commits : first_on "0" (begun "0" (way end) ∷ waiting ∷ []) ≡ some (act 0)
  pub reads : first_on "0" (begun "1" (way read) ∷ waiting ∷ []) ≡ some (inside 0 0)
  pub read_fails : first_on "0" (begun "0" (way read) ∷ waiting ∷ []) ≡ some (inside 0 0)
  pub writes : first_on "0" (begun "0" (way write) ∷ waiting ∷ []) ≡ some (inside 0 0)
  pub forks : first_on "0" (begun "0" (way either) ∷ waiting ∷ []) ≡ some (inside 0 0)
  pub right_kept : first_on "0" (begun "0" (fork (way (retry_t 255)) (way write)) ∷ waiting ∷ []) ≡ some (inside 0 0)
  pub left_kept : first_on "0" (begun "0" (fork (way end) (way write)) ∷ waiting ∷ []) ≡ some (inside 0 0)
  -- and a block goes before all of these
  pub block_first : first_on "1 1"
      (waiting ∷ take ∷ again ∷ put 1 ∷ begun "0" (way end) ∷ begun "0" (way (retry_t 255)) ∷
      begun "0" (leaf end (rd 3 ∷ [])) ∷ begun "1" (way read) ∷ begun "0" (way read) ∷ begun "0" (way write) ∷
      begun "0" (way either) ∷ begun "0" (fork (way (retry_t 255)) (way write)) ∷
      begun "0" (fork (way end) (way write)) ∷ []) ≡ some (act 0)
  -- a station is passed over only where no choice is accepted at it: a take from an empty tray, a put to a full one, a
  -- commit without room among 64 stations
  pub behind_a_take : first_on "0" (take ∷ waiting ∷ waiting ∷ []) ≡ some (act 1)
  pub behind_a_put : first_on "0 0 255" (put 2 ∷ take ∷ begun "0" (way write) ∷ []) ≡ some (inside 2 0)
  pub behind_a_commit : first_on "0" (begun "0" (leaf end (wt 1 ∷ wt 1 ∷ [])) ∷ replicate 63 waiting) ≡ some (act 1)
  pub last_station : first_on "0" (replicate 63 take ++ (waiting ∷ [])) ≡ some (act 63)
  -- of two nodes the lower one: both leaves of a fork can write; the left leaf settles the fork, and the right can write
  pub left_leaf : first_on "0" (begun "0" (fork (way write) (way write)) ∷ []) ≡ some (inside 0 1)
  pub fork_first : first_on "0" (begun "0" (fork (way end) (way write)) ∷ []) ≡ some (inside 0 0)
  -- eight leaves: the leftmost leaf, and the fork that it settles
  pub deepest_leaf : first_on "0" (begun "0" (leaning 7 (way write)) ∷ []) ≡ some (inside 0 7)
  pub deepest_fork : first_on "0" (begun "0" (leaning 7 (way end)) ∷ []) ≡ some (inside 0 6)
  -- the position counts before the node
  pub position_before_node : first_on "0" (begun "0" (leaning 1 (way write)) ∷ begun "0" (way write) ∷ []) ≡ some (inside 0 1)

-- still is not where a move inside an attempt is accepted, and is where a take finds nothing
pub record StillExamples : Type 0 where
  pub attempt_moves : Quiescent (record { counts = trays "0"; components = begun "0" (way write) ∷ [] }) → ⊥
  pub take_waits : Quiescent (record { counts = trays "0"; components = take ∷ [] })

-- ---- the call

-- 0 end; 1 wt 1.end; 2 wt 2.end; 3 term 1 orElse term 2; 4 the block of 3, the start; 5 nil; 6 take 0 of nil; 7 rd 0.end;
-- 8 repeated take 1 of nil
unfoldable pub writing_table : List ℕ
unfolding numbers
writing_table = numbers "7 10 1 0 10 2 0 11 1 2 6 3 1 3 0 5 9 0 0 4 1 5 13 4"

unfoldable pub suggested_on : (counts : String) (stations : List ℕ) → SuggestAnswer
unfolding suggest_call writing_table hall_of trays
suggested_on counts stations = suggest_call writing_table (hall_of (trays counts) stations)

pub record SuggestionExamples : Type 0 where
  pub first : FirstExamples
  pub quiescent : StillExamples
  -- on the hall just opened the block begins; of an attempt with two leaves the left one writes; nothing can move
  pub opened : suggest_call writing_table (open_hall writing_table noise).hall ≡ suggested (act 0)
  pub left : suggested_on "0" (attempt 4 "0" (22 ∷ (leaf_of 1 0 "" ++ leaf_of 2 0 ""))) ≡ suggested (inside 0 1)
  pub all_wait : suggested_on "0 0 255" (numbers "20 6 20 8 24 2") ≡ still
  -- bytes that are no hall; a hall of another size; and before both a table that is refused, with its place
  pub malformed : suggest_call writing_table noise ≡ not_suggested 11 0
  pub size_mismatch : suggest_call writing_table [] ≡ not_suggested 10 0
  pub refused : suggest_call [] [] ≡ not_suggested 9 0
  pub refused_place : suggest_call (numbers "7 10 1") noise ≡ not_suggested 2 1
