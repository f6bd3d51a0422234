-- The worked examples of a suggestion follow from the definitions by computation.
-- Assumes nothing.
use Prim.Native.Nat.{zero, suc}
use native.Mathlib.Omega.{arith}
use mathlib.Core.Path.{refl, sym}
use mathlib.Core.Bool.{false≢true}
use mathlib.Core.List.{[], ◌∷◌}
use Rattle.semantics.specs.Definitions.Moves.{act, inside}
use Rattle.semantics.specs.Definitions.Run.{Quiescent}
use Rattle.semantics.specs.Definitions.Calls.{open_hall}
use Rattle.semantics.specs.Definitions.Suggestion.{suggest_call}
use Rattle.semantics.specs.Checks.Examples.{numbers, noise, trays, attempt, leaf_of}
use Rattle.semantics.specs.Checks.SuggestionExamples.{end, read, write, either, waiting, take, again, put, begun, way, first_on, leaning, writing_table, suggested_on, FirstExamples, StillExamples, SuggestionExamples}

first_examples : FirstExamples
unfolding end read write either waiting take again put begun way first_on leaning
first_examples = record {
  puts = refl;
  takes = refl;
  takes_again = refl;
  begins = refl;
  retries = refl;
  fails = refl;
  commits = refl;
  reads = refl;
  read_fails = refl;
  writes = refl;
  forks = refl;
  right_kept = refl;
  left_kept = refl;
  block_first = refl;
  behind_a_take = refl;
  behind_a_put = refl;
  behind_a_commit = refl;
  last_station = refl;
  left_leaf = refl;
  fork_first = refl;
  deepest_leaf = refl;
  deepest_fork = refl;
  position_before_node = refl;
}

take_waits : Quiescent (record { counts = trays "0"; components = take ∷ [] })
unfolding Quiescent take trays
take_waits (act zero) b = refl
take_waits (act (suc p)) b = refl
take_waits (inside zero k) b = refl
take_waits (inside (suc p) k) b = refl

still_examples : StillExamples
unfolding Quiescent begun way write
still_examples = record {
  attempt_moves = λ q. false≢true (sym (q (inside 0 0) (omega arith, omega arith)));
  take_waits = take_waits;
}

pub suggestion_examples : SuggestionExamples
unfolding suggest_call suggested_on open_hall noise writing_table numbers attempt leaf_of
suggestion_examples = record {
  first = first_examples;
  quiescent = still_examples;
  opened = refl;
  left = refl;
  all_wait = refl;
  malformed = refl;
  size_mismatch = refl;
  refused = refl;
  refused_place = refl;
}
