-- Worked rows for Checks/StoredBytes: a hall with every kind of station and node, told, read and written; a hall of
-- another form; and bytes that store nothing. Proved in proofs/StoredExamples.
-- Assumes nothing.
use Rattle.std.specs.Prelude.{ℕ, ◌≡◌, List, [], ◌∷◌, ◌++◌}
use Rattle.std.proofs.Math.Option.{some}
use Rattle.calculus.specs.Syntax.{rd, wt}
use Rattle.semantics.specs.Definitions.Terms.{end_t, retry_t, rd_t, wt_t, or_else_t, nil_t, take_t, repeat_t, atom_t, Term, process, expression}
use Rattle.semantics.specs.Definitions.Configuration.{taking, repeating, block, output, Tree, leaf, fork, Component, idle, transaction, Configuration}
use Rattle.semantics.specs.Definitions.Stored.{bytes_of, configuration_of}
use Rattle.semantics.specs.Checks.Examples.{numbers, trays, hall_of, attempt, leaf_of}
use Rattle.semantics.specs.Checks.StoredBytes.{Form, base_form, StoredNodes, StoredStation, StoredHall}

-- end, wt 1.end, rd 0.wt 1.end, its block, nil, take 0.nil, repeated take 1 of nil, wt 1.end orElse end
unfoldable pub example_terms : List Term
example_terms =
    expression (end_t 0) ∷ expression (wt_t 1 1 (end_t 0)) ∷ expression (rd_t 2 0 (wt_t 1 1 (end_t 0))) ∷
    process (atom_t 3 (rd_t 2 0 (wt_t 1 1 (end_t 0)))) ∷ process (nil_t 4) ∷ process (take_t 5 0 (nil_t 4)) ∷
    process (repeat_t 6 1 (nil_t 4)) ∷ expression (or_else_t 7 (wt_t 1 1 (end_t 0)) (end_t 0)) ∷ []

-- an attempt of that block, forked twice: an end that has read, a leaf with a log of four, a retry that needs no record
unfoldable pub example_tree : Tree
example_tree =
    fork (leaf (end_t 0) (rd 0 ∷ []))
    (fork (leaf (wt_t 1 1 (end_t 0)) (rd 2 ∷ wt 3 ∷ wt 15 ∷ rd 0 ∷ [])) (leaf (retry_t 255) []))

unfoldable pub example_hall : Configuration
unfolding trays example_tree
example_hall = record {
  counts = trays "1 0 3 255";
  components =
      idle (taking 5 0 (nil_t 4)) ∷ idle (repeating 6 1 (nil_t 4)) ∷
      transaction 3 (rd_t 2 0 (wt_t 1 1 (end_t 0))) (trays "1 2 4") example_tree ∷
      idle (block 3 (rd_t 2 0 (wt_t 1 1 (end_t 0)))) ∷ idle (output 15) ∷ [];
}

-- its bytes
unfoldable pub example_bytes : List ℕ
unfolding numbers trays hall_of attempt leaf_of
example_bytes =
    hall_of (trays "1 0 3 255")
    (numbers "20 5 20 6" ++
    (attempt 3 "1 2 4" (22 ∷ (leaf_of 0 1 "0" ++ (22 ∷ (leaf_of 1 4 "2 19 31 0" ++ leaf_of 255 0 "")))) ++
    numbers "20 3 24 15"))

-- a form of other numbers: eight bytes, two trays, logs of one action
unfoldable pub small_form : Form
small_form = record {
  size = 8;
  trays = 2;
  top = 3;
  waiting = 5;
  putting = 6;
  attempt = 7;
  forked = 8;
  ending = 9;
  unrecorded = 99;
  log = 1;
  writes = 2;
  stations = 1;
  branches = 1;
}

-- a put about to be made there
unfoldable pub small_hall : Configuration
small_hall = record { counts = 0 ∷ 3 ∷ []; components = idle (output 1) ∷ [] }

-- these bytes are no tree's, no station's, no hall's
abbrev pub NoNodes : List ℕ → Type 0
NoNodes bs = (t : Tree) (k : ℕ) → StoredNodes base_form example_terms t k bs → ⊥

abbrev pub NoStation : List ℕ → Type 0
NoStation bs = (c : Component) → StoredStation base_form example_terms c bs → ⊥

abbrev pub NoSmallHall : List ℕ → Type 0
NoSmallHall bs = (h : Configuration) → StoredHall small_form [] h bs → ⊥

pub record StoredExamples : Type 0 where
  pub told : StoredHall base_form example_terms example_hall example_bytes
  pub read : configuration_of example_terms example_bytes ≡ some example_hall
  pub written : bytes_of example_hall ≡ example_bytes
  pub small_told : StoredHall small_form [] small_hall (0 ∷ 3 ∷ 6 ∷ 1 ∷ 0 ∷ 0 ∷ 0 ∷ 0 ∷ [])
  -- a byte behind the log; a log byte that is no action; one action more than the log has bytes; a process at a leaf
  pub behind_the_log : NoNodes (leaf_of 0 1 "31 1")
  pub no_action : NoNodes (leaf_of 0 1 "32")
  pub too_long : NoNodes (leaf_of 1 16 "")
  pub process_at_leaf : NoNodes (leaf_of 3 0 "")
  -- stations that wait on nil and on an expression, and a put of a tray that is none
  pub waits_on_nil : NoStation (20 ∷ 4 ∷ [])
  pub waits_on_end : NoStation (20 ∷ 0 ∷ [])
  pub no_tray : NoStation (24 ∷ 16 ∷ [])
  -- a count above the top; a station behind a zero; one byte less
  pub count_over : NoSmallHall (0 ∷ 4 ∷ 6 ∷ 1 ∷ 0 ∷ 0 ∷ 0 ∷ 0 ∷ [])
  pub behind_a_zero : NoSmallHall (0 ∷ 3 ∷ 0 ∷ 6 ∷ 1 ∷ 0 ∷ 0 ∷ 0 ∷ [])
  pub short : NoSmallHall (0 ∷ 3 ∷ 6 ∷ 1 ∷ 0 ∷ 0 ∷ 0 ∷ [])
