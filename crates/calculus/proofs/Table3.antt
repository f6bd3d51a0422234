-- The rows on Table 3 are instances of the laws of Steps.
-- Assumes nothing.
use native.Mathlib.Omega.{arith}
use mathlib.Core.List.{List, [], ◌∷◌}
use Rattle.calculus.specs.Syntax.{rd, wt, end, retry, prefix, running, or_else'}
use Rattle.calculus.specs.State.{Included, occurrences, same}
use Rattle.calculus.specs.Log.{RD}
use Rattle.calculus.specs.Reduction.{ARDOK, AWR, AOF, AOE, nodes_of}
use Rattle.calculus.specs.Checks.Notation.{few}
use Rattle.calculus.specs.Checks.Table3.{InnerStep, step, Steps, reads, has_read, writes, has_written, ended, retried, Table3Rows}
use Rattle.calculus.proofs.States.{included_nil, included_cons}
use Rattle.calculus.proofs.Steps.{read_there, read_missing, write_steps, or_else_steps, end_steps, retry_steps, in_right, fork_steps}

reads_there : Included (RD (rd 2 ∷ wt 1 ∷ rd 1 ∷ rd 1 ∷ [])) few
unfolding RD
reads_there =
    included_cons 2 (1 ∷ 1 ∷ []) few (omega arith)
    (included_cons 1 (1 ∷ []) (0 ∷ 2 ∷ 0 ∷ []) (omega arith)
    (included_cons 1 [] (0 ∷ 1 ∷ 0 ∷ []) (omega arith) (included_nil (0 ∷ 0 ∷ 0 ∷ []))))

read_twice : ¬ Included (RD (rd 1 ∷ rd 2 ∷ rd 2 ∷ [])) few
unfolding RD Included occurrences same
read_twice i = let h = i 2 in omega arith

of_its_write : ¬ Included (RD (wt 0 ∷ rd 0 ∷ [])) few
unfolding RD Included occurrences same
of_its_write i = let h = i 0 in omega arith

not_counted : ¬ Included (RD (rd 3 ∷ [])) few
unfolding RD Included occurrences same
not_counted i = let h = i 3 in omega arith

of_before : ¬ Included (RD (rd 0 ∷ rd 1 ∷ [])) few
unfolding RD Included occurrences same
of_before i = let h = i 0 in omega arith

reads_one : Included (RD (rd 1 ∷ [])) few
unfolding RD
reads_one = included_cons 1 [] few (omega arith) (included_nil (0 ∷ 1 ∷ 1 ∷ []))

reading : Steps reads (step 0 ARDOK has_read ∷ [])
reading = read_there few [] 1 end reads_one

writing : Steps writes (step 0 AWR has_written ∷ [])
writing = write_steps few (rd 2 ∷ []) 0 end

at_end_holds : Steps ended []
at_end_holds = end_steps (1 ∷ []) (wt 1 ∷ [])

at_retry : Steps retried []
at_retry = retry_steps (0 ∷ 1 ∷ []) (rd 2 ∷ [])

abbrev either_side : List InnerStep
either_side = step 1 ARDOK (or_else' has_read writes) ∷ step 2 AWR (or_else' reads has_written) ∷ []

reading_or_writing : Steps (or_else' reads writes) either_side
unfolding in_right nodes_of
reading_or_writing = fork_steps reads writes (step 0 ARDOK has_read ∷ []) (step 0 AWR has_written ∷ []) reading writing

retried_or_reading : Steps (or_else' retried reads) (step 0 AOF reads ∷ step 2 ARDOK (or_else' retried has_read) ∷ [])
unfolding in_right nodes_of
retried_or_reading = fork_steps retried reads [] (step 0 ARDOK has_read ∷ []) at_retry reading

ended_or_writing : Steps (or_else' ended writes) (step 0 AOE ended ∷ step 2 AWR (or_else' ended has_written) ∷ [])
unfolding in_right nodes_of
ended_or_writing = fork_steps ended writes [] (step 0 AWR has_written ∷ []) at_end_holds writing

pub table3_rows : Table3Rows
unfolding in_right nodes_of
table3_rows = record {
  ardok = read_there few (rd 2 ∷ wt 1 ∷ rd 1 ∷ []) 1 (prefix (wt 0) end) reads_there;
  ardf = read_missing few (rd 1 ∷ rd 2 ∷ []) 2 end read_twice;
  ardf_of_its_write = read_missing few (wt 0 ∷ []) 0 end of_its_write;
  ardf_not_counted = read_missing few [] 3 end not_counted;
  ardf_of_before = read_missing few (rd 0 ∷ []) 1 end of_before;
  awr = write_steps few (rd 1 ∷ []) 0 (prefix (rd 1) retry);
  awr_not_counted = write_steps few [] 3 end;
  aoi = or_else_steps few (wt 2 ∷ []) (prefix (rd 1) end) retry;
  end_is_done = end_steps few (rd 1 ∷ []);
  retry_is_done = retry_steps few (rd 1 ∷ []);
  aof = fork_steps retried ended [] [] at_retry at_end_holds;
  aoe = fork_steps ended retried [] [] at_end_holds at_retry;
  aof_both = fork_steps retried (running retry few []) [] [] at_retry (retry_steps few []);
  aoe_both = fork_steps ended (running end few []) [] [] at_end_holds (end_steps few []);
  aof_or_right = retried_or_reading;
  aoe_or_right = ended_or_writing;
  aol_before_end = fork_steps writes ended (step 0 AWR has_written ∷ []) [] writing at_end_holds;
  aol_before_retry = fork_steps reads retried (step 0 ARDOK has_read ∷ []) [] reading at_retry;
  aol_aor = reading_or_writing;
  left_of_left = fork_steps
      (or_else' reads writes) writes
      either_side (step 0 AWR has_written ∷ [])
      reading_or_writing writing;
  right_of_right = fork_steps
      writes (or_else' reads writes)
      (step 0 AWR has_written ∷ []) either_side
      writing reading_or_writing;
  both_sides = fork_steps
      (or_else' retried reads) (or_else' ended writes)
      (step 0 AOF reads ∷ step 2 ARDOK (or_else' retried has_read) ∷ [])
      (step 0 AOE ended ∷ step 2 AWR (or_else' ended has_written) ∷ [])
      retried_or_reading ended_or_writing;
  aof_fork = fork_steps retried (or_else' reads writes) [] either_side at_retry reading_or_writing;
  aoe_fork = fork_steps ended (or_else' reads writes) [] either_side at_end_holds reading_or_writing;
  left_not_done = fork_steps
      (or_else' retried retried) reads (step 0 AOF retried ∷ []) (step 0 ARDOK has_read ∷ [])
      (fork_steps retried retried [] [] at_retry at_retry) reading;
  left_not_ended = fork_steps
      (or_else' ended retried) reads (step 0 AOE ended ∷ []) (step 0 ARDOK has_read ∷ [])
      (fork_steps ended retried [] [] at_end_holds at_retry) reading;
}
