-- Table 3 worked, rule by rule: for each expression below all its reductions, each with its node and its rule. What is
-- not in a row's list the expression does not do. Proved in proofs/Table3.
-- Assumes nothing.
use Rattle.std.specs.Prelude.{ℕ, ◌↔◌}
use mathlib.Core.List.{List, [], ◌∷◌, Memᴰ}
use Rattle.calculus.specs.Syntax.{rd, wt, end, retry, prefix, or_else, Ongoing, running, or_else'}
use Rattle.calculus.specs.Reduction.{Rule, ARDOK, ARDF, AWR, AOI, AOF, AOE, EvolvesAt}
use Rattle.calculus.specs.Checks.Notation.{few}

-- a reduction of Table 3: its node, its rule, what it leads to
pub data InnerStep : Type 0 where
  step : ℕ → Rule → Ongoing → InnerStep

-- the reductions of an expression are these, and it has no other
abbrev pub Steps : Ongoing → List InnerStep → Type 0
Steps A ss = (k : ℕ) (r : Rule) (A' : Ongoing) → EvolvesAt k r A A' ↔ Memᴰ (step k r A') ss

-- rd 1.end and wt 0.end, begun with one 2 and two 1s, and what they come to
abbrev pub reads : Ongoing
reads = running (prefix (rd 1) end) few []

abbrev pub has_read : Ongoing
has_read = running end few (rd 1 ∷ [])

abbrev pub writes : Ongoing
writes = running (prefix (wt 0) end) few (rd 2 ∷ [])

abbrev pub has_written : Ongoing
has_written = running end few (rd 2 ∷ wt 0 ∷ [])

-- an end and a retry with states and logs of their own
abbrev pub ended : Ongoing
ended = running end (1 ∷ []) (wt 1 ∷ [])

abbrev pub retried : Ongoing
retried = running retry (0 ∷ 1 ∷ []) (rd 2 ∷ [])

pub record Table3Rows : Type 0 where
  -- ARDOK: with this read the log reads 1 twice and 2 once, as often as the state has them; its write does not matter.
  -- The read comes last in the log.
  pub ardok : Steps
      (running (prefix (rd 1) (prefix (wt 0) end)) few (rd 2 ∷ wt 1 ∷ rd 1 ∷ []))
      (step 0 ARDOK (running (prefix (wt 0) end) few (rd 2 ∷ wt 1 ∷ rd 1 ∷ rd 1 ∷ [])) ∷ [])
  -- ARDF: the state has one 2, and the log reads it already. The log stays as it was.
  pub ardf : Steps
      (running (prefix (rd 2) end) few (rd 1 ∷ rd 2 ∷ []))
      (step 0 ARDF (running retry few (rd 1 ∷ rd 2 ∷ [])) ∷ [])
  -- what the log writes is not there to read
  pub ardf_of_its_write : Steps
      (running (prefix (rd 0) end) few (wt 0 ∷ []))
      (step 0 ARDF (running retry few (wt 0 ∷ [])) ∷ [])
  -- nor is a name that the state does not count
  pub ardf_not_counted : Steps (running (prefix (rd 3) end) few []) (step 0 ARDF (running retry few []) ∷ [])
  -- all the log's reads are looked at: the 1 is there, and the 0 of before is not
  pub ardf_of_before : Steps
      (running (prefix (rd 1) end) few (rd 0 ∷ []))
      (step 0 ARDF (running retry few (rd 0 ∷ [])) ∷ [])
  -- AWR: always, also of a name that the state does not count
  pub awr : Steps
      (running (prefix (wt 0) (prefix (rd 1) retry)) few (rd 1 ∷ []))
      (step 0 AWR (running (prefix (rd 1) retry) few (rd 1 ∷ wt 0 ∷ [])) ∷ [])
  pub awr_not_counted : Steps (running (prefix (wt 3) end) few []) (step 0 AWR (running end few (wt 3 ∷ [])) ∷ [])
  -- AOI: each side with the state and the log
  pub aoi : Steps
      (running (or_else (prefix (rd 1) end) retry) few (wt 2 ∷ []))
      (step 0 AOI (or_else' (running (prefix (rd 1) end) few (wt 2 ∷ [])) (running retry few (wt 2 ∷ []))) ∷ [])
  -- end and retry are done
  pub end_is_done : Steps (running end few (rd 1 ∷ [])) []
  pub retry_is_done : Steps (running retry few (rd 1 ∷ [])) []
  -- AOF: the left side at retry, and the right side stays, here one that is at end
  pub aof : Steps (or_else' retried ended) (step 0 AOF ended ∷ [])
  -- AOE: the left side at end, and the left side stays, here before one that is at retry
  pub aoe : Steps (or_else' ended retried) (step 0 AOE ended ∷ [])
  -- both at retry, both at end
  pub aof_both : Steps (or_else' retried (running retry few [])) (step 0 AOF (running retry few []) ∷ [])
  pub aoe_both : Steps (or_else' ended (running end few [])) (step 0 AOE ended ∷ [])
  -- the right side may go on before they are made
  pub aof_or_right : Steps
      (or_else' retried reads)
      (step 0 AOF reads ∷ step 2 ARDOK (or_else' retried has_read) ∷ [])
  pub aoe_or_right : Steps
      (or_else' ended writes)
      (step 0 AOE ended ∷ step 2 AWR (or_else' ended has_written) ∷ [])
  -- AOL alone: a right side at end, or at retry, decides nothing while the left side goes on
  pub aol_before_end : Steps (or_else' writes ended) (step 1 AWR (or_else' has_written ended) ∷ [])
  pub aol_before_retry : Steps (or_else' reads retried) (step 1 ARDOK (or_else' has_read retried) ∷ [])
  -- AOL and AOR: either side
  pub aol_aor : Steps
      (or_else' reads writes)
      (step 1 ARDOK (or_else' has_read writes) ∷ step 2 AWR (or_else' reads has_written) ∷ [])
  -- in the left side of a left side, at node 2; its right side at node 3; the whole's right side at node 4
  pub left_of_left : Steps
      (or_else' (or_else' reads writes) writes)
      (step 2 ARDOK (or_else' (or_else' has_read writes) writes)
      ∷ step 3 AWR (or_else' (or_else' reads has_written) writes)
      ∷ step 4 AWR (or_else' (or_else' reads writes) has_written) ∷ [])
  -- a right side of its own begins at node 2, and has its sides at 3 and 4
  pub right_of_right : Steps
      (or_else' writes (or_else' reads writes))
      (step 1 AWR (or_else' has_written (or_else' reads writes))
      ∷ step 3 ARDOK (or_else' writes (or_else' has_read writes))
      ∷ step 4 AWR (or_else' writes (or_else' reads has_written)) ∷ [])
  -- both: the left side has nodes 1 to 3, the right side 4 to 6. AOF at node 1, AOE at node 4
  pub both_sides : Steps
      (or_else' (or_else' retried reads) (or_else' ended writes))
      (step 1 AOF (or_else' reads (or_else' ended writes))
      ∷ step 3 ARDOK (or_else' (or_else' retried has_read) (or_else' ended writes))
      ∷ step 4 AOE (or_else' (or_else' retried reads) ended)
      ∷ step 6 AWR (or_else' (or_else' retried reads) (or_else' ended has_written)) ∷ [])
  -- a right side that is a fork stays whole, or goes whole
  pub aof_fork : Steps
      (or_else' retried (or_else' reads writes))
      (step 0 AOF (or_else' reads writes)
      ∷ step 3 ARDOK (or_else' retried (or_else' has_read writes))
      ∷ step 4 AWR (or_else' retried (or_else' reads has_written)) ∷ [])
  pub aoe_fork : Steps
      (or_else' ended (or_else' reads writes))
      (step 0 AOE ended
      ∷ step 3 ARDOK (or_else' ended (or_else' has_read writes))
      ∷ step 4 AWR (or_else' ended (or_else' reads has_written)) ∷ [])
  -- a left side whose own sides are done is not done itself
  pub left_not_done : Steps
      (or_else' (or_else' retried retried) reads)
      (step 1 AOF (or_else' retried reads) ∷ step 4 ARDOK (or_else' (or_else' retried retried) has_read) ∷ [])
  pub left_not_ended : Steps
      (or_else' (or_else' ended retried) reads)
      (step 1 AOE (or_else' ended reads) ∷ step 4 ARDOK (or_else' (or_else' ended retried) has_read) ∷ [])
