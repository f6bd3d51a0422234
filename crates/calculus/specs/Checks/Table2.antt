-- Table 2 worked, rule by rule: for each process and state below all the reductions, each with its label. What is not in a
-- row's list the process does not do there. Proved in proofs/Table2.
-- Assumes nothing.
use Rattle.std.specs.Prelude.{◌↔◌}
use mathlib.Core.List.{List, [], ◌∷◌, Memᴰ}
use Rattle.calculus.specs.Syntax.{Name, rd, wt, State, Log, Expr, end, retry, prefix, or_else, running, or_else', Process, nil, out, inp, rep, par, atom, ongoing}
use Rattle.calculus.specs.Reduction.{OUT, IN, REP, ATST, ATRE, ATFAIL, ATOK, ARDOK, ARDF, AWR, AOI, AOF, AOE, Label, by, COM, LogOrder, AnyOrder, Reduces}
use Rattle.calculus.specs.Checks.Notation.{few}

-- a reduction of Table 2: its label, the process and the state that it leads to
pub data Outcome : Type 0 where
  leaves : Label → Process → State → Outcome

-- the reductions of a process in a state are these, and it has no other
abbrev pub Outcomes : (List Name → List Name → Type 0) → Process → State → List Outcome → Type 0
Outcomes Order P σ os =
    (l : Label) (P' : Process) (σ' : State) → Reduces Order l P σ P' σ' ↔ Memᴰ (leaves l P' σ') os

-- an attempt that began in another state than `few`, with two 0s alone, and the expression that it is of
abbrev pub began : State
began = 2 ∷ 0 ∷ 0 ∷ []

abbrev pub tried : Expr
tried = or_else (prefix (rd 1) end) (prefix (wt 2) end)

abbrev pub attempt : Expr → Log → Process
attempt M δ = ongoing (running M began δ) tried

-- an output on 0, of which `few` has none, and an input on it
abbrev pub puts : Process
puts = out 0

abbrev pub takes : Process
takes = inp 0 (out 2)

pub record Table2Rows : Type 0 where
  -- nil does nothing
  pub nil_is_done : Outcomes AnyOrder nil few []
  -- OUT adds a name, and leaves nil
  pub OUT_one_more : Outcomes AnyOrder (out 1) few (leaves (by (OUT 1)) nil (0 ∷ 3 ∷ 1 ∷ []) ∷ [])
  pub OUT_the_first : Outcomes AnyOrder (out 0) few (leaves (by (OUT 0)) nil (1 ∷ 2 ∷ 1 ∷ []) ∷ [])
  pub OUT_not_counted : Outcomes AnyOrder (out 3) few []
  -- IN takes one
  pub IN_one_of_two : Outcomes AnyOrder (inp 1 (out 0)) few (leaves (by (IN 1)) (out 0) (0 ∷ 1 ∷ 1 ∷ []) ∷ [])
  pub IN_of_none : Outcomes AnyOrder (inp 0 nil) few []
  pub IN_not_counted : Outcomes AnyOrder (inp 3 nil) few []
  -- REP takes one, and the replicated input stays behind what it sets free
  pub REP_the_last : Outcomes
      AnyOrder (rep 2 (out 0)) few (leaves (by (REP 2)) (par (out 0) (rep 2 (out 0))) (0 ∷ 2 ∷ 0 ∷ []) ∷ [])
  pub REP_of_none : Outcomes AnyOrder (rep 0 nil) few []
  pub REP_not_counted : Outcomes AnyOrder (rep 3 nil) few []
  -- PARL and PARR: the one that moves changes where it stands, and the other stays. An input of 1 and an output on 2 have
  -- no COM.
  pub PARL_PARR : Outcomes
      AnyOrder (par (inp 1 (out 0)) (out 2)) few
      (leaves (by (IN 1)) (par (out 0) (out 2)) (0 ∷ 1 ∷ 1 ∷ [])
      ∷ leaves (by (OUT 2)) (par (inp 1 (out 0)) nil) (0 ∷ 2 ∷ 2 ∷ []) ∷ [])
  -- COM: an output before an input of its name, which no token is there for. The state stays.
  pub COM_left : Outcomes
      AnyOrder (par puts takes) few
      (leaves (by (OUT 0)) (par nil takes) (1 ∷ 2 ∷ 1 ∷ []) ∷ leaves (COM 0) (par nil (out 2)) few ∷ [])
  -- and the output behind it
  pub COM_right : Outcomes
      AnyOrder (par takes puts) few
      (leaves (by (OUT 0)) (par takes nil) (1 ∷ 2 ∷ 1 ∷ []) ∷ leaves (COM 0) (par (out 2) nil) few ∷ [])
  -- with a replicated input, where there are tokens too
  pub COM_REP : Outcomes
      AnyOrder (par (out 1) (rep 1 nil)) few
      (leaves (by (OUT 1)) (par nil (rep 1 nil)) (0 ∷ 3 ∷ 1 ∷ [])
      ∷ leaves (by (REP 1)) (par (out 1) (par nil (rep 1 nil))) (0 ∷ 1 ∷ 1 ∷ [])
      ∷ leaves (COM 1) (par nil (par nil (rep 1 nil))) few ∷ [])
  -- with a commit that reads the one name
  pub COM_ATOK : Outcomes
      AnyOrder (par puts (attempt end (wt 1 ∷ rd 0 ∷ []))) few
      (leaves (by (OUT 0)) (par nil (attempt end (wt 1 ∷ rd 0 ∷ []))) (1 ∷ 2 ∷ 1 ∷ [])
      ∷ leaves (by ATFAIL) (par puts (atom tried)) few
      ∷ leaves (COM 0) (par nil (par (out 1) nil)) few ∷ [])
  -- no COM with a commit that reads another name too, although that is there
  pub no_COM_of_two_reads : Outcomes
      AnyOrder (par puts (attempt end (rd 1 ∷ rd 0 ∷ []))) few
      (leaves (by (OUT 0)) (par nil (attempt end (rd 1 ∷ rd 0 ∷ []))) (1 ∷ 2 ∷ 1 ∷ [])
      ∷ leaves (by ATFAIL) (par puts (atom tried)) few ∷ [])
  -- no COM of two names
  pub no_COM_of_two_names : Outcomes
      AnyOrder (par puts (inp 2 nil)) few
      (leaves (by (OUT 0)) (par nil (inp 2 nil)) (1 ∷ 2 ∷ 1 ∷ [])
      ∷ leaves (by (IN 2)) (par puts nil) (0 ∷ 2 ∷ 0 ∷ []) ∷ [])
  -- no COM of two outputs, or of two inputs
  pub no_COM_of_outputs : Outcomes
      AnyOrder (par puts puts) few
      (leaves (by (OUT 0)) (par nil puts) (1 ∷ 2 ∷ 1 ∷ []) ∷ leaves (by (OUT 0)) (par puts nil) (1 ∷ 2 ∷ 1 ∷ []) ∷ [])
  pub no_COM_of_inputs : Outcomes AnyOrder (par takes takes) few []
  -- no COM of a name that the state does not count
  pub no_COM_not_counted : Outcomes AnyOrder (par (out 3) (inp 3 nil)) few []
  -- in larger processes: both of COM's sides deep inside, and a COM beside another process
  pub COM_deep : Outcomes
      AnyOrder (par (par nil puts) (par takes nil)) few
      (leaves (by (OUT 0)) (par (par nil nil) (par takes nil)) (1 ∷ 2 ∷ 1 ∷ [])
      ∷ leaves (COM 0) (par (par nil nil) (par (out 2) nil)) few ∷ [])
  pub COM_beside : Outcomes
      AnyOrder (par (inp 3 nil) (par puts takes)) few
      (leaves (by (OUT 0)) (par (inp 3 nil) (par nil takes)) (1 ∷ 2 ∷ 1 ∷ [])
      ∷ leaves (COM 0) (par (inp 3 nil) (par nil (out 2))) few ∷ [])
  -- ATST: with the state of now and an empty log
  pub ATST_begins : Outcomes
      AnyOrder (atom tried) few (leaves (by ATST) (ongoing (running tried few []) tried) few ∷ [])
  -- ATPASS: Table 3 with the state in which the attempt began, and not that of now, which stays
  pub ATPASS_ARDOK : Outcomes
      AnyOrder (attempt (prefix (rd 0) end) (rd 0 ∷ [])) few
      (leaves (by ARDOK) (attempt end (rd 0 ∷ rd 0 ∷ [])) few ∷ [])
  pub ATPASS_ARDF : Outcomes
      AnyOrder (attempt (prefix (rd 1) end) []) few (leaves (by ARDF) (attempt retry []) few ∷ [])
  -- the sides of an attempt, which commits only when it is one expression at its end
  pub ATPASS_sides : Outcomes
      AnyOrder (ongoing (or_else' (running end began []) (running (prefix (wt 1) end) began [])) tried) few
      (leaves (by AOE) (attempt end []) few
      ∷ leaves (by AWR) (ongoing (or_else' (running end began []) (running end began (wt 1 ∷ []))) tried) few ∷ [])
  -- its label is Table 3's, beside other processes too: AOI, AOF
  pub ATPASS_AOI : Outcomes
      AnyOrder (par nil (attempt (or_else end retry) (wt 1 ∷ []))) few
      (leaves
      (by AOI) (par nil (ongoing (or_else' (running end began (wt 1 ∷ [])) (running retry began (wt 1 ∷ []))) tried)) few
      ∷ [])
  pub ATPASS_AOF : Outcomes
      AnyOrder (ongoing (or_else' (running retry began []) (running end began (wt 1 ∷ []))) tried) few
      (leaves (by AOF) (attempt end (wt 1 ∷ [])) few ∷ [])
  -- ATRE, whether the log's reads are there or not: the attempt's own expression again
  pub ATRE_reads_there : Outcomes AnyOrder (attempt retry (rd 1 ∷ wt 2 ∷ [])) few (leaves (by ATRE) (atom tried) few ∷ [])
  pub ATRE_reads_missing : Outcomes AnyOrder (attempt retry (rd 0 ∷ [])) few (leaves (by ATRE) (atom tried) few ∷ [])
  -- ATFAIL: the read is not there now, although it was when the attempt began
  pub ATFAIL_gone : Outcomes AnyOrder (attempt end (rd 0 ∷ wt 1 ∷ [])) few (leaves (by ATFAIL) (atom tried) few ∷ [])
  -- a name read twice must be there twice
  pub ATFAIL_read_twice : Outcomes AnyOrder (attempt end (rd 2 ∷ rd 2 ∷ [])) few (leaves (by ATFAIL) (atom tried) few ∷ [])
  -- the log's own writes are not there
  pub ATFAIL_of_its_write : Outcomes AnyOrder (attempt end (wt 0 ∷ rd 0 ∷ [])) few (leaves (by ATFAIL) (atom tried) few ∷ [])
  pub ATFAIL_not_counted : Outcomes AnyOrder (attempt end (rd 3 ∷ [])) few (leaves (by ATFAIL) (atom tried) few ∷ [])
  -- ATOK: all its reads are there now, although not when the attempt began; as often as the log reads them they are taken
  pub ATOK_commits : Outcomes
      AnyOrder (attempt end (rd 1 ∷ wt 0 ∷ rd 2 ∷ rd 1 ∷ [])) few
      (leaves (by (ATOK (rd 1 ∷ wt 0 ∷ rd 2 ∷ rd 1 ∷ []))) (par (out 0) nil) (0 ∷ 0 ∷ 0 ∷ []) ∷ [])
  pub ATOK_of_nothing : Outcomes AnyOrder (attempt end []) few (leaves (by (ATOK [])) nil few ∷ [])
  -- its outputs in any order: the log's, and the other
  pub ATOK_two_orders : Outcomes
      AnyOrder (attempt end (wt 2 ∷ rd 1 ∷ wt 0 ∷ [])) few
      (leaves (by (ATOK (wt 2 ∷ rd 1 ∷ wt 0 ∷ []))) (par (out 2) (par (out 0) nil)) (0 ∷ 1 ∷ 1 ∷ [])
      ∷ leaves (by (ATOK (wt 2 ∷ rd 1 ∷ wt 0 ∷ []))) (par (out 0) (par (out 2) nil)) (0 ∷ 1 ∷ 1 ∷ []) ∷ [])
  -- a name written twice is laid down twice, in three orders
  pub ATOK_three_orders : Outcomes
      AnyOrder (attempt end (wt 1 ∷ wt 2 ∷ wt 1 ∷ [])) few
      (leaves (by (ATOK (wt 1 ∷ wt 2 ∷ wt 1 ∷ []))) (par (out 1) (par (out 2) (par (out 1) nil))) few
      ∷ leaves (by (ATOK (wt 1 ∷ wt 2 ∷ wt 1 ∷ []))) (par (out 1) (par (out 1) (par (out 2) nil))) few
      ∷ leaves (by (ATOK (wt 1 ∷ wt 2 ∷ wt 1 ∷ []))) (par (out 2) (par (out 1) (par (out 1) nil))) few ∷ [])
  -- and in the log's order alone, where that is asked for
  pub ATOK_log_order : Outcomes
      LogOrder (attempt end (wt 2 ∷ rd 1 ∷ wt 0 ∷ [])) few
      (leaves (by (ATOK (wt 2 ∷ rd 1 ∷ wt 0 ∷ []))) (par (out 2) (par (out 0) nil)) (0 ∷ 1 ∷ 1 ∷ []) ∷ [])
  pub ATOK_log_order_twice : Outcomes
      LogOrder (attempt end (wt 1 ∷ wt 2 ∷ wt 1 ∷ [])) few
      (leaves (by (ATOK (wt 1 ∷ wt 2 ∷ wt 1 ∷ []))) (par (out 1) (par (out 2) (par (out 1) nil))) few ∷ [])
  -- also in a COM, and beside other processes
  pub COM_log_order : Outcomes
      LogOrder (par puts (attempt end (wt 2 ∷ rd 0 ∷ wt 1 ∷ []))) few
      (leaves (by (OUT 0)) (par nil (attempt end (wt 2 ∷ rd 0 ∷ wt 1 ∷ []))) (1 ∷ 2 ∷ 1 ∷ [])
      ∷ leaves (by ATFAIL) (par puts (atom tried)) few
      ∷ leaves (COM 0) (par nil (par (out 2) (par (out 1) nil))) few ∷ [])
  pub PARL_log_order : Outcomes
      LogOrder (par (attempt end (wt 2 ∷ wt 1 ∷ [])) nil) few
      (leaves (by (ATOK (wt 2 ∷ wt 1 ∷ []))) (par (par (out 2) (par (out 1) nil)) nil) few ∷ [])
  pub PARR_log_order : Outcomes
      LogOrder (par nil (attempt end (wt 2 ∷ wt 1 ∷ []))) few
      (leaves (by (ATOK (wt 2 ∷ wt 1 ∷ []))) (par nil (par (out 2) (par (out 1) nil))) few ∷ [])
