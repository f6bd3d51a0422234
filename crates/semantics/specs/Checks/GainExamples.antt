-- Worked rows for Claims/NumberedRun and Definitions/AtomicRun: which trays have gained, to which attempt each choice
-- belongs, what is left without abandoned attempts, which rules had an effect, and what the one-step run makes of the
-- choices. Proved in proofs/GainExamples, by computation.
-- Assumes nothing.
use Rattle.std.specs.Prelude.{ℕ, ◌≡◌, take, replicate}
use mathlib.Core.List.{List, [], ◌∷◌, ◌++◌, map, flatten}
use Rattle.calculus.specs.Syntax.{Name, rd, wt, State}
use Rattle.calculus.specs.Reduction.{Rule, OUT, IN, REP, ATST, ATRE, ATFAIL, ATOK, ARDOK, ARDF, AWR, AOI, AOF, AOE}
use Rattle.semantics.specs.Definitions.Terms.{end_t, rd_t, wt_t, or_else_t, put_t}
use Rattle.semantics.specs.Definitions.Table.{TableAnswer, accepted, refused_at, read_table}
use Rattle.semantics.specs.Definitions.Configuration.{Idle, repeating, block, output, opening}
use Rattle.semantics.specs.Definitions.Run.{Counters, schedule, entries, schedule_bytes, steps}
use Rattle.semantics.specs.Definitions.AtomicRun.{atomic_start, atomic_run}
use Rattle.semantics.specs.Claims.NumberedRun.{numbered_start, gained_since, members, without_aborted, effects}

-- ---- gains

-- the number of an opening, the rules done up to a commit, and the trays that have gained between the two
pub record GainRow : Type 0 where
  pub opening : ℕ
  pub done : List Rule
  pub gained : List Name

unfoldable pub gain_rows : List GainRow
gain_rows =
    -- an OUT before the opening is no gain
    record { opening = 1; done = OUT 3 ∷ ATST ∷ []; gained = [] } ∷
    -- nor is an IN, a REP or an ATOK behind it
    record { opening = 0; done = ATST ∷ IN 1 ∷ []; gained = [] } ∷
    record { opening = 0; done = ATST ∷ REP 2 ∷ []; gained = [] } ∷
    record { opening = 0; done = ATST ∷ ATOK (rd 3 ∷ wt 4 ∷ []) ∷ []; gained = [] } ∷
    -- nor what attempts do on their way
    record { opening = 0; done = ATST ∷ ATST ∷ ATRE ∷ ATST ∷ ATFAIL ∷ []; gained = [] } ∷
    record { opening = 0; done = ATST ∷ ARDOK ∷ ARDF ∷ AWR ∷ AOI ∷ AOF ∷ AOE ∷ []; gained = [] } ∷
    -- an OUT behind it is one
    record { opening = 0; done = ATST ∷ OUT 3 ∷ []; gained = 3 ∷ [] } ∷
    -- of OUTs before and behind it, those behind it
    record { opening = 2; done = OUT 5 ∷ IN 5 ∷ ATST ∷ OUT 4 ∷ IN 4 ∷ ATST ∷ OUT 6 ∷ []; gained = 4 ∷ 6 ∷ [] } ∷
    []

unfoldable pub GainRows : Type 0
unfolding gained_since gain_rows
GainRows = map (λ r. gained_since r.opening r.done) gain_rows ≡ map (λ r. r.gained) gain_rows

-- ---- attempts and the one-step run

-- the bytes of a table and of choices, and a first tally; then the attempt that each choice belongs to, the bytes of
-- those that are left without abandoned attempts, the rules done that had an effect, and the one-step run's counts,
-- stations and tally
pub record RunRow : Type 0 where
  pub table : List ℕ
  pub choices : List ℕ
  pub first : Counters
  pub attempts : List ℕ
  pub remaining : List ℕ
  pub effects : List Rule
  pub counts : State
  pub stations : List Idle
  pub tally : Counters

unfoldable pub tallied : (commits failed retries : ℕ) → Counters
tallied c f r = record { commits = c; failed = f; retries = r }

-- 16 counts: these first, then zeros
unfoldable pub padded16 : List ℕ → State
padded16 σ = take 16 (σ ++ replicate 16 0)

unfoldable pub run_rows : List RunRow
unfolding padded16 tallied
run_rows =
    -- rehearsal 4: of two attempts that have read one token the first commits, the second fails where the first stood
    record {
      table = 7 ∷ 9 ∷ 0 ∷ 0 ∷ 6 ∷ 1 ∷ 5 ∷ 2 ∷ 2 ∷ 12 ∷ 0 ∷ 1 ∷ 13 ∷ 3 ∷ [];
      choices = 1 ∷ 0 ∷ 1 ∷ 1 ∷ 2 ∷ 0 ∷ 0 ∷ 2 ∷ 1 ∷ 0 ∷ 1 ∷ 0 ∷ 1 ∷ 0 ∷ [];
      first = tallied 0 0 0;
      attempts = 0 ∷ 1 ∷ 0 ∷ 1 ∷ 0 ∷ 1 ∷ [];
      remaining = 1 ∷ 0 ∷ 2 ∷ 0 ∷ 0 ∷ 1 ∷ 0 ∷ [];
      effects = ATOK (rd 0 ∷ []) ∷ [];
      counts = padded16 [];
      stations = block 2 (rd_t 1 0 (end_t 0)) ∷ [];
      tally = tallied 1 1 0;
    } ∷
    -- put 0 beside a block rd 0.end: the block's attempt is a retry, the put goes, a second attempt commits. A
    -- counter at its top stays there, and one below it rises to it
    record {
      table = 2 ∷ 0 ∷ 7 ∷ 9 ∷ 0 ∷ 1 ∷ 6 ∷ 2 ∷ 5 ∷ 0 ∷ 3 ∷ 13 ∷ 4 ∷ [];
      choices = 1 ∷ 1 ∷ 2 ∷ 1 ∷ 0 ∷ 1 ∷ 1 ∷ 1 ∷ 0 ∷ 1 ∷ 0 ∷ 2 ∷ 0 ∷ 0 ∷ 1 ∷ 0 ∷ [];
      first = tallied 4294967295 7 4294967294;
      attempts = 0 ∷ 0 ∷ 0 ∷ 3 ∷ 4 ∷ 4 ∷ 4 ∷ [];
      remaining = 1 ∷ 0 ∷ 1 ∷ 0 ∷ 2 ∷ 0 ∷ 0 ∷ 1 ∷ 0 ∷ [];
      effects = OUT 0 ∷ ATOK (rd 0 ∷ []) ∷ [];
      counts = padded16 [];
      stations = [];
      tally = tallied 4294967295 7 4294967295;
    } ∷
    -- rehearsal 5: tray 0 is empty at the opening and gains behind it, and the path of the opening is committed
    record {
      table = 7 ∷ 10 ∷ 1 ∷ 0 ∷ 9 ∷ 0 ∷ 1 ∷ 10 ∷ 2 ∷ 0 ∷ 11 ∷ 2 ∷ 3 ∷ 6 ∷ 4 ∷ 2 ∷ 0 ∷ 5 ∷ 5 ∷ 6 ∷ 13 ∷ 7 ∷ [];
      choices = 1 ∷ 0 ∷ 1 ∷ 1 ∷ 2 ∷ 0 ∷ 0 ∷ 2 ∷ 0 ∷ 1 ∷ 2 ∷ 0 ∷ 0 ∷ 2 ∷ 0 ∷ 0 ∷ 1 ∷ 0 ∷ [];
      first = tallied 0 0 0;
      attempts = 0 ∷ 1 ∷ 0 ∷ 0 ∷ 0 ∷ 0 ∷ 0 ∷ [];
      remaining = 1 ∷ 0 ∷ 1 ∷ 1 ∷ 2 ∷ 0 ∷ 0 ∷ 2 ∷ 0 ∷ 1 ∷ 2 ∷ 0 ∷ 0 ∷ 2 ∷ 0 ∷ 0 ∷ 1 ∷ 0 ∷ [];
      effects = OUT 0 ∷ ATOK (wt 2 ∷ []) ∷ [];
      counts = padded16 (1 ∷ []);
      stations = output 2 ∷ [];
      tally = tallied 1 0 0;
    } ∷
    -- two blocks wt 1.end orElse wt 2.end: one opened and left open, the other committed by the first of its paths
    record {
      table = 7 ∷ 10 ∷ 1 ∷ 0 ∷ 10 ∷ 2 ∷ 0 ∷ 11 ∷ 1 ∷ 2 ∷ 6 ∷ 3 ∷ 5 ∷ 4 ∷ 4 ∷ 13 ∷ 5 ∷ [];
      choices = 1 ∷ 0 ∷ 1 ∷ 1 ∷ 2 ∷ 1 ∷ 0 ∷ 2 ∷ 1 ∷ 1 ∷ 2 ∷ 1 ∷ 0 ∷ 1 ∷ 1 ∷ [];
      first = tallied 0 0 0;
      attempts = 0 ∷ 1 ∷ 1 ∷ 1 ∷ 1 ∷ 1 ∷ [];
      remaining = 1 ∷ 0 ∷ 1 ∷ 1 ∷ 2 ∷ 1 ∷ 0 ∷ 2 ∷ 1 ∷ 1 ∷ 2 ∷ 1 ∷ 0 ∷ 1 ∷ 1 ∷ [];
      effects = ATOK (wt 1 ∷ []) ∷ [];
      counts = padded16 [];
      stations = block 4 (or_else_t 3 (wt_t 1 1 (end_t 0)) (wt_t 2 2 (end_t 0))) ∷ output 1 ∷ [];
      tally = tallied 1 0 0;
    } ∷
    -- rep 0.put 1 beside take 0.nil, two tokens: no attempt, and every choice has an effect
    record {
      table = 1 ∷ 2 ∷ 1 ∷ 4 ∷ 0 ∷ 1 ∷ 3 ∷ 0 ∷ 0 ∷ 5 ∷ 2 ∷ 3 ∷ 12 ∷ 0 ∷ 2 ∷ 13 ∷ 4 ∷ [];
      choices = 1 ∷ 1 ∷ 1 ∷ 0 ∷ 1 ∷ 0 ∷ [];
      first = tallied 0 0 0;
      attempts = 0 ∷ 1 ∷ 2 ∷ [];
      remaining = 1 ∷ 1 ∷ 1 ∷ 0 ∷ 1 ∷ 0 ∷ [];
      effects = IN 0 ∷ REP 0 ∷ OUT 1 ∷ [];
      counts = padded16 (0 ∷ 1 ∷ []);
      stations = repeating 2 0 (put_t 1 1) ∷ [];
      tally = tallied 0 0 0;
    } ∷
    []

-- a row anew, from its table, its choices and its first tally; no row for a refused table
unfoldable pub followed : RunRow → TableAnswer → List RunRow
unfolding members numbered_start steps opening without_aborted effects schedule_bytes atomic_run atomic_start entries schedule
followed r (refused_at n p) = []
followed r (accepted t) =
    let es = entries (schedule r.choices) in
    let ms = members (numbered_start t r.first) (steps (opening t) es) in
    let s = atomic_run (atomic_start t r.first) es in
    record {
      table = r.table;
      choices = r.choices;
      first = r.first;
      attempts = map (λ m. m.attempt) ms;
      remaining = schedule_bytes (without_aborted ms);
      effects = effects (steps (opening t) es);
      counts = s.counts;
      stations = map (λ x. x.station) s.stations;
      tally = s.counters;
    } ∷ []

unfoldable pub RunRows : Type 0
unfolding flatten followed read_table run_rows
RunRows = flatten (map (λ r. followed r (read_table r.table)) run_rows) ≡ run_rows
