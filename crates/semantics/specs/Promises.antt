-- What is proved of the definitions, by the call that a reader meets it at: every claim of Claims/ and every check of
-- Checks/, and the calculus's own, is a field of one of these records or stands in what a field says. Their proofs: theorems/proofs/Theorems. The
-- contract of each public call cites the record of its subject, so that a call with a claim unproved is not proved
-- either; .ci/claims holds that none is left out here.
-- Assumes nothing.
use Rattle.std.specs.Prelude.{ℕ, ◌≤◌, ◌≡◌, ◌⊎◌, ◌↔◌, false, List, [], map, length, take, drop}
use Rattle.std.proofs.Math.Option.{some}
use Rattle.std.proofs.Math.ListN.{get_elem?}
use Rattle.calculus.specs.Syntax.{Name, Log, State, Process}
use Rattle.calculus.specs.Reduction.{Rule, OUT, ATOK, by, COM, Reduces, AnyOrder, LogOrder}
use Rattle.calculus.specs.Checks.Notation.{NotationRows}
use Rattle.calculus.specs.Checks.Table2.{Table2Rows}
use Rattle.calculus.specs.Checks.Table3.{Table3Rows}
use Rattle.semantics.specs.Definitions.Basics.{All, Bytes}
use Rattle.semantics.specs.Definitions.Terms.{Expression}
use Rattle.semantics.specs.Definitions.Table.{Table, accepted, refused_at, read_table}
use Rattle.semantics.specs.Definitions.Logs.{first_readable}
use Rattle.semantics.specs.Definitions.Configuration.{Component, Configuration, opening}
use Rattle.semantics.specs.Definitions.Stored.{WellFormed, bytes_of, configuration_of}
use Rattle.semantics.specs.Definitions.Moves.{Entry, act, moved, transition}
use Rattle.semantics.specs.Definitions.Run.{Counters, InBytes, Quiescent, entry_bytes, schedule_bytes, schedule, entries, run, Step, steps, final_configuration}
use Rattle.semantics.specs.Definitions.AtomicRun.{atomic_start, atomic_run}
use Rattle.semantics.specs.Definitions.Calls.{admission, admitted, not_admitted, open_hall, Buffers, run_call, Call}
use Rattle.semantics.specs.Definitions.Suggestion.{suggested, still, suggest_call}
use Rattle.semantics.specs.Claims.Denotation.{Denotes, WithinLimits}
use Rattle.semantics.specs.Claims.NumberedRun.{aborts, effects, gained_since}
use Rattle.semantics.specs.Claims.ConverseRuns.{PlainState, plain_start, ConverseSteps, idle_configuration}
use Rattle.semantics.specs.Claims.Atomicity.{rolled_back, AttemptBegun, final_buffers, all_done, done_without_aborted}
use Rattle.semantics.specs.Checks.Conditions.{TableAccepted, TableRefused, HallCondition, Stops}
use Rattle.semantics.specs.Claims.Accounts.{RunAccounts, CallsAccounts}
use Rattle.semantics.specs.Claims.Atomicity.{AtomicityOfCalls}
use Rattle.semantics.specs.Claims.Correspondence.{Soundness, RunSoundness, EveryHallDenotes, AcceptedIsWithinLimits, Completeness, CompletenessAnyOrder, StillIsStill, KeepsWellFormed, OpeningDenotes, OneOrder, Located, LogOrderAsStated, HandoverIsCOM}
use Rattle.semantics.specs.Claims.InnerMoves.{MovesLowerWeight, MovesGoOn, SettledHasNoRule, MovesSettleFirstPath, OneOutcome}
use Rattle.semantics.specs.Claims.NumberedRun.{NumberedIsAtomic}
use Rattle.semantics.specs.Claims.Sentences.{SentencesAreShort, SentencesArePrintable, SentencesTellApart}
use Rattle.semantics.specs.Claims.Shortages.{ShortageIsLowest, ShortageIsExact, EnoughIsIncluded, ReadLacksOne, FailuresTellTheirTest, FailuresAloneName, ShortagesAreSmall}
use Rattle.semantics.specs.Claims.Suggestions.{SuggestedIsFirst, KindsApart, KindsInEitherOrder, StillIsQuiescent, StillRunsNone, RefusedAsChecked}
use Rattle.semantics.specs.Claims.Turns.{LaidThenWaiting, OneATurn, TurnsFall, TurnsEnd, WaitingFits, StackSuffices, LeaningNeedsItsWidth, CallsShowTurns, CallsShowTheOpening, TurnsRefusedAsChecked}
use Rattle.semantics.specs.Checks.Answers.{AnswersReported, AnswersDiffer, ZeroIsAccepted}
use Rattle.semantics.specs.Checks.Branches.{BranchesStandInOrder, BranchesAndPaths, LongestBranch, FirstReadableIsLeftmost}
use Rattle.semantics.specs.Checks.CallLists.{CallBytes, CallsInTurn, HallsAreBytes, CallsCut}
use Rattle.semantics.specs.Checks.Conditions.{ReadAsStated, TableNumbers, MissingAtLength, HallNumbers, CheckNumbers, OpenNumbers, RefusalNumbers, ChoiceNumbers, RunNumbers, OneReason, RunCallNumbers, RunCallZero}
use Rattle.semantics.specs.Checks.ConverseExamples.{ConverseExamples}
use Rattle.semantics.specs.Checks.ConverseSteps.{StartIsOpening, ConverseStepsAreMoves, ReadableBlocksCommit, ConverseStepsGoOn}
use Rattle.semantics.specs.Checks.Decimals.{DecimalAsStated, SignedAsStated}
use Rattle.semantics.specs.Checks.DenotationExamples.{DenotationExamples}
use Rattle.semantics.specs.Checks.EdgeExamples.{EdgeExamples}
use Rattle.semantics.specs.Checks.Examples.{Examples}
use Rattle.semantics.specs.Checks.Fuels.{TableReadToItsEnd, TreesReadToTheirEnd, HallsReadToTheirEnd, InputsSplitAtTheTablesEnd, DigitsPrintedToTheLast, PrintedNumbersFit}
use Rattle.semantics.specs.Checks.GainExamples.{GainRows, RunRows}
use Rattle.semantics.specs.Checks.Handovers.{HandoversBounded}
use Rattle.semantics.specs.Checks.LineExamples.{LineExamples}
use Rattle.semantics.specs.Checks.LongExamples.{LongExamples}
use Rattle.semantics.specs.Checks.MeasureExamples.{MeasureExamples}
use Rattle.semantics.specs.Checks.Notes.{NotesAtBlocks}
use Rattle.semantics.specs.Checks.PrintedLines.{RefusedAsStated, RunAsStated}
use Rattle.semantics.specs.Checks.PrintedRun.{TableFound, AcceptedIsFound, PrintedLong, PrintedRefused, PrintedAsCalls}
use Rattle.semantics.specs.Checks.Sentences.{WordsEnd, ShortBuffersRefused, SentenceStands, RoomOfAShortage, LongestSentence, RoomIsLeft, SentencesWorked, SentenceInBytes, CallsWorked}
use Rattle.semantics.specs.Checks.ShortageExamples.{ShortageExamples}
use Rattle.semantics.specs.Checks.StatedMoves.{OpensAsStated, MovesAsStated, MovesWorked}
use Rattle.semantics.specs.Checks.StatedSuggestions.{SuggestionAsStated}
use Rattle.semantics.specs.Checks.StepExamples.{StepExamples}
use Rattle.semantics.specs.Checks.Steps.{StepCallsAsStated, StepCallNumbers, StepReplies, NodeOfKind1, StepIsCall}
use Rattle.semantics.specs.Checks.StoredBytes.{WrittenAsStored, ReadAsStored, AdmittedAsStored}
use Rattle.semantics.specs.Checks.StoredExamples.{StoredExamples}
use Rattle.semantics.specs.Checks.StoredForm.{AcceptedIsGood, WidthBoundsOpening, StartIsTerm, TokensAreCounts, ReadBack, BytesDiffer, ReadIsWellFormed, WellFormedAgrees, StoredFits, OpeningIsWellFormed}
use Rattle.semantics.specs.Checks.SuggestionExamples.{SuggestionExamples}
use Rattle.semantics.specs.Checks.TurnExamples.{TurnExamples}

-- as a contract cites one of them: a caller of the call is not handed its fields
unfoldable pub Promised : Type 0 → Type 0
Promised claims = claims

-- ---- a table (table_read::check_table)

pub record OnTables : Type 0 where
  pub read_as_stated : ReadAsStated
  pub table_numbers : TableNumbers
  pub missing_at_length : MissingAtLength
  pub accepted_is_good : AcceptedIsGood
  pub start_is_term : StartIsTerm
  pub tokens_are_counts : TokensAreCounts
  pub table_read_to_its_end : TableReadToItsEnd
  pub branches_stand_in_order : BranchesStandInOrder
  pub branches_and_paths : BranchesAndPaths
  pub longest_branch : LongestBranch
  pub measure_examples : MeasureExamples

-- ---- a stored hall (call_check::check_hall)

pub record OnHalls : Type 0 where
  pub hall_numbers : HallNumbers
  pub check_numbers : CheckNumbers
  pub refusal_numbers : RefusalNumbers
  pub read_back : ReadBack
  pub bytes_differ : BytesDiffer
  pub read_is_well_formed : ReadIsWellFormed
  pub well_formed_agrees : WellFormedAgrees
  pub stored_fits : StoredFits
  pub written_as_stored : WrittenAsStored
  pub read_as_stored : ReadAsStored
  pub admitted_as_stored : AdmittedAsStored
  pub trees_read_to_their_end : TreesReadToTheirEnd
  pub halls_read_to_their_end : HallsReadToTheirEnd
  pub stored_examples : StoredExamples

-- ---- an opening (call_open::open_hall, call_turn::opening_turn)

pub record OnOpenings : Type 0 where
  pub open_numbers : OpenNumbers
  pub opens_as_stated : OpensAsStated
  pub width_bounds_opening : WidthBoundsOpening
  pub opening_is_well_formed : OpeningIsWellFormed

pub record OnTurns : Type 0 where
  pub laid_then_waiting : LaidThenWaiting
  pub one_a_turn : OneATurn
  pub turns_fall : TurnsFall
  pub turns_end : TurnsEnd
  pub waiting_fits : WaitingFits
  pub stack_suffices : StackSuffices
  pub leaning_needs_its_width : LeaningNeedsItsWidth
  pub calls_show_turns : CallsShowTurns
  pub calls_show_the_opening : CallsShowTheOpening
  pub turns_refused_as_checked : TurnsRefusedAsChecked
  pub turn_examples : TurnExamples

-- ---- choices (call_run::run): the moves as printed, demand 2, demand 3, and the rows

pub record OnMoves : Type 0 where
  pub moves_as_stated : MovesAsStated
  pub moves_worked : MovesWorked
  pub choice_numbers : ChoiceNumbers
  pub moves_lower_weight : MovesLowerWeight
  pub moves_go_on : MovesGoOn
  pub settled_has_no_rule : SettledHasNoRule
  pub one_outcome : OneOutcome
  pub moves_settle_first_path : MovesSettleFirstPath
  pub first_readable_is_leftmost : FirstReadableIsLeftmost

pub record OnDemand2 : Type 0 where
  pub opening_denotes : OpeningDenotes
  pub every_hall_denotes : EveryHallDenotes
  pub one_order : OneOrder
  pub soundness : Soundness
  pub located : Located
  pub log_order_as_stated : LogOrderAsStated
  pub accepted_is_within_limits : AcceptedIsWithinLimits
  pub handover_is_com : HandoverIsCOM
  pub handovers_bounded : HandoversBounded
  pub run_soundness : RunSoundness
  pub keeps_well_formed : KeepsWellFormed
  pub completeness : Completeness
  pub completeness_any_order : CompletenessAnyOrder
  pub still_is_still : StillIsStill
  pub denotation_examples : DenotationExamples
  pub notation_rows : NotationRows
  pub table2_rows : Table2Rows
  pub table3_rows : Table3Rows

pub record OnDemand3 : Type 0 where
  pub atomicity_of_calls : AtomicityOfCalls
  pub notes_at_blocks : NotesAtBlocks
  pub numbered_is_atomic : NumberedIsAtomic
  pub start_is_opening : StartIsOpening
  pub converse_steps_are_moves : ConverseStepsAreMoves
  pub readable_blocks_commit : ReadableBlocksCommit
  pub converse_steps_go_on : ConverseStepsGoOn
  pub call_bytes_holds : CallBytes
  pub calls_in_turn : CallsInTurn
  pub halls_are_bytes : HallsAreBytes
  pub calls_cut : CallsCut
  pub gain_rows_holds : GainRows
  pub run_rows_holds : RunRows
  pub converse_examples : ConverseExamples

-- what a caller is told, whatever the call
pub record OnAnswers : Type 0 where
  pub answers_reported : AnswersReported
  pub answers_differ : AnswersDiffer
  pub zero_is_accepted : ZeroIsAccepted

pub record OnRuns : Type 0 where
  pub moves : OnMoves
  pub demand2 : OnDemand2
  pub demand3 : OnDemand3
  pub answers : OnAnswers
  pub run_numbers : RunNumbers
  pub one_reason : OneReason
  pub run_call_numbers : RunCallNumbers
  pub run_call_zero : RunCallZero
  pub run_accounts : RunAccounts
  pub calls_accounts : CallsAccounts
  pub worked_examples : Examples
  pub edge_examples : EdgeExamples
  pub long_examples : LongExamples

-- ---- a step (call_step::step), and what was short

pub record OnSteps : Type 0 where
  pub step_calls_as_stated : StepCallsAsStated
  pub step_call_numbers : StepCallNumbers
  pub step_replies : StepReplies
  pub node_of_kind_1 : NodeOfKind1
  pub step_is_call : StepIsCall
  pub step_examples : StepExamples
  pub shortage_is_lowest : ShortageIsLowest
  pub shortage_is_exact : ShortageIsExact
  pub enough_is_included : EnoughIsIncluded
  pub read_lacks_one : ReadLacksOne
  pub failures_tell_their_test : FailuresTellTheirTest
  pub failures_alone_name : FailuresAloneName
  pub shortages_are_small : ShortagesAreSmall
  pub shortage_examples : ShortageExamples

-- ---- a suggestion (call_suggest::suggest)

pub record OnSuggestions : Type 0 where
  pub suggested_is_first : SuggestedIsFirst
  pub kinds_apart : KindsApart
  pub kinds_in_either_order : KindsInEitherOrder
  pub suggestion_as_stated : SuggestionAsStated
  pub still_is_quiescent : StillIsQuiescent
  pub still_runs_none : StillRunsNone
  pub refused_as_checked : RefusedAsChecked
  pub suggestion_examples : SuggestionExamples

-- ---- a sentence (print_sentence::sentence)

pub record OnSentences : Type 0 where
  pub sentences_are_short : SentencesAreShort
  pub sentences_are_printable : SentencesArePrintable
  pub sentences_tell_apart : SentencesTellApart
  pub words_end : WordsEnd
  pub short_buffers_refused : ShortBuffersRefused
  pub sentence_stands : SentenceStands
  pub room_of_a_shortage : RoomOfAShortage
  pub longest_sentence : LongestSentence
  pub room_is_left : RoomIsLeft
  pub sentences_worked : SentencesWorked
  pub sentence_in_bytes : SentenceInBytes
  pub calls_worked : CallsWorked

-- ---- a printed run (print_report::report)

pub record OnPrintedRuns : Type 0 where
  pub table_found : TableFound
  pub accepted_is_found : AcceptedIsFound
  pub printed_long : PrintedLong
  pub printed_refused : PrintedRefused
  pub printed_as_calls : PrintedAsCalls
  pub refused_as_stated : RefusedAsStated
  pub run_as_stated : RunAsStated
  pub decimal_as_stated : DecimalAsStated
  pub signed_as_stated : SignedAsStated
  pub inputs_split_at_the_tables_end : InputsSplitAtTheTablesEnd
  pub digits_printed_to_the_last : DigitsPrintedToTheLast
  pub printed_numbers_fit : PrintedNumbersFit
  pub line_examples : LineExamples

-- ---- all of them

pub record EveryClaim : Type 0 where
  pub on_tables : OnTables
  pub on_halls : OnHalls
  pub on_openings : OnOpenings
  pub on_turns : OnTurns
  pub on_runs : OnRuns
  pub on_steps : OnSteps
  pub on_suggestions : OnSuggestions
  pub on_sentences : OnSentences
  pub on_printed_runs : OnPrintedRuns

-- ---- the demands at their plainest, in the words of the claims and without the claims: a record of another sort, which
-- the others give (proofs/Promises), so that none of the claims it is taken from can be emptied as a whole. call_run::run
-- cites it too. That every call ends has no claim: every definition ends, and so does every function that is proved
pub record Demands : Type 0 where
  -- demand 1: every table is accepted, or refused with a number and a place, for a reason; so is every hall, and every
  -- list of choices on one
  pub every_table_answered : (table : List ℕ) →
      ((t : Table) × (read_table table ≡ accepted t) × TableAccepted table t)
      ⊎ ((n : ℕ) × (p : ℕ) × (read_table table ≡ refused_at n p) × TableRefused table n p)
  pub every_hall_answered : (table hall : List ℕ) → Bytes table → Bytes hall →
      ((t : Table) × (h : Configuration) × (admission table hall ≡ admitted t h) × TableAccepted table t ×
      WellFormed t.terms h × (bytes_of h ≡ hall))
      ⊎ ((n : ℕ) × (p : ℕ) × (admission table hall ≡ not_admitted n p) × HallCondition table hall n p)
  pub every_list_answered : (table : List ℕ) (t : Table) → Bytes table → read_table table ≡ accepted t →
      (h : Configuration) → WellFormed t.terms h → (c : Counters) (choices : List ℕ) →
      let a = run h c choices in
      (a.place ≤ length choices) ×
      (take a.place choices ≡ schedule_bytes (take a.done (entries (schedule choices)))) ×
      Stops a.configuration a.number (drop a.place choices)
  -- refused by its table or its hall, a call changes nothing
  pub refused_changes_nothing : (table : List ℕ) (l : Buffers) (choices : List ℕ) → Bytes table → Bytes l.hall →
      (n p : ℕ) → HallCondition table l.hall n p →
      run_call table l choices ≡ record { number = n; place = p; done = 0; buffers = l }
  -- demand 2: every hall stands for a process, an opened one is well formed, and an accepted choice does one reduction,
  -- Table 2 as printed, within the limits, to a hall that is well formed
  pub halls_denote : (cs : List Component) → (P : Process) × Denotes P cs
  pub opened_well_formed : (table : List ℕ) (t : Table) → Bytes table → read_table table ≡ accepted t →
      WellFormed t.terms (opening t)
  pub choices_reduce : (table : List ℕ) (t : Table) → Bytes table → read_table table ≡ accepted t →
      (h : Configuration) → WellFormed t.terms h →
      (e : Entry) (r : Rule) (g : Configuration) → transition h e ≡ moved r g →
      (P : Process) → Denotes P h.components →
      (P' : Process) × Reduces AnyOrder (by r) P h.counts P' g.counts × Denotes P' g.components ×
      WithinLimits (by r) h.counts P' g.counts × WellFormed t.terms g
  -- a reduction within the limits, ATOK's outputs in log order, has its choice, and a COM its two
  pub reductions_chosen : (table : List ℕ) (t : Table) → Bytes table → read_table table ≡ accepted t →
      (h : Configuration) → WellFormed t.terms h → (P : Process) → Denotes P h.components →
      (r : Rule) (P' : Process) (σ' : State) → Reduces LogOrder (by r) P h.counts P' σ' →
      WithinLimits (by r) h.counts P' σ' →
      (e : Entry) × (g : Configuration) × InBytes e × (transition h e ≡ moved r g) × (g.counts ≡ σ') ×
      Denotes P' g.components
  pub handovers_chosen : (table : List ℕ) (t : Table) → Bytes table → read_table table ≡ accepted t →
      (h : Configuration) → WellFormed t.terms h → (P : Process) → Denotes P h.components →
      (a : Name) (P' : Process) (σ' : State) → Reduces LogOrder (COM a) P h.counts P' σ' →
      WithinLimits (COM a) h.counts P' σ' →
      (e : Entry) × (f : Configuration) × (d : Entry) × (r : Rule) × (g : Configuration) × InBytes e × InBytes d ×
      (transition h e ≡ moved (OUT a) f) × (transition f d ≡ moved r g) × (g.counts ≡ σ') × Denotes P' g.components
  -- what is suggested is done by a run, and still is said exactly of a hall that is admitted and on which no choice in
  -- bytes is accepted
  pub suggestions_run : (table : List ℕ) (l : Buffers) (e : Entry) → suggest_call table l.hall ≡ suggested e →
      InBytes e × ((run_call table l (entry_bytes e)).done ≡ 1)
  pub still_is_said : (table hall : List ℕ) →
      (suggest_call table hall ≡ still) ↔
      ((t : Table) × (h : Configuration) × (admission table hall ≡ admitted t h) × Quiescent h)
  -- demand 3: every list of calls, from every opening, by its sentences. The hall is that of a one-step run of the choices
  -- done
  pub calls_as_one_step_run : (table : List ℕ) (t : Table) → Bytes table → read_table table ≡ accepted t →
      (buffer : List ℕ) → length buffer ≡ 11344 → (first : Counters) (cs : List Call) →
      let left = final_buffers table t buffer first cs in
      let one = atomic_run (atomic_start t first) (all_done table t buffer first cs) in
      (length (steps (opening t) (all_done table t buffer first cs)) ≡ length (all_done table t buffer first cs)) ×
      (h : Configuration) × (configuration_of t.terms left.hall ≡ some h) × (h.counts ≡ one.counts) ×
      (map rolled_back h.components ≡ map (λ x. x.station) one.stations) × (left.counters ≡ one.counters)
  -- without the choices of abandoned attempts the hall is the same, all that has an effect is done in the same order, and
  -- no attempt is abandoned
  pub abandoned_leave_no_trace : (table : List ℕ) (t : Table) → Bytes table → read_table table ≡ accepted t →
      (buffer : List ℕ) → length buffer ≡ 11344 → (first : Counters) (cs : List Call) →
      let kept = steps (opening t) (done_without_aborted table t buffer first cs) in
      (length kept ≡ length (done_without_aborted table t buffer first cs)) ×
      (bytes_of (final_configuration (opening t) kept) ≡ (final_buffers table t buffer first cs).hall) ×
      (effects kept ≡ effects (steps (opening t) (all_done table t buffer first cs))) ×
      All (λ u. aborts u.rule ≡ false) kept
  -- a committed block has taken its first path readable at its opening, which is the first at its commit too where no tray
  -- has gained in between
  pub first_path_taken : (table : List ℕ) (t : Table) → Bytes table → read_table table ≡ accepted t →
      (buffer : List ℕ) → length buffer ≡ 11344 → (first : Counters) (cs : List Call) →
      let done = all_done table t buffer first cs in
      (j : ℕ) (s : Step) (δ : Log) → get_elem? (steps (opening t) done) j ≡ some s → s.rule ≡ ATOK δ →
      (p : ℕ) × (n : ℕ) × (M : Expression) × (o : AttemptBegun t first done j p n M) × (s.chosen ≡ act p) ×
      (first_readable o.step.before.counts M ≡ some δ) ×
      (gained_since o.opener (map (λ u. u.rule) (take j (steps (opening t) done))) ≡ [] →
      first_readable s.before.counts M ≡ some δ)
  -- and conversely: what one-step steps lead to, a list of choices leads to
  pub one_step_runs_chosen : (table : List ℕ) (t : Table) → Bytes table → read_table table ≡ accepted t →
      (buffer : List ℕ) → length buffer ≡ 11344 → (first : Counters) →
      (s : PlainState) → ConverseSteps (plain_start t) s →
      let l : Buffers = record { hall = (open_hall table buffer).hall; counters = first } in
      (es : List Entry) × Bytes (schedule_bytes es) × ((run_call table l (schedule_bytes es)).number ≡ 0) ×
      ((run_call table l (schedule_bytes es)).done ≡ length es) ×
      ((run_call table l (schedule_bytes es)).buffers.hall ≡ bytes_of (idle_configuration s))
