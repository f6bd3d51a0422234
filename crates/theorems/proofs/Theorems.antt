-- The claims of specs/Promises, each proved: a field is the theorem of its name. The contracts of the public calls cite
-- these records, so that none of them is proved without all of its claims.
-- Assumes nothing.
use Rattle.semantics.specs.Promises.{Promised, OnTables, OnHalls, OnOpenings, OnTurns, OnMoves, OnDemand2, OnDemand3, OnAnswers, OnRuns, OnSteps, OnSuggestions, OnSentences, OnPrintedRuns, EveryClaim, Demands}
use Rattle.theorems.proofs.Accounts as Accounts
use Rattle.theorems.proofs.AnyOrder as AnyOrder
use Rattle.theorems.proofs.Atomicity as Atomicity
use Rattle.theorems.proofs.Branches as Branches
use Rattle.theorems.proofs.CallConditions as CallConditions
use Rattle.theorems.proofs.CallLists as CallLists
use Rattle.theorems.proofs.ChoiceConditions as ChoiceConditions
use Rattle.theorems.proofs.Completeness as Completeness
use Rattle.theorems.proofs.ConverseSteps as ConverseSteps
use Rattle.theorems.proofs.Decimals as Decimals
use Rattle.theorems.proofs.Fuels as Fuels
use Rattle.theorems.proofs.GoodTable as GoodTable
use Rattle.theorems.proofs.HallConditions as HallConditions
use Rattle.theorems.proofs.Handover as Handover
use Rattle.theorems.proofs.InnerMoves as InnerMoves
use Rattle.theorems.proofs.Limits as Limits
use Rattle.theorems.proofs.LongExamples as LongExamples
use Rattle.theorems.proofs.Notes as Notes
use Rattle.theorems.proofs.PrintedLines as PrintedLines
use Rattle.theorems.proofs.PrintedRun as PrintedRun
use Rattle.theorems.proofs.RecordShapes as RecordShapes
use Rattle.theorems.proofs.RoundTrip as RoundTrip
use Rattle.calculus.proofs.Notation as RowsNotation
use Rattle.calculus.proofs.Table2 as RowsTable2
use Rattle.calculus.proofs.Table3 as RowsTable3
use Rattle.theorems.proofs.RunConditions as RunConditions
use Rattle.theorems.proofs.Sentences as Sentences
use Rattle.theorems.proofs.Simulation as Simulation
use Rattle.theorems.proofs.Soundness as Soundness
use Rattle.theorems.proofs.StatedMoves as StatedMoves
use Rattle.theorems.proofs.Steps as Steps
use Rattle.theorems.proofs.StoredBytes as StoredBytes
use Rattle.theorems.proofs.Suggestions as Suggestions
use Rattle.theorems.proofs.TableConditions as TableConditions
use Rattle.theorems.proofs.ShortageClaims as ShortageClaims
use Rattle.theorems.proofs.Turns as Turns
use Rattle.theorems.proofs.WellFormedKept as WellFormedKept
use Rattle.theorems.proofs.ZeroNumbers as ZeroNumbers
use Rattle.semantics.proofs.Answers as RowsAnswers
use Rattle.semantics.proofs.ConverseExamples as RowsConverseExamples
use Rattle.semantics.proofs.Denotation as RowsDenotation
use Rattle.semantics.proofs.DenotationExamples as RowsDenotationExamples
use Rattle.semantics.proofs.EdgeExamples as RowsEdgeExamples
use Rattle.semantics.proofs.Examples as RowsExamples
use Rattle.semantics.proofs.GainExamples as RowsGainExamples
use Rattle.semantics.proofs.LineExamples as RowsLineExamples
use Rattle.semantics.proofs.MeasureExamples as RowsMeasureExamples
use Rattle.semantics.proofs.MoveExamples as RowsMovesWorked
use Rattle.semantics.proofs.Promises as RowsPromises
use Rattle.semantics.proofs.Sentences as RowsSentences
use Rattle.semantics.proofs.ShortageExamples as RowsShortageExamples
use Rattle.semantics.proofs.StepExamples as RowsStepExamples
use Rattle.semantics.proofs.StoredExamples as RowsStoredExamples
use Rattle.semantics.proofs.SuggestionExamples as RowsSuggestionExamples
use Rattle.semantics.proofs.TurnExamples as RowsTurnExamples

-- as a contract cites a record
pub promised : {claims : Type 0} → claims → Promised claims
unfolding Promised
promised proofs = proofs

pub on_tables : OnTables
on_tables = record {
  read_as_stated = RecordShapes.read_as_stated;
  table_numbers = TableConditions.table_numbers;
  missing_at_length = TableConditions.missing_at_length;
  accepted_is_good = GoodTable.accepted_is_good;
  start_is_term = GoodTable.start_is_term;
  tokens_are_counts = GoodTable.tokens_are_counts;
  table_read_to_its_end = Fuels.table_read_to_its_end;
  branches_stand_in_order = Branches.branches_stand_in_order;
  branches_and_paths = Branches.branches_and_paths;
  longest_branch = Branches.longest_branch;
  measure_examples = RowsMeasureExamples.measure_examples;
}

pub on_halls : OnHalls
on_halls = record {
  hall_numbers = HallConditions.hall_numbers;
  check_numbers = HallConditions.check_numbers;
  refusal_numbers = HallConditions.refusal_numbers;
  read_back = RoundTrip.read_back;
  bytes_differ = RoundTrip.bytes_differ;
  read_is_well_formed = RoundTrip.read_is_well_formed;
  well_formed_agrees = RoundTrip.well_formed_agrees;
  stored_fits = RoundTrip.stored_fits;
  written_as_stored = StoredBytes.written_as_stored;
  read_as_stored = StoredBytes.read_as_stored;
  admitted_as_stored = StoredBytes.admitted_as_stored;
  trees_read_to_their_end = Fuels.trees_read_to_their_end;
  halls_read_to_their_end = Fuels.halls_read_to_their_end;
  stored_examples = RowsStoredExamples.stored_examples;
}

pub on_openings : OnOpenings
on_openings = record {
  open_numbers = HallConditions.open_numbers;
  opens_as_stated = StatedMoves.opens_as_stated;
  width_bounds_opening = RoundTrip.width_bounds_opening;
  opening_is_well_formed = RoundTrip.opening_is_well_formed;
}

pub on_turns : OnTurns
on_turns = record {
  laid_then_waiting = Turns.laid_then_waiting;
  one_a_turn = Turns.one_a_turn;
  turns_fall = Turns.turns_fall;
  turns_end = Turns.turns_end;
  waiting_fits = Turns.waiting_fits;
  stack_suffices = Turns.stack_suffices;
  leaning_needs_its_width = Turns.leaning_needs_its_width;
  calls_show_turns = Turns.calls_show_turns;
  calls_show_the_opening = Turns.calls_show_the_opening;
  turns_refused_as_checked = Turns.turns_refused_as_checked;
  turn_examples = RowsTurnExamples.turn_examples;
}

pub on_moves : OnMoves
on_moves = record {
  moves_as_stated = StatedMoves.moves_as_stated;
  moves_worked = RowsMovesWorked.moves_worked;
  choice_numbers = ChoiceConditions.choice_numbers;
  moves_lower_weight = InnerMoves.moves_lower_weight;
  moves_go_on = InnerMoves.moves_go_on;
  settled_has_no_rule = InnerMoves.settled_has_no_rule;
  one_outcome = InnerMoves.one_outcome;
  moves_settle_first_path = InnerMoves.moves_settle_first_path;
  first_readable_is_leftmost = Branches.first_readable_is_leftmost;
}

pub on_demand2 : OnDemand2
on_demand2 = record {
  opening_denotes = Soundness.opening_denotes;
  every_hall_denotes = Limits.every_hall_denotes;
  one_order = RowsDenotation.one_order;
  soundness = Soundness.soundness;
  located = Soundness.located;
  log_order_as_stated = AnyOrder.log_order_as_stated;
  accepted_is_within_limits = Limits.accepted_is_within_limits;
  handover_is_com = Handover.handover_is_com;
  handovers_bounded = Handover.handovers_bounded;
  run_soundness = Soundness.run_soundness;
  keeps_well_formed = WellFormedKept.keeps_well_formed;
  completeness = Completeness.completeness;
  completeness_any_order = AnyOrder.completeness_any_order;
  still_is_still = AnyOrder.still_is_still;
  denotation_examples = RowsDenotationExamples.denotation_examples;
  notation_rows = RowsNotation.notation_rows;
  table2_rows = RowsTable2.table2_rows;
  table3_rows = RowsTable3.table3_rows;
}

pub on_demand3 : OnDemand3
on_demand3 = record {
  atomicity_of_calls = Atomicity.atomicity_of_calls;
  notes_at_blocks = Notes.notes_at_blocks;
  numbered_is_atomic = Simulation.numbered_is_atomic;
  start_is_opening = ConverseSteps.start_is_opening;
  converse_steps_are_moves = ConverseSteps.converse_steps_are_moves;
  readable_blocks_commit = ConverseSteps.readable_blocks_commit;
  converse_steps_go_on = ConverseSteps.converse_steps_go_on;
  call_bytes_holds = CallLists.call_bytes_holds;
  calls_in_turn = CallLists.calls_in_turn;
  halls_are_bytes = CallLists.halls_are_bytes;
  calls_cut = CallLists.calls_cut;
  gain_rows_holds = RowsGainExamples.gain_rows_holds;
  run_rows_holds = RowsGainExamples.run_rows_holds;
  converse_examples = RowsConverseExamples.converse_examples;
}

pub on_answers : OnAnswers
on_answers = record {
  answers_reported = RowsAnswers.answers_reported;
  answers_differ = RowsAnswers.answers_differ;
  zero_is_accepted = ZeroNumbers.zero_is_accepted;
}

pub on_runs : OnRuns
on_runs = record {
  moves = on_moves;
  demand2 = on_demand2;
  demand3 = on_demand3;
  answers = on_answers;
  run_numbers = RunConditions.run_numbers;
  one_reason = RunConditions.one_reason;
  run_call_numbers = CallConditions.run_call_numbers;
  run_call_zero = CallConditions.run_call_zero;
  run_accounts = Accounts.run_accounts;
  calls_accounts = Accounts.calls_accounts;
  worked_examples = RowsExamples.worked_examples;
  edge_examples = RowsEdgeExamples.edge_examples;
  long_examples = LongExamples.long_examples;
}

pub on_steps : OnSteps
on_steps = record {
  step_calls_as_stated = Steps.step_calls_as_stated;
  step_call_numbers = Steps.step_call_numbers;
  step_replies = Steps.step_replies;
  node_of_kind_1 = Steps.node_of_kind_1;
  step_is_call = Steps.step_is_call;
  step_examples = RowsStepExamples.step_examples;
  shortage_is_lowest = ShortageClaims.shortage_is_lowest;
  shortage_is_exact = ShortageClaims.shortage_is_exact;
  enough_is_included = ShortageClaims.enough_is_included;
  read_lacks_one = Atomicity.read_lacks_one;
  failures_tell_their_test = ShortageClaims.failures_tell_their_test;
  failures_alone_name = ShortageClaims.failures_alone_name;
  shortages_are_small = ShortageClaims.shortages_are_small;
  shortage_examples = RowsShortageExamples.shortage_examples;
}

pub on_suggestions : OnSuggestions
on_suggestions = record {
  suggested_is_first = Suggestions.suggested_is_first;
  kinds_apart = Suggestions.kinds_apart;
  kinds_in_either_order = Suggestions.kinds_in_either_order;
  suggestion_as_stated = Suggestions.suggestion_as_stated;
  still_is_quiescent = Suggestions.still_is_quiescent;
  still_runs_none = Suggestions.still_runs_none;
  refused_as_checked = Suggestions.refused_as_checked;
  suggestion_examples = RowsSuggestionExamples.suggestion_examples;
}

pub on_sentences : OnSentences
on_sentences = record {
  sentences_are_short = Sentences.sentences_are_short;
  sentences_are_printable = Sentences.sentences_are_printable;
  sentences_tell_apart = Sentences.sentences_tell_apart;
  words_end = Sentences.words_end;
  short_buffers_refused = Sentences.short_buffers_refused;
  sentence_stands = Sentences.sentence_stands;
  room_of_a_shortage = Sentences.room_of_a_shortage;
  longest_sentence = Sentences.longest_sentence;
  room_is_left = Sentences.room_is_left;
  sentences_worked = RowsSentences.sentences_worked;
  sentence_in_bytes = RowsSentences.sentence_in_bytes;
  calls_worked = RowsSentences.calls_worked;
}

pub on_printed_runs : OnPrintedRuns
on_printed_runs = record {
  table_found = PrintedRun.table_found;
  accepted_is_found = PrintedRun.accepted_is_found;
  printed_long = PrintedRun.printed_long;
  printed_refused = PrintedRun.printed_refused;
  printed_as_calls = PrintedRun.printed_as_calls;
  refused_as_stated = PrintedLines.refused_as_stated;
  run_as_stated = PrintedLines.run_as_stated;
  decimal_as_stated = Decimals.decimal_as_stated;
  signed_as_stated = Decimals.signed_as_stated;
  inputs_split_at_the_tables_end = Fuels.inputs_split_at_the_tables_end;
  digits_printed_to_the_last = Fuels.digits_printed_to_the_last;
  printed_numbers_fit = Fuels.printed_numbers_fit;
  line_examples = RowsLineExamples.line_examples;
}

pub every_claim : EveryClaim
every_claim = record {
  on_tables = on_tables;
  on_halls = on_halls;
  on_openings = on_openings;
  on_turns = on_turns;
  on_runs = on_runs;
  on_steps = on_steps;
  on_suggestions = on_suggestions;
  on_sentences = on_sentences;
  on_printed_runs = on_printed_runs;
}

pub demands : Demands
demands = RowsPromises.demands_follow every_claim
