-- The claims of specs/Promises, each proved: a field is the theorem of its name. The contracts of the exports cite these
-- records, so that none of them is proved without all of its claims.
-- Assumes nothing.
use Rattle.answers.specs.Promises.{ToldTables, ToldHalls, ToldOpenings, ToldTurns, ToldRuns, ToldSteps, ToldSuggestions, ToldSentences}
use Rattle.answers.proofs.TurnCases as TurnCases
use Rattle.answers.proofs.SentenceBytes as SentenceBytes
use Rattle.answers.proofs.Injective as Injective
use Rattle.answers.proofs.Zeros as Zeros

pub told_tables : ToldTables
told_tables = record { verdict_injective = Injective.verdict_injective; zero_table = Zeros.zero_table }

pub told_halls : ToldHalls
told_halls = record { hall_verdict_injective = Injective.hall_verdict_injective; zero_hall = Zeros.zero_hall }

pub told_openings : ToldOpenings
told_openings = record { opening_injective = Injective.opening_injective; zero_opened = Zeros.zero_opened }

pub told_turns : ToldTurns
told_turns = record {
  zero_turn = Zeros.zero_turn;
  refused_told = TurnCases.refused_told;
  past_told = TurnCases.past_told;
  nothing_told = TurnCases.nothing_told;
  put_told = TurnCases.put_told;
}

pub told_runs : ToldRuns
told_runs = record { run_answer_injective = Injective.run_answer_injective }

pub told_steps : ToldSteps
told_steps = record {
  shortages_differ = Injective.shortages_differ;
  replies_differ = Injective.replies_differ;
  step_injective = Injective.step_injective;
  handed_on = SentenceBytes.handed_on;
}

pub told_suggestions : ToldSuggestions
told_suggestions = record {
  suggestion_injective = Injective.suggestion_injective;
  zero_suggested = Zeros.zero_suggested;
}

pub told_sentences : ToldSentences
told_sentences = record {
  sentence_call_injective = Injective.sentence_call_injective;
  zero_sentence = Zeros.zero_sentence;
  byte_0_refused = SentenceBytes.byte_0_refused;
  other_byte_moved = SentenceBytes.other_byte_moved;
  short_writes_nothing = SentenceBytes.short_writes_nothing;
  long_tells_length = SentenceBytes.long_tells_length;
}
