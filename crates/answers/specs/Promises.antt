-- Every claim on the answers, in the records that the contracts of the exports cite: `.ci/claims` holds the list.
-- Assumes nothing.
use Rattle.answers.specs.Claims.{ShortagesDiffer, RepliesDiffer, VerdictInjective, HallVerdictInjective, OpeningInjective, RunAnswerInjective, StepInjective, SuggestionInjective, SentenceCallInjective, ZeroTable, ZeroHall, ZeroOpened, ZeroTurn, ZeroSuggested, ZeroSentence, RefusedTold, PastTold, NothingTold, PutTold, Byte0Refused, OtherByteMoved, HandedOn, ShortWritesNothing, LongTellsLength}

-- ---- ruonfidd_check_table

pub record ToldTables : Type 0 where
  pub verdict_injective : VerdictInjective
  pub zero_table : ZeroTable

-- ---- ruonfidd_check_hall

pub record ToldHalls : Type 0 where
  pub hall_verdict_injective : HallVerdictInjective
  pub zero_hall : ZeroHall

-- ---- ruonfidd_open_hall

pub record ToldOpenings : Type 0 where
  pub opening_injective : OpeningInjective
  pub zero_opened : ZeroOpened

-- ---- ruonfidd_opening_turn

pub record ToldTurns : Type 0 where
  pub zero_turn : ZeroTurn
  pub refused_told : RefusedTold
  pub past_told : PastTold
  pub nothing_told : NothingTold
  pub put_told : PutTold

-- ---- ruonfidd_run

pub record ToldRuns : Type 0 where
  pub run_answer_injective : RunAnswerInjective

-- ---- ruonfidd_step

pub record ToldSteps : Type 0 where
  pub shortages_differ : ShortagesDiffer
  pub replies_differ : RepliesDiffer
  pub step_injective : StepInjective
  pub handed_on : HandedOn

-- ---- ruonfidd_suggest

pub record ToldSuggestions : Type 0 where
  pub suggestion_injective : SuggestionInjective
  pub zero_suggested : ZeroSuggested

-- ---- ruonfidd_sentence

pub record ToldSentences : Type 0 where
  pub sentence_call_injective : SentenceCallInjective
  pub zero_sentence : ZeroSentence
  pub byte_0_refused : Byte0Refused
  pub other_byte_moved : OtherByteMoved
  pub short_writes_nothing : ShortWritesNothing
  pub long_tells_length : LongTellsLength
