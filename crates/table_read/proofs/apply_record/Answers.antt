-- `table_read::apply_record` meets its contract: at each need the law of its case.
-- Assumes nothing.
use Rattle.table_read.proofs.RecordRead.{fields_refusal, start_applied_holds, tokens_applied, channel_inside, can_apply_term, term_applied}
use borrow.Author.Rules.{rules}
use Rattle.table_read.proofs.apply_record.Goals as goal

pub returns-in-Err : goal.returns-in-Err
returns-in-Err c = search fields_refusal

pub returns-in-13 : goal.returns-in-13
returns-in-13 c = search start_applied_holds

pub apply_tokens-requires : goal.apply_tokens-requires
apply_tokens-requires c = (search channel_inside, search rules)

pub returns-in-12 : goal.returns-in-12
returns-in-12 c = search tokens_applied

pub apply_term-requires : goal.apply_term-requires
apply_term-requires c = search can_apply_term

pub returns-in_default-kind : goal.returns-in_default-kind
returns-in_default-kind c = search term_applied
