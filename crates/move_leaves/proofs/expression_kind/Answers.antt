-- `expression_kind` meets its contract. Assumes nothing.
use borrow.Author.Rules.{rules}
use Rattle.move_leaves.proofs.Leaves.{retry_read, term_below, entry_read}
use Rattle.move_leaves.proofs.expression_kind.Goals as goal

pub returns-then-term-eq-NO_TERM : goal.returns-then-term-eq-NO_TERM
returns-then-term-eq-NO_TERM c = search retry_read

pub kind_at-requires : goal.kind_at-requires
kind_at-requires c = search (rules, term_below)

pub returns : goal.returns
returns c = search entry_read
