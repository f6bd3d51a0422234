-- `parse_entry` meets its contract, one law for each return. Assumes nothing.
use Rattle.choice_read.proofs.ScheduleHeads.{found_end, found_unknown, found_act_short, found_inside_short, found_act, found_inside}
use borrow.Author.Rules.{rules}
use Rattle.choice_read.proofs.parse_entry.Goals as goal

pub returns-then-choices-at : goal.returns-then-choices-at
returns-then-choices-at c = search found_end

pub returns-then-left-lt-ACT_SIZE : goal.returns-then-left-lt-ACT_SIZE
returns-then-left-lt-ACT_SIZE c = search (rules, found_act_short)

pub returns-then-kind-eq-KIND_ACT : goal.returns-then-kind-eq-KIND_ACT
returns-then-kind-eq-KIND_ACT c = search found_act

pub returns-then-left-lt-INSIDE_SIZE : goal.returns-then-left-lt-INSIDE_SIZE
returns-then-left-lt-INSIDE_SIZE c = search (rules, found_inside_short)

pub returns-then-kind-eq-KIND_INSIDE : goal.returns-then-kind-eq-KIND_INSIDE
returns-then-kind-eq-KIND_INSIDE c = search found_inside

pub returns : goal.returns
returns c = search found_unknown
