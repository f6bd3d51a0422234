-- The walk over a term meets its contract. A part is looked up or walked: either way its measures are known behind the
-- test. Assumes nothing.
use mathlib.Core.Path.{ap, ◌∙◌}
use Rattle.table_terms.specs.TermMeasures.{breadth_in, length_in, MeasuresOf}
use Rattle.table_terms.proofs.TermMeasures.{looked_up, low_measured, high_measured, left_falls, left_side, right_falls, right_side, sum_fits, sides_measured, rest_falls, rest_side, longer_fits, rest_measured}
use Rattle.table_terms.proofs.+walk.Goals as goal
use Rattle.table_terms.proofs.+walk.Goals.{then-first-measured, else-first-measured, then-second-measured, else-second-measured, then-second-measured-2, else-second-measured-2}

pub walk-left-requires : goal.walk-left-requires
walk-left-requires t c = (search left_falls, search left_side)

pub walk-right-requires : goal.walk-right-requires
walk-right-requires t c = (search right_falls, search right_side)

pub of_both-requires : goal.of_both-requires
of_both-requires t c =
    let left : MeasuresOf c.args.decoded.now c.args.measured c.from-first.result (breadth_in c.if-first-measured.left) (length_in c.if-first-measured.left) =
    elim c.if-first-measured.branch [
      | then-first-measured w ↦ looked_up _ _ _ _ _ w.if-first-measured.true (ap breadth_in w.left-is ∙ w.stored_measures-left.ensures.breadth) (ap length_in w.left-is ∙ w.stored_measures-left.ensures.length)
      | else-first-measured w ↦ rw w.left-is w.walk-left.ensures
    ] in
    let right : MeasuresOf c.args.decoded.now c.args.measured c.from-second.result (breadth_in c.if-second-measured.right) (length_in c.if-second-measured.right) =
    elim c.if-second-measured.branch [
      | then-second-measured w ↦ looked_up _ _ _ _ _ w.if-second-measured.true (ap breadth_in w.right-is ∙ w.stored_measures-right.ensures.breadth) (ap length_in w.right-is ∙ w.stored_measures-right.ensures.length)
      | else-second-measured w ↦ rw w.right-is w.walk-right.ensures
    ] in
    search sum_fits

pub walk-rest-requires : goal.walk-rest-requires
walk-rest-requires t c = (search rest_falls, search rest_side)

pub of_longer-requires : goal.of_longer-requires
of_longer-requires t c =
    let rest : MeasuresOf c.args.decoded.now c.args.measured c.from-second-in-9.result (breadth_in c.if-second-measured-2.rest) (length_in c.if-second-measured-2.rest) =
    elim c.if-second-measured-2.branch [
      | then-second-measured-2 w ↦ looked_up _ _ _ _ _ w.if-second-measured-2.true (ap breadth_in w.rest-is ∙ w.stored_measures-rest.ensures.breadth) (ap length_in w.rest-is ∙ w.stored_measures-rest.ensures.length)
      | else-second-measured-2 w ↦ rw w.rest-is w.walk-rest.ensures
    ] in
    search longer_fits

pub returns-after-second-measured : goal.returns-after-second-measured
returns-after-second-measured t c =
    let left : MeasuresOf c.args.decoded.now c.args.measured c.from-first.result (breadth_in c.if-first-measured.left) (length_in c.if-first-measured.left) =
    elim c.if-first-measured.branch [
      | then-first-measured w ↦ looked_up _ _ _ _ _ w.if-first-measured.true (ap breadth_in w.left-is ∙ w.stored_measures-left.ensures.breadth) (ap length_in w.left-is ∙ w.stored_measures-left.ensures.length)
      | else-first-measured w ↦ rw w.left-is w.walk-left.ensures
    ] in
    let right : MeasuresOf c.args.decoded.now c.args.measured c.from-second.result (breadth_in c.if-second-measured.right) (length_in c.if-second-measured.right) =
    elim c.if-second-measured.branch [
      | then-second-measured w ↦ looked_up _ _ _ _ _ w.if-second-measured.true (ap breadth_in w.right-is ∙ w.stored_measures-right.ensures.breadth) (ap length_in w.right-is ∙ w.stored_measures-right.ensures.length)
      | else-second-measured w ↦ rw w.right-is w.walk-right.ensures
    ] in
    search sides_measured

pub returns-after-second-measured-2 : goal.returns-after-second-measured-2
returns-after-second-measured-2 t c =
    let rest : MeasuresOf c.args.decoded.now c.args.measured c.from-second-in-9.result (breadth_in c.if-second-measured-2.rest) (length_in c.if-second-measured-2.rest) =
    elim c.if-second-measured-2.branch [
      | then-second-measured-2 w ↦ looked_up _ _ _ _ _ w.if-second-measured-2.true (ap breadth_in w.rest-is ∙ w.stored_measures-rest.ensures.breadth) (ap length_in w.rest-is ∙ w.stored_measures-rest.ensures.length)
      | else-second-measured-2 w ↦ rw w.rest-is w.walk-rest.ensures
    ] in
    search rest_measured

pub returns-in_default : goal.returns-in_default
returns-in_default t c = search (low_measured, high_measured)
