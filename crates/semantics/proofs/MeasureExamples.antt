-- The worked rows on measures, branches, paths and reading to the end follow from the definitions, nearly all by computation.
-- Assumes nothing.
use Prim.Native.Nat.{ℕ, zero, suc}
use native.Mathlib.Omega.{arith}
use mathlib.Core.Path.{◌≡◌, refl, ap}
use mathlib.Core.Option.{some}
use mathlib.Core.List.{List, [], ◌∷◌}
use lib.ListN.{get_elem?}
use Rattle.calculus.specs.Syntax.{Log}
use Rattle.semantics.specs.Definitions.Terms.{width}
use Rattle.semantics.specs.Definitions.Logs.{first_readable}
use Rattle.semantics.specs.Definitions.Table.{empty_table, read_table}
use Rattle.semantics.specs.Definitions.Report.{decimal, printed_run}
use Rattle.semantics.specs.Checks.EdgeExamples.{table_seen, stored_table, form_in}
use Rattle.semantics.specs.Checks.Branches.{Finish, in_end, in_retry, Side, on_left, on_right, Branch, at_end_holds, at_retry, after_read, in_left, in_right, LeftOf, parts, parts_later}
use Rattle.semantics.specs.Checks.Fuels.{read_or, tree_or, components_or, table_size_or, digits_or}
use Rattle.semantics.specs.Checks.Examples.{times}
use Rattle.semantics.specs.Checks.MeasureExamples.{two_branches, left_branch, right_branch, RunningOut, BranchRows, measured, measures, firsts, process_widths, digit_rows, short_records, TableThenChoices, deep_trees, MeasureExamples}

running_out : RunningOut
unfolding read_or empty_table tree_or components_or table_size_or digits_or times
running_out = record { in_a_table = refl; in_a_tree = refl; in_a_hall = refl; in_an_input = refl; in_a_number = refl }

both : {w : List Side} {δ : Log} {f : Finish} → Branch two_branches w δ f →
    (p : ℕ) × (get_elem? (left_branch ∷ right_branch ∷ []) p ≡ some (record { way = w; actions = δ; finish = f }))
both (in_left (after_read at_end_holds)) = (0, refl)
both (in_right at_retry) = (1, refl)

alone : (p : ℕ) → get_elem? (left_branch ∷ []) p ≡ some right_branch → ⊥
alone zero x =
    let same : left_branch ≡ right_branch = cc in
    let finishes : in_end ≡ in_retry = ap (λ b. b.finish) same in
    let z : ◌≡◌ {A = ℕ} 0 1 = cc in omega arith
alone (suc p) x = let z : ◌≡◌ {A = ℕ} 0 1 = cc in omega arith

itself : LeftOf (on_left ∷ []) (on_left ∷ []) → ⊥
itself (parts_later x) = elim x [ ]

besides : (δ : Log) → Branch two_branches (on_right ∷ on_right ∷ []) δ in_end → ⊥
besides δ (in_right b) = elim b [ ]

no_read : Branch two_branches (on_left ∷ []) [] in_end → ⊥
no_read (in_left b) = elim b [ ]

no_end : Branch two_branches (on_right ∷ []) [] in_end → ⊥
no_end (in_right b) = elim b [ ]

branch_rows : BranchRows
branch_rows = record {
  these = record {
    each_is_one = (in_left (after_read at_end_holds), (in_right at_retry, tt));
    every_one = λ w δ f b. both b;
    left_to_right = ((parts, tt), (tt, tt));
  };
  in_order_holds = λ h. elim h.left_to_right.0.0 [ ];
  once = λ h. itself h.left_to_right.0.0;
  not_left_out = λ h. let k = h.every_one (on_right ∷ []) [] in_retry (in_right at_retry) in alone k.0 k.1;
  none_besides = λ δ h. besides δ h.each_is_one.1.1.0;
  with_its_actions = no_read;
  as_it_finishes = no_end;
}

pub measure_examples : MeasureExamples
unfolding measured measures first_readable firsts width process_widths decimal digit_rows table_seen short_records
    TableThenChoices printed_run read_table stored_table form_in deep_trees
measure_examples = record {
  measures =
      (refl, (refl, (refl, (refl, (refl, (refl, (refl, (refl, (refl, (refl, (refl, (refl, (refl, (refl, (refl, (refl, (refl, (refl, tt))))))))))))))))));
  firsts = (refl, (refl, (refl, (refl, (refl, (refl, tt))))));
  process_widths_holds = (refl, (refl, (refl, (refl, (refl, (refl, (refl, (refl, (refl, (refl, tt))))))))));
  digit_rows_holds = (refl, (refl, (refl, (refl, (refl, (refl, (refl, (refl, tt))))))));
  short_records_holds = (refl, (refl, tt));
  table_then_choices = refl;
  running_out = running_out;
  branch_rows = branch_rows;
  deep_trees_holds = (refl, (refl, tt));
}
