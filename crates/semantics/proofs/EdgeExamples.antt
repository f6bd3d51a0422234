-- The worked examples of edges follow from the definitions, each row by computation.
-- Assumes nothing.
use Prim.Native.Nat.{◌≤◌}
use native.Mathlib.Omega.{arith}
use mathlib.Core.Path.{refl}
use Rattle.semantics.specs.Definitions.Table.{read_table}
use Rattle.semantics.specs.Definitions.Logs.{add_token}
use Rattle.semantics.specs.Claims.Denotation.{parallel, Bounded, WithinLimits}
use Rattle.semantics.specs.Definitions.Report.{printed_run}
use Rattle.semantics.specs.Checks.EdgeExamples.{replies_on, trials, table_seen, widths, branchings, lengths, bodies}
use Rattle.semantics.specs.Checks.EdgeExamples.{terms_and_trays, references, classes, tokens_and_starts, printed_runs}
use Rattle.semantics.specs.Checks.EdgeExamples.{stored_table, form_in, station_forms, cut_forms, leaf_forms, tree_forms}
use Rattle.semantics.specs.Checks.EdgeExamples.{LeftAlone, SeveralCalls, HandoverLimits, RulesNumbered}
use Rattle.semantics.specs.Checks.EdgeExamples.{EdgeExamples}

handover : HandoverLimits
unfolding HandoverLimits WithinLimits Bounded parallel add_token
handover = ((((omega arith, tt), omega arith), (omega arith, tt)), λ h. let z : 256 ≤ 255 = h.1.0 in omega arith)

pub edge_examples : EdgeExamples
unfolding replies_on trials table_seen widths branchings lengths bodies terms_and_trays references classes tokens_and_starts
    printed_runs stored_table form_in station_forms cut_forms leaf_forms tree_forms LeftAlone SeveralCalls
    RulesNumbered read_table printed_run
edge_examples = record {
  single_choices = (refl, (refl, (refl, (refl, (refl, (refl, (refl, (refl, (refl, tt)))))))));
  widths = (refl, (refl, (refl, (refl, (refl, (refl, (refl, (refl, tt))))))));
  branchings = (refl, (refl, (refl, (refl, tt))));
  lengths = (refl, (refl, (refl, (refl, (refl, (refl, (refl, (refl, tt))))))));
  bodies = (refl, (refl, (refl, (refl, (refl, (refl, (refl, (refl, (refl, (refl, (refl, (refl, tt))))))))))));
  terms_and_trays_holds = (refl, (refl, (refl, (refl, (refl, (refl, (refl, (refl, (refl, tt)))))))));
  references = (refl, (refl, (refl, (refl, (refl, (refl, (refl, (refl, (refl, (refl, tt))))))))));
  classes = (refl, (refl, (refl, (refl, (refl, (refl, (refl, (refl, (refl, (refl, tt))))))))));
  tokens_and_starts_holds = (refl, (refl, (refl, (refl, (refl, tt)))));
  printed_runs_holds =
      (refl, (refl, (refl, (refl, (refl, (refl, (refl, (refl, (refl, (refl, (refl, tt)))))))))));
  station_forms_holds = (refl, (refl, (refl, (refl, (refl, (refl, (refl, (refl, (refl, (refl, (refl, (refl, tt))))))))))));
  cut_forms_holds = (refl, (refl, (refl, (refl, (refl, (refl, tt))))));
  leaf_forms_holds = (refl, (refl, (refl, (refl, (refl, (refl, (refl, (refl, (refl, (refl, (refl, tt)))))))))));
  tree_forms_holds = (refl, (refl, (refl, (refl, tt))));
  left_alone = ((refl, (refl, (refl, tt))), refl, refl, refl, refl);
  several_calls = refl;
  handover_limits = handover;
  rules_numbered = λ a b c. refl;
}
