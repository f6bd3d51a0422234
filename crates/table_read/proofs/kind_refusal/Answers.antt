-- `table_read::kind_refusal` meets its contract: at each return the law of its case.
-- Assumes nothing.
use Rattle.table_read.proofs.RecordTests.{refused_3, refused_4, refused_4_second, refused_5, refused_5_second, refused_6, refused_6_second, none_refused}
use Rattle.table_read.proofs.kind_refusal.Goals as goal
use Rattle.table_read.proofs.kind_refusal.Goals.{then-channel_out_of_range-via-then-channel_out_of_range, then-channel_out_of_range-via-else-channel_out_of_range+then-channel_out_of_range-2, then-forward_reference-via-then-forward_reference, then-forward_reference-via-else-forward_reference+then-forward_reference-2, then-class_mismatch-via-then-class_mismatch, then-class_mismatch-via-else-class_mismatch+then-class_mismatch-2}

pub returns-then-too_many_terms : goal.returns-then-too_many_terms
returns-then-too_many_terms c = search refused_3

pub returns-then-channel_out_of_range : goal.returns-then-channel_out_of_range
returns-then-channel_out_of_range c =
    elim c.then-channel_out_of_range.branch [
      | then-channel_out_of_range-via-then-channel_out_of_range w ↦ search refused_4
      | then-channel_out_of_range-via-else-channel_out_of_range+then-channel_out_of_range-2 w ↦ search refused_4_second
    ]

pub returns-then-forward_reference : goal.returns-then-forward_reference
returns-then-forward_reference c =
    elim c.then-forward_reference.branch [
      | then-forward_reference-via-then-forward_reference w ↦ search refused_5
      | then-forward_reference-via-else-forward_reference+then-forward_reference-2 w ↦ search refused_5_second
    ]

pub returns-then-class_mismatch : goal.returns-then-class_mismatch
returns-then-class_mismatch c =
    elim c.then-class_mismatch.branch [
      | then-class_mismatch-via-then-class_mismatch w ↦ search refused_6
      | then-class_mismatch-via-else-class_mismatch+then-class_mismatch-2 w ↦ search refused_6_second fits 20000
    ]

pub returns : goal.returns
returns c = search none_refused
