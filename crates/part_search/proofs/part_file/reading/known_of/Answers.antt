-- Of one value more one more is read.
use Rattle.std.proofs.Common.{◌∙◌, ◌++◌, ◌∷◌, [], ap, arith}
use Rattle.access_types.specs.declared.report.Report.{Report}
use Rattle.part_search.proofs.part_file.Lists.{read_more}
use Rattle.part_search.specs.part_file.Reads.{report_in}
use Rattle.part_search.proofs.part_file.reading.known_of.Goals as goal

pub loop-value-preserved : goal.loop-value-preserved
loop-value-preserved c =
    read_more report_in c.args.values.now c.loop-value.value-index c.value-item.result _ _ (omega arith) c.value-item.is
    (c.in_ok-push.ensures.items ∙ ap (λ (one : Report). c.loop-value.known.items ++ one ∷ []) c.report_of.ensures) c.loop-value.invariant
