-- Of one value more one more is read.
use Rattle.std.proofs.Common.{◌∙◌, ◌++◌, ◌∷◌, [], ap, arith}
use Rattle.prepared_program.specs.declared.step_schedule.schedule.Entry.{Entry}
use Rattle.part_search.proofs.part_file.Lists.{read_more}
use Rattle.part_search.specs.part_file.Reads.{entry_in}
use Rattle.part_search.proofs.part_file.reading.entries_of.Goals as goal

pub loop-value-preserved : goal.loop-value-preserved
loop-value-preserved c =
    read_more entry_in c.args.values.now c.loop-value.value-index c.value-item.result _ _ (omega arith) c.value-item.is
    (c.in_ok-push.ensures.items ∙ ap (λ (one : Entry). c.loop-value.entries.items ++ one ∷ []) c.entry_of.ensures) c.loop-value.invariant
