-- What completes the longer list completes the shorter one behind what that lacks.
use Rattle.std.proofs.Common.{List, ◌++◌, append_assoc, subst}
use Rattle.slot_table.specs.declared.records.Record.{Record}
use Rattle.program_order.specs.WrittenOrder.{SpellsAll}
use Rattle.program_order.proofs.laws.law_beginnings_are_in_the_written_order.Goals as goal

pub returns : goal.returns
returns c = λ s registers body records more written.
    let Spells : List Record → Type 0 = λ all. SpellsAll s registers body all in
    record {
      more = more ++ written.more;
      whole = subst Spells (append_assoc records more written.more) written.whole;
    }
