use Rattle.std.proofs.Common.{take}
use Rattle.prepared_program.specs.Lists.{SpellEach}
use Rattle.prepared_program.specs.step_schedule.Spelling.{SpellsEntry}
use Rattle.prepared_program.proofs.ListLemmas.{texts_of}
use Rattle.prepared_program.proofs.step_schedule.schedule.Schedule.parse.Given as goal

-- the items before the index spell the entries so far
abbrev pub invariant-loop-item : goal.invariant-loop-item
invariant-loop-item l = SpellEach SpellsEntry (texts_of (take l.item-index l.item-items)) l.entries.items
