-- The board has the words that the records so far leave, and these keep the rules.
use Rattle.std.proofs.Common.{◌≡◌, reverse, take}
use Rattle.slot_table.specs.Discipline.{LegalInDiscipline}
use Rattle.slot_table.specs.Records.{words_after}
use Rattle.slot_table.specs.Words.{words_at_first}
use Rattle.slot_table.proofs.replay.keeps_rules.Given as goal

abbrev pub invariant-loop-position : goal.invariant-loop-position
invariant-loop-position l =
    let shape = l.fn.shape in
    let earlier = reverse (take l.position l.made) in
    record {
      board : l.board
          ≡ words_after (words_at_first shape.slots shape.locks shape.cells.now) earlier;
      rules : LegalInDiscipline shape.slots shape.locks shape.cells.now earlier;
    }
