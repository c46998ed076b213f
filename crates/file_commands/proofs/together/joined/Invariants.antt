-- the ends of the lots so far
use Rattle.std.proofs.Common.{◌≡◌, ◌++◌, ℕ, All, IfOk, List, Option}
use Rattle.std.specs.Vec.Iter.{into_iter_items}
use Rattle.file_commands.proofs.together.joined.Given as goal
use Rattle.file_commands.specs.FileWork.{Asked}
use Rattle.file_commands.specs.Together.{AreEndsOf}
use Rattle.prepared_program.specs.declared.program_sites.settings.Settings.{Settings}

abbrev pub invariant-loop-lot : goal.invariant-loop-lot
invariant-loop-lot l = record {
  lots : l.yielded ++ into_iter_items l.lot-iterator ≡ into_iter_items l.initial.lot-iterator;
  ends : (asked : Asked) (settings : Settings) (texts : List (Option (List ℕ)))
      → All (λ lot. IfOk lot (λ ends. AreEndsOf asked settings texts ends.items)) (into_iter_items l.initial.lot-iterator)
      → AreEndsOf asked settings texts l.all.items;
}
