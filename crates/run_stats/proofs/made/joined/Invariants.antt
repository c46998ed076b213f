-- What comes of the batches so far is joined.
use Rattle.std.proofs.Common.{◌≡◌, ◌++◌, ◌*◌, ℕ, length}
use Rattle.std.specs.Vec.Iter.{into_iter_items}
use Rattle.litmus_syntax.specs.declared.program.Program.{Program}
use Rattle.prepared_program.specs.declared.program_sites.settings.Settings.{Settings}
use Rattle.run_stats.proofs.made.joined.Given as goal
use Rattle.run_stats.specs.Runs.{AreBatches, ComeFrom}

abbrev pub invariant-loop-batch : goal.invariant-loop-batch
invariant-loop-batch l = record {
  batches : l.yielded ++ into_iter_items l.batch-iterator ≡ into_iter_items l.initial.batch-iterator;
  come : (program : Program) (settings : Settings) (number many : ℕ) → AreBatches program settings number many (into_iter_items l.initial.batch-iterator)
      → ComeFrom program settings number (length l.yielded * many) l.all.items;
}
