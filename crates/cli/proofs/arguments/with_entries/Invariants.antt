-- The entries so far have been added.
use Rattle.std.proofs.Common.{◌≡◌, fold, take}
use Rattle.clap.specs.Words.{app_of}
use Rattle.cli.specs.Tables.{with_entry}
use Rattle.cli.proofs.arguments.with_entries.Given as goal

abbrev pub invariant-loop-entry : goal.invariant-loop-entry
invariant-loop-entry l =
    app_of l.command ≡ fold (with_entry l.names) (app_of l.initial.command) (take l.entry-index l.entries)
