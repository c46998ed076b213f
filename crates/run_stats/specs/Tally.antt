-- What is kept of the runs so far.
use Rattle.std.specs.Prelude.{◌≡◌, ◌==◌, [], Bool, List, fold, length, map, not}
use Rattle.access_types.specs.Sites.{AccessMap}
use Rattle.prepared_program.specs.declared.program_sites.settings.Settings.{Settings}
use Rattle.litmus_syntax.specs.declared.program.Program.{Program}
use Rattle.report_text.specs.Groups.{counted}
use Rattle.report_text.specs.ReportOf.{report_text}
use Rattle.run_stats.specs.Output.{AreSums, held_in, printed_in, unbalanced_in}
use Rattle.run_stats.specs.Runs.{OneRun}
use Rattle.run_stats.specs.declared.tally.Tally.{Tally}
use Rattle.task_log.specs.Counters.{resting}

-- What is kept is of these runs: their reports that are printed, where those of unknown origin are wanted or not, by
-- their texts, are counted one after the other; the counters are summed, and the runs in which the condition held are
-- counted.
pub record Tallies (unknown : Bool) (program : Program) (settings : Settings) (sites : AccessMap) (runs : List (OneRun program settings))
    (tally : Tally) : Type 0 where
  pub groups : tally.groups ≡ fold counted [] (map (report_text sites) (printed_in unknown sites runs))
  pub counters : AreSums (map (λ one. one.found.counters) runs) tally.counters
  pub unbalanced : tally.unbalanced ≡ unbalanced_in runs
  pub held : tally.held ≡ resting (held_in runs)
  pub raced : tally.raced ≡ not (length (printed_in unknown sites runs) == 0)
