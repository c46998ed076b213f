-- The lines after the reports of a run.
use Rattle.std.specs.Prelude.{◌++◌, ℕ, List, codes}
use Rattle.std.specs.Fmt.{decimal}
use Rattle.access_types.specs.ReportText.{line}
use Rattle.task_log.specs.declared.counters.Counters.{Counters}

-- the line of counters, with how many calls had nothing to end
unfoldable pub counters_line : Counters → ℕ → List ℕ
counters_line c unbalanced = line (
    codes "arms " ++ decimal c.arms ++ codes " quiet " ++ decimal c.quiet
    ++ codes " taken " ++ decimal c.taken ++ codes " lost " ++ decimal c.lost
    ++ codes " two-sided " ++ decimal c.two_sided ++ codes " unknown " ++ decimal c.unknown
    ++ codes " encoding " ++ decimal c.encoding ++ codes " same " ++ decimal c.same
    ++ codes " masked " ++ decimal c.masked ++ codes " capacity " ++ decimal c.capacity
    ++ codes " unencodable " ++ decimal c.unencodable ++ codes " unbalanced " ++ decimal unbalanced)

-- in how many of so many runs the condition held
unfoldable pub condition_line : ℕ → ℕ → List ℕ
condition_line held runs =
    line (codes "condition held in " ++ decimal held ++ codes " of " ++ decimal runs ++ codes " runs")

-- in how many of so many runs a task got stuck
unfoldable pub stuck_line : ℕ → ℕ → List ℕ
stuck_line stuck runs = line (codes "stuck in " ++ decimal stuck ++ codes " of " ++ decimal runs ++ codes " runs")
