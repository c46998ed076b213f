-- How far a search went, and the status of its file.
use Rattle.std.specs.Prelude.{◌&&◌, ℕ, Bool, if◌then◌else◌, not}
use Rattle.search_json.specs.declared.extent.Extent.{Extent}

-- The numbers of schedules are known that have a report, or after which not all tasks have ended: all schedules with so
-- many preemptions were searched.
abbrev pub is_counted : Extent → Bool
is_counted extent = extent.bounded && not extent.stopped

-- the exit status for a file that is searched
abbrev pub status_of : (raced stopped : Bool) → ℕ
status_of raced stopped = if raced then 2 else if stopped then 75 else 0
