-- How many armings each setter has, told without going through all of them.
use Rattle.std.specs.Prelude.{◌≡◌, ◌==◌, ◌<◌, ℕ, List, count_by, length, slice_index_or}
use Rattle.access_types.specs.Arms.{Arm}
use Rattle.access_types.specs.Ticket.{site_in}
use Rattle.task_log.specs.declared.armings.Highest.{Highest}

-- how many armings are by the access with this ticket
abbrev pub armings_by : ℕ → List Arm → ℕ
armings_by setter arms = count_by (λ (arm : Arm). arm.setter == setter) arms

-- how many armings a setter has, by the highest of its site, unless it is a lower one
pub record CountsArmings (arms : List Arm) (setter : ℕ) (highest : Highest) : Type 0 where
  pub above : highest.setter < setter → armings_by setter arms ≡ 0
  pub same : highest.setter ≡ setter → highest.number ≡ armings_by setter arms

-- the table has a place for each of the 256 sites, which tells of the setters there
pub record CountsBySite (arms : List Arm) (sites : List Highest) : Type 0 where
  pub places : length sites ≡ 256
  pub each : (setter : ℕ) (d : Highest) → CountsArmings arms setter (slice_index_or sites (site_in setter) d)
