-- What a task keeps is what the list of its steps says.
use Rattle.std.specs.Prelude.{◌≡◌, ◌<◌, ◌≤◌, ℕ, List, length, vec_capacity, vec_len}
use Rattle.slot_table.specs.declared.step.Step.{Step}
use Rattle.slot_table.specs.declared.step.Step.TheVariants.{Remove, Tell}
use Rattle.task_log.specs.Armings.{CountsBySite}
use Rattle.task_log.specs.Arms.{arms_of, takes_of}
use Rattle.task_log.specs.Counters.{Count}
use Rattle.task_log.specs.Noted.{armed, became, last_of, named}
use Rattle.task_log.specs.Touches.{touches_of}
use Rattle.task_log.specs.declared.latest.Latest.{Latest}
use Rattle.task_log.specs.declared.log.TaskLog.{TaskLog}
use Rattle.task_log.specs.declared.noted.Noted.{Noted}

-- what was last named and set up in a task's steps, the latest first, and what last became of a watchpoint
pub record IsLatest (own : List Noted) (latest : Latest) : Type 0 where
  pub named : latest.named ≡ last_of named own
  pub armed : latest.armed ≡ last_of armed own
  pub became : latest.became ≡ last_of became own

-- there is room for the arming that is removed, if one is
abbrev pub HasRoomToRemove : Step → TaskLog → Type 0
HasRoomToRemove (Remove index) log = vec_len log.arms < vec_capacity log.arms
HasRoomToRemove step log = Unit {0}

-- there is room for the taking that is told, if one is
abbrev pub HasRoomToTell : Step → TaskLog → Type 0
HasRoomToTell (Tell index ticket) log = vec_len log.takes < vec_capacity log.takes
HasRoomToTell step log = Unit {0}

-- What is kept is what a task's steps say, the latest first; its accesses, armings and takings are
-- all kept as long as they are at most so many. The armings that are kept are counted by their setters, also where
-- others aren't kept. There is room for these.
pub record Keeps (accesses watches : ℕ) (own : List Noted) (log : TaskLog) : Type 0 where
  pub touches : length (touches_of own) ≤ accesses → log.touches.items ≡ touches_of own
  pub arms : length (arms_of own) ≤ watches → log.arms.items ≡ arms_of own
  pub armings : CountsBySite log.arms.items log.armings.sites.items
  pub takes : length (takes_of own) ≤ watches → log.takes.items ≡ takes_of own
  pub latest : IsLatest own log.latest
  pub counts : Count own log.counters
  pub room_for_accesses : accesses ≤ vec_capacity log.touches
  pub room_for_arms : watches ≤ vec_capacity log.arms
  pub room_for_takes : watches ≤ vec_capacity log.takes

-- how much room there is for what a task keeps: accesses, armings, sites at which these are counted, and takings
pub record Room : Type 0 where
  pub accesses : ℕ
  pub arms : ℕ
  pub sites : ℕ
  pub takes : ℕ

abbrev pub room_in : TaskLog → Room
room_in log = record {
  accesses = vec_capacity log.touches;
  arms = vec_capacity log.arms;
  sites = vec_capacity log.armings.sites;
  takes = vec_capacity log.takes;
}
