-- What a desk has taken, and what it was told.
use Rattle.std.specs.Prelude.{ℕ, List, Option}
use Rattle.file_commands.specs.Files.{FileEvent}
use Rattle.file_commands.specs.StandardError.{heard}
use Rattle.file_commands.specs.declared.complaint.Complaint.{Complaint}

-- What standard output has taken, how often it or the write of a file has failed, what was done with files in order,
-- what standard error was told in order, and how often the read of a file has failed. None claims nothing, where a desk
-- can't say.
pub record DeskState : Type 0 where
  pub written : Option (List ℕ)
  pub failures : ℕ
  pub files : Option (List FileEvent)
  pub told : Option (List Complaint)
  pub faults : ℕ

-- once standard error was told this
abbrev pub once_told : Complaint → DeskState → DeskState
once_told said before = record before { told = heard before.told said }
