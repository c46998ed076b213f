-- The output of a search, with why no task goes on behind its line on deadlocks.
use Rattle.std.specs.Prelude.{◌≡◌, ◌≢◌, ◌==◌, ◌&&◌, ◌||◌, ◌<◌, ◌≤◌, ◌+◌, ◌-◌, ◌⊎◌, ◌++◌, ◌∷◌, [], ℕ, Bool, List, codes, drop, false, if◌then◌else◌}
use Rattle.std.specs.Prelude.{length, nat_eq, slice_index, slice_range, take, true}
use Rattle.std.specs.List.{starts_with}
use Rattle.std.specs.Prelude.{IsUtf8}
use Rattle.access_types.specs.Sites.{AccessMap}
use Rattle.source_places.specs.deadlocks.Asked.{AreAsked}
use Rattle.source_places.specs.deadlocks.Lines.{AreWaitLines}
use Rattle.source_places.specs.deadlocks.Waits.{AreLockWaits}
use Rattle.source_places.specs.declared.deadlocks.waits.LockWait.{LockWait}
use Rattle.executions.specs.execution.Execution.{Execution}
use Rattle.executions.specs.execution.Run.{Run}
use Rattle.litmus_parse.specs.Read.{IsReadAs}
use Rattle.litmus_step.specs.Runs.{run_of}
use Rattle.litmus_syntax.specs.declared.program.Program.{Program}
use Rattle.litmus_syntax.specs.declared.program.Variable.{Variable}
use Rattle.prepared_program.specs.declared.program_sites.settings.Settings.{Settings}
use Rattle.prepared_program.specs.declared.step_schedule.schedule.Entry.{Entry}
use Rattle.prepared_program.specs.step_schedule.Order.{asked_by}
use Rattle.prepared_program.specs.step_schedule.Spelling.{Spells}
use Rattle.slot_table.specs.declared.records.Record.{Record}

-- this is said of the waits for locks behind these records
pub record AreSaidAt (run : Run) (records : List Record) (variables : List Variable) (file text said : List ℕ) : Type 0 where
  pub waits : List LockWait
  pub waits_are : AreLockWaits run records waits
  pub lines : AreWaitLines variables file text waits said

-- this is said of the waits for locks in a program once its tasks were asked in this order
pub record AreSaidIn (program : Program) (file text : List ℕ) (settings : Settings) (order said : List ℕ) : Type 0 where
  pub sites : AccessMap
  pub records : List Record
  pub asked : AreAsked (run_of program settings sites) order [] records
  pub list : Execution (run_of program settings sites) records
  pub at : AreSaidAt (run_of program settings sites) records program.variables file text said

-- so it is of the program that the text of a file is read as
pub record AreSaid (file text : List ℕ) (settings : Settings) (order said : List ℕ) : Type 0 where
  pub program : Program
  pub read : IsReadAs text program
  pub is : AreSaidIn program file text settings order said

-- what stands behind the first `--schedule ` of a line
abbrev pub behind_option : List ℕ → List ℕ
behind_option [] = []
behind_option (byte ∷ more) =
    if starts_with nat_eq (byte ∷ more) (codes "--schedule ") then drop 11 (byte ∷ more) else behind_option more

-- these entries stand there
abbrev pub NamesSchedule : (line : List ℕ) → List Entry → Type 0
NamesSchedule line entries = IsUtf8 (behind_option line) × Spells (behind_option line) entries

-- this is said of the deadlock to which the schedule in a line leads; of a line without one nothing is said
abbrev pub AreSaidOf : (file text : List ℕ) → Settings → (line said : List ℕ) → Type 0
AreSaidOf file text settings line said =
    ((entries : List Entry) × NamesSchedule line entries × AreSaid file text settings (asked_by entries) said)
    ⊎ (((entries : List Entry) → ¬ NamesSchedule line entries) × (said ≡ []))

-- a line that begins with `stuck` begins here
abbrev pub begins_stuck : (output : List ℕ) → (start : ℕ) → Bool
begins_stuck output start =
    ((start == 0) || (slice_index output (start - 1) == 10)) && starts_with nat_eq (drop start output) (codes "stuck")

-- a line that begins at the start ends at the end, where a line feed stands, or the output ends
pub record IsLineEnd (output : List ℕ) (start end : ℕ) : Type 0 where
  pub ordered : start ≤ end
  pub within : end ≤ length output
  pub inside : (at : ℕ) → start ≤ at → at < end → slice_index output at ≢ 10
  pub ends : end < length output → slice_index output end ≡ 10

-- Behind the first line that begins with `stuck` stands what is said of the deadlock to which the schedule in it leads.
pub record HasWaitLines (file text : List ℕ) (settings : Settings) (output found : List ℕ) : Type 0 where
  pub start : ℕ
  pub end : ℕ
  pub begins : begins_stuck output start ≡ true
  pub first : (at : ℕ) → at < start → begins_stuck output at ≡ false
  pub ends : IsLineEnd output start end
  pub said : List ℕ
  pub said_are : AreSaidOf file text settings (slice_range output start end) said
  pub found_is : found ≡ take (end + 1) output ++ (said ++ drop (end + 1) output)

-- or the output has no such line, and stays as it is
abbrev pub IsExplained : (file text : List ℕ) → Settings → (output found : List ℕ) → Type 0
IsExplained file text settings output found =
    (((at : ℕ) → at < length output → begins_stuck output at ≡ false) × (found ≡ output))
    ⊎ HasWaitLines file text settings output found
