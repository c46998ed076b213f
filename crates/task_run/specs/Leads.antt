-- Records of a task that lead to its machine.
use Rattle.std.specs.Prelude.{◌≡◌, ◌↔◌, ◌++◌, ℕ, List, [], ◌∷◌, Option, None, Some, reverse}
use Rattle.litmus_syntax.specs.Tree.{Block}
use Rattle.access_run.specs.Leads.{AccessIsStuck}
use Rattle.access_run.specs.memory_operation.LockLeads.{IsStuckAtLock}
use Rattle.setup_access.specs.Parts.{made}
use Rattle.setup_access.specs.Waits.{IsStuckBy}
use Rattle.setup_access.specs.declared.begun.Begun.{Begun}
use Rattle.slot_table.specs.declared.records.Record.{Record}
use Rattle.slot_table.specs.declared.step.Answer.{Answer}
use Rattle.slot_table.specs.declared.step.Step.{Step}
use Rattle.slot_table.specs.declared.step.Step.TheVariants.{LockTry}
use Rattle.task_run.specs.Accesses.{RepeatsAreTold}
use Rattle.task_run.specs.Agrees.{Agrees}
use Rattle.task_run.specs.Part.{Part, PartLeft, closes, locks, makes, opens, over, stops, unlocks}
use Rattle.task_run.specs.Says.{Says}
use Rattle.task_run.specs.Stops.{ScopesAreTold}
use Rattle.task_run.specs.Position.{IsTold}
use Rattle.task_run.specs.declared.run.TaskRun.{TaskRun}
use Rattle.program_order.specs.InProgress.{AccessesAreTold}
use Rattle.program_order.specs.Standing.{BeginsNow, Setting, Standing, checks_of, lock_number}
use Rattle.program_order.specs.Waits.{failed_tries}
use Rattle.program_order.specs.WrittenOrder.{StepsOfBlock, at_first}

-- these records, the oldest first, end in no failed try of a lock
abbrev pub EndInNoWait : List Record → Type 0
EndInNoWait records = (lock task : ℕ) → failed_tries (LockTry lock task) (reverse records) ≡ 0

-- The records so far, of a task with so many registers, lead to the machine: it is in a part of the
-- text, by the last of the records, and whatever completes the records completes the part and what is
-- left of the text. Where the task stood when the part began is told by the records that were to come
-- then, since a standing counts these. So are its accesses in progress: each step of the clock before the part began or
-- ended one. A wait for a lock is all of one part.
pub record Leads (s : Setting) (registers : ℕ) (body : Block) (records : List Record) (run : TaskRun) :
    Type 0 where
  pub part : Part
  pub earlier : List Record
  pub mine : List Record
  pub spelled : records ≡ earlier ++ mine
  pub waits : EndInNoWait earlier
  pub now : List Record → Standing
  pub told : (later : List Record) → IsTold registers later (now later)
  pub scopes : (later : List Record) → ScopesAreTold (now later)
  pub accesses : (later : List Record) → AccessesAreTold s earlier (now later)
  pub repeats : (later : List Record) → RepeatsAreTold (now later)
  pub agrees : (later : List Record) → Agrees s part (now later) mine run.machine run.stage
  pub left : (later : List Record) (end : Standing)
      → StepsOfBlock s 0 body (at_first registers) (records ++ later) end []
      ↔ PartLeft s part run.machine.walk (now (mine ++ later)) (mine ++ later) end []

-- where the task stands, with these records still to come
abbrev pub stands_at : {s : Setting} {registers : ℕ} {body : Block} {records : List Record} {run : TaskRun}
    → Leads s registers body records run → List Record → Standing
stands_at leads later = leads.now (leads.mine ++ later)

-- one record more, of the step that the machine is before, leads on
abbrev pub LeadsOn : TaskRun → TaskRun → Answer → Type 0
LeadsOn old new answer =
    (s : Setting) (registers : ℕ) (body : Block) (records : List Record) (step : Step)
    → Leads s registers body records old → Says old step
    → Leads s registers body (records ++ made s.text.task step answer ∷ []) new

-- the access of the part, if it has one, begins with the next record as long as none is the part's
abbrev pub BeginsNext : Setting → Part → Standing → List Record → Option Begun → Type 0
BeginsNext s (makes a operation follow) before [] next =
    (begun : Begun) × (next ≡ Some begun) × BeginsNow s before a begun
BeginsNext s (opens a) before [] next = (begun : Begun) × (next ≡ Some begun) × BeginsNow s before a begun
BeginsNext s part before mine next = next ≡ None

-- a wait of the part had as many failed tries as the rules allow, by the records of the part so far
abbrev pub WaitsTooLong : Setting → Part → Standing → List Record → Type 0
WaitsTooLong s (makes a operation follow) before mine =
    (begun : Begun) × BeginsNow s before a begun
    × AccessIsStuck (checks_of s) before.scopes begun before.asked operation mine
WaitsTooLong s (opens a) before mine = IsStuckBy s.rules.turns mine
WaitsTooLong s closes before mine = IsStuckBy s.rules.turns mine
WaitsTooLong s (locks variable) before mine =
    IsStuckAtLock s.rules.turns s.text.task (lock_number s variable) mine
WaitsTooLong s over before mine = ⊥
WaitsTooLong s (stops due) before mine = ⊥
WaitsTooLong s (unlocks variable) before mine = ⊥

-- the task is in a wait that had as many failed tries as the rules allow
abbrev pub IsStuck : {s : Setting} {registers : ℕ} {body : Block} {records : List Record} {run : TaskRun}
    → Leads s registers body records run → Type 0
IsStuck {s = s} leads = WaitsTooLong s leads.part (leads.now leads.mine) leads.mine
