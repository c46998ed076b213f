-- What an execution says of the accesses, the armings and the takings of its tasks that are over.
use Rattle.std.specs.Prelude.{◌≡◌, ◌==◌, ◌<◌, ◌++◌, ℕ, zero, suc, List, [], ◌∷◌, All, AllPairs, Contains, MatchBool, Some, count_by, filter, length, map, if◌then◌else◌}
use Rattle.access_types.specs.Access.{Access}
use Rattle.access_types.specs.Arms.{Arm}
use Rattle.access_types.specs.Stamped.{Stamped}
use Rattle.access_types.specs.Takes.{Take}
use Rattle.access_types.specs.Ticket.{ticket_number}
use Rattle.access_types.specs.declared.arms.ArmOutcome.{ArmOutcome}
use Rattle.access_types.specs.declared.arms.ArmOutcome.TheVariants as arms
use Rattle.access_types.specs.declared.arms.HitResult.{HitResult}
use Rattle.access_types.specs.declared.arms.HitResult.TheVariants as results
use Rattle.access_types.specs.declared.history.Happening.TheVariants.{End}
use Rattle.executions.specs.execution.Run.{Run}
use Rattle.executions.specs.execution.Execution.{Execution}
use Rattle.executions.specs.execution.Observed.{OutcomeAt, came_next, made_by}
use Rattle.log_correctness.specs.Decided.{IsStampedSo}
use Rattle.log_correctness.specs.Spans.{HappensAt, IsSpan, is_end}
use Rattle.soundness.specs.Watches.{is_verdict}
use Rattle.setup_access.specs.declared.outcome.Outcome.{Outcome}
use Rattle.setup_access.specs.declared.outcome.Outcome.TheVariants as outcomes
use Rattle.slot_table.specs.Armings.{last_arming, last_arming_number}
use Rattle.slot_table.specs.Meetings.{Meeting, finders_told, told_by}
use Rattle.slot_table.specs.declared.records.Record.{Record}
use Rattle.slot_table.specs.declared.step.Step.{Step}
use Rattle.slot_table.specs.declared.step.Step.TheVariants.{Remove}
use Rattle.task_log.specs.Noted.{dropped}
use Rattle.program_order.specs.TaskObserved.{did_by}

-- the accesses of a task that have ended: each began and ended in the list at its stamps, and is marked and
-- silenced as the history decides; each end in the list is that of one of them, and they are as many as
-- have ended; they stand in the order of their begins
pub record AreAccessesOf {run : Run} {records : List Record} (list : Execution run records) (task : ℕ)
    (accesses : List Stamped) : Type 0 where
  pub spans : All (IsSpan list task) accesses
  pub decided : All (IsStampedSo list) accesses
  pub all : (a : Access) (end : ℕ) → HappensAt list task (End a) end
      → (one : Stamped) × Contains accesses one × (one.access ≡ a) × (one.end ≡ end)
  pub many : length accesses ≡ count_by is_end (did_by (list.tasks task) (made_by task records))
  pub ordered : AllPairs (λ one later. one.begin < later.begin) accesses

-- the verdicts on watchpoints that fell at these records of a task, in this order
abbrev pub verdicts_by : {run : Run} {all : List Record} → Execution run all → ℕ → List Record → List OutcomeAt
verdicts_by list task [] = []
verdicts_by list task (latest ∷ earlier) =
    verdicts_by list task earlier
    ++ (if latest.task == task then filter (λ came. is_verdict came.outcome) (came_next list latest earlier) else [])

-- an arming was hit by the finder that told over it
pub record IsHit (records : List Record) (index number setter : ℕ) (result : HitResult)
    (outcome : ArmOutcome) : Type 0 where
  pub finder : ℕ
  pub told : Contains (finders_told records) (record {
    index = index;
    number = number;
    setter = setter;
    finder = finder;
  })
  pub is : outcome ≡ arms.Hit finder result

-- what became of the arming with this number at this index, by the verdict on it
abbrev pub Became : List Record → ℕ → ℕ → ℕ → Outcome → ArmOutcome → Type 0
Became records index number setter outcomes.Quiet outcome = outcome ≡ arms.Quiet
Became records index number setter (outcomes.Unknown old new) outcome = outcome ≡ arms.Origin
Became records index number setter (outcomes.Report pair seen) outcome =
    IsHit records index number setter results.Report outcome
Became records index number setter (outcomes.Dropped reason) outcome =
    IsHit records index number setter (dropped reason) outcome
Became records index number setter verdict outcome = ⊥

-- An arming that a task removes from an index after these records, and after these armings: the last one
-- there, which is its own. The verdict that last fell for the task is on this very arming, and says whose
-- access set it up and what became of it.
pub record IsArm {run : Run} {records : List Record} (list : Execution run records) (task index : ℕ)
    (earlier : List Record) (before : List Arm) (arm : Arm) : Type 0 where
  pub number : ℕ
  pub last : last_arming_number index earlier ≡ Some number
  pub armed : last_arming index earlier ≡ Some (record { setter = task; word = arm.watch_word })
  pub index_is : arm.index ≡ index
  pub older : List OutcomeAt
  pub verdict : OutcomeAt
  pub verdict_is : verdicts_by list task earlier ≡ older ++ verdict ∷ []
  pub on : verdict.arming ≡ Some (record { index = index; number = number })
  pub setter : arm.setter ≡ ticket_number verdict.access
  pub became : Became records index number arm.setter verdict.outcome arm.outcome
  pub repeats : arm.number ≡ count_by (λ (one : Arm). one.setter == arm.setter) before

-- with one more step of the task
abbrev pub AreArmsAt : {run : Run} {all : List Record} → Execution run all → ℕ → Step → List Record → List Arm
    → List Arm → Type 0
AreArmsAt list task (Remove index) earlier before after =
    (arm : Arm) × IsArm list task index earlier before arm × (after ≡ before ++ arm ∷ [])
AreArmsAt list task step earlier before after = after ≡ before

-- these are the armings that a task has removed by these records, in this order
abbrev pub AreArmsBy : {run : Run} {all : List Record} → Execution run all → ℕ → List Record → List Arm → Type 0
AreArmsBy list task [] after = after ≡ []
AreArmsBy list task (latest ∷ earlier) after =
    (before : List Arm) × AreArmsBy list task earlier before
    × MatchBool (latest.task == task) (AreArmsAt list task latest.step earlier before after) (after ≡ before)

-- all armings of a task that are over
abbrev pub AreArmsOf : {run : Run} {all : List Record} → Execution run all → ℕ → List Arm → Type 0
AreArmsOf {all = all} list task armings = AreArmsBy list task all armings

-- a taking, as its finder told over it
abbrev pub take_of : Meeting → Take
take_of met = record { finder = met.finder; index = met.index; setter = met.setter }

-- the takings over which a task has told by these records, in this order
abbrev pub takes_by : ℕ → List Record → List Take
takes_by task [] = []
takes_by task (latest ∷ earlier) =
    takes_by task earlier
    ++ (if latest.task == task then map take_of (told_by latest.task latest.step earlier []) else [])

-- all takings of a task that are over
abbrev pub AreTakesOf : {run : Run} {all : List Record} → Execution run all → ℕ → List Take → Type 0
AreTakesOf {all = all} list task takings = takings ≡ takes_by task all

-- those of each task below a number, one task after the other
abbrev pub ByTask : {X : Type 0} → (ℕ → List X → Type 0) → ℕ → List X → Type 0
ByTask Of zero all = all ≡ []
ByTask {X = X} Of (suc task) all = (some own : List X) × (all ≡ some ++ own) × ByTask Of task some × Of task own

-- the accesses, the armings and the takings of all tasks
abbrev pub AreAccesses : {run : Run} {all : List Record} → Execution run all → List Stamped → Type 0
AreAccesses {run = run} list accesses = ByTask (AreAccessesOf list) (length run.program.tasks) accesses

abbrev pub AreArms : {run : Run} {all : List Record} → Execution run all → List Arm → Type 0
AreArms {run = run} list armings = ByTask (AreArmsOf list) (length run.program.tasks) armings

abbrev pub AreTakes : {run : Run} {all : List Record} → Execution run all → List Take → Type 0
AreTakes {run = run} list takings = ByTask (AreTakesOf list) (length run.program.tasks) takings
