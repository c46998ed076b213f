-- The parts of a text that make steps, and what is left of the text in each.
use Rattle.std.specs.Prelude.{◌≡◌, ℕ, List, [], ◌∷◌, Option, Some}
use Rattle.access_types.specs.Access.{Access}
use Rattle.access_types.specs.declared.history.Happening.TheVariants as happenings
use Rattle.access_types.specs.declared.history.Mark.TheVariants as marks
use Rattle.litmus_semantics.specs.Expressions.{loading_value}
use Rattle.litmus_semantics.specs.Meaning.{Chooses}
use Rattle.litmus_semantics.specs.Values.{sign_extended}
use Rattle.access_run.specs.memory_operation.Locks.{TakesLock}
use Rattle.access_run.specs.declared.memory_operation.effect.Effect.{Effect}
use Rattle.access_run.specs.declared.memory_operation.operation.Operation.{Operation}
use Rattle.setup_access.specs.Records.{MakesDone}
use Rattle.setup_access.specs.declared.begun.Begun.{Begun}
use Rattle.slot_table.specs.declared.records.Record.{Record}
use Rattle.slot_table.specs.declared.step.Step.TheVariants.{LockStore}
use Rattle.task_plan.specs.Follow.{Follow, Taker, assigned, condition, goes_on, loaded_by, marks_next, nobody, so_often, to_register}
use Rattle.task_plan.specs.Left.{BodyLeft, ClosesNewest, DueLeft, NothingLeft, WalkLeft}
use Rattle.task_plan.specs.declared.due.Due.{Due}
use Rattle.task_plan.specs.declared.walk.Walk.{Walk}
use Rattle.program_order.specs.Access.{Makes}
use Rattle.program_order.specs.Standing.{IsLockAt, Setting, Standing, doing, lock_number, registered}
use Rattle.program_order.specs.WrittenOrder.{OpensScope, Steps, marked_so_often}

-- reports are turned off, or on again, so many times over
abbrev pub disabled : ℕ → Standing → List Record → Standing
disabled count before later = marked_so_often count (happenings.Mark marks.Disable) before later

abbrev pub enabled : ℕ → Standing → List Record → Standing
enabled count before later = marked_so_often count (happenings.Mark marks.Enable) before later

-- before the access of a load whose value is taken so, and before any access on which this follows
abbrev pub before_taking : Taker → Standing → List Record → Standing
before_taking nobody before records = before
before_taking (to_register register value data_race) before records =
    disabled (so_often data_race) before records
before_taking (condition value) before records = before

abbrev pub before_access : Follow → Standing → List Record → Standing
before_access goes_on before records = before
before_access marks_next before records = before
before_access (assigned data_race) before records = disabled (so_often data_race) before records
before_access (loaded_by size data_races taker) before records =
    disabled data_races (before_taking taker before records) records

-- what takes the value of a load, and then what is left of the text
abbrev pub TakerLeft : Setting → Walk → Taker → ℕ → Steps
TakerLeft s walk nobody loaded before records after rest =
    WalkLeft s walk before records after rest
TakerLeft s walk (to_register register value data_race) loaded before records after rest =
    let given = loading_value before.progress.registers loaded value in
    WalkLeft s walk (enabled (so_often data_race) (registered before records register given) records)
    records after rest
TakerLeft s walk (condition value) loaded before records after rest =
    Chooses (loading_value before.progress.registers loaded value)
    (BodyLeft s walk before records after rest) (WalkLeft s walk before records after rest)

-- what follows on an access of which this came, and then what is left of the text
abbrev pub FollowLeft : Setting → Walk → Follow → Effect → Steps
FollowLeft s walk goes_on effect before records after rest =
    WalkLeft s walk before records after rest
FollowLeft s walk marks_next effect before records after rest =
    WalkLeft s walk (doing before records (happenings.Mark (marks.Next 1) ∷ [])) records after rest
FollowLeft s walk (assigned data_race) effect before records after rest =
    WalkLeft s walk (enabled (so_often data_race) before records) records after rest
FollowLeft s walk (loaded_by size data_races taker) effect before records after rest =
    (old : ℕ) × (effect.read ≡ Some old)
    × TakerLeft s walk taker (sign_extended size old) (enabled data_races before records)
    records after rest

-- a part of a text with at least one step, or none: the text is over, or what is due needs more than
-- a machine has room for
pub data Part : Type 0 where
  over : Part
  stops : Due → Part
  makes : Access → Option Operation → Follow → Part
  opens : Access → Part
  closes : Part
  locks : (variable : ℕ) → Part
  unlocks : (variable : ℕ) → Part

-- a part, and then what is left of the text
abbrev pub PartLeft : Setting → Part → Walk → Steps
PartLeft s over walk before records after rest = NothingLeft before records after rest
PartLeft s (stops due) walk before records after rest = DueLeft s due walk before records after rest
PartLeft s (makes a operation follow) walk before records after rest =
    (effect : Effect) × (between : Standing) × (later : List Record)
    × Makes s before a operation records effect between later
    × FollowLeft s walk follow effect between later after rest
PartLeft s (opens a) walk before records after rest =
    (begun : Begun) × (opened : Standing) × (inside : List Record)
    × OpensScope s before a records begun opened inside × WalkLeft s walk opened inside after rest
PartLeft s closes walk before records after rest =
    (between : Standing) × (later : List Record)
    × ClosesNewest s before records between later × WalkLeft s walk between later after rest
PartLeft s (locks variable) walk before records after rest =
    (later : List Record) × IsLockAt s variable
    × TakesLock s.text.task (lock_number s variable) records later
    × WalkLeft s walk (doing before later (happenings.Lock variable ∷ [])) later after rest
PartLeft s (unlocks variable) walk before records after rest =
    (later : List Record)
    × MakesDone s.text.task (LockStore (lock_number s variable)) (λ more. later ≡ more) records
    × WalkLeft s walk (doing before later (happenings.Unlock variable ∷ [])) later after rest
