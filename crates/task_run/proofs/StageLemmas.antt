-- The stage of a task's machine tells which part of its text it is in: each part has a stage of its own.
use Rattle.std.proofs.Common.{◌≡◌, ◌∙◌, List, Option, refl, sym, ap}
use Rattle.access_run.specs.declared.access.AccessRun.{AccessRun}
use Rattle.access_types.specs.Access as access
use Rattle.access_run.specs.declared.memory_operation.lock.LockWait.{LockWait}
use Rattle.access_run.specs.declared.memory_operation.operation.Operation.{Operation}
use Rattle.slot_table.specs.declared.records.Record.{Record}
use Rattle.std.specs.Prelude.{ℕ}
use Rattle.task_plan.specs.Follow.{Follow}
use Rattle.task_plan.specs.Views.{follow_of}
use Rattle.task_plan.specs.declared.follow.Then.{Then}
use Rattle.task_run.specs.Agrees.{IsIn, in_part}
use Rattle.task_run.specs.Part.{Part, closes, locks, makes, opens, over, stops, unlocks}
use Rattle.task_run.specs.declared.machine.Machine.{Machine}
use Rattle.task_run.specs.declared.stage.TaskStage.{TaskStage}
use Rattle.task_run.specs.declared.stage.TaskStage.TheVariants as stages
use Rattle.program_order.specs.Standing.{Setting, Standing}

module _ (s : Setting) (before : Standing) (mine : List Record) (machine : Machine) (stage : TaskStage) where
  pub in_opening : (part : Part) → IsIn s part before mine machine stage → stage ≡ stages.Opening → (a : access.Access) × (part ≡ opens a)
  in_opening over h is = absurd (let no : stages.Over ≡ stages.Opening = sym h.0 ∙ is in cc)
  in_opening (stops due) h is = absurd (let no : stages.Stopped ≡ stages.Opening = sym h.0 ∙ is in cc)
  in_opening (makes a operation follow) h is = absurd (let no : stages.Making h.0 h.1 ≡ stages.Opening = sym h.3 ∙ is in cc)
  in_opening (opens a) h is = (a, refl)
  in_opening closes h is = absurd (let no : stages.Closing ≡ stages.Opening = sym h.3 ∙ is in cc)
  in_opening (locks variable) h is = absurd (let no : stages.Locking h.0 variable ≡ stages.Opening = sym h.1 ∙ is in cc)
  in_opening (unlocks variable) h is = absurd (let no : stages.Unlocking variable ≡ stages.Opening = sym h.0 ∙ is in cc)

  pub in_closing : (part : Part) → IsIn s part before mine machine stage → stage ≡ stages.Closing → part ≡ closes
  in_closing over h is = absurd (let no : stages.Over ≡ stages.Closing = sym h.0 ∙ is in cc)
  in_closing (stops due) h is = absurd (let no : stages.Stopped ≡ stages.Closing = sym h.0 ∙ is in cc)
  in_closing (makes a operation follow) h is = absurd (let no : stages.Making h.0 h.1 ≡ stages.Closing = sym h.3 ∙ is in cc)
  in_closing (opens a) h is = absurd (let no : stages.Opening ≡ stages.Closing = sym h.1 ∙ is in cc)
  in_closing closes h is = refl
  in_closing (locks variable) h is = absurd (let no : stages.Locking h.0 variable ≡ stages.Closing = sym h.1 ∙ is in cc)
  in_closing (unlocks variable) h is = absurd (let no : stages.Unlocking variable ≡ stages.Closing = sym h.0 ∙ is in cc)

  pub in_making : (part : Part) → IsIn s part before mine machine stage → (run : AccessRun) (kept : Then) → stage ≡ stages.Making run kept
      → (a : access.Access) × (operation : Option Operation) × (part ≡ makes a operation (follow_of kept))
  in_making over h run kept is = absurd (let no : stages.Over ≡ stages.Making run kept = sym h.0 ∙ is in cc)
  in_making (stops due) h run kept is = absurd (let no : stages.Stopped ≡ stages.Making run kept = sym h.0 ∙ is in cc)
  in_making (makes a operation follow) h run kept is =
      let both : stages.Making h.0 h.1 ≡ stages.Making run kept = sym h.3 ∙ is in
      let same : h.1 ≡ kept = cc in
      (a, operation, ap (λ (f : Follow). makes a operation f) (sym h.4 ∙ ap (λ (k : Then). follow_of k) same))
  in_making (opens a) h run kept is = absurd (let no : stages.Opening ≡ stages.Making run kept = sym h.1 ∙ is in cc)
  in_making closes h run kept is = absurd (let no : stages.Closing ≡ stages.Making run kept = sym h.3 ∙ is in cc)
  in_making (locks variable) h run kept is = absurd (let no : stages.Locking h.0 variable ≡ stages.Making run kept = sym h.1 ∙ is in cc)
  in_making (unlocks variable) h run kept is = absurd (let no : stages.Unlocking variable ≡ stages.Making run kept = sym h.0 ∙ is in cc)

  pub in_locking : (part : Part) → IsIn s part before mine machine stage → (wait : LockWait) (lock : ℕ) → stage ≡ stages.Locking wait lock → part ≡ locks lock
  in_locking over h wait lock is = absurd (let no : stages.Over ≡ stages.Locking wait lock = sym h.0 ∙ is in cc)
  in_locking (stops due) h wait lock is = absurd (let no : stages.Stopped ≡ stages.Locking wait lock = sym h.0 ∙ is in cc)
  in_locking (makes a operation follow) h wait lock is = absurd (let no : stages.Making h.0 h.1 ≡ stages.Locking wait lock = sym h.3 ∙ is in cc)
  in_locking (opens a) h wait lock is = absurd (let no : stages.Opening ≡ stages.Locking wait lock = sym h.1 ∙ is in cc)
  in_locking closes h wait lock is = absurd (let no : stages.Closing ≡ stages.Locking wait lock = sym h.3 ∙ is in cc)
  in_locking (locks variable) h wait lock is =
      let both : stages.Locking h.0 variable ≡ stages.Locking wait lock = sym h.1 ∙ is in
      let same : variable ≡ lock = cc in ap (λ (v : ℕ). locks v) same
  in_locking (unlocks variable) h wait lock is = absurd (let no : stages.Unlocking variable ≡ stages.Locking wait lock = sym h.0 ∙ is in cc)

  pub in_unlocking : (part : Part) → IsIn s part before mine machine stage → (lock : ℕ) → stage ≡ stages.Unlocking lock → part ≡ unlocks lock
  in_unlocking over h lock is = absurd (let no : stages.Over ≡ stages.Unlocking lock = sym h.0 ∙ is in cc)
  in_unlocking (stops due) h lock is = absurd (let no : stages.Stopped ≡ stages.Unlocking lock = sym h.0 ∙ is in cc)
  in_unlocking (makes a operation follow) h lock is = absurd (let no : stages.Making h.0 h.1 ≡ stages.Unlocking lock = sym h.3 ∙ is in cc)
  in_unlocking (opens a) h lock is = absurd (let no : stages.Opening ≡ stages.Unlocking lock = sym h.1 ∙ is in cc)
  in_unlocking closes h lock is = absurd (let no : stages.Closing ≡ stages.Unlocking lock = sym h.3 ∙ is in cc)
  in_unlocking (locks variable) h lock is = absurd (let no : stages.Locking h.0 variable ≡ stages.Unlocking lock = sym h.1 ∙ is in cc)
  in_unlocking (unlocks variable) h lock is =
      let both : stages.Unlocking variable ≡ stages.Unlocking lock = sym h.0 ∙ is in
      let same : variable ≡ lock = cc in ap (λ (v : ℕ). unlocks v) same

-- the beginning of an access leaves registers and counts
pub part_registers : (part : Part) (before : Standing) → (in_part part before).progress.registers ≡ before.progress.registers
part_registers over before = refl
part_registers (stops due) before = refl
part_registers (makes a operation follow) before = refl
part_registers (opens a) before = refl
part_registers closes before = refl
part_registers (locks variable) before = refl
part_registers (unlocks variable) before = refl

pub part_unbalanced : (part : Part) (before : Standing) → (in_part part before).unbalanced ≡ before.unbalanced
part_unbalanced over before = refl
part_unbalanced (stops due) before = refl
part_unbalanced (makes a operation follow) before = refl
part_unbalanced (opens a) before = refl
part_unbalanced closes before = refl
part_unbalanced (locks variable) before = refl
part_unbalanced (unlocks variable) before = refl
