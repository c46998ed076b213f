-- The step of the part under way is the only one that the text goes on with.
use Rattle.std.proofs.Common.{◌≡◌, ◌∙◌, ℕ, IfSome, IsNone, None, Some, ap, false, inl, inr, refl, subst, sym, true}
use Rattle.access_run.specs.Leads.{AccessOnlyStep}
use Rattle.access_run.specs.memory_operation.LockLeads.{LockSays, OnlyLockStep}
use Rattle.setup_access.specs.Leads as checks
use Rattle.slot_table.specs.declared.step.Step.TheVariants.{LockStore}
use Rattle.program_order.specs.Waits.{OnlyStep}
use Rattle.task_run.specs.Says.{IsGoingIn, StageSays}
use Rattle.task_run.specs.declared.stage.TaskStage.TheVariants as stages
use Rattle.program_order.specs.Standing.{checks_of}
use Rattle.task_run.proofs.NextLemmas.{closing_none, closing_only, locking_none, locking_only, making_none, making_only, none_left, opening_none, opening_only, over_spelled, some_says, step_only, unlocking_only, unlocking_stuck, within_on}
use Rattle.task_run.proofs.StuckLemmas.{over_by_records}
use Rattle.task_run.proofs.run.TaskRun.next.Goals as goal

pub returns-in-Over-clause-none : goal.returns-in-Over-clause-none
returns-in-Over-clause-none c = λ s registers body records leads.
    (λ h. inl (over_spelled s registers body records c.args.self.now leads c.in-Over.is), λ h. refl)

pub returns-in-Stopped-clause-none : goal.returns-in-Stopped-clause-none
returns-in-Stopped-clause-none c = λ s registers body records leads. (λ h. inr (inr c.in-Stopped.is), λ h. refl)

making : goal.returns-in-Making-clause-only
making c = λ s registers body records leads.
    step_only c.next.result (OnlyStep s registers body records)
    (λ step is. making_only s registers body records c.args.self.now leads c.in-Making.run' c.in-Making.field-1 c.in-Making.is step
    (λ scopes begun asked operation so_far own. some_says c.next.result (AccessOnlyStep (checks_of s) scopes begun asked operation so_far) step is
    (c.next.ensures.only (checks_of s) scopes begun asked operation so_far own)))

pub returns-in-Making-clause-only : goal.returns-in-Making-clause-only
returns-in-Making-clause-only c = making c

pub returns-in-Making-clause-none : goal.returns-in-Making-clause-none
returns-in-Making-clause-none c = λ s registers body records leads.
    let is = making_none s registers body records c.args.self.now leads c.in-Making.run' c.in-Making.field-1 c.in-Making.is (IsNone c.next.result)
    (λ scopes begun asked operation so_far own. c.next.ensures.none (checks_of s) scopes begun asked operation so_far own) in
    none_left s registers body records c.args.self.now leads c.next.result (making c s registers body records leads) is.0 is.1
    (λ stopped. let no : stages.Making c.in-Making.run' c.in-Making.field-1 ≡ stages.Stopped = sym c.in-Making.is ∙ stopped in cc)

opening : goal.returns-in-Opening-clause-only
opening c = λ s registers body records leads.
    step_only c.next-in-Opening.result (OnlyStep s registers body records)
    (λ step is. opening_only s registers body records c.args.self.now leads c.in-Opening.is step
    (λ scopes doing asked so_far own. some_says c.next-in-Opening.result (checks.OnlyStep (checks_of s) scopes doing asked so_far) step is
    (c.next-in-Opening.ensures.only (checks_of s) scopes doing asked so_far own)))

pub returns-in-Opening-clause-only : goal.returns-in-Opening-clause-only
returns-in-Opening-clause-only c = opening c

pub returns-in-Opening-clause-none : goal.returns-in-Opening-clause-none
returns-in-Opening-clause-none c = λ s registers body records leads.
    let is = opening_none s registers body records c.args.self.now leads c.in-Opening.is (IsNone c.next-in-Opening.result)
    (λ scopes doing asked so_far own. c.next-in-Opening.ensures.none (checks_of s) scopes doing asked so_far own) in
    none_left s registers body records c.args.self.now leads c.next-in-Opening.result (opening c s registers body records leads) is.0 is.1
    (λ stopped. let no : stages.Opening ≡ stages.Stopped = sym c.in-Opening.is ∙ stopped in cc)

closing : goal.returns-in-Closing-clause-only
closing c = λ s registers body records leads.
    step_only c.next-in-Closing.result (OnlyStep s registers body records)
    (λ step is. closing_only s registers body records c.args.self.now leads c.in-Closing.is step
    (λ scopes doing asked so_far own. some_says c.next-in-Closing.result (checks.OnlyStep (checks_of s) scopes doing asked so_far) step is
    (c.next-in-Closing.ensures.only (checks_of s) scopes doing asked so_far own)))

pub returns-in-Closing-clause-only : goal.returns-in-Closing-clause-only
returns-in-Closing-clause-only c = closing c

pub returns-in-Closing-clause-none : goal.returns-in-Closing-clause-none
returns-in-Closing-clause-none c = λ s registers body records leads.
    let is = closing_none s registers body records c.args.self.now leads c.in-Closing.is (IsNone c.next-in-Closing.result)
    (λ scopes doing asked so_far own. c.next-in-Closing.ensures.none (checks_of s) scopes doing asked so_far own) in
    none_left s registers body records c.args.self.now leads c.next-in-Closing.result (closing c s registers body records leads) is.0 is.1
    (λ stopped. let no : stages.Closing ≡ stages.Stopped = sym c.in-Closing.is ∙ stopped in cc)

locking : goal.returns-in-Locking-clause-only
locking c = λ s registers body records leads.
    step_only c.next-in-Locking.result (OnlyStep s registers body records)
    (λ step is. locking_only s registers body records c.args.self.now leads c.in-Locking.wait c.in-Locking.field-1 c.in-Locking.is
    (some_says c.next-in-Locking.result (λ x. LockSays c.in-Locking.wait x) step is c.next-in-Locking.ensures.says).0 step
    (λ lock so_far own. some_says c.next-in-Locking.result (OnlyLockStep s.text.task lock so_far) step is
    (c.next-in-Locking.ensures.only s.text.task lock so_far own)))

pub returns-in-Locking-clause-only : goal.returns-in-Locking-clause-only
returns-in-Locking-clause-only c = locking c

pub returns-in-Locking-clause-none : goal.returns-in-Locking-clause-none
returns-in-Locking-clause-none c = λ s registers body records leads.
    let is = locking_none s registers body records c.args.self.now leads c.in-Locking.wait c.in-Locking.field-1 c.in-Locking.is (IsNone c.next-in-Locking.result)
    (λ lock so_far own. c.next-in-Locking.ensures.none s.text.task lock so_far own) in
    none_left s registers body records c.args.self.now leads c.next-in-Locking.result (locking c s registers body records leads) is.0 is.1
    (λ stopped. let no : stages.Locking c.in-Locking.wait c.in-Locking.field-1 ≡ stages.Stopped = sym c.in-Locking.is ∙ stopped in cc)

pub returns-in-Unlocking-clause-says : goal.returns-in-Unlocking-clause-says
returns-in-Unlocking-clause-says c = subst (λ x. StageSays x c.args.self.now (LockStore c.lock_number.result)) (sym c.in-Unlocking.is) (ap LockStore c.lock_number.ensures.value)

unlocking : goal.returns-in-Unlocking-clause-only
unlocking c = λ s registers body records leads.
    subst (λ (n : ℕ). OnlyStep s registers body records (LockStore n)) (sym c.lock_number.ensures.value)
    (unlocking_only s registers body records c.args.self.now leads c.in-Unlocking.variable c.in-Unlocking.is)

pub returns-in-Unlocking-clause-only : goal.returns-in-Unlocking-clause-only
returns-in-Unlocking-clause-only c = unlocking c

pub returns-in-Unlocking-clause-none : goal.returns-in-Unlocking-clause-none
returns-in-Unlocking-clause-none c = λ s registers body records leads.
    none_left s registers body records c.args.self.now leads (Some (LockStore c.lock_number.result)) (unlocking c s registers body records leads)
    (λ h. absurd (let no : true ≡ false = h in cc))
    (λ stuck. absurd (unlocking_stuck s registers body records c.args.self.now leads c.in-Unlocking.variable c.in-Unlocking.is stuck))
    (λ stopped. let no : stages.Unlocking c.in-Unlocking.variable ≡ stages.Stopped = sym c.in-Unlocking.is ∙ stopped in cc)

pub returns-in-Making-clause-within : goal.returns-in-Making-clause-within
returns-in-Making-clause-within c = λ s registers body records leads.
    within_on s registers body records c.args.self.now leads c.next.result
    (subst (λ stage. IfSome c.next.result (λ step. StageSays stage c.args.self.now step)) (sym c.in-Making.is) c.next.ensures.says)
    (making_none s registers body records c.args.self.now leads c.in-Making.run' c.in-Making.field-1 c.in-Making.is (IsNone c.next.result)
    (λ scopes begun asked operation so_far own. c.next.ensures.none (checks_of s) scopes begun asked operation so_far own)).1

pub returns-in-Opening-clause-within : goal.returns-in-Opening-clause-within
returns-in-Opening-clause-within c = λ s registers body records leads.
    within_on s registers body records c.args.self.now leads c.next-in-Opening.result
    (subst (λ stage. IfSome c.next-in-Opening.result (λ step. StageSays stage c.args.self.now step)) (sym c.in-Opening.is) c.next-in-Opening.ensures.says)
    (opening_none s registers body records c.args.self.now leads c.in-Opening.is (IsNone c.next-in-Opening.result)
    (λ scopes doing asked so_far own. c.next-in-Opening.ensures.none (checks_of s) scopes doing asked so_far own)).1

pub returns-in-Closing-clause-within : goal.returns-in-Closing-clause-within
returns-in-Closing-clause-within c = λ s registers body records leads.
    within_on s registers body records c.args.self.now leads c.next-in-Closing.result
    (subst (λ stage. IfSome c.next-in-Closing.result (λ step. StageSays stage c.args.self.now step)) (sym c.in-Closing.is) c.next-in-Closing.ensures.says)
    (closing_none s registers body records c.args.self.now leads c.in-Closing.is (IsNone c.next-in-Closing.result)
    (λ scopes doing asked so_far own. c.next-in-Closing.ensures.none (checks_of s) scopes doing asked so_far own)).1

pub returns-in-Locking-clause-within : goal.returns-in-Locking-clause-within
returns-in-Locking-clause-within c = λ s registers body records leads.
    within_on s registers body records c.args.self.now leads c.next-in-Locking.result
    (subst (λ stage. IfSome c.next-in-Locking.result (λ step. StageSays stage c.args.self.now step)) (sym c.in-Locking.is) c.next-in-Locking.ensures.says)
    (locking_none s registers body records c.args.self.now leads c.in-Locking.wait c.in-Locking.field-1 c.in-Locking.is (IsNone c.next-in-Locking.result)
    (λ lock so_far own. c.next-in-Locking.ensures.none s.text.task lock so_far own)).1

pub returns-in-Unlocking-clause-within : goal.returns-in-Unlocking-clause-within
returns-in-Unlocking-clause-within c = λ s registers body records leads.
    within_on s registers body records c.args.self.now leads (Some (LockStore c.lock_number.result))
    (subst (λ x. StageSays x c.args.self.now (LockStore c.lock_number.result)) (sym c.in-Unlocking.is) (ap LockStore c.lock_number.ensures.value))
    (λ stuck. absurd (unlocking_stuck s registers body records c.args.self.now leads c.in-Unlocking.variable c.in-Unlocking.is stuck))

pub returns-in-Over-clause-over : goal.returns-in-Over-clause-over
returns-in-Over-clause-over c = λ s registers body records leads.
    over_by_records s registers body records c.args.self.now leads None tt tt (λ stuck. refl)
    (λ h. inl (over_spelled s registers body records c.args.self.now leads c.in-Over.is), λ h. refl)

pub returns-in-Stopped-clause-over : goal.returns-in-Stopped-clause-over
returns-in-Stopped-clause-over c = λ s registers body records leads.
    over_by_records s registers body records c.args.self.now leads None tt tt (λ stuck. refl) (λ h. inr (inr c.in-Stopped.is), λ h. refl)

pub returns-in-Making-clause-over : goal.returns-in-Making-clause-over
returns-in-Making-clause-over c = λ s registers body records leads.
    let is = making_none s registers body records c.args.self.now leads c.in-Making.run' c.in-Making.field-1 c.in-Making.is (IsNone c.next.result)
    (λ scopes begun asked operation so_far own. c.next.ensures.none (checks_of s) scopes begun asked operation so_far own) in
    over_by_records s registers body records c.args.self.now leads c.next.result (making c s registers body records leads)
    (subst (λ stage. IfSome c.next.result (λ step. StageSays stage c.args.self.now step)) (sym c.in-Making.is) c.next.ensures.says) is.1
    (none_left s registers body records c.args.self.now leads c.next.result (making c s registers body records leads) is.0 is.1
    (λ stopped. let no : stages.Making c.in-Making.run' c.in-Making.field-1 ≡ stages.Stopped = sym c.in-Making.is ∙ stopped in cc))

pub returns-in-Opening-clause-over : goal.returns-in-Opening-clause-over
returns-in-Opening-clause-over c = λ s registers body records leads.
    let is = opening_none s registers body records c.args.self.now leads c.in-Opening.is (IsNone c.next-in-Opening.result)
    (λ scopes doing asked so_far own. c.next-in-Opening.ensures.none (checks_of s) scopes doing asked so_far own) in
    over_by_records s registers body records c.args.self.now leads c.next-in-Opening.result (opening c s registers body records leads)
    (subst (λ stage. IfSome c.next-in-Opening.result (λ step. StageSays stage c.args.self.now step)) (sym c.in-Opening.is) c.next-in-Opening.ensures.says) is.1
    (none_left s registers body records c.args.self.now leads c.next-in-Opening.result (opening c s registers body records leads) is.0 is.1
    (λ stopped. let no : stages.Opening ≡ stages.Stopped = sym c.in-Opening.is ∙ stopped in cc))

pub returns-in-Closing-clause-over : goal.returns-in-Closing-clause-over
returns-in-Closing-clause-over c = λ s registers body records leads.
    let is = closing_none s registers body records c.args.self.now leads c.in-Closing.is (IsNone c.next-in-Closing.result)
    (λ scopes doing asked so_far own. c.next-in-Closing.ensures.none (checks_of s) scopes doing asked so_far own) in
    over_by_records s registers body records c.args.self.now leads c.next-in-Closing.result (closing c s registers body records leads)
    (subst (λ stage. IfSome c.next-in-Closing.result (λ step. StageSays stage c.args.self.now step)) (sym c.in-Closing.is) c.next-in-Closing.ensures.says) is.1
    (none_left s registers body records c.args.self.now leads c.next-in-Closing.result (closing c s registers body records leads) is.0 is.1
    (λ stopped. let no : stages.Closing ≡ stages.Stopped = sym c.in-Closing.is ∙ stopped in cc))

pub returns-in-Locking-clause-over : goal.returns-in-Locking-clause-over
returns-in-Locking-clause-over c = λ s registers body records leads.
    let is = locking_none s registers body records c.args.self.now leads c.in-Locking.wait c.in-Locking.field-1 c.in-Locking.is (IsNone c.next-in-Locking.result)
    (λ lock so_far own. c.next-in-Locking.ensures.none s.text.task lock so_far own) in
    over_by_records s registers body records c.args.self.now leads c.next-in-Locking.result (locking c s registers body records leads)
    (subst (λ stage. IfSome c.next-in-Locking.result (λ step. StageSays stage c.args.self.now step)) (sym c.in-Locking.is) c.next-in-Locking.ensures.says) is.1
    (none_left s registers body records c.args.self.now leads c.next-in-Locking.result (locking c s registers body records leads) is.0 is.1
    (λ stopped. let no : stages.Locking c.in-Locking.wait c.in-Locking.field-1 ≡ stages.Stopped = sym c.in-Locking.is ∙ stopped in cc))

pub returns-in-Unlocking-clause-over : goal.returns-in-Unlocking-clause-over
returns-in-Unlocking-clause-over c = λ s registers body records leads.
    over_by_records s registers body records c.args.self.now leads (Some (LockStore c.lock_number.result)) (unlocking c s registers body records leads)
    (subst (λ x. StageSays x c.args.self.now (LockStore c.lock_number.result)) (sym c.in-Unlocking.is) (ap LockStore c.lock_number.ensures.value))
    (λ stuck. absurd (unlocking_stuck s registers body records c.args.self.now leads c.in-Unlocking.variable c.in-Unlocking.is stuck))
    (none_left s registers body records c.args.self.now leads (Some (LockStore c.lock_number.result)) (unlocking c s registers body records leads)
    (λ h. absurd (let no : true ≡ false = h in cc))
    (λ stuck. absurd (unlocking_stuck s registers body records c.args.self.now leads c.in-Unlocking.variable c.in-Unlocking.is stuck))
    (λ stopped. let no : stages.Unlocking c.in-Unlocking.variable ≡ stages.Stopped = sym c.in-Unlocking.is ∙ stopped in cc))

pub returns-in-Over-clause-stops : goal.returns-in-Over-clause-stops
returns-in-Over-clause-stops c = λ s registers body records leads step says none.
    absurd (subst (λ stage. StageSays stage c.args.self.now step) c.in-Over.is says)

pub returns-in-Stopped-clause-stops : goal.returns-in-Stopped-clause-stops
returns-in-Stopped-clause-stops c = λ s registers body records leads step says none.
    absurd (subst (λ stage. StageSays stage c.args.self.now step) c.in-Stopped.is says)

pub returns-in-Unlocking-clause-stops : goal.returns-in-Unlocking-clause-stops
returns-in-Unlocking-clause-stops c = λ s registers body records leads step says none.
    absurd (let no : true ≡ false = none in cc)

pub returns-in-Making-clause-stops : goal.returns-in-Making-clause-stops
returns-in-Making-clause-stops c = λ s registers body records leads step says none.
    (making_none s registers body records c.args.self.now leads c.in-Making.run' c.in-Making.field-1 c.in-Making.is (IsNone c.next.result)
    (λ scopes begun asked operation so_far own. c.next.ensures.none (checks_of s) scopes begun asked operation so_far own)).0 none

pub returns-in-Opening-clause-stops : goal.returns-in-Opening-clause-stops
returns-in-Opening-clause-stops c = λ s registers body records leads step says none.
    (opening_none s registers body records c.args.self.now leads c.in-Opening.is (IsNone c.next-in-Opening.result)
    (λ scopes doing asked so_far own. c.next-in-Opening.ensures.none (checks_of s) scopes doing asked so_far own)).0 none

pub returns-in-Closing-clause-stops : goal.returns-in-Closing-clause-stops
returns-in-Closing-clause-stops c = λ s registers body records leads step says none.
    (closing_none s registers body records c.args.self.now leads c.in-Closing.is (IsNone c.next-in-Closing.result)
    (λ scopes doing asked so_far own. c.next-in-Closing.ensures.none (checks_of s) scopes doing asked so_far own)).0 none

pub returns-in-Locking-clause-stops : goal.returns-in-Locking-clause-stops
returns-in-Locking-clause-stops c = λ s registers body records leads step says none.
    (locking_none s registers body records c.args.self.now leads c.in-Locking.wait c.in-Locking.field-1 c.in-Locking.is (IsNone c.next-in-Locking.result)
    (λ lock so_far own. c.next-in-Locking.ensures.none s.text.task lock so_far own)).0 none

pub returns-in-Over-clause-going : goal.returns-in-Over-clause-going
returns-in-Over-clause-going c = λ s registers body records leads going. absurd (subst IsGoingIn c.in-Over.is going)

pub returns-in-Stopped-clause-going : goal.returns-in-Stopped-clause-going
returns-in-Stopped-clause-going c = λ s registers body records leads going. absurd (subst IsGoingIn c.in-Stopped.is going)

pub returns-in-Making-clause-going : goal.returns-in-Making-clause-going
returns-in-Making-clause-going c = λ s registers body records leads going.
    making_none s registers body records c.args.self.now leads c.in-Making.run' c.in-Making.field-1 c.in-Making.is (IsNone c.next.result)
    (λ scopes begun asked operation so_far own. c.next.ensures.none (checks_of s) scopes begun asked operation so_far own)

pub returns-in-Opening-clause-going : goal.returns-in-Opening-clause-going
returns-in-Opening-clause-going c = λ s registers body records leads going.
    opening_none s registers body records c.args.self.now leads c.in-Opening.is (IsNone c.next-in-Opening.result)
    (λ scopes doing asked so_far own. c.next-in-Opening.ensures.none (checks_of s) scopes doing asked so_far own)

pub returns-in-Closing-clause-going : goal.returns-in-Closing-clause-going
returns-in-Closing-clause-going c = λ s registers body records leads going.
    closing_none s registers body records c.args.self.now leads c.in-Closing.is (IsNone c.next-in-Closing.result)
    (λ scopes doing asked so_far own. c.next-in-Closing.ensures.none (checks_of s) scopes doing asked so_far own)

pub returns-in-Locking-clause-going : goal.returns-in-Locking-clause-going
returns-in-Locking-clause-going c = λ s registers body records leads going.
    locking_none s registers body records c.args.self.now leads c.in-Locking.wait c.in-Locking.field-1 c.in-Locking.is (IsNone c.next-in-Locking.result)
    (λ lock so_far own. c.next-in-Locking.ensures.none s.text.task lock so_far own)

pub returns-in-Unlocking-clause-going : goal.returns-in-Unlocking-clause-going
returns-in-Unlocking-clause-going c = λ s registers body records leads going. (
  λ none. absurd (let no : true ≡ false = none in cc),
  λ stuck. absurd (unlocking_stuck s registers body records c.args.self.now leads c.in-Unlocking.variable c.in-Unlocking.is stuck),
)
