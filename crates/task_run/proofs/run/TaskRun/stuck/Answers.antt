-- A wait is stuck by its own count of failed tries, and the records tell the same.
use Rattle.std.proofs.Common.{◌≡◌, ◌↔◌, ◌^◌, ◌≤◌, ℕ, IsTrue, List, false, true}
use Rattle.litmus_syntax.specs.Limits.{BlockScopes, block_rises}
use Rattle.litmus_syntax.specs.Tree.{Block}
use Rattle.slot_table.specs.declared.records.Record.{Record}
use Rattle.task_run.proofs.GoingLemmas.{stuck_as_told}
use Rattle.task_run.proofs.NextLemmas.{closing_stuck, locking_stuck, making_stuck, opening_stuck, over_stuck, stopped_stuck, unlocking_stuck}
use Rattle.task_run.proofs.run.TaskRun.stuck.Goals as goal
use Rattle.task_run.specs.Leads.{IsStuck, Leads}
use Rattle.task_run.specs.declared.run.TaskRun.{TaskRun}
use Rattle.program_order.specs.Standing.{Setting, checks_of}
use Rattle.program_order.specs.Waits as waits
use Rattle.program_order.specs.WrittenOrder.{WrittenOrder}

-- what says that the part waits too long says it of the records
by_records : (Says : Type 0) (run : TaskRun)
    → ((s : Setting) (registers : ℕ) (body : Block) (records : List Record) → (leads : Leads s registers body records run) → Says ↔ IsStuck leads)
    → (s : Setting) (registers : ℕ) (body : Block) (records : List Record) → Leads s registers body records run
    → WrittenOrder s registers body records → BlockScopes 0 body → block_rises body ≤ 2 ^ 32 → Says ↔ waits.IsStuck s registers body records
by_records Says run says s registers body records leads written few rises =
    let is = says s registers body records leads in
    let told = stuck_as_told s registers body records run leads few rises written in
    (λ h. told.0 (is.0 h), λ by. is.1 (told.1 by))

-- what is never stuck doesn't say that it is
never : (Stuck : Type 0) → ¬ Stuck → IsTrue false ↔ Stuck
never Stuck none = (λ h. absurd (let no : false ≡ true = h in cc), λ stuck. absurd (none stuck))

pub returns-in-Over-clause-stage : goal.returns-in-Over-clause-stage
returns-in-Over-clause-stage c = λ s registers body records leads.
    never (IsStuck leads) (over_stuck s registers body records c.args.self.now leads c.in-Over.is)

pub returns-in-Over-clause-records : goal.returns-in-Over-clause-records
returns-in-Over-clause-records c = by_records (IsTrue false) c.args.self.now (returns-in-Over-clause-stage c)

pub returns-in-Stopped-clause-stage : goal.returns-in-Stopped-clause-stage
returns-in-Stopped-clause-stage c = λ s registers body records leads.
    never (IsStuck leads) (stopped_stuck s registers body records c.args.self.now leads c.in-Stopped.is)

pub returns-in-Stopped-clause-records : goal.returns-in-Stopped-clause-records
returns-in-Stopped-clause-records c = by_records (IsTrue false) c.args.self.now (returns-in-Stopped-clause-stage c)

pub returns-in-Making-clause-stage : goal.returns-in-Making-clause-stage
returns-in-Making-clause-stage c = λ s registers body records leads.
    making_stuck s registers body records c.args.self.now leads c.in-Making.run' c.in-Making.field-1 c.in-Making.is (IsTrue c.stuck.result)
    (λ scopes begun asked operation so_far own. c.stuck.ensures (checks_of s) scopes begun asked operation so_far own)

pub returns-in-Making-clause-records : goal.returns-in-Making-clause-records
returns-in-Making-clause-records c = by_records (IsTrue c.stuck.result) c.args.self.now (returns-in-Making-clause-stage c)

pub returns-in-Opening-clause-stage : goal.returns-in-Opening-clause-stage
returns-in-Opening-clause-stage c = λ s registers body records leads.
    opening_stuck s registers body records c.args.self.now leads c.in-Opening.is (IsTrue c.stuck-in-Opening.result)
    (λ scopes doing asked so_far own. c.stuck-in-Opening.ensures.records (checks_of s) scopes doing asked so_far own)

pub returns-in-Opening-clause-records : goal.returns-in-Opening-clause-records
returns-in-Opening-clause-records c = by_records (IsTrue c.stuck-in-Opening.result) c.args.self.now (returns-in-Opening-clause-stage c)

pub returns-in-Closing-clause-stage : goal.returns-in-Closing-clause-stage
returns-in-Closing-clause-stage c = λ s registers body records leads.
    closing_stuck s registers body records c.args.self.now leads c.in-Closing.is (IsTrue c.stuck-in-Closing.result)
    (λ scopes doing asked so_far own. c.stuck-in-Closing.ensures.records (checks_of s) scopes doing asked so_far own)

pub returns-in-Closing-clause-records : goal.returns-in-Closing-clause-records
returns-in-Closing-clause-records c = by_records (IsTrue c.stuck-in-Closing.result) c.args.self.now (returns-in-Closing-clause-stage c)

pub returns-in-Locking-clause-stage : goal.returns-in-Locking-clause-stage
returns-in-Locking-clause-stage c = λ s registers body records leads.
    locking_stuck s registers body records c.args.self.now leads c.in-Locking.wait c.in-Locking.field-1 c.in-Locking.is (IsTrue c.stuck-in-Locking.result)
    (λ lock so_far own. c.stuck-in-Locking.ensures s.text.task lock so_far own)

pub returns-in-Locking-clause-records : goal.returns-in-Locking-clause-records
returns-in-Locking-clause-records c = by_records (IsTrue c.stuck-in-Locking.result) c.args.self.now (returns-in-Locking-clause-stage c)

pub returns-in-Unlocking-clause-stage : goal.returns-in-Unlocking-clause-stage
returns-in-Unlocking-clause-stage c = λ s registers body records leads.
    never (IsStuck leads) (unlocking_stuck s registers body records c.args.self.now leads c.in-Unlocking.field-0 c.in-Unlocking.is)

pub returns-in-Unlocking-clause-records : goal.returns-in-Unlocking-clause-records
returns-in-Unlocking-clause-records c = by_records (IsTrue false) c.args.self.now (returns-in-Unlocking-clause-stage c)
