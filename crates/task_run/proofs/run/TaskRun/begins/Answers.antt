-- An access begins as long as it has no record, and none in another part.
use Rattle.std.proofs.Common.{◌++◌, subst, sym}
use Rattle.task_plan.specs.Views.{follow_of}
use Rattle.task_run.proofs.LeadsLemmas.{agrees_in}
use Rattle.task_run.proofs.StageLemmas.{in_making, in_opening}
use Rattle.task_run.proofs.TellLemmas.{IsQuiet, making_begins, none_begins, opening_begins}
use Rattle.task_run.proofs.run.TaskRun.begins.Goals as goal
use Rattle.task_run.specs.Leads.{BeginsNext}
use Rattle.task_run.specs.Part.{Part, makes, opens}
use Rattle.task_run.specs.declared.stage.TaskStage.{TaskStage}

pub returns-in-Making : goal.returns-in-Making
returns-in-Making c = λ s registers body records leads later.
    let before = leads.now (leads.mine ++ later) in
    let kept = c.in-Making.field-1 in
    let part = in_making s before leads.mine c.args.self.now.machine c.args.self.now.stage leads.part (leads.agrees
    (leads.mine ++ later)).is_in c.in-Making.field-0 kept c.in-Making.is in
    let is_in = (agrees_in s registers body records c.args.self.now leads (makes part.0 part.1 (follow_of kept)) part.2 (leads.mine ++ later)).is_in in
    subst (λ (p : Part). BeginsNext s p before leads.mine c.args.self.now.machine.begins) (sym part.2)
    (making_begins s before part.0 part.1 (follow_of kept) is_in.2 leads.mine c.args.self.now.machine.begins is_in.6 is_in.9)

pub returns-in-Opening : goal.returns-in-Opening
returns-in-Opening c = λ s registers body records leads later.
    let before = leads.now (leads.mine ++ later) in
    let part = in_opening s before leads.mine c.args.self.now.machine c.args.self.now.stage leads.part (leads.agrees
    (leads.mine ++ later)).is_in c.in-Opening.is in
    let is_in = (agrees_in s registers body records c.args.self.now leads (opens part.0) part.1 (leads.mine ++ later)).is_in in
    subst (λ (p : Part). BeginsNext s p before leads.mine c.args.self.now.machine.begins) (sym part.1)
    (opening_begins s before part.0 is_in.0 leads.mine c.args.self.now.machine.begins is_in.2 is_in.6)

pub returns-in-Closing : goal.returns-in-Closing
returns-in-Closing c = λ s registers body records leads later.
    none_begins s (leads.now (leads.mine ++ later)) leads.mine c.args.self.now.machine c.args.self.now.stage leads.part (leads.agrees
    (leads.mine ++ later)).is_in
    (subst (λ (x : TaskStage). IsQuiet x) (sym c.in-Closing.is) tt)

pub returns-in-Locking : goal.returns-in-Locking
returns-in-Locking c = λ s registers body records leads later.
    none_begins s (leads.now (leads.mine ++ later)) leads.mine c.args.self.now.machine c.args.self.now.stage leads.part (leads.agrees
    (leads.mine ++ later)).is_in
    (subst (λ (x : TaskStage). IsQuiet x) (sym c.in-Locking.is) tt)

pub returns-in-Unlocking : goal.returns-in-Unlocking
returns-in-Unlocking c = λ s registers body records leads later.
    none_begins s (leads.now (leads.mine ++ later)) leads.mine c.args.self.now.machine c.args.self.now.stage leads.part (leads.agrees
    (leads.mine ++ later)).is_in
    (subst (λ (x : TaskStage). IsQuiet x) (sym c.in-Unlocking.is) tt)

pub returns-in-Over : goal.returns-in-Over
returns-in-Over c = λ s registers body records leads later.
    none_begins s (leads.now (leads.mine ++ later)) leads.mine c.args.self.now.machine c.args.self.now.stage leads.part (leads.agrees
    (leads.mine ++ later)).is_in
    (subst (λ (x : TaskStage). IsQuiet x) (sym c.in-Over.is) tt)

pub returns-in-Stopped : goal.returns-in-Stopped
returns-in-Stopped c = λ s registers body records leads later.
    none_begins s (leads.now (leads.mine ++ later)) leads.mine c.args.self.now.machine c.args.self.now.stage leads.part (leads.agrees
    (leads.mine ++ later)).is_in
    (subst (λ (x : TaskStage). IsQuiet x) (sym c.in-Stopped.is) tt)
