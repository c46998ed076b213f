-- By the logs, and by what the list says of its reports.
use Rattle.std.proofs.Common.{Err, IfOk, Ok, Result}
use Rattle.accepted_traces.proofs.Parted.{all_reported}
use Rattle.accepted_traces.specs.Parts.{ReportFits}
use Rattle.litmus_step.specs.Runs.{tasks_of}
use Rattle.runner.proofs.result.RunResult.accesses.Goals as goal

map_ok : {X E : Type 0} {P Q : X → Type 0} (result : Result X E) → ((x : X) → P x → Q x) → IfOk result P → IfOk result Q
map_ok (Ok x) follows holds = follows x holds
map_ok (Err error) follows holds = tt

pub returns-clause-all : goal.returns-clause-all
returns-clause-all c = λ run records list is. c.accesses_of.ensures run records list is.can.limits (rw c.as_slice.ensures.value is.logs)

pub returns-clause-races : goal.returns-clause-races
returns-clause-races c = λ run records list is.
    map_ok c.accesses_of.result
    (λ all are. all_reported list (ReportFits all.items) (tasks_of run) c.args.self.now.reports.items is.reports
    (c.law_reports_are_of_ended_accesses.ensures run records list is.can.limits is.ended all.items are))
    (c.accesses_of.ensures run records list is.can.limits (rw c.as_slice.ensures.value is.logs))
