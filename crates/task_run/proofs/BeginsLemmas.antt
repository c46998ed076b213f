-- One part of a text after another, up to the next that makes a step.
use Rattle.std.proofs.Common.{◌≡◌, List, []}
use Rattle.slot_table.specs.declared.records.Record.{Record}
use Rattle.task_run.proofs.ToldLemmas.{computes_both}
use Rattle.task_run.specs.Agrees.{Begins}
use Rattle.task_run.specs.Due.{EndsAtOnce}
use Rattle.task_run.specs.Stands.{SameToEnd, Stands}
use Rattle.task_run.specs.Position.{ComputesBy}
use Rattle.task_run.specs.declared.machine.Machine.{Machine}
use Rattle.task_run.specs.declared.stage.TaskStage.{TaskStage}
use Rattle.task_plan.proofs.StepsLemmas.{through}
use Rattle.task_plan.specs.Left.{Same, WalkLeft}
use Rattle.program_order.specs.Standing.{Setting, Standing}
use Rattle.program_order.specs.WrittenOrder.{Steps}

-- where a task stands is no matter of its walk
pub walked : (s : Setting) (before : Standing) (old new : Machine) → new ≡ record old { walk = new.walk } → Stands s before old
    → Stands s before new
walked s before old new is stands = rw is (record {
  of = record {
    task = stands.of.task;
    rules = stands.of.rules;
    variables = stands.of.variables;
    layout = stands.of.layout;
    sites = stands.of.sites;
  };
  counts = record {
    keeps = stands.counts.keeps;
    context = stands.counts.context;
    in_force = stands.counts.in_force;
  };
  rests = stands.rests;
})

-- the same steps to the end, said otherwise
pub to_end : (P Q R : Steps) (before now : List Record → Standing) → SameToEnd P before Q now → Same Q R → SameToEnd P before R now
to_end P Q R before now same other later end = through (same later end) (other (now later) later end [])

pub to_end_then : (P Q R : Steps) (before now next : List Record → Standing) → SameToEnd P before Q now → SameToEnd Q now R next
    → SameToEnd P before R next
to_end_then P Q R before now next first second later end = through (first later end) (second later end)

-- a part that is over at once, before what is over at once or begins
pub ends_then : (s : Setting) (P : Steps) (before : List Record → Standing) (Q : Steps) (now : List Record → Standing) (machine : Machine)
    → SameToEnd P before Q now → ComputesBy before now → EndsAtOnce s Q now machine → EndsAtOnce s P before machine
ends_then s P before Q now machine same computes ends =
    (ends.0, ends.1, to_end_then P Q (WalkLeft s machine.walk) before now ends.0 same ends.2, λ later. computes_both (computes later) (ends.3 later))

pub begins_then : (s : Setting) (P : Steps) (before : List Record → Standing) (Q : Steps) (now : List Record → Standing) (machine : Machine)
    (stage : TaskStage) → SameToEnd P before Q now → ComputesBy before now → Begins s Q now machine stage → Begins s P before machine stage
begins_then s P before Q now machine stage same computes begins =
    (begins.0, begins.1, begins.2, λ later end. through (same later end) (begins.3 later end), λ later. computes_both (computes later) (begins.4 later))
