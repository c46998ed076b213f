-- A statement, by its form.
use Rattle.std.proofs.lemmas.Result.{IfOk-weaker}
use Rattle.litmus_syntax.specs.Views.{load_of}
use Rattle.task_run.proofs.PlanLemmas.{begins_load_only}
use Rattle.std.proofs.lemmas.Result.{IfErr-weaker}
use Rattle.task_run.proofs.StopLemmas.{stops_load_only}
use Rattle.task_run.proofs.machine.Machine.statement.Goals as goal

pub returns-in-Load-clause-begins : goal.returns-in-Load-clause-begins
returns-in-Load-clause-begins c = rw c.in-Load.is (IfOk-weaker c.loads.result _ _
    (λ stage begins s. begins_load_only s c.args.site (load_of c.in-Load.load) c.args.self.now _ stage (begins s)) c.loads.ensures.begins)

pub returns-in-Assign-clause-begins : goal.returns-in-Assign-clause-begins
returns-in-Assign-clause-begins c = rw c.in-Assign.is c.assigns.ensures.begins

pub returns-in-Call-clause-begins : goal.returns-in-Call-clause-begins
returns-in-Call-clause-begins c = rw c.in-Call.is c.calls.ensures.begins

pub returns-in-Load-clause-stops : goal.returns-in-Load-clause-stops
returns-in-Load-clause-stops c = rw c.in-Load.is (IfErr-weaker c.loads.result _ _
    (λ error stops s. stops_load_only s c.args.site (load_of c.in-Load.load) c.args.self.now (stops s)) c.loads.ensures.stops)

pub returns-in-Assign-clause-stops : goal.returns-in-Assign-clause-stops
returns-in-Assign-clause-stops c = rw c.in-Assign.is c.assigns.ensures.stops

pub returns-in-Call-clause-stops : goal.returns-in-Call-clause-stops
returns-in-Call-clause-stops c = rw c.in-Call.is c.calls.ensures.stops
