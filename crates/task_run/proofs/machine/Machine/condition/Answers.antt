-- A condition is decided at once, or its load begins.
use Rattle.std.proofs.lemmas.Result.{IfOk-weaker}
use Rattle.litmus_syntax.specs.Views.{load_of, loading_of}
use Rattle.task_run.proofs.PlanLemmas.{begins_condition}
use Rattle.std.proofs.lemmas.Result.{IfErr-weaker}
use Rattle.task_run.proofs.StopLemmas.{stops_condition}
use Rattle.task_run.proofs.machine.Machine.condition.Goals as goal

pub returns-in-Pure-clause-begins : goal.returns-in-Pure-clause-begins
returns-in-Pure-clause-begins c = λ s. rw c.in-Pure.is (c.decides.ensures.begins s c.args.site)

pub returns-in-Loading-clause-begins : goal.returns-in-Loading-clause-begins
returns-in-Loading-clause-begins c = rw c.in-Loading.is (IfOk-weaker c.loads.result _ _
    (λ stage begins s. begins_condition s c.args.site (loading_of c.in-Loading.value) (load_of c.load_in.result.now) c.args.self.now _ stage c.load_in.ensures (begins s))
    c.loads.ensures.begins)

pub returns-in-Loading-clause-stops : goal.returns-in-Loading-clause-stops
returns-in-Loading-clause-stops c = rw c.in-Loading.is (IfErr-weaker c.loads.result _ _
    (λ error stops s. stops_condition s c.args.site (load_of c.load_in.result.now) c.args.self.now (loading_of c.in-Loading.value) c.load_in.ensures (stops s))
    c.loads.ensures.stops)
