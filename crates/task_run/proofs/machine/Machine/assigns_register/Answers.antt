-- At once, or by the load that the value has.
use Rattle.task_run.proofs.StopLemmas.{on_err}
use Rattle.std.proofs.lemmas.Result.{IfOk-weaker}
use Rattle.litmus_syntax.specs.Views.{load_of, loading_of}
use Rattle.task_run.proofs.PlanLemmas.{begins_register}
use Rattle.std.proofs.lemmas.Result.{IfErr-weaker}
use Rattle.task_run.proofs.StopLemmas.{stops_register}
use Rattle.task_run.proofs.machine.Machine.assigns_register.Goals as goal

pub returns-in_ok-assigns_at_once-in-Pure-clause-begins : goal.returns-in_ok-assigns_at_once-in-Pure-clause-begins
returns-in_ok-assigns_at_once-in-Pure-clause-begins c = λ s. rw c.in-Pure.is (c.in_ok-assigns_at_once-in-Pure.ensures.begins s c.args.site)

pub returns-in-Loading-clause-begins : goal.returns-in-Loading-clause-begins
returns-in-Loading-clause-begins c = rw c.in-Loading.is (IfOk-weaker c.loads.result _ _
    (λ stage begins s. begins_register s c.args.site c.args.register (loading_of c.in-Loading.value) c.args.data_race (load_of c.load_in.result.now) c.args.self.now _ stage
    c.load_in.ensures (begins s))
    c.loads.ensures.begins)

pub returns-in-Loading-clause-stops : goal.returns-in-Loading-clause-stops
returns-in-Loading-clause-stops c = rw c.in-Loading.is (IfErr-weaker c.loads.result _ _
    (λ error stops s. stops_register s c.args.site (load_of c.load_in.result.now) c.args.self.now c.args.register (loading_of c.in-Loading.value) c.args.data_race
    c.load_in.ensures (stops s))
    c.loads.ensures.stops)

pub returns-in_err-assigns_at_once-in-Pure-clause-stops : goal.returns-in_err-assigns_at_once-in-Pure-clause-stops
returns-in_err-assigns_at_once-in-Pure-clause-stops c =
    on_err c.from_residual.result (λ s. rw c.in-Pure.is (c.in_err-assigns_at_once-in-Pure.ensures.stops s c.args.site))
