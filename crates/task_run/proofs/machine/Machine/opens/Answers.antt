-- The part is the check of the scoped assertion.
use Rattle.task_run.proofs.StopLemmas.{on_err}
use Rattle.std.proofs.Common.{◌<◌, ◌≢◌, ◌∙◌, [], None, Some, ap, subst, sym}
use Rattle.litmus_semantics.specs.Task.{access_now}
use Rattle.prepared_program.specs.program_layout.Lays.{Lays}
use Rattle.prepared_program.specs.declared.program_layout.layout.Layout.{Layout}
use Rattle.task_run.proofs.BeginLemmas.{begins_opening, proper}
use Rattle.task_run.proofs.machine.Machine.opens.Goals as goal
use Rattle.task_run.proofs.StopLemmas.{opening_never, opening_stops}
use Rattle.task_run.specs.Due.{PartBegins}
use Rattle.task_run.specs.Stands.{Stands}
use Rattle.task_run.specs.Stops.{CanBegin}
use Rattle.task_run.specs.declared.machine.Machine.{Machine}
use Rattle.task_run.specs.declared.stage.TaskStage.TheVariants as stages
use Rattle.task_plan.specs.Left.{DueLeft}
use Rattle.task_plan.specs.declared.due.Due.TheVariants as dues
use Rattle.program_order.specs.Standing.{Standing, checks_of}

pub returns-clause-begins : goal.returns-clause-begins
returns-clause-begins c = λ s.
    let same : (there : Standing) → Stands s there c.begun-begun.new.self → Stands s there c.args.self.now =
    λ there standing. subst (λ (m : Machine). Stands s there m) c.begun-begun.ensures.unchanged standing in
    subst (λ (m : Machine). PartBegins s (DueLeft s (dues.Opens c.args.kind c.args.variable c.args.site) m.walk) m
    (record c.begun-begun.new.self { progress = c.begins_at.new.self; checker = c.begin.new.self; begins = Some c.begun-begun.result })
    (Some stages.Opening)) c.begun-begun.ensures.unchanged
    (λ before stands.
    begins_opening s c.args.kind c.args.variable c.args.site c.in_ok-access.access c.begun-begun.new.self c.begins_at.new.self c.begin.new.self
    c.begin.ensures.begins.0 c.requires.scoped
    c.in_ok-access.ensures.made.2 (subst (λ x. x.mask ≢ Some 0) (sym (c.in_ok-access.ensures.made.3 s (before []) (same (before []) (stands [])))) (proper None))
    c.begin.ensures.begins.1 (subst (λ (m : Machine). m.in_force < 8) (sym c.begun-begun.ensures.unchanged) c.if-self-ge-SCOPES.false)
    (λ there standing. c.in_ok-access.ensures.made.3 s there (same there standing)
    ∙ ap (λ bytes. access_now s.text c.args.site there.progress bytes c.args.kind None)
    (c.bytes_in.ensures s.text.places s.text.variables (subst (λ (l : Layout). Lays s.text.places s.text.variables l) (sym c.deref.ensures)
    (same there standing).of.layout)))
    (λ variables there later keeps. c.begins_at.ensures.keeps variables there c.in_ok-access.access later keeps c.in_ok-access.ensures.made.1)
    (λ scopes asked last. c.begin.ensures.begins.2 (checks_of s) scopes asked last)
    (λ scopes asked last. c.begin.ensures.context (checks_of s) scopes asked last)
    c.begun-begun.result (λ there standing own. c.begun-begun.ensures.begins s there (same there standing) own) before stands)

pub returns-in_err-access-clause-stops : goal.returns-in_err-access-clause-stops
returns-in_err-access-clause-stops c = on_err c.from_residual.result (λ s. opening_never s c.args.kind c.args.variable c.args.site c.args.self.now
    (λ before stands can. c.in_err-access.ensures.cannot s before stands
    (subst (λ bytes. CanBegin (access_now s.text c.args.site before.progress bytes c.args.kind None))
    (sym (c.bytes_in.ensures s.text.places s.text.variables
    (subst (λ (l : Layout). Lays s.text.places s.text.variables l) (sym c.deref.ensures) stands.of.layout))) can)))

pub returns-then-self-ge-SCOPES-clause-stops : goal.returns-then-self-ge-SCOPES-clause-stops
returns-then-self-ge-SCOPES-clause-stops c = λ s. opening_stops s c.args.kind c.args.variable c.args.site c.args.self.now c.requires.scoped c.if-self-ge-SCOPES.true
