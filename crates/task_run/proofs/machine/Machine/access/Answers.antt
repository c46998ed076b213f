-- The access is the one that is planned: as many began at its site before as are kept.
use Rattle.std.proofs.Common.{◌∙◌, ◌<◌, ap, arith, count_by, length, subst, sym}
use Rattle.access_types.specs.Access.{IsInLimits}
use Rattle.litmus_semantics.specs.Task.{begins_at}
use Rattle.task_plan.specs.Plans.{planned_access}
use Rattle.task_plan.specs.Views.{plan_of}
use Rattle.task_run.proofs.BeginLemmas.{few_rep}
use Rattle.task_run.proofs.machine.Machine.access.Goals as goal

pub returns-in-Ok-clause-made : goal.returns-in-Ok-clause-made
returns-in-Ok-clause-made c =
    let made = c.in-Ok.ensures.made in (
      subst (λ x. 0 < x.size) (sym made.1) (omega (arith, c.if-plan-eq0.false)),
      ap (λ x. x.site) made.1,
      subst IsInLimits (sym made.1) (record {
        task = c.if-self-ge-TASKS.false;
        site = c.if-site-ge-SITES.false;
        rep = c.if-rep.false;
        range = made.0;
      }),
      λ s before stands. made.1
          ∙ (ap (λ t. record (planned_access s before (plan_of c.args.plan) c.args.site) { task = t; rep = c.begun_at-rep.result }) stands.of.task
          ∙ ap (λ r. record (planned_access s before (plan_of c.args.plan) c.args.site) { rep = r })
          (few_rep c.begun_at-rep.result (count_by (begins_at c.args.site) before.progress.did)
          (c.begun_at-rep.ensures (length s.text.variables) before stands.counts.keeps) c.if-rep.false)),
    )
