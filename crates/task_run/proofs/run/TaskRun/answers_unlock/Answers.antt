-- What is left of the text follows.
use Rattle.std.proofs.Common.{◌∙◌, ap, count_by, refl, subst, take}
use Rattle.setup_access.specs.Parts.{made}
use Rattle.slot_table.specs.declared.step.Answer.TheVariants.{Done}
use Rattle.slot_table.specs.declared.step.Step.TheVariants.{LockStore}
use Rattle.task_run.proofs.RunLemmas.{unlock_ended}
use Rattle.task_run.specs.Says.{StageSays}
use Rattle.task_run.proofs.run.TaskRun.answers_unlock.Goals as goal
use Rattle.program_order.specs.Standing.{is_lock}

pub returns-clause-leads : goal.returns-clause-leads
returns-clause-leads c = λ is s registers body records step leads says.
    unlock_ended s registers body records c.args.self.now leads (made s.text.task step Done) c.args.variable is refl
    (λ before stands. subst (λ stage. StageSays stage c.args.self.now step) is says
    ∙ ap (λ vs. LockStore (count_by (λ v. is_lock v.contents) (take c.args.variable vs))) stands.of.variables) refl
    c.set_lock.new.self (λ variables before later keeps below. c.set_lock.ensures.keeps variables before later keeps below) _
    (λ before stands. c.advance.ensures.begins s before stands)
