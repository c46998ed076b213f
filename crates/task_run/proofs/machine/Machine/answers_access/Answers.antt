-- The accesses are those that the tasks share.
use Rattle.std.proofs.Common.{◌∙◌, ◌++◌, ◌∷◌, [], subst, sym}
use Rattle.access_run.specs.Leads.{AccessLeads}
use Rattle.setup_access.specs.Parts.{made}
use Rattle.task_run.specs.declared.machine.Machine.{Machine}
use Rattle.task_run.proofs.machine.Machine.answers_access.Goals as goal

pub returns-clause-leads : goal.returns-clause-leads
returns-clause-leads c = λ s scopes begun asked operation records step same leads says.
    subst (λ (m : Machine). AccessLeads s scopes begun asked operation (records ++ made s.task step c.args.answer ∷ []) c.answer.new.self m.checker)
    (sym c.has_begun.ensures) (c.answer.ensures.leads s scopes begun asked operation records step (same ∙ sym c.deref.ensures) leads says)
