-- The context decides it as the marks so far do, and stays as it is.
use Rattle.std.proofs.Common.{◌↔◌, IsTrue, ap, refl, subst, sym}
use Rattle.access_types.specs.Marked.{CountsAfter}
use Rattle.setup_access.specs.Lending.{with_context}
use Rattle.setup_access.specs.declared.rules.Rules.{Rules}
use Rattle.std.specs.Prelude.{ℕ}
use Rattle.task_context.specs.Context.{Context}
use Rattle.task_context.specs.History.{LeadsTo}
use Rattle.task_run.proofs.TellLemmas.{not_heard}
use Rattle.task_run.proofs.machine.Machine.begun.Goals as goal
use Rattle.program_order.specs.Standing.{moments}

pub returns-clause-begins : goal.returns-clause-begins
returns-clause-begins c = λ s before stands own.
    let there : LeadsTo s.rules.plain_writes_atomic s.text.task (moments s before) c.context.result.now =
    subst (λ (x : Context). LeadsTo s.rules.plain_writes_atomic s.text.task (moments s before) x) (sym c.context.ensures.value) stands.counts.context in
    let of_access : LeadsTo s.rules.plain_writes_atomic c.args.access.now.task (moments s before) c.context.result.now =
    subst (λ (t : ℕ). LeadsTo s.rules.plain_writes_atomic t (moments s before) c.context.result.now) (sym own.task) there in
    let by_rules : LeadsTo c.args.self.now.rules.plain_writes_atomic c.args.access.now.task (moments s before) c.context.result.now =
    subst (λ (r : Rules). LeadsTo r.plain_writes_atomic c.args.access.now.task (moments s before) c.context.result.now) (sym stands.of.rules) of_access in
    let heard = c.enabled-silenced.ensures s.rules.plain_writes_atomic s.text.task (moments s before) there in
    let no = not_heard c.enabled-silenced.result in
    record {
      own = own;
      access = refl;
      marked = subst (λ (r : Rules). IsTrue c.counts_as_marked-marked.result ↔ CountsAfter r.plain_writes_atomic c.args.access.now
          (moments s before)) stands.of.rules
          (c.counts_as_marked-marked.ensures.counts (moments s before) by_rules);
      silenced = (λ h. heard.0 (no.0 h), λ h. no.1 (heard.1 h));
    }

pub returns-clause-unchanged : goal.returns-clause-unchanged
returns-clause-unchanged c = ap (λ x. record c.args.self.now { checker = with_context c.args.self.now.checker x }) c.context.ensures.value
