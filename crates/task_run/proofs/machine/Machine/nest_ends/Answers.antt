-- The context goes on with the mark.
use Rattle.std.proofs.Common.{subst}
use Rattle.access_types.specs.declared.history.Mark.TheVariants as marks
use Rattle.task_context.specs.History.{MarkFollows}
use Rattle.task_run.proofs.StandsLemmas.{stands_marked}
use Rattle.task_run.proofs.machine.Machine.nest_ends.Goals as goal

pub returns-clause-stands : goal.returns-clause-stands
returns-clause-stands c = λ s before later stands. stands_marked s before later marks.NestClose c.args.self.now _
    (subst (λ x. MarkFollows x marks.NestClose c.nest_end.new.self) c.context.ensures.value c.nest_end.ensures.follows) stands
