-- The context goes on with the mark.
use Rattle.std.proofs.Common.{subst}
use Rattle.access_types.specs.declared.history.Mark.TheVariants as marks
use Rattle.task_context.specs.History.{MarkFollows}
use Rattle.task_run.proofs.StandsLemmas.{stands_marked}
use Rattle.task_run.proofs.machine.Machine.flat.Goals as goal

pub returns-then-begins-clause-stands : goal.returns-then-begins-clause-stands
returns-then-begins-clause-stands c = λ s before later stands. rw c.if-begins.true (stands_marked s before later marks.FlatBegin c.args.self.now _
    (subst (λ x. MarkFollows x marks.FlatBegin c.flat_begin.new.self) c.context.ensures.value c.flat_begin.ensures.follows) stands)

pub returns-else-begins-clause-stands : goal.returns-else-begins-clause-stands
returns-else-begins-clause-stands c = λ s before later stands. rw c.if-begins.false (stands_marked s before later marks.FlatEnd c.args.self.now _
    (subst (λ x. MarkFollows x marks.FlatEnd c.flat_end.new.self) c.context-else-begins.ensures.value c.flat_end.ensures.follows) stands)
