-- The count of calls that had nothing to end is kept beside the mark.
use Rattle.std.proofs.Common.{[], ◌∷◌, length, refl, true}
use Rattle.access_types.specs.declared.history.Happening.TheVariants as happenings
use Rattle.task_plan.proofs.KeepsLemmas.{keeps_alike}
use Rattle.task_run.proofs.StandsLemmas.{stands_keeping}
use Rattle.task_run.proofs.machine.Machine.counts.Goals as goal
use Rattle.program_order.specs.Standing.{counting, doing}

pub returns-then-ends_nothing-clause-stands : goal.returns-then-ends_nothing-clause-stands
returns-then-ends_nothing-clause-stands c = λ s before later mark stands. rw c.if-ends_nothing.true
    (stands_keeping s (doing before later (happenings.Mark mark ∷ [])) (doing (counting true before) later (happenings.Mark mark ∷ [])) c.args.self.now
    c.counts_unbalanced.new.self refl refl refl
    (keeps_alike (length s.text.variables) (counting true (doing before later (happenings.Mark mark ∷ []))) (doing (counting true before) later (happenings.Mark mark ∷ []))
    c.counts_unbalanced.new.self (record { progress = refl; unbalanced = refl })
    (c.counts_unbalanced.ensures.keeps (length s.text.variables) (doing before later (happenings.Mark mark ∷ [])) stands.counts.keeps)) stands)
