-- Lists of flags are the same where `==` says so.
use Rattle.std.proofs.Common.{rules}
use Rattle.std.proofs.lemmas.Slice.Eq.{slice_eq-Decides}
use Rattle.std.specs.Cmp.{booleans_Decides}
use Rattle.task_plan.proofs.progress.Progress.keeps_as.Goals as goal

pub returns-then-eq-2-clause-locks : goal.returns-then-eq-2-clause-locks
returns-then-eq-2-clause-locks c = λ is. (slice_eq-Decides booleans_Decides _ _ _ c.eq-then-eq-2.ensures).0 (search rules)

pub returns-then-eq-2-clause-same : goal.returns-then-eq-2-clause-same
returns-then-eq-2-clause-same c =
    λ registers begun held. let are = (slice_eq-Decides booleans_Decides _ _ _ c.eq-then-eq-2.ensures).1 held in search rules
