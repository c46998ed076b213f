-- The records spell the whole text exactly where the machine is over.
use Rattle.std.proofs.Common.{◌≡◌, false, refl, true}
use Rattle.task_run.proofs.GoingLemmas.{over_where_spelled}
use Rattle.task_run.proofs.NextLemmas.{over_spelled}
use Rattle.task_run.proofs.run.TaskRun.is_over.Goals as goal

pub returns-in-Over : goal.returns-in-Over
returns-in-Over c = λ s registers body records leads few rises.
    (λ h. over_spelled s registers body records c.args.self.now leads c.in-Over.is, λ all. refl)

pub returns-in_default : goal.returns-in_default
returns-in_default c = λ s registers body records leads few rises. (
  λ h. absurd (let no : false ≡ true = h in cc),
  λ all. absurd (c.in_default.not-Over (over_where_spelled s registers body records c.args.self.now leads few rises all)),
)
