-- The number is the task's still.
use Rattle.std.proofs.Common.{IsErrOf, subst, sym}
use Rattle.runner.proofs.seated.SeatedTask.runs.Goals as goal
use Rattle.runner.specs.TaskResult.{IsFailedWait}
use Rattle.runner.specs.Seated.{IsSeated}
use Rattle.runner.specs.Terms.{run_by}
use Rattle.prepared_program.specs.declared.program_sites.error.RunError.TheVariants.{Stuck}

pub returns-clause-stuck : goal.returns-clause-stuck
returns-clause-stuck g c =
    let is = c.steps.ensures.seated in
    subst (λ n. IsErrOf c.found.result (Stuck n) → IsFailedWait (run_by c.args.terms) n) is.number
    (c.found.ensures.stuck c.args.terms c.requires.terms (subst (λ n. IsSeated c.args.terms n c.steps.result) (sym is.number) is))
