-- what comes of the turns of the batch
use Rattle.std.proofs.Common.{List, subst}
use Rattle.run_stats.proofs.MadeLemmas.{come_of}
use Rattle.run_stats.proofs.made.batch.Goals as goal
use Rattle.runner.specs.Result.{AreResultsOf}
use Rattle.runner.specs.declared.run.RunIndex.{RunIndex}

pub returns-in-Ok : goal.returns-in-Ok
returns-in-Ok g c =
    let made = c.in_ok-turns.ensures in
    come_of c.args.plan.now.program.now c.args.plan.now.settings.now c.args.number c.args.many c.in_ok-turns.turns.items c.in-Ok.outcomes.items
    made.turns made.numbers
    (subst (λ (turns : List RunIndex). AreResultsOf c.args.plan.now.program.now c.args.plan.now.settings.now turns c.in-Ok.outcomes.items)
    c.as_slice.ensures.value c.in-Ok.ensures.results)
