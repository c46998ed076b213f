-- what comes of the one turn
use Rattle.runner.proofs.BatchLemmas.{of_one_turn}
use Rattle.runner.proofs.run.run_prepared.Goals as goal

pub returns-clause-once : goal.returns-clause-once
returns-clause-once g c =
    let one = of_one_turn c.args.program.now c.args.settings.now c.args.turn c.in_ok-all.all.items c.pop.new.self.items c.in-Some.outcome
    c.in_ok-all.ensures.results c.in-Some.ensures.items in
    one.once

pub returns-clause-number : goal.returns-clause-number
returns-clause-number g c =
    let one = of_one_turn c.args.program.now c.args.settings.now c.args.turn c.in_ok-all.all.items c.pop.new.self.items c.in-Some.outcome
    c.in_ok-all.ensures.results c.in-Some.ensures.items in
    one.number

pub returns-clause-errors : goal.returns-clause-errors
returns-clause-errors g c =
    let one = of_one_turn c.args.program.now c.args.settings.now c.args.turn c.in_ok-all.all.items c.pop.new.self.items c.in-Some.outcome
    c.in_ok-all.ensures.results c.in-Some.ensures.items in
    one.errors

pub returns-clause-stuck : goal.returns-clause-stuck
returns-clause-stuck g c =
    let one = of_one_turn c.args.program.now c.args.settings.now c.args.turn c.in_ok-all.all.items c.pop.new.self.items c.in-Some.outcome
    c.in_ok-all.ensures.results c.in-Some.ensures.items in
    one.stuck
