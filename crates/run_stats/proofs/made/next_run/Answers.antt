-- what is ready comes of runs
use Rattle.std.proofs.Common.{All, subst, sym, ◌∙◌, ◌+◌, ap}
use Rattle.run_stats.proofs.MadeLemmas.{all_rest, numbered_rest}
use Rattle.run_stats.specs.Runs.{AreNumberedFrom, Comes}
use Rattle.run_stats.proofs.made.next_run.Goals as goal
use Rattle.run_stats.proofs.made.next_run.Goals.{then-is_empty+in_ok-side_by_side, else-is_empty}

pub returns-clause-ready : goal.returns-clause-ready
returns-clause-ready g c =
    let ready = c.if-is_empty.ready.items in
    let all : All (Comes c.args.plan.now.program.now c.args.plan.now.settings.now) ready = elim c.if-is_empty.branch [
      | then-is_empty+in_ok-side_by_side w ↦ subst (All (Comes c.args.plan.now.program.now c.args.plan.now.settings.now))
          (sym (ap (λ queue. queue.items) w.ready-is ∙ w.from.ensures.0)) w.in_ok-side_by_side.ensures.each
      | else-is_empty w ↦ subst (All (Comes c.args.plan.now.program.now c.args.plan.now.settings.now)) (sym (ap (λ queue. queue.items) w.ready-is)) c.requires.ready
    ] in
    subst (All (Comes c.args.plan.now.program.now c.args.plan.now.settings.now)) (sym c.pop_front.ensures.rest)
    (all_rest (Comes c.args.plan.now.program.now c.args.plan.now.settings.now) ready all)

pub returns-clause-numbers : goal.returns-clause-numbers
returns-clause-numbers g c =
    let ready = c.if-is_empty.ready.items in
    let all : AreNumberedFrom c.args.number ready = elim c.if-is_empty.branch [
      | then-is_empty+in_ok-side_by_side w ↦ subst (AreNumberedFrom c.args.number)
          (sym (ap (λ queue. queue.items) w.ready-is ∙ w.from.ensures.0)) w.in_ok-side_by_side.ensures.numbers
      | else-is_empty w ↦ subst (AreNumberedFrom c.args.number) (sym (ap (λ queue. queue.items) w.ready-is)) c.requires.numbers
    ] in
    subst (AreNumberedFrom (c.args.number + 1)) (sym c.pop_front.ensures.rest) (numbered_rest c.args.number ready all)
