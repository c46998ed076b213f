use Rattle.std.proofs.Common.{◌≡◌, ◌+◌, ◌≤◌, ◌∙◌, ap, arith, sym}
use Rattle.access_types.specs.Ticket.{site_in}
use Rattle.task_log.proofs.ArmingLemmas.{placed}
use Rattle.task_log.specs.Armings.{armings_by}
use Rattle.task_log.proofs.armings.Armings.note.Goals as goal

pub returns-then-index-setter-clause-counts : goal.returns-then-index-setter-clause-counts
returns-then-index-setter-clause-counts c = λ arms arm named number few counts.
    let under : c.index.result.now.setter ≤ arm.setter = omega (arith, named) in
    let more : c.saturating_add.result ≡ armings_by arm.setter arms + 1 =
    omega (arith, number, few, ap (λ s. armings_by s arms) named) in
    placed arms arm c.args.self.now.sites.items c.place_of-place.result c.index.result.now
    (record { setter = c.args.setter; number = c.saturating_add.result })
    (c.place_of-place.ensures ∙ ap site_in (sym named)) (omega arith) c.index.ensures under (sym named) more counts
