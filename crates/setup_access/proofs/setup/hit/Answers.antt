-- The outcome is that of the verdict.
use Rattle.std.proofs.Common.{ap, refl}
use Rattle.setup_access.specs.Verdicts as outcomes
use Rattle.setup_access.specs.declared.outcome.Outcome.TheVariants as variants
use Rattle.setup_access.proofs.VerdictLemmas.{change_of, hit_is_not_quiet}
use Rattle.setup_access.proofs.setup.hit.Goals as goal

pub returns-in-Drop : goal.returns-in-Drop
returns-in-Drop c = outcomes.dropped c.change-change.result c.in-Drop.reason
    (rw c.halves.ensures.finder at (c.shares_byte.ensures.0 c.if-not-shares_byte.false))
    (change_of c.args.access.now c.args.values c.change-change.result c.change-change.ensures.seen c.change-change.ensures.ruled c.change-change.ensures.maybe)
    c.in-Drop.ensures.verdict refl

pub returns-in-Report : goal.returns-in-Report
returns-in-Report c = outcomes.reported c.change-change.result
    (rw c.halves.ensures.finder at (c.shares_byte.ensures.0 c.if-not-shares_byte.false))
    (change_of c.args.access.now c.args.values c.change-change.result c.change-change.ensures.seen c.change-change.ensures.ruled c.change-change.ensures.maybe)
    c.in-Report.ensures.verdict (ap (variants.Report c.args.pair) c.seen_change.ensures)

pub unreachable-requires : goal.unreachable-requires
unreachable-requires c = hit_is_not_quiet c.args.access.now c.change-change.result c.args.setting.now.rules.value_change_only c.in-Quiet.ensures.verdict
