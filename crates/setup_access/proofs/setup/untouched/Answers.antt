-- The outcome is that of the verdict: it is reported where a change was seen, and only then.
use Rattle.std.proofs.Common.{refl}
use Rattle.setup_access.specs.Verdicts as outcomes
use Rattle.setup_access.proofs.VerdictLemmas.{change_of, untouched_is_not_dropped, untouched_report_is_seen}
use Rattle.setup_access.proofs.setup.untouched.Goals as goal

pub returns-in-Some : goal.returns-in-Some
returns-in-Some c = λ sites. outcomes.unknown c.change-change.result c.in-Some.old c.in-Some.new
    (change_of c.args.access.now c.args.values c.change-change.result c.change-change.ensures.seen c.change-change.ensures.ruled c.change-change.ensures.maybe)
    c.in-Report.ensures.verdict c.in-Some.is refl

pub returns-in-Quiet : goal.returns-in-Quiet
returns-in-Quiet c = λ sites. outcomes.quiet c.change-change.result
    (change_of c.args.access.now c.args.values c.change-change.result c.change-change.ensures.seen c.change-change.ensures.ruled c.change-change.ensures.maybe)
    c.in-Quiet.ensures.verdict refl

pub unreachable-requires : goal.unreachable-requires
unreachable-requires c =
    rw c.in-None.is at (c.change-change.ensures.seen.0 (untouched_report_is_seen c.args.access.now c.change-change.result c.args.setting.now.rules.value_change_only c.in-Report.ensures.verdict))

pub unreachable-requires-in-Drop : goal.unreachable-requires-in-Drop
unreachable-requires-in-Drop c = untouched_is_not_dropped c.args.access.now c.change-change.result c.args.setting.now.rules.value_change_only c.in-Drop.field-0 c.in-Drop.ensures.verdict
