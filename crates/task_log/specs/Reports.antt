-- What is reported at a step.
use Rattle.std.specs.Prelude.{List, [], ◌∷◌, ◌++◌, Option, None, Some}
use Rattle.std.specs.Option.{option_to_list}
use Rattle.access_types.specs.declared.report.Report.{Report}
use Rattle.access_types.specs.declared.report.Report.TheVariants as reports
use Rattle.setup_access.specs.declared.outcome.Outcome.{Outcome}
use Rattle.setup_access.specs.declared.outcome.Outcome.TheVariants as outcomes
use Rattle.task_log.specs.Arms.{setter_named}
use Rattle.task_log.specs.declared.noted.Noted.{Noted}

-- what is reported where a setter settles what came of its watchpoint: the two sides by the pair
-- that it heard, or itself where the origin is unknown
abbrev pub reported : Option Outcome → List Noted → Option Report
reported (Some (outcomes.Report pair seen)) earlier = Some (reports.Two pair.setter pair.finder seen)
reported (Some (outcomes.Unknown old new)) earlier =
    Some (reports.Unknown (setter_named earlier) old new)
reported outcome earlier = None

-- what is reported at a task's steps, the latest first, in the order of the steps
abbrev pub reported_in : List Noted → List Report
reported_in [] = []
reported_in (latest ∷ earlier) = reported_in earlier ++ option_to_list (reported latest.outcome earlier)
