-- what armings told of, and what the others did
use Rattle.std.proofs.Common.{sym, subst}
use Rattle.std.specs.List.{flat_map}
use Rattle.report_text.specs.Standing.{arms_of, reports_of, takes_of}
use Rattle.report_text.specs.Truth.{IsTrueEnd, hits_in, origins_in, pairs_in, race_in, unknown_in}
use Rattle.trace_replay.specs.trace_lines.HeadReading.{head_of}
use Rattle.trace_replay.proofs.story.Story.may_end.Goals as goal

pub returns-in-Second : goal.returns-in-Second
returns-in-Second c = λ all knows.
    let agrees = c.agrees_with.ensures (hits_in (arms_of all)) (pairs_in (arms_of all)) (origins_in (arms_of all))
    (takes_of all) (flat_map race_in (reports_of all)) (flat_map unknown_in (reports_of all)) knows.by_arms knows.by_others in (
      λ t. subst (λ head. IsTrueEnd (head_of head) all) (sym c.in-Second.is)
          (let one = agrees.0 t in record { takings = one.takes; races = one.races; origins = one.origins }),
      λ end. let same = subst (λ head. IsTrueEnd (head_of head) all) c.in-Second.is end in
          agrees.1 (record { takes = same.takings; races = same.races; origins = same.origins }),
    )
