-- a taking more
use Rattle.std.proofs.Common.{◌<◌, ◌^◌, arith, refl}
use Rattle.std.specs.List.{flat_map}
use Rattle.report_text.specs.Standing.{reports_of, takes_of}
use Rattle.report_text.specs.Truth.{race_in, unknown_in}
use Rattle.trace_replay.proofs.Bags.{on_ok}
use Rattle.trace_replay.proofs.Lines.{few_takes, knows_take, room_by_others}
use Rattle.trace_replay.proofs.story.Story.keep_take.Goals as goal

pub overflow_add-self : goal.overflow_add-self
overflow_add-self c = let low : c.args.self.now.takes < 2 ^ 62 = few_takes c.requires.0 c.args.self.now c.requires.1.lines c.requires.2 in omega arith

pub take-requires : goal.take-requires
take-requires c = (
  takes_of c.requires.0,
  flat_map race_in (reports_of c.requires.0),
  flat_map unknown_in (reports_of c.requires.0),
  c.requires.1.by_others,
  record { takes = (room_by_others c.requires.0 c.requires.2).takes; races = omega arith; origins = omega arith },
)

pub returns-clause-knows : goal.returns-clause-knows
returns-clause-knows c = λ all knows. on_ok c.take.result
    (λ told. knows_take all c.args.take.now c.args.self.now _ knows refl refl refl told refl refl refl)
    (c.take.ensures (takes_of all) (flat_map race_in (reports_of all)) (flat_map unknown_in (reports_of all)) knows.by_others)
