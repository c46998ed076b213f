-- each test answers for one part of the definition
use Rattle.std.proofs.Common.{◌∙◌, inl, inr, sym}
use Rattle.oracle_soundness.proofs.oracle_definitions.race.true_race.Goals as goal

pub returns : goal.returns
returns c = (
  (λ yes.
      let both = c.conflicts.ensures.0 c.if-not-conflicts.false in
      let together = c.go_together.ensures.0 yes in
      record {
        tasks = λ same. c.if-task.false (c.task.ensures.value ∙ same ∙ sym c.task-2.ensures.value);
        overlap = both.0;
        breaks = both.1;
        unmarked = λ counted. cc (c.in_ok-both_count.ensures.1 counted);
        first_heard = λ silenced. cc (c.in_ok-is_one_silenced.ensures.1 (inl silenced));
        second_heard = λ silenced. cc (c.in_ok-is_one_silenced.ensures.1 (inr silenced));
        moment = together.0;
        first_goes = together.1.0;
        second_goes = together.1.1;
      }),
  (λ race. c.go_together.ensures.1 (race.moment, (race.first_goes, race.second_goes))),
)
