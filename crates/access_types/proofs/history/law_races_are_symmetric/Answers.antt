-- the two accesses change sides in each part of the definition
use Rattle.std.proofs.Common.{inl, inr, sym}
use Rattle.access_types.proofs.history.law_races_are_symmetric.Goals as goal

-- the two are exchanged in each part
pub returns : goal.returns
returns c = λ plain_writes_atomic history s f race. record {
  tasks = λ same. race.tasks (sym same);
  overlap = (race.overlap.0, (race.overlap.1.1, race.overlap.1.0));
  breaks = elim race.breaks [ inl first ↦ inr first | inr second ↦ inl second ];
  unmarked = λ both. race.unmarked (both.1, both.0);
  first_heard = race.second_heard;
  second_heard = race.first_heard;
  moment = race.moment;
  first_goes = race.second_goes;
  second_goes = race.first_goes;
}
