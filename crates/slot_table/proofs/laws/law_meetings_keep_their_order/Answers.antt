-- Where nobody has a part, all that was told at an index was heard there.
use Rattle.slot_table.proofs.Meetings.{heard_all}
use Rattle.slot_table.proofs.laws.law_meetings_keep_their_order.Goals as goal

pub returns : goal.returns
returns c = heard_all
