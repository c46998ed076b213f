-- By the part of the text that the machine is in, and the event of the record.
use Rattle.std.proofs.Common.{◌∷◌}
use Rattle.log_correctness.proofs.Machines.{noted_of_machine}
use Rattle.log_correctness.proofs.logs.law_a_machine_says_what_is_noted.Goals as goal

pub returns : goal.returns
returns c = λ run latest earlier old begins fell list leads says next falls.
    noted_of_machine run latest earlier old begins fell list leads says next falls
    (c.law_records_tell_their_events.ensures.each run (latest ∷ earlier) list)
