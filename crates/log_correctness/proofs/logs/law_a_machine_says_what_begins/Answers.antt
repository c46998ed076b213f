-- By the part of the text that the machine is in, and the event of the record.
use Rattle.std.proofs.Common.{◌∷◌}
use Rattle.log_correctness.proofs.Machines.{begun_of_machine}
use Rattle.log_correctness.proofs.logs.law_a_machine_says_what_begins.Goals as goal

pub returns : goal.returns
returns c = λ run latest earlier old begins list leads says next.
    begun_of_machine run latest earlier old begins list leads says next (c.law_records_tell_their_events.ensures.each run (latest ∷ earlier) list)
