-- What the rest tells the list tells.
use Rattle.oracle_soundness.proofs.oracle_headline.Tellings.{told_front}
use Rattle.oracle_soundness.proofs.oracle_headline.meetings.was_told.Goals as goal

pub loop-records-preserved : goal.loop-records-preserved
loop-records-preserved c = λ there. c.loop-records.invariant (told_front c.loop-records.records.now c.args.met.now c.in-len1-up.len_at_least there)
