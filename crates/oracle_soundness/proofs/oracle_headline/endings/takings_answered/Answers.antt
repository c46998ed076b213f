-- What the latest record takes is answered, and so is what the rest take.
use Rattle.oracle_soundness.proofs.oracle_headline.EndedTakings.{answered_on, none_taken}
use Rattle.oracle_soundness.specs.oracle_headline.Tried.{account_of}
use Rattle.oracle_soundness.proofs.oracle_headline.endings.takings_answered.Goals as goal

pub loop-records-preserved : goal.loop-records-preserved
loop-records-preserved c = λ others.
    c.loop-records.invariant (answered_on (account_of c.args.told.now) c.loop-records.records.now _ c.in-len1-up.len_at_least
    (c.is_answered_if_ended.ensures c.if-not-is_answered_if_ended.false) others)

pub returns : goal.returns
returns c = λ told_so. c.loop-records.invariant (none_taken (account_of c.args.told.now) c.loop-records.records.now c.in_default.len_below)
