-- If the latest record isn't it, it is one of the rest.
use Rattle.std.proofs.Common.{◌≡◌, ◌∙◌, false, sym, true}
use Rattle.oracle_soundness.proofs.oracle_headline.EndedTakings.{armed_on}
use Rattle.oracle_soundness.specs.oracle_headline.Tried.{account_of}
use Rattle.oracle_soundness.proofs.oracle_headline.endings.was_armed.Goals as goal

pub loop-records-preserved : goal.loop-records-preserved
loop-records-preserved c = λ was.
    armed_on (account_of c.args.told.now) c.args.index c.args.number c.loop-records.records.now _ c.in-len1-up.len_at_least
    (λ setter word is ended.
    let both : false ≡ true = sym c.if-is_ended_arming.false ∙ c.is_ended_arming.ensures setter word is ended in cc)
    (c.loop-records.invariant was)
