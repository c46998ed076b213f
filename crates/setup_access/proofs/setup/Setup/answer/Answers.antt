-- Each answer leaves what the lemma of its state says.
use Rattle.std.proofs.Common.{arith, refl}
use Rattle.setup_access.specs.Kept.{setting_with}
use Rattle.setup_access.proofs.FallLemmas.{consumed_falls, hit_falls, inserted_falls}
use Rattle.setup_access.proofs.SetupLemmas.{consumed_left, hit_left, inserted_left, named_left, new_left, old_left, failed_left}
use Rattle.setup_access.specs.Found.{finder_half}
use Rattle.slot_table.specs.index_order.Indices.{try_index}
use Rattle.setup_access.specs.Setting.{slot_of}
use Rattle.setup_access.specs.Values.{source_of}
use Rattle.setup_access.specs.Verdicts.{UntouchedOutcome}
use Rattle.setup_access.proofs.WaitLemmas.{consumed_counts, heard_counts, inserted_counts, named_counts, failed_counts}
use Rattle.setup_access.proofs.setup.Setup.answer.Goals as goal

pub returns-in-Insert-Flag-clause-left : goal.returns-in-Insert-Flag-clause-left
returns-in-Insert-Flag-clause-left c = λ judged later rest.
    rw (c.in-Insert-Flag.is-0, c.in-Insert-Flag.is-1)
    (inserted_left (setting_with c.args.setting.now c.args.sites.now) c.args.access.now later judged rest c.in-Insert-Flag.place c.in-Insert-Flag.word c.in-Insert-Flag.accepted c.inserted.result
    (c.inserted.ensures.accepted c.args.sites.now) c.inserted.ensures.refused)

pub returns-in-Name-Done-clause-left : goal.returns-in-Name-Done-clause-left
returns-in-Name-Done-clause-left c = λ judged later rest.
    rw (c.in-Name-Done.is-0, c.in-Name-Done.is-1)
    (named_left (setting_with c.args.setting.now c.args.sites.now) c.args.access.now c.in-Name-Done.index later rest c.named.result judged (c.named.ensures c.args.sites.now))

pub returns-in-LoadOld-Word-clause-left : goal.returns-in-LoadOld-Word-clause-left
returns-in-LoadOld-Word-clause-left c = λ judged later rest.
    rw (c.in-LoadOld-Word.is-0, c.in-LoadOld-Word.is-1)
    (old_left (setting_with c.args.setting.now c.args.sites.now) c.args.access.now c.in-LoadOld-Word.index later rest c.in-LoadOld-Word.source c.in-LoadOld-Word.word c.value_in-old.result judged c.value_in-old.ensures)

pub returns-in-LoadNew-Word-clause-left : goal.returns-in-LoadNew-Word-clause-left
returns-in-LoadNew-Word-clause-left c = λ judged later rest.
    rw (c.in-LoadNew-Word.is-0, c.in-LoadNew-Word.is-1)
    (new_left (setting_with c.args.setting.now c.args.sites.now) c.args.access.now c.in-LoadNew-Word.index later rest c.in-LoadNew-Word.source c.in-LoadNew-Word.old c.in-LoadNew-Word.word c.value_in-new.result judged c.value_in-new.ensures)

pub returns-in-Consume-Flag-clause-left : goal.returns-in-Consume-Flag-clause-left
returns-in-Consume-Flag-clause-left c = λ judged later rest.
    rw (c.in-Consume-Flag.is-0, c.in-Consume-Flag.is-1)
    (consumed_left (setting_with c.args.setting.now c.args.sites.now) c.args.access.now c.in-Consume-Flag.index later rest c.in-Consume-Flag.values c.in-Consume-Flag.is_untouched c.consumed.result judged
    (c.consumed.ensures.untouched c.args.sites.now) c.consumed.ensures.hit)

pub returns-then-finder-eq0-clause-left : goal.returns-then-finder-eq0-clause-left
returns-then-finder-eq0-clause-left c = λ judged later rest.
    rw (c.in-HearFinder-Halves.is-0, c.in-HearFinder-Halves.is-1)
    (failed_left (setting_with c.args.setting.now c.args.sites.now) c.args.access.now c.in-HearFinder-Halves.index later rest
    c.in-HearFinder-Halves.values c.in-HearFinder-Halves.setter c.in-HearFinder-Halves.finder judged c.if-finder-eq0.true)

pub returns-else-finder-eq0-clause-left : goal.returns-else-finder-eq0-clause-left
returns-else-finder-eq0-clause-left c = λ judged later rest.
    rw (c.in-HearFinder-Halves.is-0, c.in-HearFinder-Halves.is-1)
    (hit_left (setting_with c.args.setting.now c.args.sites.now) c.args.access.now c.in-HearFinder-Halves.index later rest
    c.in-HearFinder-Halves.values c.in-HearFinder-Halves.setter c.in-HearFinder-Halves.finder c.hit-outcome.result judged (omega arith)
    (rw c.of.ensures at c.hit-outcome.ensures))

pub returns-in-Insert-Flag-clause-waits : goal.returns-in-Insert-Flag-clause-waits
returns-in-Insert-Flag-clause-waits c = λ wait before.
    rw c.in-Insert-Flag.is-0
    (inserted_counts c.in-Insert-Flag.word (try_index c.in-Insert-Flag.place (slot_of (setting_with c.args.setting.now c.args.sites.now) c.args.access.now))
    c.in-Insert-Flag.place c.in-Insert-Flag.accepted c.inserted.result (c.inserted.ensures.accepted c.args.sites.now) c.inserted.ensures.refused)

pub returns-in-Name-Done-clause-waits : goal.returns-in-Name-Done-clause-waits
returns-in-Name-Done-clause-waits c = λ wait before.
    rw c.in-Name-Done.is-0
    (named_counts c.in-Name-Done.index (source_of (setting_with c.args.setting.now c.args.sites.now) c.args.access.now) c.named.result (c.named.ensures c.args.sites.now))

pub returns-in-Consume-Flag-clause-waits : goal.returns-in-Consume-Flag-clause-waits
returns-in-Consume-Flag-clause-waits c = λ wait before.
    rw (c.in-Consume-Flag.is-0, c.in-Consume-Flag.is-1)
    (consumed_counts c.in-Consume-Flag.index c.in-Consume-Flag.values c.in-Consume-Flag.is_untouched c.consumed.result
    (UntouchedOutcome (setting_with c.args.setting.now c.args.sites.now) c.args.access.now c.in-Consume-Flag.values) (c.consumed.ensures.untouched c.args.sites.now) c.consumed.ensures.hit)

pub returns-then-finder-eq0-clause-waits : goal.returns-then-finder-eq0-clause-waits
returns-then-finder-eq0-clause-waits c = λ wait before.
    rw (c.in-HearFinder-Halves.is-0, c.in-HearFinder-Halves.is-1, c.saturating_add.ensures)
    (failed_counts finder_half c.in-HearFinder-Halves.tries c.in-HearFinder-Halves.setter c.in-HearFinder-Halves.finder wait
    (rw c.in-HearFinder-Halves.is-0 at before) c.if-finder-eq0.true)

pub returns-else-finder-eq0-clause-waits : goal.returns-else-finder-eq0-clause-waits
returns-else-finder-eq0-clause-waits c = λ wait before.
    rw (c.in-HearFinder-Halves.is-0, c.in-HearFinder-Halves.is-1)
    (heard_counts finder_half c.in-HearFinder-Halves.tries c.in-HearFinder-Halves.setter c.in-HearFinder-Halves.finder wait
    (rw c.in-HearFinder-Halves.is-0 at before) (omega arith))

pub returns-in-Insert-Flag-clause-falls : goal.returns-in-Insert-Flag-clause-falls
returns-in-Insert-Flag-clause-falls c =
    rw (c.in-Insert-Flag.is-0, c.in-Insert-Flag.is-1)
    (inserted_falls (setting_with c.args.setting.now c.args.sites.now) c.args.access.now c.in-Insert-Flag.place c.in-Insert-Flag.word _ c.in-Insert-Flag.accepted c.inserted.result
    (c.inserted.ensures.accepted c.args.sites.now) c.inserted.ensures.refused)

pub returns-in-Consume-Flag-clause-falls : goal.returns-in-Consume-Flag-clause-falls
returns-in-Consume-Flag-clause-falls c =
    rw (c.in-Consume-Flag.is-0, c.in-Consume-Flag.is-1)
    (consumed_falls (setting_with c.args.setting.now c.args.sites.now) c.args.access.now c.in-Consume-Flag.index c.in-Consume-Flag.values c.in-Consume-Flag.is_untouched c.consumed.result
    (c.consumed.ensures.untouched c.args.sites.now) c.consumed.ensures.hit)

pub returns-else-finder-eq0-clause-falls : goal.returns-else-finder-eq0-clause-falls
returns-else-finder-eq0-clause-falls c =
    rw (c.in-HearFinder-Halves.is-0, c.in-HearFinder-Halves.is-1)
    (hit_falls (setting_with c.args.setting.now c.args.sites.now) c.args.access.now c.hit-outcome.result c.in-HearFinder-Halves.index c.in-HearFinder-Halves.values
    (record { setter = c.in-HearFinder-Halves.setter; finder = c.in-HearFinder-Halves.finder }) _ (refl, omega arith)
    (rw c.of.ensures at c.hit-outcome.ensures))

pub returns-in-Name-Done-clause-falls : goal.returns-in-Name-Done-clause-falls
returns-in-Name-Done-clause-falls c = rw (c.named.ensures c.args.sites.now) tt
