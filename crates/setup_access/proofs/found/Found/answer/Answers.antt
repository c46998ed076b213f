-- A pair that was read: the wait goes on, or the finder tells.
use Rattle.std.proofs.Common.{◌+◌, ◌-◌, ◌^◌, min}
use Rattle.setup_access.proofs.FallLemmas.{heard_falls, tried_falls}
use Rattle.setup_access.proofs.FoundLemmas.{heard_setter_left}
use Rattle.setup_access.proofs.WaitLemmas.{heard_setter_counts, tried_counts}
use Rattle.setup_access.proofs.found.Found.answer.Goals as goal

pub returns-in-TryConsume-Flag-clause-waits : goal.returns-in-TryConsume-Flag-clause-waits
returns-in-TryConsume-Flag-clause-waits c = λ wait before.
    rw (c.in-TryConsume-Flag.is-0, c.in-TryConsume-Flag.is-1) (tried_counts c.in-TryConsume-Flag.found.index c.in-TryConsume-Flag.taken c.tried.result c.tried.ensures)

pub returns-in-HearSetter-Halves-clause-waits : goal.returns-in-HearSetter-Halves-clause-waits
returns-in-HearSetter-Halves-clause-waits c = λ wait before.
    rw (c.in-HearSetter-Halves.is-0, c.in-HearSetter-Halves.is-1)
    (heard_setter_counts c.in-HearSetter-Halves.index c.in-HearSetter-Halves.tries c.in-HearSetter-Halves.setter c.in-HearSetter-Halves.field-1-1 c.heard_setter.result wait
    (rw c.in-HearSetter-Halves.is-0 at before) c.heard_setter.ensures.failed c.heard_setter.ensures.stands)

pub returns-in-HearSetter-Halves-clause-left : goal.returns-in-HearSetter-Halves-clause-left
returns-in-HearSetter-Halves-clause-left c = λ s outcome later rest.
    rw (c.in-HearSetter-Halves.is-0, c.in-HearSetter-Halves.is-1)
    (heard_setter_left s c.args.access.now c.in-HearSetter-Halves.index outcome later rest c.in-HearSetter-Halves.setter c.in-HearSetter-Halves.field-1-1
    (min (c.in-HearSetter-Halves.tries + 1) (2 ^ 64 - 1)) c.heard_setter.result c.heard_setter.ensures.failed c.heard_setter.ensures.stands)

pub returns-in-TryConsume-Flag-clause-falls : goal.returns-in-TryConsume-Flag-clause-falls
returns-in-TryConsume-Flag-clause-falls c = λ s.
    rw (c.in-TryConsume-Flag.is-0, c.in-TryConsume-Flag.is-1) (tried_falls s c.args.access.now c.in-TryConsume-Flag.found c.in-TryConsume-Flag.taken c.tried.result c.tried.ensures)

pub returns-in-HearSetter-Halves-clause-falls : goal.returns-in-HearSetter-Halves-clause-falls
returns-in-HearSetter-Halves-clause-falls c = λ s.
    heard_falls s c.args.access.now c.in-HearSetter-Halves.index c.in-HearSetter-Halves.setter _ c.heard_setter.result _ c.heard_setter.ensures.failed c.heard_setter.ensures.stands
