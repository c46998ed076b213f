-- Mark by mark: only those that end something can have nothing to end.
use Rattle.std.proofs.Common.{false, subst, sym}
use Rattle.access_types.specs.declared.history.Mark.TheVariants as marks
use Rattle.task_run.proofs.StandsLemmas.{never, no_region, no_report}
use Rattle.task_run.specs.Stands.{Stands}
use Rattle.std.proofs.Common.{arith}
use Rattle.task_run.proofs.StopLemmas.{disable_stops, nest_stops}
use Rattle.task_run.proofs.machine.Machine.marks.Goals as goal

pub returns-else-disable_room-eq0-clause-stands : goal.returns-else-disable_room-eq0-clause-stands
returns-else-disable_room-eq0-clause-stands c = λ s before stands. rw c.in-Disable.is
    (false, (never, λ no. absurd no), λ later. c.turns_off.ensures.stands s before later (subst (λ m. Stands s before m) (sym c.disable_room.ensures.unchanged) stands))

pub returns-else-nest_room-eq0-clause-stands : goal.returns-else-nest_room-eq0-clause-stands
returns-else-nest_room-eq0-clause-stands c = λ s before stands. rw c.in-NestOpen.is
    (false, (never, λ no. absurd no), λ later. c.nests.ensures.stands s before later (subst (λ m. Stands s before m) (sym c.nest_room.ensures.unchanged) stands))

pub returns-in-Enable-clause-stands : goal.returns-in-Enable-clause-stands
returns-in-Enable-clause-stands c = λ s before stands. rw c.in-Enable.is
    (let says = c.turns_on-ends_nothing.ensures.nothing in let of = no_report s before c.args.self.now stands in (
      c.turns_on-ends_nothing.result,
      (λ is. of.0 (says.0 is), λ nothing. says.1 (of.1 nothing)),
      λ later. c.counts.ensures.stands s before later marks.Enable (c.turns_on-ends_nothing.ensures.stands s before later stands),
    ))

pub returns-in-NestClose-clause-stands : goal.returns-in-NestClose-clause-stands
returns-in-NestClose-clause-stands c = λ s before stands. rw c.in-NestClose.is
    (let says = c.nest_ends-ends_nothing.ensures.nothing in let of = no_region s before c.args.self.now stands in (
      c.nest_ends-ends_nothing.result,
      (λ is. of.0 (says.0 is), λ nothing. says.1 (of.1 nothing)),
      λ later. c.counts-in-NestClose.ensures.stands s before later marks.NestClose (c.nest_ends-ends_nothing.ensures.stands s before later stands),
    ))

pub returns-in-FlatBegin-clause-stands : goal.returns-in-FlatBegin-clause-stands
returns-in-FlatBegin-clause-stands c = λ s before stands. rw c.in-FlatBegin.is
    (false, (never, λ no. absurd no), λ later. c.flat.ensures.stands s before later stands)

pub returns-in-FlatEnd-clause-stands : goal.returns-in-FlatEnd-clause-stands
returns-in-FlatEnd-clause-stands c = λ s before stands. rw c.in-FlatEnd.is
    (false, (never, λ no. absurd no), λ later. c.flat-in-FlatEnd.ensures.stands s before later stands)

pub returns-in-Next-clause-stands : goal.returns-in-Next-clause-stands
returns-in-Next-clause-stands c = λ s before stands. rw c.in-Next.is
    (false, (never, λ no. absurd no), λ later. c.marks_next.ensures.stands s before later stands)

pub returns-then-disable_room-eq0-clause-stops : goal.returns-then-disable_room-eq0-clause-stops
returns-then-disable_room-eq0-clause-stops c = λ s site. rw c.in-Disable.is (disable_stops s site c.args.self.now (omega (arith, c.disable_room.ensures.value, c.if-disable_room-eq0.true)))

pub returns-then-nest_room-eq0-clause-stops : goal.returns-then-nest_room-eq0-clause-stops
returns-then-nest_room-eq0-clause-stops c = λ s site. rw c.in-NestOpen.is (nest_stops s site c.args.self.now (omega (arith, c.nest_room.ensures.value, c.if-nest_room-eq0.true)))
