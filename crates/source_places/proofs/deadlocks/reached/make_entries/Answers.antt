-- One entry more is made.
use Rattle.std.proofs.Common.{◌≤◌, ap, arith, length}
use Rattle.std.proofs.lemmas.List.{take_all}
use Rattle.litmus_step.proofs.RoundLemmas.{entries_more}
use Rattle.prepared_program.specs.step_schedule.Order.{asked_by}
use Rattle.source_places.proofs.deadlocks.AskedLemmas.{asks_along, asks_nothing, asks_then}
use Rattle.source_places.proofs.deadlocks.reached.make_entries.Goals as goal

pub loop-entry-init : goal.loop-entry-init
loop-entry-init c = asks_nothing c.args.world.now

pub loop-entry-preserved : goal.loop-entry-preserved
loop-entry-preserved c =
    asks_along c.args.world.now c.make_steps.new.world _ _
    (entries_more c.args.entries.now c.loop-entry.entry-index _ c.loop-entry-test.true)
    (asks_then c.args.world.now c.loop-entry.world c.make_steps.new.world _ _ c.loop-entry.invariant c.make_steps.ensures)

pub returns : goal.returns
returns c =
    let over : length c.args.entries.now ≤ c.loop-entry.entry-index = omega (arith, c.loop-entry-test.false) in
    asks_along c.args.world.now c.loop-entry.world _ _ (ap asked_by (take_all c.loop-entry.entry-index c.args.entries.now over))
    c.loop-entry.invariant
