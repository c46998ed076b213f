-- One entry more is made.
use Rattle.std.proofs.Common.{◌∙◌, ◌++◌, ◌≤◌, ◌+◌, ℕ, List, ap, arith, drop, length, refl, subst, sym, take}
use Rattle.std.proofs.lemmas.List.{take_all}
use Rattle.std.proofs.lemmas.Result.{err_from_is_err_and}
use Rattle.prepared_program.specs.step_schedule.Order.{asked_by}
use Rattle.prepared_program.specs.declared.step_schedule.schedule.Entry.{Entry}
use Rattle.litmus_step.proofs.RoundLemmas.{asked_along, entries_more, entries_rest, stops_after, stops_before}
use Rattle.litmus_step.proofs.TurnLemmas.{asked_both, asked_nothing}
use Rattle.litmus_step.proofs.world.World.entries.Goals as goal
use Rattle.litmus_step.specs.Turns.{Asked, StopsAt}

pub loop-entry-init : goal.loop-entry-init
loop-entry-init c = record { asked = asked_nothing c.args.self.now; nobody = c.requires.nobody; tasks = refl; sites = refl; room = refl }

pub returns-in_err-steps_of-clause-stops : goal.returns-in_err-steps_of-clause-stops
returns-in_err-steps_of-clause-stops c =
    let p = err_from_is_err_and c.from_residual.result c.from_residual.ensures.1 in
    let entries = c.entries-entry-items.result.now in
    let at = c.loop-entry.entry-index in
    let error = c.in_err-steps_of.field-0.0 in
    let so_far = subst (λ (es : List Entry). Asked c.args.self.now (asked_by (take at es)) c.loop-entry.self)
    (sym c.entries-entry-items.ensures)
    c.loop-entry.invariant.asked in
    let stops = stops_after c.args.self.now c.loop-entry.self c.steps_of.new.self (asked_by (take at entries)) _ error so_far
    c.in_err-steps_of.ensures.stops in
    let all = ap (λ (front : List ℕ). front ++ asked_by (drop (at + 1) entries)) (entries_more entries at _ c.loop-entry-test.true)
    ∙ entries_rest entries (at + 1) in
    rw (p.1, p.2) (subst (λ (es : List Entry). StopsAt c.args.self.now (asked_by es) c.steps_of.new.self error)
    c.entries-entry-items.ensures
    (stops_before c.args.self.now c.steps_of.new.self _ (asked_by (drop (at + 1) entries)) (asked_by entries) error all stops))

pub loop-entry-preserved : goal.loop-entry-preserved
loop-entry-preserved c =
    let entries = c.entries-entry-items.result.now in
    let at = c.loop-entry.entry-index in
    let so_far = subst (λ (es : List Entry). Asked c.args.self.now (asked_by (take at es)) c.loop-entry.self)
    (sym c.entries-entry-items.ensures)
    c.loop-entry.invariant.asked in
    record {
      asked = subst (λ (es : List Entry). Asked c.args.self.now (asked_by (take (at + 1) es)) c.steps_of.new.self)
          c.entries-entry-items.ensures
          (asked_along c.args.self.now c.steps_of.new.self _ (asked_by (take (at + 1) entries))
          (entries_more entries at _ c.loop-entry-test.true)
          (asked_both c.args.self.now c.loop-entry.self c.steps_of.new.self
          (asked_by (take at entries)) _ so_far c.in_ok-steps_of.ensures.asked.0));
      nobody = c.in_ok-steps_of.ensures.asked.1;
      tasks = c.steps_of.ensures.tasks ∙ c.loop-entry.invariant.tasks;
      sites = c.steps_of.ensures.sites ∙ c.loop-entry.invariant.sites;
      room = c.steps_of.ensures.room ∙ c.loop-entry.invariant.room;
    }

pub returns-clause-asked : goal.returns-clause-asked
returns-clause-asked c =
    let entries = c.entries-entry-items.result.now in
    let so_far = subst (λ (es : List Entry). Asked c.args.self.now (asked_by (take c.loop-entry.entry-index es)) c.loop-entry.self)
    (sym c.entries-entry-items.ensures) c.loop-entry.invariant.asked in
    let over : length entries ≤ c.loop-entry.entry-index = omega (arith, c.loop-entry-test.false) in (
      subst (λ (es : List Entry). Asked c.args.self.now (asked_by es) c.loop-entry.self) c.entries-entry-items.ensures
          (asked_along c.args.self.now c.loop-entry.self _ (asked_by entries)
          (ap asked_by (take_all c.loop-entry.entry-index entries over)) so_far),
      c.loop-entry.invariant.nobody,
    )
