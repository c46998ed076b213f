-- The line names the schedule, or none.
use Rattle.std.proofs.Common.{◌≡◌, ◌∙◌, List, None, Option, Some, ap, inl, inr, subst, sym}
use Rattle.std.proofs.lemmas.Result.{IfOk-weaker}
use Rattle.std.specs.Prelude.{option_map}
use Rattle.prepared_program.specs.declared.step_schedule.schedule.Entry.{Entry}
use Rattle.prepared_program.specs.declared.step_schedule.schedule.Schedule.{Schedule}
use Rattle.prepared_program.specs.step_schedule.Order.{asked_by}
use Rattle.prepared_program.specs.step_schedule.Schedule.{entries_of}
use Rattle.source_places.proofs.deadlocks.output.lines_on.Goals as goal
use Rattle.source_places.specs.deadlocks.Explained.{AreSaid}

pub returns-in-Some : goal.returns-in-Some
returns-in-Some c =
    let entries = entries_of c.in-Some.schedule in
    let names = (c.in_ok-schedule.ensures entries).1 (ap (λ (found : Option Schedule). option_map entries_of found) c.in-Some.is) in
    IfOk-weaker c.deadlock_lines.result _ _
    (λ said are. inl (
      entries,
      names,
      subst (λ (all : List Entry). AreSaid c.args.file.now c.args.text.now c.args.settings.now (asked_by all) said.items)
          c.entries.ensures are,
    ))
    c.deadlock_lines.ensures

pub returns-in-None : goal.returns-in-None
returns-in-None c = inr (
  (λ entries names.
      let found = (c.in_ok-schedule.ensures entries).0 names in
      let no : None ≡ Some entries = sym (ap (λ (read : Option Schedule). option_map entries_of read) c.in-None.is) ∙ found in
      cc),
  c.new.ensures.items,
)
