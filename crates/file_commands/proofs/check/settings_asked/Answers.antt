-- Where a list isn't read, the text spells none.
use Rattle.std.proofs.Common.{◌≡◌, ◌∙◌, None, Some, ap, inl, inr, sym}
use Rattle.std.specs.Option.{option_map}
use Rattle.diagnostics.specs.option_diagnostics.Places as places
use Rattle.diagnostics.specs.option_diagnostics.Schedules as schedules
use Rattle.file_commands.proofs.CheckLemmas.{is_missing, is_there, list_fault}
use Rattle.file_commands.proofs.ListLemmas.{some_item_is_no_entry, some_item_is_no_place}
use Rattle.file_commands.specs.Lists.{SpellsNoPlaces, SpellsNoSchedule}
use Rattle.file_commands.specs.declared.failure.Failure.TheVariants.{BadPlace, BadSchedule}
use Rattle.prepared_program.specs.step_schedule.Schedule.{entries_of}
use Rattle.file_commands.proofs.check.settings_asked.Goals as goal

pub returns-then-is_none-clause-at_fault : goal.returns-then-is_none-clause-at_fault
returns-then-is_none-clause-at_fault c =
    let text = c.args.request.now.schedule.now in
    let parsed = c.in_ok-parse.field-0 in
    let none : parsed ≡ None = is_missing parsed c.is_none.result c.is_none.ensures c.if-is_none.true in
    let unread : SpellsNoSchedule text = λ entries spells.
    (let read : option_map entries_of parsed ≡ Some entries = (c.in_ok-parse.ensures entries).0 spells in
    let no : None ≡ Some entries = sym (ap (option_map entries_of) none) ∙ read in absurd (cc)) in
    inl (inl (
      unread,
      list_fault BadSchedule (schedules.IsFault text) (schedules.AllRead text) c.in_ok-line.line c.list_complaint.result
          (some_item_is_no_entry text unread) c.in_ok-line.ensures.found c.in_ok-line.ensures.none c.list_complaint.ensures,
    ))

pub returns-in_ok-line-in-None-clause-at_fault : goal.returns-in_ok-line-in-None-clause-at_fault
returns-in_ok-line-in-None-clause-at_fault c =
    let text = c.args.request.now.places.now in
    let parsed = c.in_ok-places.field-0 in
    let there = is_there c.in_ok-parse.field-0 c.is_none.result c.is_none.ensures c.if-is_none.false in
    let unread : SpellsNoPlaces text = λ given spells.
    (let read : option_map (λ list. list.items) parsed ≡ Some given = (c.in_ok-places.ensures given).0 spells in
    let none : option_map (λ list. list.items) parsed ≡ None = ap (option_map (λ list. list.items)) c.in-None.is in
    let no : None ≡ Some given = sym none ∙ read in absurd (cc)) in
    inl (inr (
      (entries_of there.0, (c.in_ok-parse.ensures (entries_of there.0)).1 (ap (option_map entries_of) there.1)),
      unread,
      list_fault BadPlace (places.IsFault text) (places.AllRead text) c.in_ok-line-in-None.line c.list_complaint-in-None.result
          (some_item_is_no_place text unread) c.in_ok-line-in-None.ensures.found c.in_ok-line-in-None.ensures.none
          c.list_complaint-in-None.ensures,
    ))
