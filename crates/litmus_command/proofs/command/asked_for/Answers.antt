-- Where a schedule or a place list isn't read, the text spells none.
use Rattle.std.proofs.Common.{◌≡◌, ◌∙◌, None, Some, ap, inl, inr, sym}
use Rattle.std.specs.Option.{option_map}
use Rattle.litmus_command.proofs.ResultLemmas.{err_holds}
use Rattle.prepared_program.specs.step_schedule.Schedule.{entries_of}
use Rattle.litmus_command.proofs.command.asked_for.Goals as goal

pub returns-in_default-clause-misused : goal.returns-in_default-clause-misused
returns-in_default-clause-misused c = λ is. inl (λ entries spells.
    let read : option_map entries_of c.in_ok-schedule.field-0 ≡ Some entries = (c.in_ok-schedule.ensures entries).0 spells in
    let none : option_map entries_of c.in_ok-schedule.field-0 ≡ None = ap (option_map entries_of) c.in_default.is in
    let no : None ≡ Some entries = sym none ∙ read in cc)

pub returns-in_err-settings_for-clause-misused : goal.returns-in_err-settings_for-clause-misused
returns-in_err-settings_for-clause-misused c =
    err_holds _ c.from_residual-in_err-settings_for.result c.in_err-settings_for.field-0.0 c.from_residual-in_err-settings_for.ensures.1
    (λ is. inr (c.in_err-settings_for.ensures.misused is))
