-- Where no place list is read, the text spells none.
use Rattle.std.proofs.Common.{◌≡◌, None, Some, ap, inl, refl, sym, ◌∙◌}
use Rattle.std.specs.Option.{option_map}
use Rattle.file_commands.proofs.settings.settings_for.Goals as goal

pub returns-in-None-clause-misused : goal.returns-in-None-clause-misused
returns-in-None-clause-misused c = λ is given spells.
    let read : option_map (λ list. list.items) c.in_ok-places.field-0 ≡ Some given = (c.in_ok-places.ensures given).0 spells in
    let none : option_map (λ list. list.items) c.in_ok-places.field-0 ≡ None = ap (option_map (λ list. list.items)) c.in-None.is in
    let no : None ≡ Some given = sym none ∙ read in cc

pub returns-in-None-clause-known : goal.returns-in-None-clause-known
returns-in-None-clause-known c = inl (
  refl,
  λ given spells.
      let read : option_map (λ list. list.items) c.in_ok-places.field-0 ≡ Some given = (c.in_ok-places.ensures given).0 spells in
      let none : option_map (λ list. list.items) c.in_ok-places.field-0 ≡ None = ap (option_map (λ list. list.items)) c.in-None.is in
      let no : None ≡ Some given = sym none ∙ read in cc,
)
