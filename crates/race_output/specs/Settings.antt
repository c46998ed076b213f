-- The line of the settings.
use Rattle.std.specs.Prelude.{ℕ, Bool, List, [], ◌∷◌, codes, if◌then◌else◌}
use Rattle.std.specs.Fmt.{decimal}
use Rattle.std.specs.List.{concat}
use Rattle.prepared_program.specs.declared.program_sites.settings.Settings.{Settings}

-- whether aligned plain writes count as marked
abbrev pub atomic_words : Bool → List ℕ
atomic_words plain_writes_atomic =
    if plain_writes_atomic then codes "aligned plain writes count as marked" else codes "aligned plain writes may race"

-- whether a report needs a changed value
abbrev pub change_words : Bool → List ℕ
change_words value_change_only =
    if value_change_only then codes "a report needs a changed value" else codes "a report needs no changed value"

-- the line of the settings
unfoldable pub settings_line : Settings → List ℕ
settings_line settings = concat
    (codes "settings: " ∷ atomic_words settings.plain_writes_atomic ∷ codes "; " ∷ change_words settings.value_change_only
    ∷ codes "; skip " ∷ decimal settings.skip ∷ codes "; slots " ∷ decimal settings.slots ∷ codes "\n" ∷ [])
