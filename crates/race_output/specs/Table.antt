-- What is written of the races of a text.
use Rattle.std.specs.Prelude.{ℕ, List, [], ◌∷◌}
use Rattle.std.specs.List.{concat, flat_map}
use Rattle.executions.specs.execution.Run.{Run}
use Rattle.prepared_program.specs.declared.program_sites.settings.Settings.{Settings}
use Rattle.race_output.specs.Blocks.{pair_text}
use Rattle.race_output.specs.Counts.{pairs_line, search_lines}
use Rattle.race_output.specs.Settings.{settings_line}
use Rattle.race_verdicts.specs.declared.find.RacesFound.{RacesFound}

-- What is written of what was found of a run under these settings: pair by pair, the settings, what was searched, and
-- how many pairs have which verdict. The sites stand in the text at these places, as far as these are there.
unfoldable pub races_text : Run → (text : List ℕ) → (places : List (List ℕ)) → Settings → RacesFound → List ℕ
races_text run text places settings found = concat
    (flat_map (pair_text run text places) found.pairs.items ∷ settings_line settings ∷ search_lines found
    ∷ pairs_line found.pairs.items ∷ [])
