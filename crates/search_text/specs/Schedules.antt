-- Schedules, as the program reads them.
use Rattle.std.specs.Prelude.{◌++◌, ◌∷◌, [], ℕ, List, codes}
use Rattle.std.specs.Fmt.{decimal}
use Rattle.std.specs.List.{flat_map}
use Rattle.prepared_program.specs.declared.step_schedule.schedule.Entry.{Entry}

-- an entry
abbrev pub entry_text : Entry → List ℕ
entry_text entry = decimal entry.task ++ codes "x" ++ decimal entry.steps

-- an entry behind another
unfoldable pub later_text : Entry → List ℕ
later_text entry = codes "," ++ entry_text entry

-- entries, with commas between them
abbrev pub schedule_text : List Entry → List ℕ
schedule_text [] = []
schedule_text (first ∷ more) = entry_text first ++ flat_map later_text more
