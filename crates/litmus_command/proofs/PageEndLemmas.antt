-- How `races` ends, with a page or without one.
use Rattle.std.proofs.Common.{◌≡◌, ◌⊎◌, ℕ, List, None, Option, Some, arith, inl, inr, is_some, refl, true}
use Rattle.std.specs.Borrow.{Bor}
use Rattle.cli.specs.Bounds.{KeepsRacesBounds}
use Rattle.cli.specs.declared.request.RacesRequest.{RacesRequest}
use Rattle.file_commands.specs.Desks.{DeskState}
use Rattle.file_commands.specs.Races.{AreSeveral, asked_of_races, format_of}
use Rattle.file_commands.specs.Settings.{AskSettings}
use Rattle.litmus_command.proofs.EndLemmas.{Ends, on_left}
use Rattle.litmus_command.proofs.FilesEndLemmas.{files_read, races_end_unless_several}
use Rattle.page_command.specs.Ends.{AllRacesEnd, Early, Left, Misplaced, PageEnds, RacesEndWith, Told}
use Rattle.prepared_program.specs.declared.program_sites.settings.Settings.{Settings}

-- there are several files, or a page is wanted, or the races end as those of one file
pub all_races_end_unless_several : (request : RacesRequest) (status : ℕ) (before after : DeskState) → KeepsRacesBounds request
    → AllRacesEnd request status before after → (AreSeveral request ⊎ (is_some request.html ≡ true)) ⊎ Ends status before after
all_races_end_unless_several request status before after bounds ends = by request.html ends where
  by : (html : Option (Bor (List ℕ))) → RacesEndWith html request status before after
      → (AreSeveral request ⊎ (is_some html ≡ true)) ⊎ Ends status before after
  by None ends = on_left inl (races_end_unless_several request status before after bounds ends)
  by (Some path) ends = inl (inr refl)

-- at 66 the place list that is asked for reads
page_read : (request : RacesRequest) (path : List ℕ) (status : ℕ) (before after : DeskState)
    → PageEnds (asked_of_races request) (format_of request.format) path status before after → status ≡ 66
    → (settings : Settings) × AskSettings request.options settings
page_read request path status before after (Told it) is = (it.looked.searched.looks.settings, it.looked.searched.looks.asks)
page_read request path status before after (Left it) is = (it.left.looks.settings, it.left.looks.asks)
page_read request path status before after (Misplaced it) is = absurd (let other = it.status_is in omega (arith, is, other))
page_read request path status before after (Early it) is = absurd (let other = it.status_is in omega (arith, is, other))

pub all_races_read : (request : RacesRequest) (status : ℕ) (before after : DeskState) → AllRacesEnd request status before after
    → status ≡ 66 → (settings : Settings) × AskSettings request.options settings
all_races_read request status before after ends is = by request.html ends where
  by : (html : Option (Bor (List ℕ))) → RacesEndWith html request status before after
      → (settings : Settings) × AskSettings request.options settings
  by None ends = files_read (asked_of_races request) status before after ends is
  by (Some path) ends = page_read request path.now status before after ends is
