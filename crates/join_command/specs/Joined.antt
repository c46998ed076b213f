-- What the parts of a search give when they are joined.
use Rattle.std.specs.Prelude.{◌≡◌, ℕ, Bool, List, Option, false}
use Rattle.part_search.specs.part_file.Views.{part_view}
use Rattle.part_search.specs.declared.part_file.part.Part.{Part}
use Rattle.part_search.specs.Joined.{AreOfOneSearch, IsMemory, TextIsJoined}
use Rattle.part_search.specs.Settings.{GoesBy, wanted_of}
use Rattle.prepared_program.specs.declared.program_sites.settings.Settings.{Settings}
use Rattle.run_output.specs.declared.error.EngineError.{EngineError}
use Rattle.search_run.specs.Texts.{TextIsSearched}
use Rattle.search_run.specs.declared.wanted.Wanted.{Wanted}

-- by these settings the search of a part went
abbrev pub IsSettingsOf : Part → Settings → Type 0
IsSettingsOf part settings = GoesBy settings (wanted_of part.settings) (part_view part)

-- Where these are the parts of a search of a text, the output is what is written of what they went over, and, where none
-- of them was stopped, what the search of the whole writes.
pub record IsJoinedText (parts : List Part) (raced stopped : Bool) (output : List ℕ) : Type 0 where
  pub trace : Option (List ℕ)
  pub joined : (file text : List ℕ) (settings : Settings) (wanted : Wanted) → AreOfOneSearch file text settings wanted parts
      → TextIsJoined text settings wanted parts raced stopped output trace
  pub whole : (file text : List ℕ) (settings : Settings) (wanted : Wanted) → AreOfOneSearch file text settings wanted parts
      → stopped ≡ false → TextIsSearched text settings wanted raced false output trace

-- where these are the parts of a search, they have no output only for want of memory
abbrev pub HaveNoText : List Part → EngineError → Type 0
HaveNoText parts error = (file text : List ℕ) (settings : Settings) (wanted : Wanted)
    → AreOfOneSearch file text settings wanted parts → IsMemory error
