-- What is printed of a litmus text beside what was found of it.
use Rattle.std.specs.Prelude.{◌≡◌, ◌++◌, [], ℕ, Bool, List, false, if◌then◌else◌, true}
use Rattle.source_places.specs.deadlocks.Explained.{IsExplained}
use Rattle.file_search.specs.declared.additions.Additions.{Additions}
use Rattle.prepared_program.specs.declared.program_sites.settings.Settings.{Settings}
use Rattle.race_output.specs.Settings.{settings_line}
use Rattle.source_places.specs.Located.{IsLocated}

-- the output with where the site stands behind each line that names one, if that is wanted
abbrev pub HasPlaces : (wanted : Bool) → (file text : List ℕ) → Settings → (output found : List ℕ) → Type 0
HasPlaces true file text settings output found = IsLocated file text settings output found
HasPlaces false file text settings output found = found ≡ output

-- the output with why no task goes on behind the line on deadlocks, if that is wanted
abbrev pub HasDeadlocks : (wanted : Bool) → (file text : List ℕ) → Settings → (output found : List ℕ) → Type 0
HasDeadlocks true file text settings output found = IsExplained file text settings output found
HasDeadlocks false file text settings output found = found ≡ output

-- the line of the settings, if that is wanted
abbrev pub settings_part : (wanted : Bool) → Settings → List ℕ
settings_part wanted settings = if wanted then settings_line settings else []

-- The output of the text of a file of this name, with what is wanted beside it: where the site stands behind each line
-- that names one, why no task goes on behind the line on deadlocks, and the line of the settings behind all.
pub record HasAdditions (wanted : Additions) (file text : List ℕ) (settings : Settings) (output found : List ℕ) : Type 0 where
  pub placed : List ℕ
  pub has_places : HasPlaces wanted.places file text settings output placed
  pub explained : List ℕ
  pub has_deadlocks : HasDeadlocks wanted.deadlocks file text settings placed explained
  pub found_is : found ≡ explained ++ settings_part wanted.settings settings
