-- What comes of a litmus file whose program is searched.
use Rattle.std.specs.Prelude.{◌≡◌, ◌==◌, ◌&&◌, ℕ, Bool, Err, List, [], None, Ok, Result, Some, false, length, nat_le, nat_lt, not, true}
use Rattle.access_types.specs.Sites.{AccessMap}
use Rattle.context_bound.specs.completeness.Reaches.{AreEnough}
use Rattle.litmus_parse.specs.Read.{IsReadAs}
use Rattle.litmus_step.specs.Runs.{run_of}
use Rattle.litmus_syntax.specs.Views.{program_of}
use Rattle.litmus_syntax.specs.declared.program.Program.{Program}
use Rattle.part_search.specs.Parted.{IsPartText}
use Rattle.part_search.specs.declared.parted.PartSearched.{PartSearched}
use Rattle.prepared_program.specs.declared.program_sites.settings.Settings.{Settings}
use Rattle.prepared_program.specs.program_layout.Places.{AreFit, places_of}
use Rattle.prepared_program.specs.program_sites.Sites.{AreSitesOf}
use Rattle.run_output.specs.declared.error.EngineError.{EngineError}
use Rattle.search_all.specs.Searches.{IsOfAll}
use Rattle.search_all.specs.Texts.{AllIsSearched}
use Rattle.search_all.specs.declared.search.StatesSearched.{StatesSearched}
use Rattle.search_all.specs.declared.wanted.AllWanted.{AllWanted}
use Rattle.search_formats.specs.Herd.{herd_text}
use Rattle.search_json.specs.Json.{json_text}
use Rattle.search_formats.specs.Rows.{csv_text}
use Rattle.search_json.specs.declared.extent.Extent.{Extent}
use Rattle.search_formats.specs.declared.wanted.FileSearched.{FileSearched}
use Rattle.search_formats.specs.declared.wanted.FileWanted.{FileWanted}
use Rattle.search_formats.specs.declared.wanted.Format.{Format}
use Rattle.search_formats.specs.declared.wanted.Format.TheVariants.{Csv, Herd, Json, Part, Text}
use Rattle.search_formats.specs.declared.wanted.Preemptions.{Preemptions}
use Rattle.search_formats.specs.declared.wanted.Preemptions.TheVariants as preemptions
use Rattle.search_output.specs.Lists.{all_searched}
use Rattle.search_output.specs.Texts.{AllAreTold}
use Rattle.search_output.specs.declared.findings.Findings.{Findings}
use Rattle.search_output.specs.declared.text.SearchText.{SearchText}
use Rattle.search_run.specs.Searches.{IsOfSearch}
use Rattle.search_run.specs.Texts.{TextIsSearched}
use Rattle.search_run.specs.declared.wanted.Wanted.{Wanted}
use Rattle.search_text.specs.Printed.{printed}
use Rattle.search_text.specs.SearchFindings.{texts_of_all}
use Rattle.search_text.specs.Stops.{is_stopped}
use Rattle.search_text.specs.declared.found.SearchFindings.{SearchFindings}
use Rattle.search_text.specs.declared.stopped.Stopped.{Stopped}

-- what is wanted of a search with at most so many preemptions, and of a search of all states: no trace
abbrev pub wanted_within : FileWanted → (switches : ℕ) → Wanted
wanted_within wanted switches = record {
  switches = switches;
  limit = wanted.limit;
  seconds = wanted.seconds;
  traced = false;
  unknown_origin = wanted.unknown_origin;
}

abbrev pub wanted_of_all : FileWanted → AllWanted
wanted_of_all wanted = record {
  limit = wanted.limit;
  seconds = wanted.seconds;
  traced = false;
  reduces = wanted.reduces;
  unknown_origin = wanted.unknown_origin;
}

-- what is kept of what a search leaves
abbrev pub text_kept : SearchText → FileSearched
text_kept found = record { output = found.written.output; raced = found.written.raced; stopped = found.stopped }

abbrev pub kept : Result SearchText EngineError → Result FileSearched EngineError
kept (Ok found) = Ok (text_kept found)
kept (Err error) = Err error

abbrev pub part_kept : Result PartSearched EngineError → Result FileSearched EngineError
part_kept (Ok found) = Ok (record { output = found.output; raced = found.raced; stopped = found.stopped })
part_kept (Err error) = Err error

-- How far a bounded search went, and a search of all states.
abbrev pub bounded_extent : (nodes : ℕ) → Stopped → Extent
bounded_extent nodes how = record { bounded = true; visited = nodes; stopped = is_stopped how }

abbrev pub states_extent : (states : ℕ) → Stopped → Extent
states_extent states how = record { bounded = false; visited = states; stopped = is_stopped how }

-- What is written in a format of what is found of a program, whose sites stand at these places in the text. As text, and
-- of a part, the searches write it.
abbrev pub written : Format → (name : List ℕ) → Program → (text : List ℕ) → (spots : List (List ℕ)) → AccessMap → Settings
    → (reported ended : SearchFindings) → Extent → List ℕ
written Text name program text spots sites settings reported ended extent = []
written (Part part parts) name program text spots sites settings reported ended extent = []
written Herd name program text spots sites settings reported ended extent =
    herd_text (program_of program) (not (length reported.reports == 0)) ended
written Csv name program text spots sites settings reported ended extent = csv_text name sites reported ended extent
written Json name program text spots sites settings reported ended extent =
    json_text name program.name (places_of settings.places.items) program.variables text spots sites settings reported ended extent

-- The output is what is written of what is found of the bounded executions of the program under these settings, within
-- the bounds that are wanted, with the reports alone that are printed. There was a race if there is one. Where the
-- search wasn't stopped, each report of each list with as few preemptions, searched or not, is among those of which some
-- are printed; and no such list has a report or an end that no bounded execution has.
pub record IsFoundOfBounded (program : Program) (settings : Settings) (wanted : Wanted) (format : Format) (name text : List ℕ)
    (raced stopped : Bool) (output : List ℕ) : Type 0 where
  pub fit : AreFit program.variables settings.places.items
  pub sites : AccessMap
  pub sites_are : AreSitesOf (program_of program) (places_of settings.places.items) sites
  pub findings : Findings
  pub nodes : ℕ
  pub how : Stopped
  pub stopped_is : stopped ≡ is_stopped how
  pub searched : IsOfSearch settings wanted (run_of program settings sites) nodes how findings
  pub enough : AreEnough (run_of program settings sites) (Some wanted.switches)
  pub all_told : stopped ≡ false
      → AllAreTold (run_of program settings sites) (Some wanted.switches) (texts_of_all (all_searched searched.lists))
  pub spots : List (List ℕ)
  pub output_is : output ≡ written format name program text spots sites settings (printed wanted.unknown_origin findings.found)
      (printed wanted.unknown_origin findings.found) (bounded_extent nodes how)
  pub raced_is : raced ≡ not (length (printed wanted.unknown_origin findings.found).reports == 0)

-- The output is what is written of what is found of all states of the program under these settings, or of those that
-- were visited before the search was stopped, with the reports alone that are printed. There was a race if there is one.
pub record IsFoundOfAll (program : Program) (settings : Settings) (wanted : AllWanted) (format : Format) (name text : List ℕ)
    (raced stopped : Bool) (output : List ℕ) : Type 0 where
  pub fit : AreFit program.variables settings.places.items
  pub sites : AccessMap
  pub sites_are : AreSitesOf (program_of program) (places_of settings.places.items) sites
  pub searched : StatesSearched
  pub of : IsOfAll settings wanted (run_of program settings sites) searched
  pub stopped_is : stopped ≡ is_stopped searched.stopped
  pub spots : List (List ℕ)
  pub output_is : output ≡ written format name program text spots sites settings
      (printed wanted.unknown_origin searched.findings.reported.found) searched.findings.ended.found
      (states_extent searched.visited searched.stopped)
  pub raced_is : raced ≡ not (length (printed wanted.unknown_origin searched.findings.reported.found).reports == 0)

-- so it is with so many preemptions, or any
abbrev pub IsWrittenOf : Preemptions → Program → Settings → FileWanted → (name text : List ℕ) → (raced stopped : Bool)
    → (output : List ℕ) → Type 0
IsWrittenOf (preemptions.AtMost switches) program settings wanted name text raced stopped output =
    IsFoundOfBounded program settings (wanted_within wanted switches) wanted.format name text raced stopped output
IsWrittenOf preemptions.Any program settings wanted name text raced stopped output =
    IsFoundOfAll program settings (wanted_of_all wanted) wanted.format name text raced stopped output

-- so it is of the program that the text is read as
pub record IsWritten (name text : List ℕ) (settings : Settings) (wanted : FileWanted) (raced stopped : Bool) (output : List ℕ) : Type 0 where
  pub program : Program
  pub read : IsReadAs text program
  pub is : IsWrittenOf wanted.preemptions program settings wanted name text raced stopped output

-- the output is the text of a search with so many preemptions, or any
abbrev pub IsTextFound : Preemptions → (text : List ℕ) → Settings → FileWanted → (raced stopped : Bool) → (output : List ℕ) → Type 0
IsTextFound (preemptions.AtMost switches) text settings wanted raced stopped output =
    TextIsSearched text settings (wanted_within wanted switches) raced stopped output None
IsTextFound preemptions.Any text settings wanted raced stopped output =
    AllIsSearched text settings (wanted_of_all wanted) raced stopped output None

-- there is a part of this number
abbrev pub is_part : (part parts : ℕ) → Bool
is_part part parts = nat_lt 0 part && nat_le part parts

-- The output is the text of this part of a search with so many preemptions, if there is such a part. Else, and where any
-- number of preemptions is wanted, all is searched, and nothing is written.
abbrev pub IsPartIf : (there : Bool) → Preemptions → (part parts : ℕ) → (name text : List ℕ) → Settings → FileWanted
    → (raced stopped : Bool) → (output : List ℕ) → Type 0
IsPartIf true (preemptions.AtMost switches) part parts name text settings wanted raced stopped output =
    IsPartText name text settings (wanted_within wanted switches) part parts raced stopped output
IsPartIf true preemptions.Any part parts name text settings wanted raced stopped output =
    IsWritten name text settings wanted raced stopped output
IsPartIf false most part parts name text settings wanted raced stopped output = IsWritten name text settings wanted raced stopped output

abbrev pub IsPartFound : (part parts : ℕ) → (name text : List ℕ) → Settings → FileWanted → (raced stopped : Bool)
    → (output : List ℕ) → Type 0
IsPartFound part parts name text settings wanted raced stopped output =
    IsPartIf (is_part part parts) wanted.preemptions part parts name text settings wanted raced stopped output

-- so it is in a format
abbrev pub IsFoundIn : Format → (name text : List ℕ) → Settings → FileWanted → (raced stopped : Bool) → (output : List ℕ) → Type 0
IsFoundIn Text name text settings wanted raced stopped output =
    IsTextFound wanted.preemptions text settings wanted raced stopped output
IsFoundIn Json name text settings wanted raced stopped output = IsWritten name text settings wanted raced stopped output
IsFoundIn Csv name text settings wanted raced stopped output = IsWritten name text settings wanted raced stopped output
IsFoundIn Herd name text settings wanted raced stopped output = IsWritten name text settings wanted raced stopped output
IsFoundIn (Part part parts) name text settings wanted raced stopped output =
    IsPartFound part parts name text settings wanted raced stopped output

-- The output is what is written of the program of the text, in a file of this name, in the format that is wanted.
abbrev pub IsFileSearched : (name text : List ℕ) → Settings → FileWanted → (raced stopped : Bool) → (output : List ℕ) → Type 0
IsFileSearched name text settings wanted raced stopped output =
    IsFoundIn wanted.format name text settings wanted raced stopped output
