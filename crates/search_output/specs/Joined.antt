-- What is found of lists of a run, as plain data.
use Rattle.std.specs.Prelude.{Bool, List}
use Rattle.std.specs.Option.{option_map}
use Rattle.executions.specs.execution.Run.{Run}
use Rattle.prepared_program.specs.declared.program_sites.settings.Settings.{Settings}
use Rattle.search_output.specs.Lists.{OneList, all_searched}
use Rattle.search_output.specs.Traces.{IsFirstTrace}
use Rattle.search_output.specs.declared.joined.FoundPart.{FoundPart}
use Rattle.search_text.specs.Joined.{found_in}
use Rattle.search_text.specs.SearchFindings.{AreKnown, Finds}

-- this is found of the lists, with a trace if one is wanted
pub record IsPartOf (settings : Settings) (traced : Bool) (run : Run) (lists : List (OneList run)) (part : FoundPart) : Type 0 where
  pub finds : Finds (all_searched lists) (found_in part.found)
  pub known : AreKnown run.sites (found_in part.found)
  pub trace : IsFirstTrace settings traced lists (option_map (λ bytes. bytes.items) part.trace)
