-- What is said of the places of sites.
use Rattle.std.specs.Prelude.{◌∷◌, [], ℕ, List, None, Option, Some, codes}
use Rattle.std.specs.Fmt.{decimal}
use Rattle.std.specs.List.{concat}
use Rattle.litmus_semantics.specs.Layout.{VariablePlace}
use Rattle.litmus_syntax.specs.declared.program.Variable.{Variable}
use Rattle.output_pieces.specs.Spots as spots
use Rattle.output_pieces.specs.Variables.{name_of, variable_of}
use Rattle.program_table.specs.text_pieces.Shown.{shown}
use Rattle.races.specs.declared.pair.SiteName.{SiteName}
use Rattle.races.specs.declared.placed.PlacedSite.{PlacedSite}
use Rattle.source_places.specs.Lines.{Place}

-- the line of a report that names a site
unfoldable pub site_line : SiteName → List ℕ
site_line name = concat (codes " P" ∷ decimal name.task ∷ codes " site " ∷ decimal name.site ∷ [])

-- what is said of an access that begins here in the text of a file, to a variable of this name: the file, the line, the
-- column, the variable, and the statement as far as it stands in the line
unfoldable pub spot : (file text variable : List ℕ) → (at : ℕ) → List ℕ
spot file text variable at = concat
    (codes " at " ∷ shown file ∷ codes ":" ∷ spots.spot_text text (Some at) ∷ codes " " ∷ variable ∷ codes ": "
    ∷ shown (spots.statement_at text at) ∷ [])

-- nothing, where it isn't known where the access begins
abbrev pub spot_known : (file text variable : List ℕ) → Option ℕ → List ℕ
spot_known file text variable None = []
spot_known file text variable (Some at) = spot file text variable at

-- Of a site: the line that names it, and what is said of where it stands. Sites begin at these places in the text, and
-- the variables have these places in memory.
module _ (places : List VariablePlace) (variables : List Variable) (file text : List ℕ) (begins : List (List ℕ)) where
  abbrev pub place_words : PlacedSite → List ℕ
  place_words placed = spot_known file text (name_of variables (variable_of places variables placed.site.bytes))
      (spots.place_of text begins placed.name)

  abbrev pub site_place : PlacedSite → Place
  site_place placed = (site_line placed.name, place_words placed)
