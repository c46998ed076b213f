-- What is known of the sites of a program: their variables and their statements.
use Rattle.std.specs.Prelude.{ℕ, List, [], None, Option, Some}
use Rattle.litmus_semantics.specs.Layout.{VariablePlace}
use Rattle.litmus_syntax.specs.declared.program.Variable.{Variable}
use Rattle.output_pieces.specs.Spots as spots
use Rattle.output_pieces.specs.Variables.{name_of, variable_of}
use Rattle.races.specs.declared.pair.SiteName.{SiteName}
use Rattle.races.specs.declared.placed.PlacedSite.{PlacedSite}
use Rattle.timeline.specs.declared.picture.labels.Label.{Label}

-- what a label says: of which task, of which site, the variable, and the statement
abbrev pub Said : Type 0
Said = ℕ × ℕ × List ℕ × List ℕ

abbrev pub said_by : Label → Said
said_by label = (label.task, label.site, label.variable.now, label.statement.now)

-- the statement in which a place of a text stands, if that is known
abbrev pub statement_in : (text : List ℕ) → Option ℕ → List ℕ
statement_in text None = []
statement_in text (Some at) = spots.statement_at text at

-- that of a site, where sites begin at these places
abbrev pub statement_of : (text : List ℕ) → (begins : List (List ℕ)) → SiteName → List ℕ
statement_of text begins name = statement_in text (spots.place_of text begins name)

-- what is to be said of a site, where the variables have these places in memory
abbrev pub site_says : List VariablePlace → List Variable → (text : List ℕ) → (begins : List (List ℕ)) → PlacedSite → Said
site_says places variables text begins placed =
    (placed.name.task, placed.name.site, name_of variables (variable_of places variables placed.site.bytes), statement_of text begins placed.name)
