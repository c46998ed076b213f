-- A site of a pair, as a row of a table.
use Rattle.std.specs.Prelude.{ℕ, List, [], ◌∷◌, None, Option, Some, codes}
use Rattle.std.specs.Fmt.{decimal}
use Rattle.std.specs.List.{concat}
use Rattle.access_types.specs.Kind.{access_words}
use Rattle.output_pieces.specs.Spots.{spot_text, statement_at, within}
use Rattle.race_output.specs.declared.sites.SiteTold.{SiteTold}
use Rattle.race_page.specs.Escape.{escaped}

-- the line and the column of a place, which lead to the mark there in the text of the file of this number
unfoldable pub spot_link : (file : ℕ) → (text : List ℕ) → (at : ℕ) → List ℕ
spot_link file text at = concat
    (codes "<a href=\"#f" ∷ decimal file ∷ codes "s" ∷ decimal at ∷ codes "\">" ∷ spot_text text (Some at)
    ∷ codes "</a>" ∷ [])

abbrev pub spot : (file : ℕ) → (text : List ℕ) → Option ℕ → List ℕ
spot file text None = codes "-"
spot file text (Some at) = spot_link file text at

-- the statement of a place
abbrev pub statement : (text : List ℕ) → Option ℕ → List ℕ
statement text None = []
statement text (Some at) = escaped (statement_at text at)

-- what a site is called
unfoldable pub site_name : SiteTold → List ℕ
site_name site = concat (codes "P" ∷ decimal site.task ∷ codes " site " ∷ decimal site.site ∷ [])

-- the row of a site: its name, its line and column, what its accesses do, and the statement
unfoldable pub site_row : (file : ℕ) → (text : List ℕ) → SiteTold → List ℕ
site_row file text site = concat
    (codes "<tr><td>" ∷ site_name site ∷ codes "</td><td>" ∷ spot file text (within text site.at) ∷ codes "</td><td>"
    ∷ access_words site.kind ∷ codes "</td><td><code>" ∷ statement text (within text site.at)
    ∷ codes "</code></td></tr>\n" ∷ [])
