-- The tables of a program that was made ready under some settings.
use Rattle.std.specs.Prelude.{ℕ, List, [], ◌∷◌, codes, length}
use Rattle.std.specs.List.{concat, flat_map}
use Rattle.litmus_syntax.specs.Views.{program_of, proposition_of}
use Rattle.litmus_syntax.specs.declared.program.Program.{Program}
use Rattle.prepared_program.specs.program_layout.Places.{places_of}
use Rattle.prepared_program.specs.program_sites.Prepared.{sites_in}
use Rattle.prepared_program.specs.declared.program_sites.prepared.Prepared.{Prepared}
use Rattle.prepared_program.specs.declared.program_sites.settings.Settings.{Settings}
use Rattle.program_table.specs.Accesses.{line_of}
use Rattle.program_table.specs.Counts as counts
use Rattle.program_table.specs.Rows.{Words, rows_of}
use Rattle.program_table.specs.Variables as variables
use Rattle.program_table.specs.declared.accesses.Table.TheVariants.{Checks, Places}
use Rattle.program_table.specs.declared.rows.SiteRow.{SiteRow}

-- the tables of the accesses, with these rows
unfoldable pub accesses_text : List SiteRow → (slots : ℕ) → List ℕ
accesses_text rows slots = concat
    (codes "access         at           does                 counts as marked by\n" ∷ flat_map (line_of Places) rows
    ∷ codes "\naccess         address             size     watch word          looks at\n"
    ∷ flat_map (line_of (Checks slots)) rows ∷ [])

-- the table of the variables, where they stand under these settings
unfoldable pub variables_text : Program → Settings → List ℕ
variables_text program settings = concat
    (codes "\nvariable                          type        address             initial value\n"
    ∷ variables.lines_from (places_of settings.places.items) program.variables 0 program.variables ∷ [])

-- the table of what is limited, of a program whose text has so many bytes
unfoldable pub limits_text : (bytes : ℕ) → Program → Prepared → List ℕ
limits_text bytes program prepared = concat
    (codes "\nlimit                             used        of\n"
    ∷ counts.program_lines bytes (length program.tasks) (length program.variables) (proposition_of program.condition)
    ∷ counts.lines_from prepared.accesses.items 0 program.tasks ∷ [])

-- All of them: the accesses of the program's sites, which stand at these places of the text and have these words.
unfoldable pub program_table : (text : List ℕ) → (places : List (List ℕ)) → Words → Program → Settings → Prepared → List ℕ
program_table text places words program settings prepared = concat
    (accesses_text (rows_of text places words (sites_in prepared) (program_of program)) prepared.rules.slots
    ∷ variables_text program settings ∷ limits_text (length text) program prepared ∷ [])
