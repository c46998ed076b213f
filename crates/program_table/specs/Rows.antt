-- The accesses of a program by their sites, with the lines and columns at which they stand in its text.
use Rattle.std.specs.Prelude.{◌++◌, ℕ, suc, zero, List, [], ◌∷◌, Option, None, Some, if◌then◌else◌, length, nat_le, slice_get}
use Rattle.std.specs.FinMap as map
use Rattle.access_types.specs.Access.{Access}
use Rattle.access_types.specs.Sites.{AccessMap}
use Rattle.litmus_lex.specs.Lines.{column_at, line_at}
use Rattle.litmus_syntax.specs.Sites.{sites_of}
use Rattle.litmus_syntax.specs.Tree.{Program, Task}
use Rattle.prepared_program.specs.program_sites.Added.{first_ticket}
use Rattle.program_table.specs.declared.rows.Made.{Made}
use Rattle.program_table.specs.declared.rows.Made.TheVariants.{First, Never}
use Rattle.program_table.specs.declared.rows.SiteRow.{SiteRow}
use Rattle.program_table.specs.declared.rows.Spot.{Spot}
use Rattle.program_table.specs.declared.rows.Spot.TheVariants.{At, Unknown}

-- where a text has a place, if it is known, and lies in the text or at its end
abbrev pub spot_of : (text : List ℕ) → Option ℕ → Spot
spot_of text None = Unknown
spot_of text (Some at) = if nat_le at (length text) then At (line_at text at) (column_at text at) else Unknown

-- the place of a site among those of its task
abbrev pub place_of : Option (List ℕ) → (site : ℕ) → Option ℕ
place_of None site = None
place_of (Some own) site = slice_get own site

-- the place of a task's site among these, if it is there
abbrev pub place_in : List (List ℕ) → (task site : ℕ) → Option ℕ
place_in places task site = place_of (slice_get places task) site

-- which words accesses have
abbrev pub Words : Type 0
Words = Access → Option ℕ

-- the first access of a task at a site, among the accesses of its program by ticket
abbrev pub made_of : Words → Option Access → Made
made_of words None = Never
made_of words (Some access) = First access (words access)

abbrev pub first_access : Words → AccessMap → (task site : ℕ) → Made
first_access words sites task site = made_of words (map.get sites (first_ticket task site))

-- the row of a site
unfoldable pub row_of : (text : List ℕ) → (places : List (List ℕ)) → Words → AccessMap → (task site : ℕ) → SiteRow
row_of text places words sites task site = record {
  task = task;
  site = site;
  spot = spot_of text (place_in places task site);
  made = first_access words sites task site;
}

-- the rows of the first sites of a task, so many
abbrev pub rows_of_task : (text : List ℕ) → (places : List (List ℕ)) → Words → AccessMap → (task count : ℕ) → List SiteRow
rows_of_task text places words sites task zero = []
rows_of_task text places words sites task (suc count) =
    rows_of_task text places words sites task count ++ (row_of text places words sites task count ∷ [])

-- the rows of the sites of tasks from a number on: a site is a place in the list of the statements with an access
abbrev pub rows_from : (text : List ℕ) → (places : List (List ℕ)) → Words → AccessMap → (number : ℕ) → List Task → List SiteRow
rows_from text places words sites number [] = []
rows_from text places words sites number (task ∷ tasks) =
    rows_of_task text places words sites number (length (sites_of task.body)) ++ rows_from text places words sites (suc number) tasks

-- the rows of the sites of a program
abbrev pub rows_of : (text : List ℕ) → (places : List (List ℕ)) → Words → AccessMap → Program → List SiteRow
rows_of text places words sites program = rows_from text places words sites 0 program.tasks
