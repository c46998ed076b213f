-- Why a file has no output, and what is written of it.
use Rattle.std.specs.Prelude.{◌++◌, ℕ, List, [], ◌∷◌, codes}
use Rattle.std.specs.Fmt.{decimal}
use Rattle.std.specs.List.{concat}
use Rattle.litmus_syntax.specs.declared.error.Limit.{Limit}
use Rattle.litmus_syntax.specs.declared.error.Limit.TheVariants as limits
use Rattle.litmus_syntax.specs.declared.error.ParseError.{ParseError}
use Rattle.litmus_syntax.specs.declared.error.ParseError.TheVariants as errors
use Rattle.search_json.specs.Json.{refused_json}
use Rattle.search_formats.specs.Rows.{refused_row}
use Rattle.search_formats.specs.declared.refusal.Refusal.{Refusal}
use Rattle.search_formats.specs.declared.refusal.Refusal.TheVariants as refusals
use Rattle.search_formats.specs.declared.wanted.Format.{Format}
use Rattle.search_formats.specs.declared.wanted.Format.TheVariants.{Csv, Herd, Json, Part, Text}

-- what a text has too much of
abbrev pub limit_word : Limit → List ℕ
limit_word limits.File = codes "file"
limit_word limits.Tasks = codes "tasks"
limit_word limits.Statements = codes "statements"
limit_word limits.Variables = codes "variables"
limit_word limits.Registers = codes "registers"
limit_word limits.Nesting = codes "nesting"
limit_word limits.Operators = codes "operators"
limit_word limits.Scoped = codes "scoped"
limit_word limits.Number = codes "number"
limit_word limits.Check = codes "check"
limit_word limits.Repeats = codes "repeats"

-- what offends in a line
unfoldable pub line_text : (line : ℕ) → (words : List ℕ) → List ℕ
line_text line words = concat (codes "line " ∷ decimal line ∷ words ∷ [])

-- why a text is refused
abbrev pub error_text : ParseError → List ℕ
error_text errors.OutOfMemory = codes "out of memory"
error_text (errors.Syntax line) = line_text line (codes ": syntax")
error_text (errors.Unsupported line) = line_text line (codes ": unsupported")
error_text (errors.Limit limit) = codes "limit: " ++ limit_word limit
error_text errors.NotAscii = codes "not ascii"

-- why a file has no output
abbrev pub refusal_text : Refusal → List ℕ
refusal_text (refusals.Text error) = error_text error
refusal_text refusals.BadPlace = codes "bad place"
refusal_text refusals.CannotRead = codes "cannot read"

-- what is written of a file that isn't searched: a row in CSV, a line in JSON, else nothing
abbrev pub refused_text : (name : List ℕ) → Format → (status : ℕ) → Refusal → List ℕ
refused_text name Text status why = []
refused_text name Json status why = refused_json name status (refusal_text why)
refused_text name Csv status why = refused_row name status (refusal_text why)
refused_text name Herd status why = []
refused_text name (Part part parts) status why = []
