-- What is said of a text that is checked.
use Rattle.std.specs.Prelude.{◌≡◌, ◌≢◌, ◌≤◌, ◌<◌, ◌↔◌, ◌⊎◌, ℕ, Any, List, length}
use Rattle.std.specs.String.{string_bytes}
use Rattle.litmus_parse.specs.Answer.{IsFirstForeign, error_of}
use Rattle.litmus_parse.specs.Grammar.{SpellsProgram}
use Rattle.litmus_parse.specs.Read.{IsReadAs}
use Rattle.litmus_parse.specs.Text.{IsTextByte, file_bytes}
use Rattle.litmus_parse.specs.declared.answer.Reason.{Reason}
use Rattle.litmus_parse.specs.declared.answer.Reason.TheVariants as reasons
use Rattle.litmus_syntax.specs.PrintedForm as form
use Rattle.litmus_syntax.specs.Tree as tree
use Rattle.litmus_syntax.specs.Views.{program_of}
use Rattle.litmus_syntax.specs.declared.error.Limit.TheVariants as limits
use Rattle.litmus_syntax.specs.declared.error.ParseError.{ParseError}
use Rattle.litmus_syntax.specs.declared.error.ParseError.TheVariants as errors
use Rattle.litmus_syntax.specs.declared.program.Program.{Program}
use Rattle.diagnostics.specs.option_diagnostics.Misfits.{IsMisfit}
use Rattle.prepared_program.specs.program_sites.Prepared.{IsPrepared}
use Rattle.prepared_program.specs.declared.program_sites.error.RunError.{RunError}
use Rattle.prepared_program.specs.declared.program_sites.error.RunError.TheVariants.{BadPlace, BadSchedule, BadSlots, NoThread, OutOfMemory, Stuck}
use Rattle.prepared_program.specs.declared.program_sites.prepared.Prepared.{Prepared}
use Rattle.prepared_program.specs.declared.program_sites.settings.Settings.{Settings}
use Rattle.program_table.specs.Table.{program_table}
use Rattle.program_table.specs.Words.{AreWords}
use Rattle.diagnostics.specs.refusal_text.Message.{IsRefusalText}
use Rattle.check_warnings.specs.Warnings.{AreWarningsOf}
use Rattle.diagnostics.specs.declared.text_check.checked.Check.{Check}
use Rattle.diagnostics.specs.declared.text_check.checked.Check.TheVariants.{Misplaced, Reads, Refused}

-- These are the tables of a program as it is made ready under the settings: the accesses of its sites, with their watch
-- words, its variables, and what is limited. Where they stand in the text isn't said here: a site has the line and the
-- column of its place among these, if any.
pub record AreTablesOf (text : List ℕ) (settings : Settings) (program : Program) (tables : List ℕ) : Type 0 where
  pub prepared : Prepared
  pub ready : IsPrepared program settings prepared
  pub words : AreWords prepared.rules.layout
  pub places : List (List ℕ)
  pub is : tables ≡ program_table text places words.of program settings prepared

-- what is told of a program that a text spells, in a file of this name: its tables, its printed form and its warnings,
-- or which place doesn't suit its variables
abbrev pub IsToldOf : (name text : List ℕ) → Settings → Program → Check → Type 0
IsToldOf name text settings program (Reads tables printed warnings) =
    AreTablesOf text settings program tables.items × (string_bytes printed ≡ form.printed (program_of program))
    × AreWarningsOf name text (program_of program) warnings.items
IsToldOf name text settings program (Misplaced why) = IsMisfit program.variables settings.places.items why.items
IsToldOf name text settings program (Refused error why) = ⊥

-- What is said of a text that is refused with an error: where and for which reason, and the error is that of this place
-- and this reason. A text that is too large is refused behind its last byte that there may be, and one with other bytes
-- than a text has at the first of these.
pub record IsSaidOf (name text : List ℕ) (error : ParseError) (why : List ℕ) : Type 0 where
  pub at : ℕ
  pub reason : Reason
  pub within : at ≤ length text
  pub of_error : error ≡ error_of text at reason
  pub no_want : error ≢ errors.OutOfMemory
  pub file_limit : (error ≡ errors.Limit limits.File) ↔ (file_bytes < length text)
  pub not_ascii : (error ≡ errors.NotAscii) ↔ ((length text ≤ file_bytes) × Any (λ byte. ¬ IsTextByte byte) text)
  pub too_long : reason ≡ reasons.File → at ≡ file_bytes
  pub foreign : reason ≡ reasons.NotAscii → IsFirstForeign text at
  pub is : IsRefusalText name text at reason why

-- the text is refused with this error
abbrev pub IsRefusalOf : (name text : List ℕ) → ParseError → Check → Type 0
IsRefusalOf name text error (Refused said why) = (said ≡ error) × IsSaidOf name text error why.items
IsRefusalOf name text error (Reads tables printed warnings) = ⊥
IsRefusalOf name text error (Misplaced why) = ⊥

-- no program is spelled
abbrev pub SpellsNothing : List ℕ → Type 0
SpellsNothing text = (program : tree.Program) → SpellsProgram text program → ⊥

-- what comes of the check of a text, in a file of this name: what is told of the program that it is read as, or why it
-- is refused
abbrev pub IsCheckOf : (name text : List ℕ) → Settings → Check → Type 0
IsCheckOf name text settings (Reads tables printed warnings) =
    (program : Program) × IsReadAs text program × IsToldOf name text settings program (Reads tables printed warnings)
IsCheckOf name text settings (Misplaced why) =
    (program : Program) × IsReadAs text program × IsToldOf name text settings program (Misplaced why)
IsCheckOf name text settings (Refused error why) = SpellsNothing text × IsSaidOf name text error why.items

-- why nothing comes of a program: want of memory, or too few slots or too many
abbrev pub StopsProgram : Settings → RunError → Type 0
StopsProgram settings OutOfMemory = Unit {0}
StopsProgram settings BadSlots = (settings.slots < 3) ⊎ (1024 < settings.slots)
StopsProgram settings BadPlace = ⊥
StopsProgram settings (Stuck task) = ⊥
StopsProgram settings BadSchedule = ⊥
StopsProgram settings NoThread = ⊥

-- why nothing comes of a text: want of memory, or that of the program that it is read as
abbrev pub StopsCheck : (text : List ℕ) → Settings → RunError → Type 0
StopsCheck text settings error = (error ≡ OutOfMemory) ⊎ ((program : Program) × IsReadAs text program × StopsProgram settings error)
